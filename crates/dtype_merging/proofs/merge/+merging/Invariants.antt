-- SPDX-License-Identifier: Apache-2.0
-- SPDX-FileCopyrightText: Copyright the Vortex contributors

use Rattle.std.proofs.Common.{◌≡◌, ◌+◌, ◌*◌, ◌++◌, ◌≤◌, map}
use Rattle.std.specs.Iterator.Adapters.{zip_first, zip_second}
use Rattle.std.specs.Option.{option_map}
use Rattle.dtype_types.specs.parts.Maps.{key_tree, value_tree}
use Rattle.dtype_types.specs.tree.Tree.{fields}
use Rattle.dtype_types.specs.tree.TreeOf.{fields_of, storage_tree, tree, variants_of, with_trees}
use Rattle.dtype_types.proofs.lemmas.TypesBelow.{weight, weight_items}
use Rattle.dtype_merging.specs.MergedColumns.{joined, merged_by_name, merged_by_tag}
use Rattle.dtype_merging.specs.ReadsAs.{keyed}
use Rattle.dtype_merging.specs.private.Collected.{collected, gathered, types_merged}
use Rattle.dtype_merging.proofs.Ordered.{weight_all}
use Rattle.dtype_merging.proofs.Tagging.{variants_left}
use Rattle.dtype_merging.proofs.merge.+merging.Given as goal

abbrev pub decreases-merge : goal.decreases-merge
decreases-merge l = 4 * weight (tree l.a.now)

abbrev pub decreases-merge_maps : goal.decreases-merge_maps
decreases-merge_maps l = 4 * (weight (key_tree l.a.now) + weight (value_tree l.a.now)) + 1

abbrev pub decreases-merge_extensions : goal.decreases-merge_extensions
decreases-merge_extensions l = 4 * weight (storage_tree l.a.now) + 1

abbrev pub decreases-merge_structs : goal.decreases-merge_structs
decreases-merge_structs l = 4 * weight_items (fields_of l.a.now) + 3

abbrev pub decreases-merge_by_name : goal.decreases-merge_by_name
decreases-merge_by_name l = 4 * weight_items (fields_of l.a.now) + 2

abbrev pub decreases-merge_column : goal.decreases-merge_column
decreases-merge_column l = 4 * weight (tree l.dtype.now) + 1

abbrev pub decreases-merge_in_order : goal.decreases-merge_in_order
decreases-merge_in_order l = 4 * weight_items (fields_of l.a.now) + 3

abbrev pub decreases-merge_unions : goal.decreases-merge_unions
decreases-merge_unions l = 4 * weight_items (variants_of l.a.now) + 3

abbrev pub decreases-merge_by_tag : goal.decreases-merge_by_tag
decreases-merge_by_tag l = 4 * weight_items (variants_of l.a.now) + 2

abbrev pub decreases-merge_variant : goal.decreases-merge_variant
decreases-merge_variant l = 4 * weight (tree l.dtype.now) + 1

abbrev pub decreases-merge_types : goal.decreases-merge_types
decreases-merge_types l = 4 * weight_all (map tree l.a) + 1

-- the types so far, followed by what is merged of those that are left, are what is merged of all
abbrev pub invariant-merge_types-loop-dtype : goal.invariant-merge_types-loop-dtype
invariant-merge_types-loop-dtype l = record {
  merged : option_map (λ ts. map tree l.dtypes.items ++ ts) (types_merged l.widening (map tree (zip_first l.dtype-iterator)) (map tree (zip_second l.dtype-iterator))) ≡ types_merged l.widening (map tree l.fn.a) (map tree l.fn.b);
  within : weight_all (map tree (zip_first l.dtype-iterator)) ≤ weight_all (map tree l.fn.a);
}

-- the columns so far, followed by what is merged of the fields that are left, are what is merged of all
abbrev pub invariant-merge_by_name-loop-name : goal.invariant-merge_by_name-loop-name
invariant-merge_by_name-loop-name l = record {
  merged : option_map (λ qs. collected l.columns.items ++ qs) (merged_by_name l.widening (fields (with_trees l.name-iterator)) (fields_of l.b)) ≡ merged_by_name l.widening (fields_of l.a) (fields_of l.b);
  within : weight_items (fields (with_trees l.name-iterator)) ≤ weight_items (fields_of l.a);
}

-- the variants so far, followed by what is merged of those that are left, are what is merged of all
abbrev pub invariant-merge_by_tag-loop-name : goal.invariant-merge_by_tag-loop-name
invariant-merge_by_tag-loop-name l = record {
  merged : option_map (λ us. joined (gathered l.variants.items) us) (merged_by_tag l.widening (variants_left l.name-iterator) (keyed (variants_of l.b))) ≡ merged_by_tag l.widening (variants_of l.a) (keyed (variants_of l.b));
  within : weight_items (variants_left l.name-iterator) ≤ weight_items (variants_of l.a);
}
