-- SPDX-License-Identifier: Apache-2.0
-- SPDX-FileCopyrightText: Copyright the Vortex contributors

use Rattle.std.proofs.Common.{◌≡◌, ◌+◌, ◌*◌, ◌≤◌, map}
use Rattle.std.specs.Iterator.Adapters.{zip_first, zip_second}
use Rattle.dtype_types.specs.parts.Lookups.{field_types}
use Rattle.dtype_types.specs.parts.Maps.{key_tree, value_tree}
use Rattle.dtype_types.specs.tree.Tree.{fields}
use Rattle.dtype_types.specs.tree.TreeOf.{children, fields_of, storage_tree, tree, variants_of, with_trees}
use Rattle.dtype_types.proofs.lemmas.TypesBelow.{weight, weight_items}
use Rattle.dtype_merging.specs.ReadsAs.{keyed}
use Rattle.dtype_merging.specs.private.Readable.{found_readable, tagged_readable, types_readable}
use Rattle.dtype_merging.proofs.Ordered.{weight_all}
use Rattle.dtype_merging.proofs.Tagging.{variants_left}
use Rattle.dtype_merging.proofs.reading.+reading.Given as goal

abbrev pub decreases-is_readable : goal.decreases-is_readable
decreases-is_readable l = 4 * weight (tree l.a.now)

abbrev pub decreases-is_map_readable : goal.decreases-is_map_readable
decreases-is_map_readable l = 4 * (weight (key_tree l.a.now) + weight (value_tree l.a.now)) + 1

abbrev pub decreases-is_extension_readable : goal.decreases-is_extension_readable
decreases-is_extension_readable l = 4 * weight (storage_tree l.a.now) + 1

abbrev pub decreases-is_struct_readable : goal.decreases-is_struct_readable
decreases-is_struct_readable l = 4 * weight_items (fields_of l.a.now) + 3

abbrev pub decreases-are_fields_found : goal.decreases-are_fields_found
decreases-are_fields_found l = 4 * weight_items (fields_of l.a.now) + 2

abbrev pub decreases-is_readable_as : goal.decreases-is_readable_as
decreases-is_readable_as l = 4 * weight (tree l.dtype.now) + 1

abbrev pub decreases-are_fields_readable : goal.decreases-are_fields_readable
decreases-are_fields_readable l = 4 * weight_items (fields_of l.a.now) + 2

abbrev pub decreases-are_variants_found : goal.decreases-are_variants_found
decreases-are_variants_found l = 4 * weight_items (variants_of l.a.now) + 2

-- those that are left are readable exactly if all are
abbrev pub invariant-are_fields_found-loop-name : goal.invariant-are_fields_found-loop-name
invariant-are_fields_found-loop-name l = record {
  same : found_readable l.widening (fields (with_trees l.name-iterator)) (fields_of l.b) ≡ found_readable l.widening (fields_of l.a) (fields_of l.b);
  within : weight_items (fields (with_trees l.name-iterator)) ≤ weight_items (fields_of l.a);
}

abbrev pub invariant-are_fields_readable-loop-dtype : goal.invariant-are_fields_readable-loop-dtype
invariant-are_fields_readable-loop-dtype l = record {
  same : types_readable l.widening (map tree (zip_first l.dtype-iterator)) (map tree (zip_second l.dtype-iterator)) ≡ types_readable l.widening (field_types (children l.a)) (field_types (children l.b));
  within : weight_all (map tree (zip_first l.dtype-iterator)) ≤ weight_items (fields_of l.a);
}

abbrev pub invariant-are_variants_found-loop-name : goal.invariant-are_variants_found-loop-name
invariant-are_variants_found-loop-name l = record {
  same : tagged_readable l.widening (variants_left l.name-iterator) (keyed (variants_of l.b)) ≡ tagged_readable l.widening (variants_of l.a) (keyed (variants_of l.b));
  within : weight_items (variants_left l.name-iterator) ≤ weight_items (variants_of l.a);
}
