-- SPDX-License-Identifier: Apache-2.0
-- SPDX-FileCopyrightText: Copyright the Vortex contributors

use Rattle.std.proofs.Common.{◌≡◌, ◌≤◌, ◌+◌, ◌*◌, ◌++◌, [], codes, true}
use Rattle.std.specs.Prelude.{string_bytes}
use denote.Shadow.{shadow}
use denote.Text.{Utf8}
use Rattle.dtype_types.specs.tree.Tree.{fields, variants}
use Rattle.dtype_types.specs.tree.TreeOf.{tree, fields_of, variants_of, storage_tree, map_shown, with_trees, with_tagged_trees}
use Rattle.dtype_types.proofs.lemmas.TypesBelow.{weight, weight_items}
use Rattle.dtype_text.specs.Grammar.{ItemsAreTexts}
use Rattle.dtype_text.specs.Source.{item_sources}
use Rattle.dtype_text.proofs.Parts.{leading}
use Rattle.dtype_text.proofs.writer.+written.Given as goal

abbrev pub decreases-write_dtype : goal.decreases-write_dtype
decreases-write_dtype l = 2 * weight (tree l.dtype.now)

abbrev pub decreases-write_fields : goal.decreases-write_fields
decreases-write_fields l = 2 * weight_items (fields_of l.fields.now) + 1

abbrev pub decreases-write_union : goal.decreases-write_union
decreases-write_union l = 2 * weight_items (variants_of l.variants.now) + 1

abbrev pub decreases-write_map : goal.decreases-write_map
decreases-write_map l = 2 * weight ((map_shown l.map.now).0) + 2 * weight ((map_shown l.map.now).1) + 1

abbrev pub decreases-write_extension : goal.decreases-write_extension
decreases-write_extension l = 2 * weight (storage_tree l.extension.now) + 1

-- the output so far, followed by the texts of the fields that are left, is the whole text; those fields weigh no more
abbrev pub invariant-write_fields-loop-name : goal.invariant-write_fields-loop-name
invariant-write_fields-loop-name l = record {
  utf8 : shadow (Utf8 l.separator);
  texts : ItemsAreTexts (fields (with_trees l.name-iterator)) → ItemsAreTexts (fields_of l.fields);
  within : weight_items (fields (with_trees l.name-iterator)) ≤ weight_items (fields_of l.fields);
  written : string_bytes l.out ++ leading l.separator (codes ", ") (item_sources true (fields (with_trees l.name-iterator)))
      ≡ string_bytes l.initial.out ++ leading [] (codes ", ") (item_sources true (fields_of l.fields));
}

abbrev pub invariant-write_union-loop-name : goal.invariant-write_union-loop-name
invariant-write_union-loop-name l = record {
  utf8 : shadow (Utf8 l.separator);
  texts : ItemsAreTexts (variants (with_tagged_trees l.name-iterator)) → ItemsAreTexts (variants_of l.variants);
  within : weight_items (variants (with_tagged_trees l.name-iterator)) ≤ weight_items (variants_of l.variants);
  written : string_bytes l.out ++ leading l.separator (codes ", ") (item_sources l.is_consecutive (variants (with_tagged_trees l.name-iterator)))
      ≡ string_bytes l.initial.out ++ leading [] (codes ", ") (item_sources l.is_consecutive (variants_of l.variants));
}
