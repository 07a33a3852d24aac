-- SPDX-License-Identifier: Apache-2.0
-- SPDX-FileCopyrightText: Copyright the Vortex contributors

use Rattle.std.proofs.Common.{◌≡◌, ◌+◌, ◌*◌, ◌++◌, ◌≤◌, map}
use Rattle.dtype_types.specs.parts.FieldTypes.{field_tree}
use Rattle.dtype_types.specs.tree.Tree.{fields, pairs}
use Rattle.dtype_types.specs.tree.TreeOf.{fields_of, tree, with_trees}
use Rattle.dtype_types.proofs.lemmas.TypesBelow.{weight, weight_items}
use Rattle.dtype_paths.specs.Cursors.{contains_below}
use Rattle.dtype_edits.specs.Without.{fields_without}
use Rattle.dtype_edits.proofs.without.+removing.Given as goal

abbrev pub decreases-remove : goal.decreases-remove
decreases-remove l = 4 * weight (tree l.dtype.now)

abbrev pub decreases-remove_below : goal.decreases-remove_below
decreases-remove_below l = 4 * weight (tree l.dtype.now) + 1

abbrev pub decreases-remove_fields : goal.decreases-remove_fields
decreases-remove_fields l = 4 * weight_items (fields_of l.fields.now) + 2

-- the fields so far, followed by what is left of the fields to come, are what is left of all
abbrev pub invariant-remove_fields-loop-name : goal.invariant-remove_fields-loop-name
invariant-remove_fields-loop-name l = record {
  left : map (λ p. (p.0, field_tree p.1)) l.kept.items ++ pairs (fields_without (fields (with_trees l.name-iterator)) (contains_below l.cursor)) ≡ pairs (fields_without (fields_of l.fields) (contains_below l.cursor));
  within : weight_items (fields (with_trees l.name-iterator)) ≤ weight_items (fields_of l.fields);
}
