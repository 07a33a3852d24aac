-- SPDX-License-Identifier: Apache-2.0
-- SPDX-FileCopyrightText: Copyright the Vortex contributors

use Rattle.std.proofs.Common.{◌≡◌, ◌+◌, ◌*◌, ◌++◌, ◌≤◌}
use Rattle.dtype_types.specs.tree.Tree.{fields}
use Rattle.dtype_types.specs.tree.TreeOf.{fields_of, tree, with_trees}
use Rattle.dtype_types.proofs.lemmas.TypesBelow.{weight, weight_items}
use Rattle.dtype_edits.specs.Differences.{in_fields}
use Rattle.dtype_edits.specs.ShownDifferences.{all_shown}
use Rattle.dtype_edits.specs.private.Behind.{behind}
use Rattle.dtype_edits.proofs.difference.+differing.Given as goal

abbrev pub decreases-push_differences : goal.decreases-push_differences
decreases-push_differences l = 4 * weight (tree l.before.now)

abbrev pub decreases-push_below : goal.decreases-push_below
decreases-push_below l = 4 * weight (tree l.before.now) + 1

abbrev pub decreases-push_field_differences : goal.decreases-push_field_differences
decreases-push_field_differences l = 4 * weight (tree l.before.now) + 2

abbrev pub decreases-push_fields : goal.decreases-push_fields
decreases-push_fields l = 4 * weight_items (fields_of l.before.now) + 3

-- the differences so far, followed by those of the fields that are left, are all
abbrev pub invariant-push_fields-loop-name : goal.invariant-push_fields-loop-name
invariant-push_fields-loop-name l = record {
  above : l.above.items ≡ l.initial.above.items;
  found : all_shown l.found.items ++ behind l.initial.above.items (in_fields l.ignoring (fields (with_trees l.name-iterator)) (fields_of l.after))
      ≡ all_shown l.initial.found.items ++ behind l.initial.above.items (in_fields l.ignoring (fields_of l.before) (fields_of l.after));
  within : weight_items (fields (with_trees l.name-iterator)) ≤ weight_items (fields_of l.before);
}
