-- SPDX-License-Identifier: Apache-2.0
-- SPDX-FileCopyrightText: Copyright the Vortex contributors

use Rattle.std.proofs.Common.{◌≡◌, ◌*◌, ◌+◌, ◌≤◌}
use Rattle.dtype_types.specs.tree.Tree.{fields}
use Rattle.dtype_types.specs.tree.TreeOf.{fields_of, tree, with_trees}
use Rattle.dtype_types.proofs.lemmas.TypesBelow.{weight, weight_items}
use Rattle.dtype_merging.specs.Conflicts.{fields_conflict}
use Rattle.dtype_merging.proofs.conflict.+conflicting.Given as goal

abbrev pub decreases-conflict_steps : goal.decreases-conflict_steps
decreases-conflict_steps l = 2 * weight (tree l.a.now)

abbrev pub decreases-field_conflict : goal.decreases-field_conflict
decreases-field_conflict l = 2 * weight_items (fields_of l.a.now) + 1

-- the first conflict of the fields that are left is the first of all
abbrev pub invariant-field_conflict-loop-name : goal.invariant-field_conflict-loop-name
invariant-field_conflict-loop-name l = record {
  same : fields_conflict l.widening (fields (with_trees l.name-iterator)) (fields_of l.b) ≡ fields_conflict l.widening (fields_of l.a) (fields_of l.b);
  within : weight_items (fields (with_trees l.name-iterator)) ≤ weight_items (fields_of l.a);
}
