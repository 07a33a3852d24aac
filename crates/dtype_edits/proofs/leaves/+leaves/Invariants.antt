-- SPDX-License-Identifier: Apache-2.0
-- SPDX-FileCopyrightText: Copyright the Vortex contributors

use Rattle.std.proofs.Common.{◌≡◌, ◌+◌, ◌*◌, ◌++◌, map}
use Rattle.dtype_types.specs.tree.TreeOf.{children, fields_of, tree}
use Rattle.dtype_types.proofs.lemmas.TypesBelow.{weight, weight_items}
use Rattle.dtype_edits.proofs.LeafSteps.{leaves_from}
use Rattle.dtype_edits.proofs.leaves.+leaves.Given as goal

abbrev pub decreases-push_leaves : goal.decreases-push_leaves
decreases-push_leaves l = 3 * weight (tree l.dtype.now)

abbrev pub decreases-push_after : goal.decreases-push_after
decreases-push_after l = 3 * weight (tree l.dtype.now) + 1

abbrev pub decreases-push_struct : goal.decreases-push_struct
decreases-push_struct l = 3 * weight_items (fields_of l.fields.now) + 2

-- the paths so far, followed by the leaves of the fields that are left, are all
abbrev pub invariant-push_struct-loop-position : goal.invariant-push_struct-loop-position
invariant-push_struct-loop-position l = record {
  above : l.above.items ≡ l.initial.above.items;
  found : l.found.items ++ map (λ p. l.initial.above.items ++ p) (leaves_from (children l.fields) l.position)
      ≡ l.initial.found.items ++ map (λ p. l.initial.above.items ++ p) (leaves_from (children l.fields) 0);
}
