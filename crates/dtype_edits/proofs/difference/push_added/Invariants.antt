-- SPDX-License-Identifier: Apache-2.0
-- SPDX-FileCopyrightText: Copyright the Vortex contributors

use Rattle.std.proofs.Common.{◌≡◌, ◌++◌}
use Rattle.dtype_types.specs.tree.TreeOf.{children, with_trees}
use Rattle.dtype_edits.specs.Differences.{added}
use Rattle.dtype_edits.specs.ShownDifferences.{all_shown}
use Rattle.dtype_edits.specs.private.Behind.{behind}
use Rattle.dtype_edits.proofs.difference.push_added.Given as goal

-- the differences so far, followed by those of the fields that are left, are all
abbrev pub invariant-loop-name : goal.invariant-loop-name
invariant-loop-name l = record {
  above : l.above.items ≡ l.initial.above.items;
  found : all_shown l.found.items ++ behind l.initial.above.items (added (children l.before) (with_trees l.name-iterator))
      ≡ all_shown l.initial.found.items ++ behind l.initial.above.items (added (children l.before) (children l.after));
}
