-- SPDX-License-Identifier: Apache-2.0
-- SPDX-FileCopyrightText: Copyright the Vortex contributors

use Rattle.std.proofs.Common.{length}
use Rattle.dtype_paths.specs.private.ChildIters.{entries_left}
use Rattle.dtype_paths.proofs.ChildLists.{IsCopied}
use Rattle.dtype_paths.proofs.child_table.ChildTable.with_children.Given as goal

abbrev pub invariant-loop-step : goal.invariant-loop-step
invariant-loop-step l = IsCopied (entries_left l.left) l.table (entries_left l.fn.left)

abbrev pub decreases-loop-step : goal.decreases-loop-step
decreases-loop-step l = length (entries_left l.left)
