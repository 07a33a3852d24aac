-- SPDX-License-Identifier: Apache-2.0
-- SPDX-FileCopyrightText: Copyright the Vortex contributors

use Rattle.dtype_paths.specs.private.ChildIters.{entries_left}
use Rattle.dtype_paths.proofs.ChildLists.{copied_more}
use Rattle.dtype_paths.proofs.child_table.ChildTable.with_children.Goals as goal

pub loop-step-preserved : goal.loop-step-preserved
loop-step-preserved c =
    copied_more _ (entries_left c.next.new.self) c.loop-step.table c.insert.new.self (entries_left c.args.left) c.in-Some.step.now _ c.in-Some.node_index c.in-Some.ensures c.loop-step.invariant
    c.in_ok-try_clone.ensures c.in_ok-insert.ensures.added
