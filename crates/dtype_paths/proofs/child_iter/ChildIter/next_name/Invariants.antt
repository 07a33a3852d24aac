-- SPDX-License-Identifier: Apache-2.0
-- SPDX-FileCopyrightText: Copyright the Vortex contributors

use Rattle.std.proofs.Common.{◌≡◌, length}
use Rattle.dtype_paths.specs.private.ChildIters.{entries_left, named_left}
use Rattle.dtype_paths.proofs.child_iter.ChildIter.next_name.Given as goal

abbrev pub invariant-loop-step : goal.invariant-loop-step
invariant-loop-step l = named_left l.self ≡ named_left l.fn.self

abbrev pub decreases-loop-step : goal.decreases-loop-step
decreases-loop-step l = length (entries_left l.self)
