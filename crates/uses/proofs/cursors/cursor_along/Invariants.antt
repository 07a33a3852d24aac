-- SPDX-License-Identifier: Apache-2.0
-- SPDX-FileCopyrightText: Copyright the Vortex contributors

use Rattle.std.proofs.Common.{◌≡◌, drop}
use Rattle.std.specs.FinSet as set
use Rattle.vortex_dtype.specs.Cursors.{contains_below}
use Rattle.vortex_dtype.specs.PathPredicates.{after_steps}
use Rattle.uses.proofs.cursors.cursor_along.Given as goal

-- after the steps that are left what is asked for is as after the whole path
abbrev pub invariant-loop-step : goal.invariant-loop-step
invariant-loop-step l = after_steps (drop l.step-index l.path) (contains_below l.cursor) ≡ after_steps l.path (set.contains l.asked)
