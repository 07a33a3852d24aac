-- SPDX-License-Identifier: Apache-2.0
-- SPDX-FileCopyrightText: Copyright the Vortex contributors

use Rattle.std.proofs.Common.{◌≡◌, drop}
use Rattle.std.specs.FinSet as set
use Rattle.dtype_paths.specs.Cursors.{contains_below}
use Rattle.dtype_paths.specs.PathPredicates.{after_steps}
use Rattle.vortex_logical_types.proofs.cursors.cursor_at.Given as goal

-- the steps that are left lead from here to where all lead from the root
abbrev pub invariant-loop-step : goal.invariant-loop-step
invariant-loop-step l = after_steps (drop l.step-index l.step-items) (contains_below l.here) ≡ after_steps l.path (set.contains l.paths)
