-- SPDX-License-Identifier: Apache-2.0
-- SPDX-FileCopyrightText: Copyright the Vortex contributors

use Rattle.std.proofs.Common.{◌≡◌, take}
use Rattle.dtype_edits.proofs.difference.copied_path.Given as goal

-- the steps so far are copied
abbrev pub invariant-loop-step : goal.invariant-loop-step
invariant-loop-step l = l.copied.items ≡ take l.step-index l.steps
