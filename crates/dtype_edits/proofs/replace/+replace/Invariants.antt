-- SPDX-License-Identifier: Apache-2.0
-- SPDX-FileCopyrightText: Copyright the Vortex contributors

use Rattle.std.proofs.Common.{length}
use Rattle.dtype_edits.proofs.replace.+replace.Given as goal

-- how many steps are left
abbrev pub decreases-replace : goal.decreases-replace
decreases-replace l = length l.steps.now
