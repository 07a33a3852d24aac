-- SPDX-License-Identifier: Apache-2.0
-- SPDX-FileCopyrightText: Copyright the Vortex contributors

use Rattle.std.proofs.Common.{length}
use Rattle.uses.proofs.descending.+type_along.Given as goal

-- how many steps are left
abbrev pub decreases-type_along : goal.decreases-type_along
decreases-type_along l = length l.path.now
