-- SPDX-License-Identifier: Apache-2.0
-- SPDX-FileCopyrightText: Copyright the Vortex contributors

use Rattle.std.proofs.Common.{length}
use Rattle.uses.proofs.descending.+piece_along.Given as goal

-- how many steps are left
abbrev pub decreases-piece_along : goal.decreases-piece_along
decreases-piece_along l = length l.path.now
