-- SPDX-License-Identifier: Apache-2.0
-- SPDX-FileCopyrightText: Copyright the Vortex contributors

use Rattle.std.proofs.Common.{length}
use Rattle.c_arrow.proofs.fault.+push_outer.Given as goal

abbrev pub decreases-push_outer : goal.decreases-push_outer
decreases-push_outer l = length l.names.now
