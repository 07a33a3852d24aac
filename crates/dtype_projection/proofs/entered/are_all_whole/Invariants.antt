-- SPDX-License-Identifier: Apache-2.0
-- SPDX-FileCopyrightText: Copyright the Vortex contributors

use Rattle.std.proofs.Common.{drop}
use Rattle.dtype_projection.specs.private.Entered.{AreWhole}
use Rattle.dtype_projection.proofs.entered.are_all_whole.Given as goal

-- all are whole where those are that are left
abbrev pub invariant-loop-i : goal.invariant-loop-i
invariant-loop-i l = AreWhole l.i l.count (drop l.i l.entered) → AreWhole 0 l.count l.entered
