-- SPDX-License-Identifier: Apache-2.0
-- SPDX-FileCopyrightText: Copyright the Vortex contributors

use Rattle.std.proofs.Common.{slice_get}
use Rattle.std.specs.Prelude.{◌≢◌}
use Rattle.std.specs.List.{AllAdjacentBelow}
use Rattle.dtype_base.specs.private.NameOrder.{positions}
use Rattle.dtype_base.proofs.name_order.are_distinct.Given as goal

-- no two neighbours so far have one name
abbrev pub invariant-loop-next : goal.invariant-loop-next
invariant-loop-next l = AllAdjacentBelow (λ i j. slice_get l.names i ≢ slice_get l.names j) (positions l.bits l.entries) l.next
