-- SPDX-License-Identifier: Apache-2.0
-- SPDX-FileCopyrightText: Copyright the Vortex contributors

use Rattle.dtype_base.specs.private.NameOrder.{positions}
use Rattle.dtype_base.proofs.NameSearch.{Halving}
use Rattle.dtype_base.proofs.name_search.search_with.Given as goal

abbrev pub invariant-loop-half : goal.invariant-loop-half
invariant-loop-half l = Halving l.names (positions l.bits l.entries) l.name l.low l.half l.compared

abbrev pub decreases-loop-half : goal.decreases-loop-half
decreases-loop-half l = l.half
