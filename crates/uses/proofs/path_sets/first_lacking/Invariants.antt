-- SPDX-License-Identifier: Apache-2.0
-- SPDX-FileCopyrightText: Copyright the Vortex contributors

use Rattle.std.proofs.Common.{All}
use Rattle.vortex_dtype.specs.At.{ExistsIn}
use Rattle.vortex_dtype.specs.TreeOf.{tree}
use Rattle.uses.proofs.path_sets.first_lacking.Given as goal

-- the table has each path so far
abbrev pub invariant-loop-column : goal.invariant-loop-column
invariant-loop-column l = All (λ x. ExistsIn (tree l.table) x.now) l.yielded
