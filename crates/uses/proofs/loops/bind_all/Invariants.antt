-- SPDX-License-Identifier: Apache-2.0
-- SPDX-FileCopyrightText: Copyright the Vortex contributors

use Rattle.std.proofs.Common.{◌≡◌, Some, map, take}
use Rattle.dtype_types.specs.tree.TreeOf.{tree}
use Rattle.vortex_dtype.specs.Along.{along}
use Rattle.uses.proofs.loops.bind_all.Given as goal

-- those so far are bound
abbrev pub invariant-loop-column : goal.invariant-loop-column
invariant-loop-column l = map (λ d. Some (tree d.now)) l.types.items ≡ map (along (tree l.table)) (take l.column-index l.columns)
