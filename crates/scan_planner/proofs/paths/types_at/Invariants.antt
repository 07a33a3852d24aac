-- SPDX-License-Identifier: Apache-2.0
-- SPDX-FileCopyrightText: Copyright the Vortex contributors

use Rattle.std.proofs.Common.{◌≡◌, Some, map, take}
use Rattle.dtype_types.specs.tree.TreeOf.{tree}
use Rattle.vortex_dtype.specs.Along.{along}
use Rattle.scan_planner.proofs.paths.types_at.Given as goal

-- the types so far are those at the paths so far
abbrev pub invariant-loop-path : goal.invariant-loop-path
invariant-loop-path l = map (λ d. Some (tree d)) l.types.items ≡ map (along (tree l.table)) (take l.path-index l.paths)
