-- SPDX-License-Identifier: Apache-2.0
-- SPDX-FileCopyrightText: Copyright the Vortex contributors

use Rattle.std.proofs.Common.{◌≡◌, drop, map, nat_le}
use Rattle.dtype_types.specs.tree.TreeOf.{tree}
use Rattle.vortex_logical_types.specs.Levels.{levels_over}
use Rattle.vortex_logical_types.proofs.levels.all_fit.Given as goal

-- all types fit exactly if those that are left do
abbrev pub invariant-loop-dtype : goal.invariant-loop-dtype
invariant-loop-dtype l = nat_le (levels_over (map tree (drop l.dtype-index l.dtypes))) l.levels ≡ nat_le (levels_over (map tree l.fn.dtypes)) l.levels
