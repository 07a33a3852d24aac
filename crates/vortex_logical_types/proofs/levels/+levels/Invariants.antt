-- SPDX-License-Identifier: Apache-2.0
-- SPDX-FileCopyrightText: Copyright the Vortex contributors

use Rattle.std.proofs.Common.{◌≡◌, ◌+◌, ◌*◌, map, nat_le}
use Rattle.dtype_types.specs.tree.TreeOf.{tree}
use Rattle.vortex_logical_types.specs.Levels.{levels_over}
use Rattle.vortex_logical_types.proofs.levels.+levels.Given as goal

abbrev pub decreases-fits : goal.decreases-fits
decreases-fits l = l.levels * 3 + 2

abbrev pub decreases-parts_fit : goal.decreases-parts_fit
decreases-parts_fit l = l.levels * 3 + 1

abbrev pub decreases-part_fits : goal.decreases-part_fits
decreases-part_fits l = l.levels * 3

-- all types fit exactly if those that are left do
abbrev pub invariant-parts_fit-loop-dtype : goal.invariant-parts_fit-loop-dtype
invariant-parts_fit-loop-dtype l = nat_le (levels_over (map tree l.dtype-iterator)) l.levels ≡ nat_le (levels_over (map tree l.fn.dtypes)) l.levels
