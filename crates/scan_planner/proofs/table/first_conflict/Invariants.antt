-- SPDX-License-Identifier: Apache-2.0
-- SPDX-FileCopyrightText: Copyright the Vortex contributors

use Rattle.std.proofs.Common.{◌≡◌, Some, map, take}
use Rattle.dtype_types.specs.tree.TreeOf.{tree}
use Rattle.vortex_dtype.specs.AllMerged.{all_columns_merged}
use Rattle.vortex_dtype.specs.Types.Widening.TheVariants as widening
use Rattle.scan_planner.proofs.table.first_conflict.Given as goal

-- the table so far is what the files so far are merged to
abbrev pub invariant-loop-i : goal.invariant-loop-i
invariant-loop-i l = all_columns_merged widening.None (tree l.first) (take l.i (map tree l.others)) ≡ Some (tree l.table)
