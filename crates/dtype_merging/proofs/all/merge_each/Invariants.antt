-- SPDX-License-Identifier: Apache-2.0
-- SPDX-FileCopyrightText: Copyright the Vortex contributors

use Rattle.std.proofs.Common.{◌≡◌, drop, map}
use Rattle.dtype_types.specs.tree.TreeOf.{tree}
use Rattle.dtype_merging.specs.AllMerged.{all_columns_merged}
use Rattle.dtype_merging.proofs.all.merge_each.Given as goal

-- what is merged so far, merged with those that are left, is what all are merged to
abbrev pub invariant-loop-other : goal.invariant-loop-other
invariant-loop-other l = all_columns_merged l.widening (tree l.merged) (map tree (drop l.other-index l.others)) ≡ all_columns_merged l.widening (tree l.first) (map tree l.others)
