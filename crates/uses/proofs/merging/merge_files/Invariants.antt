-- SPDX-License-Identifier: Apache-2.0
-- SPDX-FileCopyrightText: Copyright the Vortex contributors

use Rattle.std.proofs.Common.{◌≡◌, drop, map}
use Rattle.vortex_dtype.specs.MergedAll.{merged_all}
use Rattle.vortex_dtype.specs.TreeOf.{tree}
use Rattle.uses.proofs.merging.merge_files.Given as goal

-- what is merged so far, merged with those that are left, is what all come to
abbrev pub invariant-loop-other : goal.invariant-loop-other
invariant-loop-other l = merged_all (tree l.merged) (map tree (drop l.other-index l.others)) ≡ merged_all (tree l.first) (map tree l.others)
