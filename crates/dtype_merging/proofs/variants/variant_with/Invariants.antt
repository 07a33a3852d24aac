-- SPDX-License-Identifier: Apache-2.0
-- SPDX-FileCopyrightText: Copyright the Vortex contributors

use Rattle.std.proofs.Common.{◌≡◌, ◌∷◌}
use Rattle.dtype_types.specs.parts.Lookups.{first_named}
use Rattle.dtype_types.specs.tree.Tree.{pairs}
use Rattle.dtype_types.specs.tree.TreeOf.{variants_of}
use Rattle.dtype_merging.specs.ReadsAs.{keyed}
use Rattle.dtype_merging.proofs.Tagging.{variants_left}
use Rattle.dtype_merging.proofs.variants.variant_with.Given as goal

-- what is found among the variants that are left is what is found among all
abbrev pub invariant-loop-other : goal.invariant-loop-other
invariant-loop-other l = first_named (pairs (keyed (variants_left l.other-iterator))) (l.tag ∷ l.name) ≡ first_named (pairs (keyed (variants_of l.variants))) (l.tag ∷ l.name)
