-- SPDX-License-Identifier: Apache-2.0
-- SPDX-FileCopyrightText: Copyright the Vortex contributors

use Rattle.std.proofs.Common.{◌≡◌}
use Rattle.dtype_types.specs.tree.TreeOf.{variants_of}
use Rattle.dtype_merging.specs.MergedColumns.{further_variants, joined}
use Rattle.dtype_merging.specs.ReadsAs.{keyed}
use Rattle.dtype_merging.specs.private.Collected.{gathered}
use Rattle.dtype_merging.proofs.Tagging.{variants_left}
use Rattle.dtype_merging.proofs.variants.with_further_variants.Given as goal

-- the variants so far, followed by the further variants of those that are left, are all
abbrev pub invariant-loop-name : goal.invariant-loop-name
invariant-loop-name l = joined (gathered l.variants.items) (further_variants (keyed (variants_of l.a)) (variants_left l.name-iterator)) ≡ joined (gathered l.fn.variants.items) (further_variants (keyed (variants_of l.a)) (variants_of l.b))
