-- SPDX-License-Identifier: Apache-2.0
-- SPDX-FileCopyrightText: Copyright the Vortex contributors

use Rattle.std.proofs.Common.{◌≡◌, ◌==◌, length}
use Rattle.dtype_merging.specs.MergedColumns.{all_differ}
use Rattle.dtype_merging.proofs.variants.are_distinct.Given as goal

-- no tag repeats if none of those that are left does
abbrev pub invariant-loop-tag : goal.invariant-loop-tag
invariant-loop-tag l = all_differ (λ f g. f == g) l.rest ≡ all_differ (λ f g. f == g) l.tags

-- fewer tags are left in each turn
abbrev pub decreases-loop-tag : goal.decreases-loop-tag
decreases-loop-tag l = length l.rest
