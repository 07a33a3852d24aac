-- SPDX-License-Identifier: Apache-2.0
-- SPDX-FileCopyrightText: Copyright the Vortex contributors

use Rattle.std.proofs.Common.{◌≡◌, ◌∙◌, ◌==◌, ◌∷◌, true, false, sym, rules}
use Rattle.std.specs.List.{list_any}
use Rattle.dtype_merging.proofs.Tagging.{tag_differs, tag_repeats}
use Rattle.dtype_merging.proofs.variants.are_distinct.Goals as goal

pub returns-then-contains : goal.returns-then-contains
returns-then-contains c =
    let next : c.loop-tag.rest.now ≡ c.in-Some.tag.now ∷ c.in-Some.others.now = search (rules, c.in-Some.ensures.cases) in
    let among : list_any (λ g. g == c.in-Some.tag.now) c.in-Some.others.now ≡ true = sym c.contains.ensures.value ∙ c.if-contains.true in
    tag_repeats _ _ _ _ c.loop-tag.invariant next among

pub loop-tag-preserved : goal.loop-tag-preserved
loop-tag-preserved c =
    let next : c.loop-tag.rest.now ≡ c.in-Some.tag.now ∷ c.in-Some.others.now = search (rules, c.in-Some.ensures.cases) in
    let apart : list_any (λ g. g == c.in-Some.tag.now) c.in-Some.others.now ≡ false = sym c.contains.ensures.value ∙ c.if-contains.false in
    tag_differs _ _ _ _ c.loop-tag.invariant next apart
