-- SPDX-License-Identifier: Apache-2.0
-- SPDX-FileCopyrightText: Copyright the Vortex contributors

use Rattle.std.proofs.Common.{◌<◌, rules, arith, sym, ◌∙◌, subst, inr}
use Rattle.std.proofs.lemmas.Bool.{false≢true}
use Rattle.std.proofs.lemmas.List.Elements.{All-from_get_or}
use Rattle.std.proofs.lemmas.Map.Made.{AllPairs-from_IsDistinct, IsDistinct-from_AllPairs}
use Rattle.std.specs.Cmp.{unsigned_Decides}
use Rattle.std.specs.Cmp.Lexicographic.{bytes_decides}
use Rattle.dtype_base.specs.Distinct.{Distinct}
use Rattle.dtype_types.specs.parts.Unions.{HasUnionLengths}
use Rattle.dtype_types.proofs.union_variants.validate_shape.Goals as goal

pub returns-then-branch-clause-errors : goal.returns-then-branch-clause-errors
returns-then-branch-clause-errors c =
    let lengths : HasUnionLengths c.args.names.now c.args.types c.args.type_ids.now = search rules in
    inr (lengths, λ d. false≢true (sym (c.in_ok-has_repeats.ensures.1 (IsDistinct-from_AllPairs unsigned_Decides _ d)) ∙ c.if-branch.true))

pub returns-then-branch-2-clause-errors : goal.returns-then-branch-2-clause-errors
returns-then-branch-2-clause-errors c =
    let lengths : HasUnionLengths c.args.names.now c.args.types c.args.type_ids.now = search rules in
    let tags = AllPairs-from_IsDistinct unsigned_Decides c.args.type_ids.now (c.in_ok-has_repeats.ensures.0 c.if-branch.false) in
    inr (lengths, tags, λ d. false≢true (sym (c.in_ok-has_repeats-2.ensures.1 (IsDistinct-from_AllPairs bytes_decides _ (subst (λ ns. Distinct ns) (sym c.as_slice.ensures) d))) ∙ c.if-branch-2.true))

pub returns-clause-accepted : goal.returns-clause-accepted
returns-clause-accepted c =
    let lengths : HasUnionLengths c.args.names.now c.args.types c.args.type_ids.now = search rules in
    let tags = AllPairs-from_IsDistinct unsigned_Decides c.args.type_ids.now (c.in_ok-has_repeats.ensures.0 c.if-branch.false) in
    (lengths, tags, subst (λ ns. Distinct ns) c.as_slice.ensures (AllPairs-from_IsDistinct bytes_decides _ (c.in_ok-has_repeats-2.ensures.0 c.if-branch-2.false)))

pub returns-clause-bytes : goal.returns-clause-bytes
returns-clause-bytes c = All-from_get_or (λ t. t < 256) c.args.type_ids.now 0 (λ i _. omega (arith, c.type_inv.type_ids i))
