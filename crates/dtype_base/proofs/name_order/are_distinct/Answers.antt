-- SPDX-License-Identifier: Apache-2.0
-- SPDX-FileCopyrightText: Copyright the Vortex contributors

use Rattle.std.proofs.Common.{ℕ, ◌-◌, ◌<◌, get_or, length, Some, slice_get, refl, sym, ap, ◌∙◌, arith}
use Rattle.std.specs.Prelude.{◌≢◌}
use Rattle.std.specs.Cmp.Lexicographic.{bytes_decides}
use Rattle.std.proofs.lemmas.Bool.{false≢true}
use Rattle.std.proofs.lemmas.List.{get_or-map}
use Rattle.std.proofs.lemmas.List.Sorted.{all_adjacent_more}
use Rattle.std.proofs.lemmas.Option.{slice_get_read, same_Some}
use Rattle.dtype_base.specs.private.NameOrder.{position_in, positions}
use Rattle.dtype_base.proofs.NameSearch.{as_many_positions, position_at, position_is_within, all_apart, all_differ, same_neighbours}
use Rattle.dtype_base.proofs.name_order.are_distinct.Goals as goal

pub returns-then-eq : goal.returns-then-eq
returns-then-eq c =
    let names = c.args.names.now in
    let bits = c.args.bits in
    let entries = c.args.entries.now in
    let order = positions bits entries in
    let p = c.loop-next.next - 1 in
    let q = c.loop-next.next in
    let in_p : p < length entries = omega (arith, c.loop-next-test.true) in
    let in_q : q < length entries = omega (arith, c.loop-next-test.true) in
    let last : q < length order = omega (arith, in_q, as_many_positions bits entries) in
    let here = ap (slice_get names) (position_at bits entries p 0 in_p) ∙ slice_get_read names (length names) _ c.index-names-before.result refl (position_is_within bits names entries c.requires.order.each p 0 in_p) (c.index-names-before.is ∙ ap (λ k. get_or names k c.index-names-before.result) c.position_in-before.ensures) in
    let next = ap (slice_get names) (position_at bits entries q 0 in_q) ∙ slice_get_read names (length names) _ c.index-names-here.result refl (position_is_within bits names entries c.requires.order.each q 0 in_q) (c.index-names-here.is ∙ ap (λ k. get_or names k c.index-names-here.result) c.position_in-here.ensures) in
    let same = (bytes_decides c.index-names-before.result c.index-names-here.result).0 (sym c.if-eq.ensures) in (
      λ t i j d l b e. false≢true t,
      λ distinct. absurd (same_neighbours bits names order c.requires.order.rising (all_apart names order c.requires.order.each) p q c.index-names-here.result (omega arith) last (here ∙ ap Some same) next distinct),
    )

pub loop-next-preserved : goal.loop-next-preserved
loop-next-preserved c =
    let names = c.args.names.now in
    let bits = c.args.bits in
    let entries = c.args.entries.now in
    let p = c.loop-next.next - 1 in
    let q = c.loop-next.next in
    let here = slice_get_read names (length names) _ c.index-names-before.result refl (position_is_within bits names entries c.requires.order.each p 0 (omega (arith, c.loop-next-test.true))) (c.index-names-before.is ∙ ap (λ k. get_or names k c.index-names-before.result) c.position_in-before.ensures) in
    let next = slice_get_read names (length names) _ c.index-names-here.result refl (position_is_within bits names entries c.requires.order.each q 0 (omega (arith, c.loop-next-test.true))) (c.index-names-here.is ∙ ap (λ k. get_or names k c.index-names-here.result) c.position_in-here.ensures) in
    let at = λ (k : ℕ) (d : ℕ) (within : k < length entries). ap (slice_get names) (get_or-map (position_in bits) entries k 0 d within) in
    all_adjacent_more (positions bits entries) (λ i j. slice_get names i ≢ slice_get names j) q (omega arith) c.loop-next.invariant (λ d same. false≢true (c.if-eq.ensures ∙ (bytes_decides c.index-names-before.result c.index-names-here.result).1
    (same_Some _ _ (sym here ∙ sym (at p d (omega (arith, c.loop-next-test.true))) ∙ same ∙ at q d c.loop-next-test.true ∙ next))))

pub returns : goal.returns
returns c =
    let names = c.args.names.now in
    let bits = c.args.bits in
    let entries = c.args.entries.now in (
      λ t. all_differ bits names (positions bits entries) c.requires.order.rising (all_apart names (positions bits entries) c.requires.order.each) c.requires.order.each (λ k d high. c.loop-next.invariant k d (omega (arith, high, c.loop-next-test.false, as_many_positions bits entries))),
      λ distinct. refl,
    )
