-- SPDX-License-Identifier: Apache-2.0
-- SPDX-FileCopyrightText: Copyright the Vortex contributors

use Rattle.std.proofs.Common.{◌≡◌, ℕ, List, ◌+◌, ◌-◌, ◌*◌, ◌/◌, ◌%◌, ◌<◌, ◌^◌, length, refl, sym, ap, ◌∙◌, arith, mod-eq_of_lt, is_lt}
use Rattle.std.specs.Bool.{then_some}
use Rattle.dtype_base.proofs.lemmas.BinaryDigits.{digits_fewest}
use Rattle.dtype_base.specs.BinaryDigits.{binary_digits}
use Rattle.dtype_base.specs.Comparisons.{comparisons}
use Rattle.dtype_base.specs.private.NameOrder.{name_cmp, positions}
use Rattle.dtype_base.proofs.NameSearch.{as_many_positions, position_at, starts, leaves_power, halves, ends, counts}
use Rattle.dtype_base.proofs.IndexEntries.{decided, holds, same_decided}
use Rattle.dtype_base.proofs.name_search.search_with.Goals.{then-size-entries, else-size-entries}
use Rattle.dtype_base.proofs.name_search.search_with.Goals as goal

pub loop-half-init : goal.loop-half-init
loop-half-init c =
    let names = c.args.names.now in
    let entries = c.args.entries.now in
    let order = positions c.args.bits entries in
    let n = c.args.name.now in
    let k = c.ilog2.result in
    let size : 1 * 2 ^ k % 2 ^ 64 ≡ 2 ^ k = mod-eq_of_lt (omega (arith, c.ilog2.ensures.power_le)) ∙ omega arith in
    let half = length entries - 1 * 2 ^ k % 2 ^ 64 in
    let m = half - 1 in record {
      steps = k;
      is = ap (λ s. s / 2) size;
      left = elim c.if-size-entries.branch [
        | then-size-entries w ↦
            let within : m < length entries = omega (arith, w.if-size-entries.true) in
            leaves_power c.args.bits names order c.requires.bucket.rising c.requires.bucket.apart n k c.if-size-entries.low c.if-size-entries.compared half m w.compare-comparison.result.below _
            (omega (arith, w.if-size-entries.true, size, as_many_positions c.args.bits entries)) (omega (arith, c.ilog2.ensures.next_power_gt, as_many_positions c.args.bits entries))
            (omega (arith, size, as_many_positions c.args.bits entries)) refl (omega arith)
            (λ t. ap is_lt (ap (name_cmp c.args.bits names n) (position_at c.args.bits entries m 0 within)
            ∙ sym (decided c.args.bits names c.args.by n entries c.requires.bucket c.args.key m 0 c.requires.key within t)))
            (w.compare-comparison.ensures.below refl) w.low-is (omega (arith, w.compared-is, w.compare-comparison.ensures.counted, c.requires.none))
        | else-size-entries w ↦
            starts c.args.bits names order c.requires.bucket.rising c.requires.bucket.apart n c.if-size-entries.low (2 ^ k) c.if-size-entries.compared (omega (arith, c.ilog2.ensures.next_power_gt))
            (omega (arith, w.if-size-entries.false, size, c.ilog2.ensures.power_le, as_many_positions c.args.bits entries)) w.low-is (w.compared-is ∙ c.requires.none)
      ];
    }

-- a count that the entries allow has room for one comparison more
room_for_one : (order : List ℕ) (compared left : ℕ) → compared + left ≡ binary_digits (length order - 1) → length order < 2 ^ 64 → compared + 1 < 2 ^ 64
room_for_one order compared left count few = omega (arith, count, digits_fewest (length order - 1) 64 (omega (arith, few)))

pub compare-comparison-requires-in-loop-half-clause-room : goal.compare-comparison-requires-in-loop-half-clause-room
compare-comparison-requires-in-loop-half-clause-room c = room_for_one (positions c.args.bits c.args.entries.now) _ _ c.loop-half.invariant.left.count (omega (arith, as_many_positions c.args.bits c.args.entries.now))

pub compare-comparison-requires-2-clause-room : goal.compare-comparison-requires-2-clause-room
compare-comparison-requires-2-clause-room c = room_for_one (positions c.args.bits c.args.entries.now) _ _ c.loop-half.invariant.left.count (omega (arith, as_many_positions c.args.bits c.args.entries.now))

pub loop-half-preserved : goal.loop-half-preserved
loop-half-preserved c =
    let inv = c.loop-half.invariant in
    let names = c.args.names.now in
    let entries = c.args.entries.now in
    let order = positions c.args.bits entries in
    let n = c.args.name.now in
    let low = c.loop-half.low in
    let half = c.loop-half.half in
    let comparison = c.compare-comparison-in-loop-half in
    let m = low + half - 1 in
    let within : m < length entries = omega (arith, inv.left.within, inv.is, c.loop-half-test.true, as_many_positions c.args.bits entries) in
    halves c.args.bits names order c.requires.bucket.rising c.requires.bucket.apart n low c.loop-half.compared half m comparison.result.below _ comparison.new.compared inv c.loop-half-test.true refl (omega arith)
    (λ t. ap is_lt (ap (name_cmp c.args.bits names n) (position_at c.args.bits entries m 0 within)
    ∙ sym (decided c.args.bits names c.args.by n entries c.requires.bucket c.args.key m 0 c.requires.key within t)))
    (comparison.ensures.below refl) comparison.ensures.counted

pub returns-clause-place : goal.returns-clause-place
returns-clause-place c =
    let inv = c.loop-half.invariant in
    let names = c.args.names.now in
    let entries = c.args.entries.now in
    let n = c.args.name.now in
    let low = c.loop-half.low in
    let same = c.compare-comparison-2.result.same in
    let within : low < length entries = omega (arith, inv.left.within, inv.left.some, as_many_positions c.args.bits entries) in
    let at = position_at c.args.bits entries low 0 within in
    let distinguished = same_decided c.args.bits names c.args.by n entries c.requires.bucket c.args.key low 0 same c.requires.key within (c.compare-comparison-2.ensures.same refl) in
    c.then_some.ensures ∙ ap (then_some same) (c.position_in.ensures ∙ sym at)
    ∙ ends c.args.bits names (positions c.args.bits entries) c.requires.bucket.rising c.requires.bucket.apart n low (2 ^ inv.steps) c.loop-half.compared same (holds c.args.bits names c.args.by n entries c.requires.bucket) inv.left (omega (arith, inv.is, c.loop-half-test.false))
    (λ e. ap (name_cmp c.args.bits names n) at ∙ distinguished.0 e) (λ e here. distinguished.1 e (sym (ap (name_cmp c.args.bits names n) at) ∙ here))

pub returns-clause-count : goal.returns-clause-count
returns-clause-count c =
    let inv = c.loop-half.invariant in
    let entries = c.args.entries.now in
    c.count.ensures ∙ c.compare-comparison-2.ensures.counted
    ∙ counts c.args.bits c.args.names.now (positions c.args.bits entries) c.requires.bucket.rising c.requires.bucket.apart c.args.name.now c.loop-half.low (2 ^ inv.steps) c.loop-half.compared inv.left (omega (arith, inv.is, c.loop-half-test.false))
    ∙ ap comparisons (as_many_positions c.args.bits entries)
