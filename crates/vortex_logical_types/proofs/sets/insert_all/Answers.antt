-- SPDX-License-Identifier: Apache-2.0
-- SPDX-FileCopyrightText: Copyright the Vortex contributors

use Rattle.std.proofs.Common.{refl, sym, ◌∙◌, arith, rules}
use Rattle.dtype_paths.proofs.lemmas.SetMembers.{union_none}
use Rattle.vortex_logical_types.proofs.Extended.{slots_end, slots_gain}
use Rattle.vortex_logical_types.proofs.Several.{kept_at}
use Rattle.vortex_logical_types.proofs.sets.insert_all.Goals as goal

pub loop-slot-init : goal.loop-slot-init
loop-slot-init c = record {
  gains = sym (union_none c.args.members.now);
  count = refl;
  kept = refl;
}

pub returns-then-answer-ne-OK-clause-ended : goal.returns-then-answer-ne-OK-clause-ended
returns-then-answer-ne-OK-clause-ended c =
    slots_end c.args.members.now c.loop-slot.members _ c.loop-slot.paths _ c.loop-slot.slot-index c.insert_slot-answer.result c.slot-item.result
    (omega (arith, c.loop-slot-test.true)) c.loop-slot.invariant.kept c.loop-slot.inserted c.loop-slot.invariant.count c.insert_slot-answer.ensures.gains
    (λ e. omega (arith, e, c.if-answer-ne-OK.true))

pub returns-then-answer-ne-OK-clause-kept : goal.returns-then-answer-ne-OK-clause-kept
returns-then-answer-ne-OK-clause-kept c =
    kept_at c.loop-slot.paths c.loop-slot.slot-index c.slot-item.result _ (omega (arith, c.loop-slot-test.true)) c.insert_slot-answer.ensures.kept ∙ c.loop-slot.invariant.kept

pub loop-slot-preserved : goal.loop-slot-preserved
loop-slot-preserved c = record {
  gains =
      slots_gain c.args.members.now c.loop-slot.members _ c.loop-slot.paths _ c.loop-slot.slot-index c.insert_slot-answer.result c.slot-item.result
      (omega (arith, c.loop-slot-test.true)) c.loop-slot.invariant.kept c.insert_slot-answer.ensures.gains
      (omega (arith, c.if-answer-ne-OK.false)) c.loop-slot.invariant.gains;
  count = search rules;
  kept = kept_at c.loop-slot.paths c.loop-slot.slot-index c.slot-item.result _ (omega (arith, c.loop-slot-test.true)) c.insert_slot-answer.ensures.kept ∙ c.loop-slot.invariant.kept;
}
