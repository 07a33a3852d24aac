-- SPDX-License-Identifier: Apache-2.0
-- SPDX-FileCopyrightText: Copyright the Vortex contributors

use Rattle.std.proofs.Common.{◌≡◌, ◌<◌, ◌∙◌, [], ap, inl, length, refl, arith}
use Rattle.std.proofs.lemmas.List.{length-set}
use Rattle.std.specs.Vec.Iter.{into_iter_items}
use Rattle.vortex_logical_types.proofs.AtOnce.{empty_of, put_end, put_rest, put_step}
use Rattle.vortex_logical_types.proofs.Several.{kept_at}
use Rattle.vortex_logical_types.proofs.at_once.put_each.Goals as goal

pub returns-in_default : goal.returns-in_default
returns-in_default c =
    let lt : c.loop-slot.slot-index < length c.loop-slot.slots = omega (arith, c.loop-slot-test.true) in
    let empty : into_iter_items c.loop-slot.left ≡ [] = empty_of (into_iter_items c.loop-slot.left) (omega (arith, c.loop-slot.invariant.count, c.in_default.ensures.cases.0)) in
    inl (
      refl,
      kept_at c.loop-slot.slots c.loop-slot.slot-index c.slot-item.result _ lt refl
          ∙ put_end c.loop-slot.slots c.args.slots.now c.loop-slot.slot-index (into_iter_items c.loop-slot.left) c.args.objects.items lt empty c.loop-slot.invariant.put c.loop-slot.invariant.rest,
    )

pub loop-slot-preserved : goal.loop-slot-preserved
loop-slot-preserved c =
    let lt : c.loop-slot.slot-index < length c.loop-slot.slots = omega (arith, c.loop-slot-test.true) in
    let next = c.in-Some.ensures.cases in record {
      put =
          put_step c.loop-slot.slots c.loop-slot.slot-index c.put.new.self c.in-Some.object (into_iter_items c.loop-slot.left) (into_iter_items c.next.new.self) c.args.objects.items lt
          c.put.ensures next.0 c.loop-slot.invariant.put;
      rest = put_rest c.loop-slot.slots c.args.slots.now c.loop-slot.slot-index c.put.new.self c.loop-slot.invariant.rest;
      size = length-set c.loop-slot.slots c.loop-slot.slot-index c.put.new.self ∙ c.loop-slot.invariant.size;
      count = omega (arith, c.loop-slot.invariant.count, next.1, ap length next.0);
    }
