-- SPDX-License-Identifier: Apache-2.0
-- SPDX-FileCopyrightText: Copyright the Vortex contributors

use Rattle.std.proofs.Common.{rules, ◌≡◌, ◌∙◌, true, false, ap}
use Rattle.std.specs.Option.{is_none}
use Rattle.dtype_types.specs.parts.Lookups.{first_named}
use Rattle.dtype_types.specs.tree.TreeOf.{children, tree}
use Rattle.dtype_edits.specs.ShownDifferences.{all_shown}
use Rattle.dtype_edits.specs.private.Behind.{behind}
use Rattle.std.proofs.Common.{◌++◌}
use Rattle.dtype_edits.proofs.DifferenceSteps.{added_turn, known_turn, only_after}
use Rattle.dtype_edits.proofs.difference.push_added.Goals as goal

pub loop-name-preserved-in-Continue-1 : goal.loop-name-preserved-in-Continue-1
loop-name-preserved-in-Continue-1 c =
    let ps = children c.args.before.now in
    let n = c.in-Some.name.now in
    let so_far = c.loop-name.invariant in
    let lacks : true ≡ is_none (first_named ps n) = search (rules, c.if-is_none.true, c.if-is_none.ensures, c.is_none.ensures, c.field.ensures, c.as_str.ensures) in
    record {
      above = c.in_ok-push_part.ensures.above ∙ so_far.above;
      found = added_turn c.args.above.now.items (all_shown c.loop-name.found.items) (all_shown c.push_part.new.found.items) ps c.loop-name.name-iterator c.next.new.self n c.in-Some.dtype.now _ so_far.found c.in-Some.ensures.steps lacks
          (c.in_ok-push_part.ensures.found ∙ ap (λ a. all_shown c.loop-name.found.items ++ behind a (only_after n (tree c.in-Some.dtype.now))) so_far.above);
    }

pub loop-name-preserved : goal.loop-name-preserved
loop-name-preserved c =
    let ps = children c.args.before.now in
    let n = c.in-Some.name.now in
    let so_far = c.loop-name.invariant in
    let has : false ≡ is_none (first_named ps n) = search (rules, c.if-is_none.false, c.if-is_none.ensures, c.is_none.ensures, c.field.ensures, c.as_str.ensures) in
    record {
      above = so_far.above;
      found = known_turn c.args.above.now.items (all_shown c.loop-name.found.items) ps c.loop-name.name-iterator c.next.new.self n c.in-Some.dtype.now _ so_far.found c.in-Some.ensures.steps has;
    }
