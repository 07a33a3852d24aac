-- SPDX-License-Identifier: Apache-2.0
-- SPDX-FileCopyrightText: Copyright the Vortex contributors

use Rattle.std.proofs.Common.{rules, ◌≡◌, true, false}
use Rattle.std.specs.Option.{is_some}
use Rattle.dtype_types.specs.parts.Lookups.{first_named}
use Rattle.dtype_types.specs.tree.TreeOf.{children}
use Rattle.dtype_edits.proofs.DifferenceSteps.{common_turn, other_turn}
use Rattle.dtype_edits.proofs.difference.common_names.Goals as goal

pub loop-name-preserved-in-Continue-1 : goal.loop-name-preserved-in-Continue-1
loop-name-preserved-in-Continue-1 c =
    let gs = children c.args.others.now in
    let has : true ≡ is_some (first_named gs c.in-Some.name.now) = search (rules, c.if-is_some.true, c.if-is_some.ensures, c.is_some.ensures, c.field.ensures, c.as_str.ensures) in
    common_turn gs c.loop-name.common.items c.push_copy.new.names.items c.loop-name.name-iterator c.next.new.self c.in-Some.name.now _ _ c.loop-name.invariant c.in-Some.ensures.steps has c.in_ok-push_copy.ensures.names

pub loop-name-preserved : goal.loop-name-preserved
loop-name-preserved c =
    let gs = children c.args.others.now in
    let lacks : false ≡ is_some (first_named gs c.in-Some.name.now) = search (rules, c.if-is_some.false, c.if-is_some.ensures, c.is_some.ensures, c.field.ensures, c.as_str.ensures) in
    other_turn gs c.loop-name.common.items c.loop-name.name-iterator c.next.new.self c.in-Some.name.now _ _ c.loop-name.invariant c.in-Some.ensures.steps lacks
