-- SPDX-License-Identifier: Apache-2.0
-- SPDX-FileCopyrightText: Copyright the Vortex contributors

use Rattle.std.proofs.Common.{◌≡◌, ◌∙◌, ◌&&◌, ◌∷◌, true, false, Some, None, ap, sym, subst, reverse, rules}
use Rattle.std.specs.Option.{option_map}
use Rattle.dtype_base.specs.Errors.{Makes}
use Rattle.dtype_types.specs.parts.Lookups.{first_named}
use Rattle.dtype_types.specs.tree.TreeOf.{children, tree}
use Rattle.dtype_paths.specs.declared.field.Field.TheVariants.{Name}
use Rattle.dtype_merging.specs.Conflicts.{first_conflict}
use Rattle.dtype_merging.specs.MergedColumns.{no_repeats}
use Rattle.dtype_merging.proofs.Collecting.{lighter}
use Rattle.dtype_merging.proofs.Visiting.{conflict_beside, conflict_found, conflict_later, structs_visited, structs_whole}
use Rattle.dtype_merging.proofs.conflict.+conflicting.Goals as goal

pub conflict_steps-returns-then-have_no_repeats : goal.conflict_steps-returns-then-have_no_repeats
conflict_steps-returns-then-have_no_repeats t c =
    let of = c.in-Struct-Struct in
    let test : (no_repeats (children of.fields) && no_repeats (children of.others)) ≡ true = sym c.have_no_repeats.ensures ∙ c.if-have_no_repeats.true in
    subst (λ z. Makes c.field_conflict.result (λ r. option_map (λ v. reverse v.items) r ≡ z)) (sym (structs_visited c.args.widening c.args.a.now c.args.b.now of.fields of.others of.field-1-0 of.field-1-1 of.is-0 of.is-1 test)) c.field_conflict.ensures

pub conflict_steps-returns-else-have_no_repeats : goal.conflict_steps-returns-else-have_no_repeats
conflict_steps-returns-else-have_no_repeats t c =
    let of = c.in-Struct-Struct in
    let test : (no_repeats (children of.fields) && no_repeats (children of.others)) ≡ false = sym c.have_no_repeats.ensures ∙ c.if-have_no_repeats.false in
    subst (λ z. Makes c.whole_conflict.result (λ r. option_map (λ v. reverse v.items) r ≡ z)) (sym (structs_whole c.args.widening c.args.a.now c.args.b.now of.fields of.others of.field-1-0 of.field-1-1 of.is-0 of.is-1 test)) c.whole_conflict.ensures

pub field_conflict-returns-in-Some-2 : goal.field_conflict-returns-in-Some-2
field_conflict-returns-in-Some-2 t c =
    let found : Some (tree c.in-Some-field.other.now) ≡ first_named (children c.args.b.now) c.in-Some.name.now = search (rules, c.field.ensures, c.in-Some-field.is) in
    let some : Some (reverse c.in-Some-2.steps.items) ≡ first_conflict c.args.widening (tree c.in-Some.dtype.now) (tree c.in-Some-field.other.now) = search (rules, c.in_ok-steps.ensures, c.in-Some-2.is) in
    let path : reverse c.in_ok-with_step.field-0.items ≡ Name c.in-Some.name.now ∷ reverse c.in-Some-2.steps.items = search (rules, c.in_ok-with_step.ensures, c.in_ok-try_clone.ensures) in
    ap Some path ∙ conflict_found c.args.widening (children c.args.b.now) c.loop-name.name-iterator c.next.new.self c.in-Some.name.now c.in-Some.dtype.now (tree c.in-Some-field.other.now) (reverse c.in-Some-2.steps.items) _ c.loop-name.invariant.same c.in-Some.ensures.steps found some

pub field_conflict-loop-name-preserved-in_default-2 : goal.field_conflict-loop-name-preserved-in_default-2
field_conflict-loop-name-preserved-in_default-2 t c =
    let found : Some (tree c.in-Some-field.other.now) ≡ first_named (children c.args.b.now) c.in-Some.name.now = search (rules, c.field.ensures, c.in-Some-field.is) in
    let none : None ≡ first_conflict c.args.widening (tree c.in-Some.dtype.now) (tree c.in-Some-field.other.now) = search (rules, c.in_ok-steps.ensures, c.in_default-2.is) in
    record {
      same = conflict_later c.args.widening (children c.args.b.now) c.loop-name.name-iterator c.next.new.self c.in-Some.name.now c.in-Some.dtype.now (tree c.in-Some-field.other.now) _ c.loop-name.invariant.same c.in-Some.ensures.steps found none;
      within = lighter c.loop-name.name-iterator c.next.new.self c.in-Some.name.now c.in-Some.dtype.now _ c.in-Some.ensures.steps c.loop-name.invariant.within;
    }

pub field_conflict-loop-name-preserved : goal.field_conflict-loop-name-preserved
field_conflict-loop-name-preserved t c =
    let lacks : None ≡ first_named (children c.args.b.now) c.in-Some.name.now = search (rules, c.field.ensures, c.in_default.is) in
    record {
      same = conflict_beside c.args.widening (children c.args.b.now) c.loop-name.name-iterator c.next.new.self c.in-Some.name.now c.in-Some.dtype.now _ c.loop-name.invariant.same c.in-Some.ensures.steps lacks;
      within = lighter c.loop-name.name-iterator c.next.new.self c.in-Some.name.now c.in-Some.dtype.now _ c.in-Some.ensures.steps c.loop-name.invariant.within;
    }
