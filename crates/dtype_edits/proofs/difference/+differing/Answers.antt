-- SPDX-License-Identifier: Apache-2.0
-- SPDX-FileCopyrightText: Copyright the Vortex contributors

use Rattle.std.proofs.Common.{rules, ◌≡◌, ◌&&◌, ◌++◌, List, true, false, ap, ◌∙◌}
use Rattle.dtype_types.specs.parts.Lookups.{first_named}
use Rattle.dtype_types.specs.tree.TreeOf.{children, shown, tree}
use Rattle.dtype_paths.specs.declared.field.Field.{Field}
use Rattle.dtype_edits.specs.Differences.{allowed, by_name, differences, in_field}
use Rattle.dtype_edits.specs.ShownDifferences.{all_shown}
use Rattle.dtype_edits.specs.private.Behind.{behind}
use Rattle.dtype_edits.proofs.DifferenceSteps.{behind_step, both_put, field_turn, lighter, structs_differ}
use Rattle.dtype_edits.proofs.difference.+differing.Goals as goal

pub push_below-returns-clause-found : goal.push_below-returns-clause-found
push_below-returns-clause-found t c =
    let before = all_shown c.args.found.now.items in
    let ds = differences c.args.ignoring (tree c.args.before.now) (tree c.args.after.now) in
    c.in_ok-push_differences.ensures.found
    ∙ ap (λ (a : List Field). before ++ behind a ds) c.in_ok-push.ensures.items
    ∙ ap (λ es. before ++ es) (behind_step c.args.above.now.items c.args.step ds)

pub push_fields-loop-name-preserved : goal.push_fields-loop-name-preserved
push_fields-loop-name-preserved t c =
    let ps = children c.args.after.now in
    let n = c.in-Some.name.now in
    let d = c.in-Some.dtype.now in
    let o = shown tree c.field-other.result in
    let so_far = c.loop-name.invariant in
    let found : o ≡ first_named ps n = c.field-other.ensures ∙ ap (first_named ps) c.as_str.ensures in
    record {
      above = c.in_ok-push_field_differences.ensures.above ∙ so_far.above;
      found = field_turn c.args.ignoring c.args.above.now.items (all_shown c.loop-name.found.items) (all_shown c.push_field_differences.new.found.items) ps c.loop-name.name-iterator c.next.new.self n d o _ so_far.found c.in-Some.ensures.steps found
          (c.in_ok-push_field_differences.ensures.found ∙ ap (λ (a : List Field). all_shown c.loop-name.found.items ++ behind a (in_field n (tree d) (λ u. differences c.args.ignoring (tree d) u) o)) so_far.above);
      within = (lighter c.loop-name.name-iterator c.next.new.self n d _ c.in-Some.ensures.steps so_far.within).1;
    }

pub push_differences-returns-in_ok-push_fields-in-Struct-Struct-clause-found : goal.push_differences-returns-in_ok-push_fields-in-Struct-Struct-clause-found
push_differences-returns-in_ok-push_fields-in-Struct-Struct-clause-found t c =
    let of = c.in-Struct-Struct in
    let test : (allowed c.args.ignoring of.m of.n && by_name c.args.ignoring (children of.fields) (children of.others)) ≡ true = search (rules, c.in_ok-by_field-in-Struct-Struct.ensures, c.if-by_field.true) in
    let is = structs_differ c.args.ignoring c.args.before.now c.args.after.now of.fields of.others of.m of.n true of.is-0 of.is-1 test in
    search (rules, both_put, is, c.in_ok-push_fields-in-Struct-Struct.ensures.found, c.in_ok-push_fields-in-Struct-Struct.ensures.above, c.push_added.ensures.found)

pub push_differences-returns-else-by_field-clause-found : goal.push_differences-returns-else-by_field-clause-found
push_differences-returns-else-by_field-clause-found t c =
    let of = c.in-Struct-Struct in
    let test : (allowed c.args.ignoring of.m of.n && by_name c.args.ignoring (children of.fields) (children of.others)) ≡ false = search (rules, c.in_ok-by_field-in-Struct-Struct.ensures, c.if-by_field.false) in
    let is = structs_differ c.args.ignoring c.args.before.now c.args.after.now of.fields of.others of.m of.n false of.is-0 of.is-1 test in
    search (rules, is, c.deref-else-by_field.ensures.value, c.push_whole-else-by_field.ensures.found)
