-- SPDX-License-Identifier: Apache-2.0
-- SPDX-FileCopyrightText: Copyright the Vortex contributors

use Rattle.std.proofs.Common.{rules, OnOk, subst, ◌≡◌, ◌≢◌, ◌++◌, ◌+◌, ◌≤◌, List, Some, None, map, length, slice_get, refl, sym, ap, ◌∙◌, append-nil, arith}
use Rattle.std.proofs.lemmas.Option.{slice_get_read}
use Rattle.dtype_types.specs.parts.Lookups.{field_names}
use Rattle.dtype_types.specs.tree.Tree.{fixed_size_list, list, struct}
use Rattle.dtype_types.specs.tree.TreeOf.{children, fields_of, tree}
use Rattle.dtype_types.specs.declared.dtype.DType.{fold_out-DType, fold-roll-DType, the_lemmas}
use Rattle.dtype_types.proofs.lemmas.TreeLaws.{tree_struct}
use Rattle.dtype_paths.specs.declared.field.Field.{Field}
use Rattle.dtype_paths.specs.declared.field.Field.TheVariants.{Name}
use Rattle.dtype_edits.specs.Leaves.{each_after, leaves}
use Rattle.dtype_edits.proofs.LeafSteps.{behind_step, fields_leaves, leaves_from, lighter, new_type, none_from, turn_found, turn_passed}
use Rattle.dtype_edits.proofs.leaves.+leaves.Goals as goal
use Rattle.dtype_edits.proofs.leaves.+leaves.Goals.{push_struct-in-Some+in_ok-try_clone+in_ok-push_after, push_struct-in_default}

pub push_leaves-returns-in-List-clause-found : goal.push_leaves-returns-in-List-clause-found
push_leaves-returns-in-List-clause-found t c =
    let whole : tree c.args.dtype.now ≡ list (tree c.deref.result.now) c.in-List.field-1 = search (rules, the_lemmas, fold_out-DType, fold-roll-DType, c.in-List.is, c.deref.ensures) in
    subst (λ ls. OnOk c.push_after.result (c.push_after.new.found.items ≡ c.args.found.now.items ++ map (λ p. c.args.above.now.items ++ p) ls)) (sym (ap leaves whole)) c.push_after.ensures.found

pub push_leaves-returns-in-FixedSizeList-clause-found : goal.push_leaves-returns-in-FixedSizeList-clause-found
push_leaves-returns-in-FixedSizeList-clause-found t c =
    let whole : tree c.args.dtype.now ≡ fixed_size_list (tree c.deref-in-FixedSizeList.result.now) c.in-FixedSizeList.field-1 c.in-FixedSizeList.field-2 = search (rules, the_lemmas, fold_out-DType, fold-roll-DType, c.in-FixedSizeList.is, c.deref-in-FixedSizeList.ensures) in
    subst (λ ls. OnOk c.push_after-in-FixedSizeList.result (c.push_after-in-FixedSizeList.new.found.items ≡ c.args.found.now.items ++ map (λ p. c.args.above.now.items ++ p) ls)) (sym (ap leaves whole)) c.push_after-in-FixedSizeList.ensures.found

pub push_leaves-returns-in-Struct-clause-found : goal.push_leaves-returns-in-Struct-clause-found
push_leaves-returns-in-Struct-clause-found t c =
    let of = c.in-Struct in
    let whole : tree c.args.dtype.now ≡ struct (fields_of of.fields) of.field-1 = ap tree of.is ∙ tree_struct of.fields of.field-1 in
    subst (λ ls. OnOk c.push_struct.result (c.push_struct.new.found.items ≡ c.args.found.now.items ++ map (λ p. c.args.above.now.items ++ p) ls)) (sym (ap leaves whole)) c.push_struct.ensures.found

pub push_after-returns-clause-found : goal.push_after-returns-clause-found
push_after-returns-clause-found t c =
    let before = c.args.found.now.items in
    let ls = leaves (tree c.args.dtype.now) in
    c.in_ok-push_leaves.ensures.found
    ∙ ap (λ (a : List Field). before ++ map (λ p. a ++ p) ls) c.in_ok-push.ensures.items
    ∙ ap (λ ps. before ++ ps) (behind_step c.args.above.now.items c.args.step ls)

pub push_struct-push_after-requires : goal.push_struct-push_after-requires
push_struct-push_after-requires t c =
    let at : Some (tree c.in-Some.dtype.now) ≡ new_type (children c.args.fields.now) c.loop-position.position c.name-item.result = search (rules, c.in-Some.ensures) in
    let light = lighter (children c.args.fields.now) c.loop-position.position c.name-item.result (tree c.in-Some.dtype.now) at in
    (omega (arith, light), tt)

pub push_struct-loop-position-preserved : goal.push_struct-loop-position-preserved
push_struct-loop-position-preserved t c =
    let ps = children c.args.fields.now in
    let i = c.loop-position.position in
    let n = c.name-item.result in
    let so_far = c.loop-position.invariant in
    let name_at : slice_get (field_names ps) i ≡ Some n = search (rules, slice_get_read, c.names.ensures, c.as_slice-name-items.ensures, c.name-item.is, c.loop-position-test.true) in
    elim c.match-first_of_its_name.branch [
      | push_struct-in-Some+in_ok-try_clone+in_ok-push_after w ↦
          let at : Some (tree w.in-Some.dtype.now) ≡ new_type ps i n = search (rules, w.in-Some.ensures) in
          let own = each_after (Name n) (leaves (tree w.in-Some.dtype.now)) in
          let pushed : w.push_after.new.found.items ≡ c.loop-position.found.items ++ map (λ p. c.loop-position.above.items ++ p) own =
          w.in_ok-push_after.ensures.found ∙ ap (λ m. c.loop-position.found.items ++ map (λ p. c.loop-position.above.items ++ p) (each_after (Name m) (leaves (tree w.in-Some.dtype.now)))) w.in_ok-try_clone.ensures in
          let more : w.push_after.new.found.items ≡ c.loop-position.found.items ++ map (λ p. c.args.above.now.items ++ p) own =
          pushed ∙ ap (λ (a : List Field). c.loop-position.found.items ++ map (λ p. a ++ p) own) so_far.above in
          record {
            above = rw w.above-is (w.in_ok-push_after.ensures.above ∙ so_far.above);
            found = rw w.found-is (turn_found _ ps i (i + 1) n c.loop-position.found.items _ (omega arith) name_at so_far.found (tree w.in-Some.dtype.now) w.push_after.new.found.items at more);
          }
      | push_struct-in_default w ↦
          let none : None ≡ new_type ps i n = search (rules, w.in_default, c.first_of_its_name.ensures) in
          record {
            above = rw w.above-is so_far.above;
            found = rw w.found-is (turn_passed _ ps i (i + 1) n c.loop-position.found.items _ (omega arith) name_at so_far.found none);
          }
    ]

pub push_struct-returns-clause-found : goal.push_struct-returns-clause-found
push_struct-returns-clause-found t c =
    let ps = children c.args.fields.now in
    let i = c.loop-position.position in
    let past : length (field_names ps) ≤ i = search (rules, c.names.ensures, c.as_slice-name-items.ensures, c.loop-position-test.false) in
    let some : length ps ≢ 0 = search (rules, c.nfields.ensures, c.if-nfields-eq0.false) in
    sym (append-nil c.loop-position.found.items)
    ∙ ap (λ ls. c.loop-position.found.items ++ map (λ p. c.args.above.now.items ++ p) ls) (sym (none_from ps i past))
    ∙ c.loop-position.invariant.found
    ∙ ap (λ ls. c.args.found.now.items ++ map (λ p. c.args.above.now.items ++ p) ls) (sym (fields_leaves ps some))
