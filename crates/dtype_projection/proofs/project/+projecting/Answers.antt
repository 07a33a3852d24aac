-- SPDX-License-Identifier: Apache-2.0
-- SPDX-FileCopyrightText: Copyright the Vortex contributors

use Rattle.std.proofs.Common.{◌≡◌, ◌++◌, ◌<◌, length, map, MatchResult, Some, subst, sym, ap, ◌∙◌, append-nil, arith, rules}
use Rattle.std.specs.List.{filter_map, zip}
use Rattle.std.specs.Option.{option_map}
use Rattle.std.specs.Vec.Iter.{into_iter_items}
use Rattle.std.proofs.lemmas.List.{nil_from_length}
use Rattle.dtype_base.specs.declared.vortex_error.VortexError.TheVariants.{OutOfMemory}
use Rattle.dtype_types.specs.tree.Tree.{fields}
use Rattle.dtype_types.specs.tree.TreeOf.{tree, children, fields_of}
use Rattle.dtype_paths.specs.Cursors.{contains_below}
use Rattle.dtype_projection.specs.private.Entered.{AreWhole}
use Rattle.dtype_projection.specs.Projected.{projected_fields, struct_with}
use Rattle.dtype_projection.proofs.KeptFields.{all_kept, kept_at, one_kept, struct_shared}
use Rattle.dtype_types.proofs.lemmas.ValidParts.{fields_of_pairs}
use Rattle.dtype_projection.proofs.project.+projecting.Goals as goal

pub project_struct-returns-then-are_all_whole : goal.project_struct-returns-then-are_all_whole
project_struct-returns-then-are_all_whole t c =
    let count = c.nfields.ensures in
    struct_shared _ c.args.fields.now c.args.n (contains_below c.args.cursor.now) c.in_ok-entered.entered.items c.in_ok-try_clone.ensures c.in_ok-entered.ensures
    (subst (AreWhole 0 (length (children c.args.fields.now))) c.deref.ensures.value (subst (λ k. AreWhole 0 k c.deref.result.now) count (c.are_all_whole.ensures.each c.if-are_all_whole.true)))
    (subst (λ k. 0 < k) count (c.are_all_whole.ensures.some c.if-are_all_whole.true))

pub project_struct-loop-position-init : goal.project_struct-loop-position-init
project_struct-loop-position-init t c =
    let fs = children c.args.fields.now in
    record {
      kept = ap (λ z. zip z (map tree c.in_ok-dtypes.dtypes.items) ++ filter_map (kept_at fs) (into_iter_items c.into_iter-position-iterator.result)) c.in_ok-names.ensures.items
          ∙ ap (filter_map (kept_at fs)) c.into_iter-position-iterator.ensures.into_iter_gives.0
          ∙ all_kept fs c.in_ok-entered.entered.items (contains_below c.args.cursor.now) c.in_ok-entered.ensures;
      even = search rules;
      names_fit = let given = c.into_iter-position-iterator.ensures.into_iter_gives.1 in omega (arith, given, c.in_ok-names.ensures.len, c.in_ok-names.ensures.capacity, c.len.ensures);
      dtypes_fit = let given = c.into_iter-position-iterator.ensures.into_iter_gives.1 in omega (arith, given, c.in_ok-dtypes.ensures.len, c.in_ok-dtypes.ensures.capacity, c.len-2.ensures);
    }

pub project_struct-loop-position-preserved-in-Some-2 : goal.project_struct-loop-position-preserved-in-Some-2
project_struct-loop-position-preserved-in-Some-2 t c =
    let so_far = c.loop-position.invariant in
    let fs = children c.args.fields.now in
    let even : length c.loop-position.names.items ≡ length c.loop-position.dtypes.items = search rules in
    let kept : kept_at fs (c.in-Some.position, c.in-Some.below) ≡ Some (c.in-Some-2.name, tree c.in-Some-2.dtype) =
    sym c.in_ok-name.ensures ∙ ap (option_map (λ f. (f.0, tree f.1))) c.in-Some-2.is in
    record {
      kept = one_kept fs _ (into_iter_items c.loop-position.position-iterator) (into_iter_items c.next.new.self) _ _ _ _ _ _ _ c.in-Some.ensures.steps.0 kept even c.push_reserved.ensures.items c.push_reserved-in-Some-2.ensures.items so_far.kept;
      even = search rules;
      names_fit = omega (arith, so_far.names_fit, c.push_reserved.ensures, c.in-Some.ensures.steps.1);
      dtypes_fit = omega (arith, so_far.dtypes_fit, c.push_reserved-in-Some-2.ensures, c.in-Some.ensures.steps.1);
    }

pub project_struct-returns : goal.project_struct-returns
project_struct-returns t c =
    let none = nil_from_length (into_iter_items c.loop-position.position-iterator) (omega (arith, c.loop-position.position-iterator.rest.ok, c.in-None.ensures.steps)) in
    let kept = zip c.loop-position.names.items (map tree c.loop-position.dtypes.items) in
    let all = sym (append-nil kept) ∙ ap (λ es. kept ++ filter_map (kept_at (children c.args.fields.now)) es) (sym none) ∙ c.loop-position.invariant.kept in
    subst (λ fs. MatchResult c.struct_of.result (λ r. option_map tree r ≡ struct_with c.args.n fs) (λ e. e ≡ OutOfMemory)) (ap fields all ∙ fields_of_pairs (projected_fields (fields_of c.args.fields.now) (contains_below c.args.cursor.now))) c.struct_of.ensures
