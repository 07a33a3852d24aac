-- SPDX-License-Identifier: Apache-2.0
-- SPDX-FileCopyrightText: Copyright the Vortex contributors

-- The names among the children of a node.
use Rattle.std.proofs.Common.{◌≡◌, ◌<◌, ◌^◌, ◌∙◌, ℕ, ◌+◌, ◌-◌, suc, length, map, false, is_some, List, [], ◌∷◌, Option, Some, None, option_and_then, slice_get, cond, refl, sym, ap, subst, arith, MatchOption}
use Rattle.std.specs.List.{Contains, IsDistinct, AllByRecursion, filter_map}
use Rattle.std.specs.Map.{keys_of, lookup}
use Rattle.std.proofs.lemmas.Map.Made.{AllPairs-from_IsDistinct}
use Rattle.std.proofs.lemmas.Map.Views.{lookup-from_Contains, Contains-from_lookup}
use Rattle.dtype_base.specs.Distinct.{Distinct}
use Rattle.dtype_paths.specs.Equality.{same_field}
use Rattle.dtype_paths.specs.EqualityLaws.{same_field-Decides, same_field_equiv}
use Rattle.dtype_paths.specs.PathPredicates.{PathPredicate, after_step, AreNames}
use Rattle.dtype_paths.specs.private.Children.{child, name_entry, nodes_by_step}
use Rattle.dtype_paths.specs.private.Reached.{ends_below, named_paths, IsReached}
use Rattle.dtype_paths.specs.private.Trie.{child_at, IsTrie}
use Rattle.dtype_paths.specs.declared.field.Field.{Field}
use Rattle.dtype_paths.specs.declared.field.Field.TheVariants.{Name, ElementType}
use Rattle.dtype_paths.specs.declared.node.Node.{Node}
use Rattle.dtype_paths.specs.PathOrder.{held_name}
use Rattle.std.proofs.lemmas.Option.{same_Some}
use Rattle.std.proofs.lemmas.List.{length-map}
use Rattle.std.proofs.lemmas.Simd.{map-map}
use Rattle.dtype_paths.proofs.lemmas.DistinctLists.{distinct-given}
use Rattle.dtype_paths.proofs.lemmas.Cases.{by_option}
use Rattle.dtype_paths.proofs.lemmas.ListMembers.{contains-given, contains-map, contains-mapped, contains-nil, contains-tail, given_by}
use Rattle.dtype_paths.proofs.Reaching.{child-ends, child-reached, child-witness, ends_nowhere, ends_stepped}

abbrev names : List (Field × ℕ) → List (List ℕ × ℕ)
names es = filter_map name_entry es

name-from : (es : List (Field × ℕ)) (e : List ℕ × ℕ) → Contains (names es) e → Contains es (Name e.0, e.1)
name-from es e c = let w = given_by name_entry es e c in subst (Contains es) (is_name w.0 w.2) w.1
  where
    is_name : (d : Field × ℕ) → name_entry d ≡ Some e → d ≡ (Name e.0, e.1)
    is_name (Name n, i) is = let same = same_Some (n, i) e is in λ k. (Name (same k).0, (same k).1)
    is_name (ElementType, i) is = cc

-- what an iterator has left, it had left before
pub still-left : {A B : Type 0} (view : A → B) (r : Option A) (old new : List B) → MatchOption r ((old ≡ []) × (new ≡ [])) (λ x. old ≡ view x ∷ new) → (e : B) → Contains new e → Contains old e
still-left view None old new h e c = absurd (contains-nil e (subst (λ ns. Contains ns e) h.1 c))
still-left view (Some x) old new h e c = subst (λ ns. Contains ns e) (sym h) (contains-tail (view x) e new c)

abbrev firsts : List (List ℕ × ℕ) → List (List ℕ)
firsts es = map (λ (e : List ℕ × ℕ). e.0) es

firsts-held : (es : List (Field × ℕ)) → firsts (names es) ≡ filter_map held_name (keys_of es)
firsts-held [] = refl
firsts-held ((Name n, i) ∷ es) = ap (λ ns. n ∷ ns) (firsts-held es)
firsts-held ((ElementType, i) ∷ es) = firsts-held es

names-once : (es : List (Field × ℕ)) → Distinct (keys_of es) → Distinct (firsts (names es))
names-once es d = grind (arith, firsts-held, distinct-given)

firsts-named : (nodes : List Node) (es : List (List ℕ × ℕ)) → map (λ (e : List ℕ × PathPredicate). e.0) (named_paths nodes es) ≡ firsts es
firsts-named nodes = map-map (λ (e : List ℕ × PathPredicate). e.0) (λ (e : List ℕ × ℕ). (e.0, ends_below nodes e.1))

pub paths_counted : (nodes : List Node) (es : List (List ℕ × ℕ)) → length (named_paths nodes es) ≡ length es
paths_counted nodes es = length-map es (λ (e : List ℕ × ℕ). (e.0, ends_below nodes e.1))

pub paths_fit : (nodes : List Node) (es : List (List ℕ × ℕ)) → length es < 2 ^ 64 → length (named_paths nodes es) < 2 ^ 64
paths_fit nodes es fit = omega (arith, fit, paths_counted nodes es)

module _ (nodes : List Node) (t : IsTrie nodes) (i : ℕ) (n : Node) (r : IsReached nodes i) (at : slice_get nodes i ≡ Some n) (once : IsDistinct same_field (keys_of (nodes_by_step n.children))) where
  abbrev below : List (Field × ℕ)
  below = nodes_by_step n.children

  steps : (f : Field) → lookup (same_field f) below ≡ child_at nodes i f
  steps f = sym (ap (option_and_then (λ m. child m.children f)) at)

  led : (f : Field) (j : ℕ) → Contains below (f, j) → child_at nodes i f ≡ Some j
  led f j c = sym (steps f) ∙ lookup-from_Contains same_field_equiv f j below once c

  pub names-reached : (e : List ℕ × ℕ) → Contains (names below) e → IsReached nodes e.1
  names-reached e c = child-reached nodes t i e.1 (Name e.0) r (led (Name e.0) e.1 (name-from below e c))

  pub names-below : AreNames (ends_below nodes i) (named_paths nodes (names below))
  names-below = record {
    once = subst Distinct (sym (firsts-named nodes (names below))) (names-once below (AllPairs-from_IsDistinct same_field-Decides (keys_of below) once));
    exact = λ m. (
      λ c z.
          let w = contains-map (λ (e : List ℕ × ℕ). e.0) (names below) m (subst (λ ns. Contains ns m) (firsts-named nodes (names below)) c) in
          let on = led (Name w.0.0) w.0.1 (name-from below w.0 w.1) in
          child-ends nodes t i w.0.1 (Name w.0.0) r on (ends_stepped nodes i w.0.1 (Name w.0.0) (sym on) ∙ ap (λ k. after_step (Name k) (ends_below nodes i)) w.2 ∙ z),
      λ some. by_option (child_at nodes i (Name m))
          (λ none. absurd (some (sym (ends_nowhere nodes i (Name m) (sym none)))))
          (λ j on. subst (λ ns. Contains ns m) (sym (firsts-named nodes (names below)))
          (contains-mapped (λ (e : List ℕ × ℕ). e.0) (m, j) (names below) (contains-given name_entry below (Name m, j) (m, j) (Contains-from_lookup (λ f g. (same_field-Decides f g).0) (Name m) j below (steps (Name m) ∙ on)) refl))),
    );
    each = λ e c.
        let w = contains-map (λ (d : List ℕ × ℕ). (d.0, ends_below nodes d.1)) (names below) e c in
        let on = led (Name w.0.0) w.0.1 (name-from below w.0 w.1) in
        ap (λ (d : List ℕ × PathPredicate). d.1) (sym w.2) ∙ ends_stepped nodes i w.0.1 (Name w.0.0) (sym on) ∙ ap (λ (d : List ℕ × PathPredicate). after_step (Name d.0) (ends_below nodes i)) w.2;
    some = λ e c.
        let w = contains-map (λ (d : List ℕ × ℕ). (d.0, ends_below nodes d.1)) (names below) e c in
        let q = child-witness nodes t i w.0.1 (Name w.0.0) r (led (Name w.0.0) w.0.1 (name-from below w.0 w.1)) in
        (q.0, ap (λ (d : List ℕ × PathPredicate). d.1 q.0) (sym w.2) ∙ q.1);
  }

-- ---- how many they are

no-element : (es : List (Field × ℕ)) → AllByRecursion (λ f. same_field ElementType f ≡ false) (keys_of es) → length (names es) ≡ length es
no-element [] h = refl
no-element ((Name n, i) ∷ es) h = ap (λ k. suc k) (no-element es h.1)
no-element ((ElementType, i) ∷ es) h = cc

names-count : (es : List (Field × ℕ)) → IsDistinct same_field (keys_of es) → length (names es) + cond (is_some (lookup (same_field ElementType) es)) 1 0 ≡ length es
unfolding IsDistinct
names-count [] d = refl
names-count ((Name n, i) ∷ es) d = omega (arith, names-count es d.1)
names-count ((ElementType, i) ∷ es) d = omega (arith, no-element es d.0)

-- all but the element, and all where that isn't among them
pub counted_but_one : (es : List (Field × ℕ)) (k i : ℕ) → IsDistinct same_field (keys_of es) → k ≡ length es → Some i ≡ lookup (same_field ElementType) es → k - 1 ≡ length (names es)
counted_but_one es k i d long e = let all = names-count es d in let counted = rw (← e) at all in omega (arith, counted, long)

pub counted_all : (es : List (Field × ℕ)) (k : ℕ) → IsDistinct same_field (keys_of es) → k ≡ length es → None ≡ lookup (same_field ElementType) es → k ≡ length (names es)
counted_all es k d long e = let all = names-count es d in let counted = rw (← e) at all in omega (arith, counted, long)
