-- SPDX-License-Identifier: Apache-2.0
-- SPDX-FileCopyrightText: Copyright the Vortex contributors

-- What is contained below the fields of a struct, while the names by which paths go on are looked up one by one.
use Rattle.std.proofs.Common.{◌≡◌, ◌≢◌, ◌⊎◌, inl, inr, ℕ, zero, suc, ◌+◌, ◌<◌, ◌≤◌, ◌==◌, All, length, List, [], ◌∷◌, ◌++◌, map, get_or, Some, None, refl, sym, ap, subst, ◌∙◌, append-nil, arith}
use Rattle.std.specs.List.{Contains, IsDistinct, filter_map}
use Rattle.std.specs.Cmp.{nat_eq_equiv}
use Rattle.std.specs.List.Sorted.{IsNonDecreasingBy, IsPermutation}
use Rattle.std.specs.Map.{lookup}
use Rattle.std.specs.Option.{IsSome, option_map}
use Rattle.std.proofs.lemmas.Bool.{false≢true}
use Rattle.std.proofs.lemmas.Bool.Decides.{Decides-eqb}
use Rattle.std.proofs.lemmas.Grind.{common_steps}
use Rattle.std.proofs.lemmas.List.{map_push}
use Rattle.std.proofs.lemmas.List.Elements.{Contains-get_or}
use Rattle.std.proofs.lemmas.List.Sorted.{Contains-permutation, IsPermutation-map, IsPermutation-sym}
use Rattle.std.proofs.lemmas.Map.Keys.{IsDistinct-IsPermutation}
use Rattle.std.proofs.lemmas.Map.Made.{IsDistinct-from_AllPairs}
use Rattle.std.proofs.lemmas.Map.Views.{Contains-from_lookup, IsSome-lookup_from_Contains}
use Rattle.std.proofs.lemmas.Option.{same_Some, slice_get_within}
use Rattle.std.proofs.lemmas.Simd.{map-map}
use Rattle.dtype_base.specs.FieldNames.{FirstAt, first_place}
use Rattle.dtype_base.proofs.lemmas.Lookups.{first_of_place, place_of_first}
use Rattle.dtype_paths.specs.Cursors.{contains_below}
use Rattle.dtype_paths.specs.PathPredicates.{no_path, AreNames}
use Rattle.dtype_paths.specs.declared.field.Field.TheVariants.{Name}
use Rattle.dtype_paths.specs.declared.field_path_cursor.FieldPathCursor.{FieldPathCursor}
use Rattle.dtype_paths.proofs.lemmas.Cases.{by_bool, by_option}
use Rattle.dtype_paths.proofs.lemmas.DistinctLists.{distinct-given}
use Rattle.dtype_paths.proofs.lemmas.ListMembers.{contains-given, contains-map, contains-mapped, given_by}
use Rattle.dtype_projection.specs.private.Entered.{contained_below, placed, shown, AreEntered, AreLookedUp, Entries, Rise}
use Rattle.dtype_projection.specs.Projected.{PathPredicate, after_step, without_field}
use Rattle.dtype_projection.proofs.lemmas.Projections.{by_name, after_without_same, after_without_other}

-- ---- what is contained below the field at a position, by whether it is the first of its name

contained_first : (ns : List (List ℕ)) (w : PathPredicate) (k : ℕ) (n : List ℕ) → FirstAt ns n k → contained_below w ns k ≡ after_step (Name n) w
contained_first [] w k n f = let at = f.here in cc
contained_first (m ∷ ns) w zero n f = ap (λ l. after_step (Name l) w) (same_Some m n f.here)
contained_first (m ∷ ns) w (suc k) n f =
    contained_first ns (without_field m w) k n (record { here = f.here; first = λ j lt. f.first (suc j) (omega (arith, lt)) })
    ∙ after_without_other m n w (λ e. f.first 0 (omega arith) (ap Some e))

contained_cases : (ns : List (List ℕ)) (w : PathPredicate) (k : ℕ) → ((n : List ℕ) × FirstAt ns n k) ⊎ (contained_below w ns k ≡ no_path)
contained_cases [] w k = inr refl
contained_cases (m ∷ ns) w zero = inl (m, grind arith)
contained_cases (m ∷ ns) w (suc k) = elim (contained_cases ns (without_field m w) k) [
  | inr none ↦ inr none
  | inl f ↦ by_name m f.0
      (λ e. inr (grind (arith, contained_first ns (without_field m w) k f.0 f.1, e, after_without_same m w)))
      (λ ne. inl (f.0, grind (arith, f.1, ne)))
]

-- ---- entries whose positions rise

pub bounded : (i n : ℕ) (es : Entries) → Rise i n es → i ≤ n
bounded i n [] r = r
bounded i n (e ∷ es) r = grind (arith, r, bounded (e.0 + 1) n es)

pub none_before : (i n k : ℕ) (es : Entries) → Rise i n es → k < i → lookup (λ j. k == j) es ≡ None
none_before i n k [] r lt = refl
none_before i n k (e ∷ es) r lt = grind (arith, r, none_before (e.0 + 1) n k es, lt)

-- ---- name by name

-- none is looked up yet
pub looked_up-none : (w : PathPredicate) (ns : List (List ℕ)) (left : List (List ℕ × PathPredicate)) (es : Entries) → es ≡ [] → AreNames w left → AreLookedUp w ns left es
looked_up-none w ns left es none names = rw none (record { names = left; by_name = names; found = refl })

module _ (w : PathPredicate) (ns : List (List ℕ)) (left rest : List (List ℕ × PathPredicate)) (n : List ℕ) (v : PathPredicate) (next : left ≡ (n, v) ∷ rest) (es : Entries) (old : AreLookedUp w ns left es) where
  -- no field has the name
  pub looked_up-absent : None ≡ first_place ns n → AreLookedUp w ns rest es
  looked_up-absent none = record { names = old.names; by_name = old.by_name; found = grind (arith, common_steps, old.found, next, none) }

  -- the field i has it, and its cursor is entered
  pub looked_up-more : (i : ℕ) (below : FieldPathCursor) (es' : Entries) → Some i ≡ first_place ns n → contains_below below ≡ v → es' ≡ es ++ (i, below) ∷ [] → AreLookedUp w ns rest es'
  looked_up-more i below es' at is new = grind (arith, common_steps, old, next, at, is, new, map_push shown es (i, below))

-- what stands at a position is a name's that stands first there
placed_from : (ns : List (List ℕ)) (names : List (List ℕ × PathPredicate)) (k : ℕ) (v : PathPredicate) → Contains (placed ns names) (k, v) → (n : List ℕ) × Contains names (n, v) × (first_place ns n ≡ Some k)
placed_from ns names k v c = grind (arith, given_by (λ e. option_map (λ i. (i, e.1)) (first_place ns e.0)) names (k, v) c)

places : (ns : List (List ℕ)) (names : List (List ℕ × PathPredicate)) → map (λ e. e.0) (placed ns names) ≡ filter_map (first_place ns) (map (λ e. e.0) names)
places ns [] = refl
places ns (e ∷ names) = grind (arith, common_steps, places ns names)

-- a name by which no path goes on
unnamed : (w : PathPredicate) (names : List (List ℕ × PathPredicate)) (n : List ℕ) → AreNames w names → (Contains (map (λ e. e.0) names) n → ⊥) → after_step (Name n) w ≡ no_path
unnamed w names n a absent = λ i p. by_bool (w (Name n ∷ p)) (λ e. absurd (absent ((a.exact n).1 (λ z. false≢true (sym (ap (λ (v : PathPredicate). v p) z) ∙ e))))) (λ e. e) i

-- entries whose positions don't fall, and differ, rise
rising : (n : ℕ) (es : Entries) → All (λ e. e.0 < n) es → IsNonDecreasingBy (λ e. e.0) es → IsDistinct (λ j k. j == k) (map (λ e. e.0) es) → Rise 0 n es
unfolding IsDistinct
rising n [] below falls once = omega arith
rising n (e ∷ es) below falls once = on 0 e es (omega arith) below falls once
  where
    on : (i : ℕ) (e : ℕ × FieldPathCursor) (es : Entries) → i ≤ e.0 → All (λ e. e.0 < n) (e ∷ es) → IsNonDecreasingBy (λ e. e.0) (e ∷ es) → IsDistinct (λ j k. j == k) (map (λ e. e.0) (e ∷ es)) → Rise i n (e ∷ es)
    on i e [] le below falls once = (le, let lt : e.0 < n = below 0 e (omega arith) in omega (arith, lt))
    on i e (f ∷ es) le below falls once =
        let not_less : e.0 ≤ f.0 = falls 0 1 e (omega arith) (omega arith) in
        let differ : e.0 ≢ f.0 = λ is. false≢true (sym once.0.0 ∙ (Decides-eqb e.0 f.0).1 is) in
        (le, on (e.0 + 1) f es (omega (arith, not_less, differ)) (λ k d lt. below (suc k) d (omega (arith, lt))) (λ j k d le lt. falls (suc j) (suc k) d (omega (arith, le)) (omega (arith, lt))) once.1)

-- where all names are looked up, in the order of the positions
module _ (w : PathPredicate) (ns : List (List ℕ)) (es fs : Entries) (a : AreLookedUp w ns [] es) (moved : IsPermutation es fs) (falls : IsNonDecreasingBy (λ e. e.0) fs) where
  all : map shown es ≡ placed ns a.names
  all = sym (append-nil (map shown es)) ∙ a.found

  -- an entry is that of a name
  named : (k : ℕ) (c : FieldPathCursor) → Contains fs (k, c) → (n : List ℕ) × FirstAt ns n k × (contains_below c ≡ after_step (Name n) w)
  named k c there =
      let old = contains-mapped shown (k, c) es (Contains-permutation fs es (k, c) (IsPermutation-sym es fs moved) there) in
      let p = placed_from ns a.names k (contains_below c) (subst (λ xs. Contains xs (k, contains_below c)) all old) in
      (p.0, first_of_place ns p.0 k (sym p.2), a.by_name.each (p.0, contains_below c) p.1)

  -- and each name that a field has is entered
  entered : (n : List ℕ) (k : ℕ) → FirstAt ns n k → Contains (map (λ e. e.0) a.names) n → IsSome (lookup (λ j. k == j) fs)
  entered n k f c =
      let m = contains-map (λ (e : List ℕ × PathPredicate). e.0) a.names n c in
      let given = contains-given (λ e. option_map (λ i. (i, e.1)) (first_place ns e.0)) a.names m.0 (k, m.0.1) m.1 (grind (arith, m.2, place_of_first ns n k f)) in
      let e = contains-map shown es (k, m.0.1) (subst (λ xs. Contains xs (k, m.0.1)) (sym all) given) in
      let there = contains-mapped (λ (d : ℕ × FieldPathCursor). d.0) e.0 fs (Contains-permutation es fs e.0 moved e.1) in
      grind (arith, IsSome-lookup_from_Contains nat_eq_equiv k fs, there, e)

  -- no two have one position
  differ : IsDistinct (λ j k. j == k) (map (λ e. e.0) fs)
  differ =
      let one = λ (m n : List ℕ) (i : ℕ) (p : first_place ns m ≡ Some i) (q : first_place ns n ≡ Some i). same_Some m n (sym (first_of_place ns m i (sym p)).here ∙ (first_of_place ns n i (sym q)).here) in
      let keys : map (λ e. e.0) es ≡ filter_map (first_place ns) (map (λ e. e.0) a.names) = sym (map-map (λ (e : ℕ × PathPredicate). e.0) shown es) ∙ ap (map (λ (e : ℕ × PathPredicate). e.0)) all ∙ places ns a.names in
      IsDistinct-IsPermutation _ nat_eq_equiv.symm _ _ (IsPermutation-map _ _ _ moved) (rw keys (IsDistinct-from_AllPairs Decides-eqb _ (distinct-given (first_place ns) (map (λ e. e.0) a.names) a.by_name.once one)))

  pub all_entered : AreEntered w ns fs
  all_entered = record {
    order = rising (length ns) fs (λ k d lt.
        let e = get_or fs k d in let n = named e.0 e.1 (Contains-get_or fs k d lt) in
        slice_get_within ns e.0 n.0 n.1.here) falls differ;
    contained = λ k. by_option (lookup (λ j. k == j) fs)
        (λ none. rw none (elim (contained_cases ns w k) [
          | inr e ↦ sym e
          | inl f ↦ sym (contained_first ns w k f.0 f.1 ∙ unnamed w a.names f.0 a.by_name (λ c. let some = entered f.0 k f.1 c in false≢true (rw none at some)))
        ]))
        (λ c some. let e = named k c (Contains-from_lookup (λ i j. (Decides-eqb i j).0) k c fs some) in rw some (e.2 ∙ sym (contained_first ns w k e.0 e.1)));
  }
