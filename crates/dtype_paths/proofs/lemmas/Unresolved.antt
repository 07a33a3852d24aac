-- SPDX-License-Identifier: Apache-2.0
-- SPDX-FileCopyrightText: Copyright the Vortex contributors

-- The paths of a set that don't exist in a type. `unresolved_paths` names all that callers need in one line.
use Rattle.std.specs.Prelude.{◌≡◌, ◌≢◌, ◌↔◌, ◌≤◌, IsTrue, List, [], ◌∷◌, Bool, not, ◌&&◌, is_some, map, refl}
use Rattle.std.specs.Bool.{Decides}
use Rattle.std.specs.Borrow.{Bor}
use Rattle.std.specs.FinSet as set
use Rattle.std.specs.List.{All, filter, list_any}
use Rattle.std.proofs.Common.{ap, arith, sym, subst, ◌∙◌}
use Rattle.std.proofs.Math.Bool.{and_comm}
use Rattle.std.proofs.lemmas.Bool.{false≢true}
use Rattle.std.proofs.lemmas.Bool.Decides.{same_from_decides}
use Rattle.std.proofs.lemmas.List.Elements.{All-head}
use Rattle.std.proofs.lemmas.List.Kept.{AllPairs-filter}
use Rattle.std.proofs.lemmas.Map.Views.{any-filter_same}
use Rattle.dtype_base.specs.Distinct.{Distinct}
use Rattle.dtype_types.specs.tree.Tree.{Tree}
use Rattle.dtype_paths.specs.Along.{along}
use Rattle.dtype_paths.specs.At.{ExistsIn}
use Rattle.dtype_paths.specs.Equality.{same_path}
use Rattle.dtype_paths.specs.EqualityLaws.{same_path-Decides}
use Rattle.dtype_paths.specs.PathOrder.{PathSet, path_cmp}
use Rattle.dtype_paths.specs.PathOrderLaws.{any_tied, path_cmp_total, same_tied}
use Rattle.dtype_paths.specs.Unresolved.{unresolved}
use Rattle.dtype_paths.specs.declared.field.Field.{Field}
use Rattle.dtype_paths.proofs.lemmas.Cases.{by_bool, by_option}
use Rattle.dtype_paths.proofs.lemmas.Counts.{part_len}
use Rattle.dtype_paths.proofs.lemmas.LentPaths.{all_mapped}
use Rattle.dtype_paths.proofs.lemmas.SetMembers.{contains_empty, from_list-Decides, same_by}
use Rattle.dtype_paths.proofs.lemmas.Walks.{along-At, At-along}

-- whether a path exists is told by what is along it
pub exists-Decides : (t : Tree) (p : List Field) → Decides (is_some (along t p)) (ExistsIn t p)
exists-Decides t p = (
  λ h. by_option (along t p) (λ none. absurd (let z = rw none at h in cc)) (λ u is. record { found = u; at = along-At t p u is }),
  λ e. ap is_some (At-along t p e.found e.at),
)

-- of a test that was asked, what its negation says
pub unresolved_test : (t : Tree) (p : List Field) (b : Bool) → (IsTrue b ↔ ExistsIn t p) → not b ≡ not (is_some (along t p))
unresolved_test t p b told = ap not (same_from_decides b _ told (exists-Decides t p))

-- a mapped list, filtered
map_filter : {A B : Type 0} (f : A → B) (test : B → Bool) (xs : List A) → map f (filter (λ x. test (f x)) xs) ≡ filter test (map f xs)
map_filter f test [] = refl
map_filter f test (x ∷ xs) = grind (arith, map_filter f test xs)

contains_retained : (s : PathSet) (test : List Field → Bool) (q : List Field) → set.contains (set.retain s test) q ≡ (set.contains s q && test q)
contains_retained s test q = set.contains-retain s test q (λ x h. ap test (sym (same_tied q x h)))

-- the set of what a test leaves of a list
of_filtered : (test : List Field → Bool) (ps : List (List Field)) → set.from_list (filter test ps) ≡ set.retain (set.from_list {R = path_cmp} ps) test
of_filtered test ps = same_by _ _ (λ q.
    let listed = λ (xs : List (List Field)). set.contains-from_list path_cmp_total xs q ∙ sym (any_tied q xs) in
    listed (filter test ps)
    ∙ any-filter_same (same_path q) test (test q) (λ k h. ap test (sym ((same_path-Decides q k).0 h))) ps
    ∙ and_comm (test q) (list_any (same_path q) ps)
    ∙ ap (λ b. b && test q) (sym (listed ps))
    ∙ sym (contains_retained (set.from_list ps) test q))

-- what is left of the paths that a set lends
pub lent_unresolved : (ps qs : List (Bor (List Field))) (s : PathSet) (t : Tree) → set.from_list (map (λ x. x.now) ps) ≡ s → qs ≡ filter (λ x. not (is_some (along t x.now))) ps → set.from_list (map (λ x. x.now) qs) ≡ unresolved s t
unfolding unresolved
lent_unresolved ps qs s t is left =
    ap (λ (xs : List (Bor (List Field))). set.from_list {R = path_cmp} (map (λ x. x.now) xs)) left
    ∙ ap (set.from_list {R = path_cmp}) (map_filter (λ x. x.now) (λ p. not (is_some (along t p))) ps)
    ∙ of_filtered (λ p. not (is_some (along t p))) (map (λ x. x.now) ps)
    ∙ ap (λ (x : PathSet). set.retain x (λ p. not (is_some (along t p)))) is

pub lent_once : (ps qs : List (Bor (List Field))) (t : Tree) → Distinct (map (λ x. x.now) ps) → qs ≡ filter (λ x. not (is_some (along t x.now))) ps → Distinct (map (λ x. x.now) qs)
lent_once ps qs t once left =
    subst Distinct
    (sym (ap (map (λ (x : Bor (List Field)). x.now)) left ∙ map_filter (λ x. x.now) (λ p. not (is_some (along t p))) ps))
    (AllPairs-filter (λ x y. x ≢ y) (λ p. not (is_some (along t p))) (map (λ x. x.now) ps) once)

-- a path of the set is left exactly where there is no type at it
pub unresolved_word : (s : PathSet) (t : Tree) (p : List Field) → IsTrue (set.contains (unresolved s t) p) ↔ (IsTrue (set.contains s p) × ¬ (ExistsIn t p))
unfolding unresolved
unresolved_word s t p = grind (arith, contains_retained, exists-Decides)

-- each of those listed
pub each_unresolved : (ps : List (Bor (List Field))) (s : PathSet) (t : Tree) → set.from_list (map (λ x. x.now) ps) ≡ unresolved s t → All (λ x. IsTrue (set.contains s x.now) × ¬ (ExistsIn t x.now)) ps
each_unresolved ps s t is = all_mapped (λ x. x.now) (λ q. IsTrue (set.contains s q) × ¬ (ExistsIn t q)) ps (λ q c. (unresolved_word s t q).0 (ap (λ x. set.contains x q) (sym is) ∙ (from_list-Decides (map (λ x. x.now) ps) q).1 c))

-- none is listed exactly where all exist
pub none_unresolved : (ps : List (Bor (List Field))) (s : PathSet) (t : Tree) → set.from_list (map (λ x. x.now) ps) ≡ unresolved s t → (ps ≡ []) ↔ ((p : List Field) → IsTrue (set.contains s p) → ExistsIn t p)
none_unresolved ps s t is = (
  λ e p m. by_bool (is_some (along t p)) (λ h. (exists-Decides t p).0 h)
      (λ h. absurd (false≢true (sym (contains_empty p) ∙ ap (λ xs. set.contains (set.from_list {R = path_cmp} (map (λ (x : Bor (List Field)). x.now) xs)) p) (sym e) ∙ ap (λ x. set.contains x p) is ∙ (unresolved_word s t p).1 (m, λ x. false≢true (sym h ∙ (exists-Decides t p).1 x))))),
  λ all. go ps (each_unresolved ps s t is) all,
)
  where
    go : (xs : List (Bor (List Field))) → All (λ x. IsTrue (set.contains s x.now) × ¬ (ExistsIn t x.now)) xs → ((p : List Field) → IsTrue (set.contains s p) → ExistsIn t p) → xs ≡ []
    go [] each all = refl
    go (x ∷ xs) each all =
        let here = All-head (λ (y : Bor (List Field)). IsTrue (set.contains s y.now) × ¬ (ExistsIn t y.now)) x xs each in
        absurd (here.1 (all x.now here.0))

-- at most as many are missing as the set has, and of no path none is
pub unresolved_len : (s : PathSet) (t : Tree) → set.len (unresolved s t) ≤ set.len s
unresolved_len s t = part_len (unresolved s t) s (λ p h. ((unresolved_word s t p).0 h).0)

pub nothing_unresolved : (s : PathSet) (t : Tree) → (unresolved s t ≡ unresolved s t) × (s ≡ set.empty → unresolved s t ≡ set.empty)
nothing_unresolved s t = grind (arith, same_by, by_bool, false≢true, contains_empty, unresolved_word)

pub ruleset unresolved_paths = (unresolved_word, each_unresolved, none_unresolved, unresolved_len, nothing_unresolved)
