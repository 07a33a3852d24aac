-- SPDX-License-Identifier: Apache-2.0
-- SPDX-FileCopyrightText: Copyright the Vortex contributors

-- Lemmas on what is contained after some steps. For callers' proofs `stepping_into` names them in one line:
--     #![tactic(auto, using(dtype_paths::proofs::lemmas::PathsBelow::stepping_into))]
use Rattle.std.proofs.Common.{◌≡◌, ◌≢◌, ◌↔◌, ◌∙◌, ◌<◌, ℕ, zero, suc, drop, List, [], ◌∷◌, ◌++◌, Bool, true, false, ◌||◌, Option, Some, None, IsTrue, IfSome, length, map, arith, refl, sym, ap, subst, ⊎_elim}
use Rattle.std.proofs.lemmas.Bool.{false≢true, or_cases, or_left, or_right}
use Rattle.std.proofs.lemmas.Bool.Decides.{same_from_decides}
use Rattle.std.proofs.lemmas.List.{nil_from_length}
use Rattle.std.specs.Bool.{Decides}
use Rattle.std.specs.FinSet as set
use Rattle.std.specs.List.{Contains, list_any}
use Rattle.std.specs.Prelude.{get_or, is_some}
use Rattle.dtype_paths.specs.Beginning.{Beginning}
use Rattle.dtype_paths.specs.Covering.{covers}
use Rattle.dtype_paths.specs.Cursors.{contains_below, contains_below_if}
use Rattle.dtype_paths.specs.Equality.{same_field}
use Rattle.dtype_paths.specs.EqualityLaws.{same_field-Decides}
use Rattle.dtype_paths.specs.PathOrder.{PathSet}
use Rattle.dtype_paths.specs.PathPredicates.{PathPredicate, after_step, after_steps, contains_above, no_path, AreNames}
use Rattle.dtype_paths.specs.declared.field.Field.{Field}
use Rattle.dtype_paths.specs.declared.field.Field.TheVariants.{Name}
use Rattle.dtype_paths.specs.declared.field_path_cursor.FieldPathCursor.{FieldPathCursor}
use Rattle.dtype_paths.proofs.lemmas.Beginnings.{begins_nil}
use Rattle.dtype_paths.proofs.lemmas.Cases.{by_bool}
use Rattle.dtype_paths.proofs.lemmas.PathLists.{any_from, some_member}
use Rattle.dtype_paths.proofs.lemmas.SetCovers.{covers_word, root_covers}
use Rattle.dtype_paths.proofs.lemmas.SetMembers.{contains_empty, items-Decides, same_by}

pub contained_after : (w : PathPredicate) (p q : List Field) → after_steps p w q ≡ w (p ++ q)
contained_after w [] q = refl
contained_after w (f ∷ p) q = contained_after (after_step f w) p q

-- some contained path is a prefix of q
abbrev Above : PathPredicate → List Field → Type 0
Above w q = (p : List Field) × IsTrue (w p) × Beginning p q

contains_above-Decides : (w : PathPredicate) (q : List Field) → Decides (contains_above w q) (Above w q)
contains_above-Decides w [] = (λ h. ([], h, ([], refl)), λ a. ap w (sym (begins_nil a.0 a.2)) ∙ a.1)
contains_above-Decides w (f ∷ q) =
    let d = contains_above-Decides (after_step f w) q in (
      λ h. ⊎_elim (λ e. ([], e, (f ∷ q, refl))) (λ e. let a = d.0 e in (f ∷ a.0, a.1, (a.2.0, ap (λ r. f ∷ r) a.2.1))) (or_cases (w []) (contains_above (after_step f w) q) h),
      λ a. at a.0 a.1 a.2 d,
    )
  where
    at : (p : List Field) → IsTrue (w p) → Beginning p (f ∷ q) → Decides (contains_above (after_step f w) q) (Above (after_step f w) q) → (w [] || contains_above (after_step f w) q) ≡ true
    at [] h b d = or_left (w []) (contains_above (after_step f w) q) h
    at (g ∷ p) h b d =
        let e : f ∷ q ≡ g ∷ (p ++ b.0) = b.1 in
        or_right (w []) (contains_above (after_step f w) q) (d.1 (p, cc h, (b.0, (cc))))

-- a set covers a path exactly where one of its paths ends on the way
pub covered_on_the_way : (s : PathSet) (q : List Field) → covers s q ≡ contains_above (set.contains s) q
covered_on_the_way s q = grind (arith, covers_word, same_from_decides, contains_above-Decides)

-- where nothing is contained, no path is
pub nothing_contained : (w : PathPredicate) (q : List Field) → w ≡ no_path → w q ≡ false
nothing_contained w q e = ap (λ (v : PathPredicate). v q) e

-- where no path goes on with a step, none that begins with it is contained
pub nowhere_contained : (c : FieldPathCursor) (f : Field) (p : List Field) → no_path ≡ after_step f (contains_below c) → false ≡ contains_below c (f ∷ p)
nowhere_contained c f p e = ap (λ (v : PathPredicate). v p) e

pub nowhere_contained_at : (c : FieldPathCursor) (f : Field) (p q : List Field) → no_path ≡ after_step f (contains_below c) → q ≡ f ∷ p → false ≡ contains_below c q
nowhere_contained_at c f p q e is = nowhere_contained c f p e ∙ ap (contains_below c) (sym is)

-- where a path is contained after a step, there is a cursor after it
pub given_below : (c : FieldPathCursor) (f : Field) (q : List Field) (r : Option FieldPathCursor) → contains_below_if r ≡ after_step f (contains_below c) → IsTrue (contains_below c (f ∷ q)) → IsTrue (is_some r)
given_below c f q (Some x) told h = refl
given_below c f q None told h = absurd (false≢true (ap (λ (v : PathPredicate). v q) told ∙ h))

-- a step leads nowhere exactly where no path goes on with it
pub stepped_nowhere : (c : FieldPathCursor) (f : Field) (r : Option FieldPathCursor) → contains_below_if r ≡ after_step f (contains_below c) → IfSome r (λ _. (q : List Field) × IsTrue (contains_below c (f ∷ q))) → (r ≡ None) ↔ (after_step f (contains_below c) ≡ no_path)
stepped_nowhere c f None told some = (λ _. sym told, λ _. refl)
stepped_nowhere c f (Some x) told some = (λ e. cc, λ none. absurd (false≢true (sym (ap (λ (v : PathPredicate). v some.0) none) ∙ some.1)))

-- on the way, step by step
pub ends_above : (w : PathPredicate) (q : List Field) → w [] ≡ true → true ≡ contains_above w q
ends_above w [] e = sym e
ends_above w (f ∷ q) e = sym (ap (λ b. b || contains_above (after_step f w) q) e)

pub none_above : (w : PathPredicate) (f : Field) (p q : List Field) → w [] ≡ false → no_path ≡ after_step f w → q ≡ f ∷ p → false ≡ contains_above w q
none_above w f p q here e is =
    sym (nothing_above p) ∙ ap (λ (v : PathPredicate). contains_above v p) e ∙ sym (ap (λ b. b || contains_above (after_step f w) p) here) ∙ ap (contains_above w) (sym is)
  where
    nothing_above : (p : List Field) → contains_above no_path p ≡ false
    nothing_above [] = refl
    nothing_above (g ∷ p) = nothing_above p

-- ---- a loop that steps a cursor along a path: `walked_cursors` names all of it in one line

-- the path from a position on
from_step : (xs : List Field) (k : ℕ) (f : Field) → k < length xs → get_or xs k f ≡ f → drop k xs ≡ f ∷ drop (suc k) xs
from_step [] k f l e = absurd (omega (arith, l))
from_step (x ∷ xs) zero f l e = ap (λ y. y ∷ xs) e
from_step (x ∷ xs) (suc k) f l e = from_step xs k f (omega (arith, l)) e

-- where no path ends here or goes on with the step at a position, the path isn't covered
pub stopped_at : (w : PathPredicate) (s : PathSet) (f : Field) (ps r : List Field) (i : ℕ) → i < length ps → get_or ps i f ≡ f → contains_above w (drop i ps) ≡ covers s r → w [] ≡ false → no_path ≡ after_step f w → false ≡ covers s r
stopped_at w s f ps r i l e same here none = none_above w f (drop (suc i) ps) (drop i ps) here none (from_step ps i f l e) ∙ same

-- and nothing is contained along the whole path
pub stopped_nowhere : (w v : PathPredicate) (f : Field) (ps r : List Field) (i : ℕ) → i < length ps → get_or ps i f ≡ f → after_steps (drop i ps) w ≡ after_steps r v → no_path ≡ after_step f w → no_path ≡ after_steps r v
stopped_nowhere w v f ps r i l e same none =
    sym (nothing_after (drop (suc i) ps)) ∙ ap (after_steps (drop (suc i) ps)) none ∙ ap (λ x. after_steps x w) (sym (from_step ps i f l e)) ∙ same
  where
    nothing_after : (p : List Field) → after_steps p no_path ≡ no_path
    nothing_after [] = refl
    nothing_after (g ∷ p) = nothing_after p

pub stopped_nowhere_at : (w v : PathPredicate) (f : Field) (ps r x : List Field) (i : ℕ) → i < length ps → get_or ps i f ≡ f → after_steps (drop i ps) w ≡ after_steps r v → no_path ≡ after_step f w → false ≡ after_steps r v x
stopped_nowhere_at w v f ps r x i l e same none = ap (λ (z : PathPredicate). z x) (stopped_nowhere w v f ps r i l e same none)

pub ruleset walked_cursors = (stopped_at, stopped_nowhere, stopped_nowhere_at, covered_on_the_way, ends_above)

-- the names by which paths go on, by the first of them
pub first_named : (w : PathPredicate) (ns rest : List (List ℕ × PathPredicate)) (e : List ℕ × PathPredicate) → AreNames w ns → ns ≡ e ∷ rest → after_step (Name e.0) w ≢ no_path
first_named w ns rest e a is = (a.exact e.0).0 (subst (λ es. Contains (map (λ (d : List ℕ × PathPredicate). d.0) es) e.0) (sym is) (0, omega arith, refl))

pub none_named : (w : PathPredicate) (ns : List (List ℕ × PathPredicate)) (n : List ℕ) → AreNames w ns → ns ≡ [] → after_step (Name n) w ≡ no_path
none_named w ns n a is = λ i p. by_bool (w (Name n ∷ p))
    (λ e.
    let c = (a.exact n).1 (λ z. let no : true ≡ false = sym e ∙ ap (λ (v : PathPredicate). v p) z in cc) in
    let none = subst (λ es. Contains (map (λ (d : List ℕ × PathPredicate). d.0) es) n) is c in absurd (omega (arith, none.1)))
    (λ e. e) i

-- No name goes on where none is counted, and the converse. The first parts say nothing: they show a search what to match.
pub unnamed : (c : FieldPathCursor) (n : List ℕ) (q : List Field) → (contains_below c (Name n ∷ q) ≡ contains_below c (Name n ∷ q)) × ((ns : List (List ℕ × PathPredicate)) → AreNames (contains_below c) ns → length ns ≡ 0 → contains_below c (Name n ∷ q) ≡ false)
unnamed c n q = (refl, λ ns a l. ap (λ (v : PathPredicate). v q) (none_named (contains_below c) ns n a (nil_from_length ns l)))

pub names_none : (ns : List (List ℕ × PathPredicate)) → (length ns ≡ length ns) × ((c : FieldPathCursor) → AreNames (contains_below c) ns → (contains_below c ≡ contains_below c) × (((n : List ℕ) (q : List Field) → contains_below c (Name n ∷ q) ≡ false) → length ns ≡ 0))
names_none [] = (refl, λ c a. (refl, λ none. refl))
names_none (e ∷ ns) = (refl, λ c a. (refl, λ none. absurd (first_named (contains_below c) (e ∷ ns) ns e a refl (λ i q. none e.0 q i))))

-- ---- the first steps into a set, in words of the set. `set_cursors` names all of it in one line.

-- whether a path begins with a step
abbrev begins_with : Field → List Field → Bool
begins_with f [] = false
begins_with f (g ∷ q) = same_field f g

-- where paths go on with a step, there is one
pub step_contained : (s : PathSet) (f : Field) → after_step f (set.contains s) ≢ no_path → (q : List Field) × IsTrue (set.contains s (f ∷ q))
step_contained s f goes = by_bool (list_any (begins_with f) (set.items s)) found (λ none. absurd (goes (λ i q. nowhere none q i)))
  where
    at : (p : List Field) → Contains (set.items s) p → begins_with f p ≡ true → (q : List Field) × IsTrue (set.contains s (f ∷ q))
    at [] c t = absurd (false≢true t)
    at (g ∷ q) c t = (q, ap (λ x. set.contains s (x ∷ q)) ((same_field-Decides f g).0 t) ∙ (items-Decides s (g ∷ q)).1 c)

    found : list_any (begins_with f) (set.items s) ≡ true → (q : List Field) × IsTrue (set.contains s (f ∷ q))
    found e = let w = some_member (begins_with f) (set.items s) e in at w.0 w.1 w.2

    nowhere : list_any (begins_with f) (set.items s) ≡ false → (q : List Field) → set.contains s (f ∷ q) ≡ false
    nowhere none q = by_bool (set.contains s (f ∷ q))
        (λ h. absurd (false≢true (sym none ∙ any_from (begins_with f) (f ∷ q) (set.items s) ((items-Decides s (f ∷ q)).0 h) ((same_field-Decides f f).1 refl))))
        (λ h. h)

pub contained_goes_on : (s : PathSet) (f : Field) (q : List Field) → (set.contains s (f ∷ q) ≡ set.contains s (f ∷ q)) × (IsTrue (set.contains s (f ∷ q)) → after_step f (set.contains s) ≡ no_path → ⊥)
contained_goes_on s f q = (refl, λ h none. false≢true (sym (ap (λ (v : PathPredicate). v q) none) ∙ h))

-- a path of one step is covered where the root is contained, or that path
pub column_covered : (s : PathSet) (f : Field) → covers s (f ∷ []) ≡ (set.contains s [] || set.contains s (f ∷ []))
column_covered s f = covered_on_the_way s (f ∷ [])

pub given_step : (c : FieldPathCursor) (s : PathSet) (f : Field) (q : List Field) (r : Option FieldPathCursor) → contains_below c ≡ set.contains s → contains_below_if r ≡ after_step f (contains_below c) → IsTrue (set.contains s (f ∷ q)) → IsTrue (is_some r)
given_step c s f q r is told h = given_below c f q r told (ap (λ (v : PathPredicate). v (f ∷ q)) is ∙ h)

-- where no path goes on with a step
pub nowhere_in : (c : FieldPathCursor) (s : PathSet) (f : Field) (p : List Field) → contains_below c ≡ set.contains s → no_path ≡ after_step f (contains_below c) → set.contains s (f ∷ p) ≡ false
nowhere_in c s f p is none = sym (ap (λ (v : PathPredicate). v p) none ∙ ap (λ (v : PathPredicate). v (f ∷ p)) is)

pub nowhere_further : (c : FieldPathCursor) (s : PathSet) (f g : Field) → contains_below c ≡ set.contains s → no_path ≡ after_step f (contains_below c) → no_path ≡ after_step g (after_step f (set.contains s))
nowhere_further c s f g is none = λ i p. sym (nowhere_in c s f (g ∷ p) is none) i

-- nor where none goes on with the step after
pub nowhere_nested : (c below : FieldPathCursor) (s : PathSet) (f g : Field) (q : List Field) → contains_below c ≡ set.contains s → contains_below below ≡ after_step f (contains_below c) → no_path ≡ after_step g (contains_below below) → set.contains s (f ∷ g ∷ q) ≡ false
nowhere_nested c below s f g q is after none = sym (nowhere_contained below g q none ∙ ap (λ (v : PathPredicate). v (g ∷ q)) after ∙ ap (λ (v : PathPredicate). v (f ∷ g ∷ q)) is)

pub nowhere_covered : (c : FieldPathCursor) (s : PathSet) (f : Field) (p : List Field) → contains_below c ≡ set.contains s → contains_below c [] ≡ false → no_path ≡ after_step f (contains_below c) → covers s (f ∷ p) ≡ false
nowhere_covered c s f p is here none = covered_on_the_way s (f ∷ p) ∙ sym (none_above (set.contains s) f p (f ∷ p) (sym (ap (λ (v : PathPredicate). v []) is) ∙ here) (none ∙ ap (after_step f) is) refl)

-- nothing is contained exactly where the set has no path
pub none_contained : (c : FieldPathCursor) (s : PathSet) → contains_below c ≡ set.contains s → ((q : List Field) → set.contains s q ≡ false) → contains_below c ≡ no_path
none_contained c s is none = is ∙ (λ i q. none q i)

pub uncontained_in : (c : FieldPathCursor) (s : PathSet) (q : List Field) → contains_below c ≡ set.contains s → contains_below c ≡ no_path → set.contains s q ≡ false
uncontained_in c s q is none = ap (λ (v : PathPredicate). v q) (sym is ∙ none)

pub empty_uncontained : (c : FieldPathCursor) (s : PathSet) → contains_below c ≡ set.contains s → s ≡ set.empty → contains_below c ≡ no_path
empty_uncontained c s is e = none_contained c s is (λ q. ap (λ (x : PathSet). set.contains x q) e ∙ contains_empty q)

pub uncontained_empty : (c : FieldPathCursor) (s : PathSet) → contains_below c ≡ set.contains s → contains_below c ≡ no_path → s ≡ set.empty
uncontained_empty c s is none = same_by s set.empty (λ q. uncontained_in c s q is none ∙ sym (contains_empty q))

pub ruleset set_cursors = (step_contained, contained_goes_on, column_covered, root_covers, given_step, nowhere_in, nowhere_further, nowhere_nested, nowhere_covered, none_contained, uncontained_in, empty_uncontained, uncontained_empty)

-- so no name goes on. The first part says nothing: it shows a search the call to match.
pub none_read : (c : FieldPathCursor) (s : PathSet) → (contains_below c ≡ contains_below c) × (contains_below c ≡ set.contains s → s ≡ set.empty → (ns : List (List ℕ × PathPredicate)) → AreNames (contains_below c) ns → length ns ≡ 0)
none_read c s = (refl, λ is e ns a. ((names_none ns).1 c a).1 (λ n q. ap (λ (v : PathPredicate). v (Name n ∷ q)) is ∙ ap (λ (x : PathSet). set.contains x (Name n ∷ q)) e ∙ contains_empty (Name n ∷ q)))

-- what is contained after some steps, and whether anything is
pub ruleset stepping_into = (stepped_nowhere, contained_after, covered_on_the_way, nothing_contained, nowhere_contained, nowhere_contained_at, given_below, ends_above, none_above, first_named, none_named, unnamed, names_none, empty_uncontained, uncontained_empty, none_read)
