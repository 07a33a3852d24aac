-- SPDX-License-Identifier: Apache-2.0
-- SPDX-FileCopyrightText: Copyright the Vortex contributors

-- Lemmas on the members of sets of paths.
use Rattle.std.specs.Prelude.{◌≡◌, ◌≢◌, ◌↔◌, ◌<◌, ◌⊎◌, ℕ, true, false, IsTrue, List, [], ◌∷◌, ◌++◌, ◌||◌, get_or, length, map, refl}
use Rattle.std.specs.Bool.{Decides}
use Rattle.std.specs.Borrow.{Bor}
use Rattle.std.specs.FinSet as set
use Rattle.std.specs.List.{Contains}
use Rattle.std.proofs.Common.{ap, arith, sym, inl, inr, ◌∙◌, ⊎_elim}
use Rattle.std.proofs.Math.Bool.{or_comm, or-false}
use Rattle.std.proofs.lemmas.Bool.{false≢true, or_cases, or_left, or_right}
use Rattle.std.proofs.lemmas.Bool.Decides.{same_from_decides}
use Rattle.std.specs.Ordering.{eq_by_cmp}
use Rattle.std.proofs.lemmas.List.Folds.{list_any-append}
use Rattle.std.proofs.lemmas.Map.Made.{is_member-Decides}
use Rattle.dtype_paths.specs.Equality.{same_path}
use Rattle.dtype_paths.specs.EqualityLaws.{same_path-Decides}
use Rattle.dtype_paths.specs.PathOrder.{PathSet, path_cmp}
use Rattle.dtype_paths.specs.declared.field.Field.{Field}
use Rattle.dtype_paths.specs.PathOrderLaws.{any_tied, path_cmp_total, path_ties, same_tied}

-- the items are the members, and so is a list's
pub items-Decides : (s : PathSet) (q : List Field) → Decides (set.contains s q) (Contains (set.items s) q)
items-Decides s q = rw (set.contains-items s q, ← any_tied q (set.items s)) (is_member-Decides same_path-Decides (set.items s) q)

pub from_list-Decides : (ps : List (List Field)) (q : List Field) → Decides (set.contains (set.from_list {R = path_cmp} ps) q) (Contains ps q)
from_list-Decides ps q = rw (set.contains-from_list path_cmp_total ps q, ← any_tied q ps) (is_member-Decides same_path-Decides ps q)

-- lists with the same members have equal sets
pub same_lists : (ps qs : List (List Field)) → ((q : List Field) → Contains ps q ↔ Contains qs q) → set.from_list {R = path_cmp} ps ≡ set.from_list qs
same_lists ps qs same = set.same_set path_cmp_total same_tied _ _ (λ q. grind (arith, from_list-Decides ps q, from_list-Decides qs q, same q))

-- a set is made of its items
pub of_items : (s : PathSet) → s ≡ set.from_list (set.items s)
of_items s = set.same_set path_cmp_total same_tied s _ (λ q. same_from_decides _ _ (items-Decides s q) (from_list-Decides (set.items s) q))

pub same_by : (s t : PathSet) → ((q : List Field) → set.contains s q ≡ set.contains t q) → s ≡ t
same_by = set.same_set path_cmp_total same_tied

pub contains_empty : (q : List Field) → set.contains (set.empty {R = path_cmp}) q ≡ false
contains_empty q = set.contains-empty path_cmp q

pub contains_insert : (s : PathSet) (p q : List Field) → set.contains (set.insert s p) q ≡ (same_path q p || set.contains s q)
contains_insert s p q = set.contains-insert path_cmp_total s p q ∙ ap (λ b. b || set.contains s q) (sym (path_ties q p))

pub contains_union : (s t : PathSet) (q : List Field) → set.contains (set.union s t) q ≡ (set.contains s q || set.contains t q)
contains_union s t q = set.contains-union path_cmp_total s t q

-- what was put in is in
pub insert_has : (s : PathSet) (p : List Field) → set.contains (set.insert s p) p ≡ true
insert_has s p = contains_insert s p p ∙ ap (λ b. b || set.contains s p) ((same_path-Decides p p).1 refl)

-- what was in stays in
pub insert_keeps : (s : PathSet) (p q : List Field) → set.contains s q ≡ true → set.contains (set.insert s p) q ≡ true
insert_keeps s p q h = contains_insert s p q ∙ or_right (same_path q p) (set.contains s q) h

-- of other paths nothing changes
pub insert_other : (s : PathSet) (p q : List Field) → q ≢ p → set.contains (set.insert s p) q ≡ set.contains s q
insert_other s p q other = grind (arith, contains_insert s p q, (same_path-Decides q p).0, other)

-- a path that is in changes nothing
pub insert_known : (s : PathSet) (p : List Field) → set.contains s p ≡ true → set.insert s p ≡ s
insert_known s p h = same_by _ _ (λ q. grind (arith, contains_insert s p q, (same_path-Decides q p).0, h))

-- what is in after that was put in, or was in
pub insert_only : (s : PathSet) (p q : List Field) → set.contains (set.insert s p) q ≡ true → (q ≡ p) ⊎ (set.contains s q ≡ true)
insert_only s p q h = ⊎_elim (λ e. inl ((same_path-Decides q p).0 e)) inr (or_cases (same_path q p) (set.contains s q) (sym (contains_insert s p q) ∙ h))

-- in a set of one path is that one
pub one_only : (p q : List Field) → set.contains {R = path_cmp} (set.insert set.empty p) q ≡ true → q ≡ p
one_only p q h = ⊎_elim (λ e. e) (λ e. absurd (false≢true (sym (contains_empty q) ∙ e))) (insert_only set.empty p q h)

pub insert_again : (s : PathSet) (p : List Field) → set.insert (set.insert s p) p ≡ set.insert s p
insert_again s p = insert_known (set.insert s p) p (insert_has s p)

pub insert_swap : (s : PathSet) (p q : List Field) → set.insert (set.insert s p) q ≡ set.insert (set.insert s q) p
insert_swap s p q = same_by _ _ (λ r. grind (arith, contains_insert))

-- ---- the union

pub union_keeps : (s t : PathSet) (q : List Field) → set.contains s q ≡ true → set.contains (set.union s t) q ≡ true
union_keeps s t q h = contains_union s t q ∙ or_left (set.contains s q) (set.contains t q) h

pub union_has : (s t : PathSet) (q : List Field) → set.contains t q ≡ true → set.contains (set.union s t) q ≡ true
union_has s t q h = contains_union s t q ∙ or_right (set.contains s q) (set.contains t q) h

-- what is in after that was in one of them
pub union_only : (s t : PathSet) (q : List Field) → set.contains (set.union s t) q ≡ true → (set.contains s q ≡ true) ⊎ (set.contains t q ≡ true)
union_only s t q h = or_cases (set.contains s q) (set.contains t q) (sym (contains_union s t q) ∙ h)

pub union_none : (s : PathSet) → set.union s (set.empty {R = path_cmp}) ≡ s
union_none s = same_by _ _ (λ q. contains_union s _ q ∙ ap (λ b. set.contains s q || b) (contains_empty q) ∙ or-false (set.contains s q))

pub union_with_none : (s : PathSet) → set.union (set.empty {R = path_cmp}) s ≡ s
union_with_none s = same_by _ _ (λ q. contains_union _ s q ∙ ap (λ b. b || set.contains s q) (contains_empty q))

-- in either order; in no ruleset, since a search could turn a union forever
pub union_swap : (s t : PathSet) → set.union s t ≡ set.union t s
union_swap s t = same_by _ _ (λ q. contains_union s t q ∙ or_comm (set.contains s q) (set.contains t q) ∙ sym (contains_union t s q))

pub union_insert : (s t : PathSet) (p : List Field) → set.union s (set.insert t p) ≡ set.insert (set.union s t) p
union_insert s t p = same_by _ _ (λ q. grind (arith, contains_insert, contains_union))

-- of an insertion into the first set
pub insert_union : (s t : PathSet) (p : List Field) → set.union (set.insert s p) t ≡ set.insert (set.union s t) p
insert_union s t p = union_swap (set.insert s p) t ∙ union_insert t s p ∙ ap (λ x. set.insert x p) (union_swap t s)

-- a loop that goes over the paths of a set to their end has inserted all of them
pub union_ended : (s a b : PathSet) (xs : List (Bor (List Field))) → set.union s (set.from_list (map (λ x. x.now) xs)) ≡ set.union a b → length xs ≡ 0 → s ≡ set.union a b
union_ended s a b [] same end = sym (union_none s) ∙ same
union_ended s a b (x ∷ xs) same end = absurd (omega (arith, end))

-- what is put in again changes nothing
pub union_again : (s t u : PathSet) → u ≡ t → set.union (set.union s t) u ≡ set.union s t
union_again s t u same = rw same (same_by _ _ (λ q. grind (arith, contains_union)))

-- ---- a set within another

pub within_insert : (s : PathSet) (p : List Field) → set.is_subset s (set.insert s p) ≡ true
within_insert s p = set.contains-is_subset path_cmp_total s (set.insert s p) (λ q h. insert_keeps s p q h)

pub within_union : (s t : PathSet) → set.is_subset s (set.union s t) ≡ true
within_union s t = set.contains-is_subset path_cmp_total s (set.union s t) (λ q h. union_keeps s t q h)

pub union_within : (s t : PathSet) → set.is_subset t (set.union s t) ≡ true
union_within s t = set.contains-is_subset path_cmp_total t (set.union s t) (λ q h. union_has s t q h)

-- ---- the set of a list

pub of_push : (ps : List (List Field)) (p : List Field) → set.from_list {R = path_cmp} (ps ++ p ∷ []) ≡ set.insert (set.from_list ps) p
of_push ps p = set.from_list_push path_cmp_total same_tied ps p

pub of_append : (ps qs : List (List Field)) → set.from_list {R = path_cmp} (ps ++ qs) ≡ set.union (set.from_list ps) (set.from_list qs)
of_append ps qs = same_by _ _ (λ q. grind (arith, contains_union, set.contains-from_list path_cmp_total (ps ++ qs) q, set.contains-from_list path_cmp_total ps q, set.contains-from_list path_cmp_total qs q, list_any-append (eq_by_cmp path_cmp q) ps qs))

pub of_has : (ps : List (List Field)) (q : List Field) → Contains ps q → set.contains (set.from_list {R = path_cmp} ps) q ≡ true
of_has ps q c = (from_list-Decides ps q).1 c

pub of_only : (ps : List (List Field)) (q : List Field) → set.contains (set.from_list {R = path_cmp} ps) q ≡ true → Contains ps q
of_only ps q h = (from_list-Decides ps q).0 h

-- by position: a search opens `Contains` where it is given, and can't put it together again
pub of_has_at : (ps : List (List Field)) (q : List Field) (k : ℕ) → get_or ps k q ≡ q → k < length ps → set.contains (set.from_list {R = path_cmp} ps) q ≡ true
of_has_at ps q k e l = of_has ps q (k, l, e)

-- a list's paths are the members of its set
pub listed : (ps : List (List Field)) (s : PathSet) (q : List Field) → set.from_list ps ≡ s → Contains ps q ↔ IsTrue (set.contains s q)
listed ps s q is = (λ c. ap (λ x. set.contains x q) (sym is) ∙ (from_list-Decides ps q).1 c, λ h. (from_list-Decides ps q).0 (ap (λ x. set.contains x q) is ∙ h))
