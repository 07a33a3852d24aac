-- SPDX-License-Identifier: Apache-2.0
-- SPDX-FileCopyrightText: Copyright the Vortex contributors

-- Lemmas on what sets of paths cover, and on their least paths.
use Rattle.std.specs.Prelude.{◌≡◌, ◌≢◌, ◌↔◌, ◌⊎◌, Bool, true, false, IsTrue, List, [], ◌∷◌, ◌++◌, not, ◌||◌, ◌&&◌, ◌<◌, ◌≤◌, ℕ, get_or, length, refl}
use Rattle.std.specs.Bool.{Decides}
use Rattle.std.specs.FinSet as set
use Rattle.std.specs.List.{Any, Contains, list_any, starts_with}
use Rattle.std.proofs.Common.{ap, arith, inl, inr, subst, suc, sym, zero, ◌∙◌, ⊎_elim}
use Rattle.std.proofs.lemmas.Bool.{and_from, and_parts, false_from_ne_true, false≢true, not-true, not_from_false, or_cases, or_left, or_right}
use Rattle.std.proofs.lemmas.Bool.Decides.{Decides-and, Decides-not, not_from_Decides, same_from_decides}
use Rattle.std.proofs.lemmas.List.Folds.{Any-from_list_any, list_any-append, list_any-from_Any}
use Rattle.std.proofs.lemmas.Map.Made.{is_member-Decides, IsDistinct-from_AllPairs, length-le_from_is_member}
use Rattle.dtype_base.specs.Distinct.{Distinct}
use Rattle.dtype_paths.specs.Beginning.{Beginning}
use Rattle.dtype_paths.specs.Covering.{SameCoverage, begins_below, covers, least}
use Rattle.dtype_paths.specs.Equality.{same_field, same_path}
use Rattle.dtype_paths.specs.EqualityLaws.{same_path-Decides, same_path_equiv}
use Rattle.dtype_paths.specs.Overlaps.{Overlaps}
use Rattle.dtype_paths.specs.PathOrder.{PathSet, path_cmp}
use Rattle.dtype_paths.specs.declared.field.Field.{Field}
use Rattle.dtype_paths.proofs.lemmas.Beginnings.{beginning_both, beginning_refl, beginning_shorter, beginning_trans, either_begins, root_begins, starts_with-Decides}
use Rattle.dtype_paths.proofs.lemmas.Cases.{by_bool}
use Rattle.dtype_paths.proofs.lemmas.PathLists.{any_from, some_member}
use Rattle.dtype_paths.specs.PathOrderLaws.{same_tied}
use Rattle.dtype_paths.proofs.lemmas.SetMembers.{of_has, contains_empty, from_list-Decides, insert_has, items-Decides, of_append, of_has_at, of_items, of_only, one_only, same_by}

-- ---- what is covered

-- whether one of the paths is a prefix of q, of a list with these members
covered_by : (ps : List (List Field)) (q : List Field) (has : List Field → Bool) → ((p : List Field) → Decides (has p) (Contains ps p)) → Decides (list_any (λ p. starts_with same_field q p) ps) ((p : List Field) × IsTrue (has p) × Beginning p q)
covered_by ps q has told = (
  λ h. let w = some_member (λ p. starts_with same_field q p) ps h in (w.0, (told w.0).1 w.1, (starts_with-Decides w.0 q _ refl).0 w.2),
  λ c. any_from (λ p. starts_with same_field q p) c.0 ps ((told c.0).0 c.1) ((starts_with-Decides c.0 q _ refl).1 c.2),
)

pub covers_word : (s : PathSet) (q : List Field) → IsTrue (covers s q) ↔ ((p : List Field) × IsTrue (set.contains s p) × Beginning p q)
unfolding covers
covers_word s q = covered_by (set.items s) q (set.contains s) (items-Decides s)

-- told by any list with the members
pub covers_of : (ps : List (List Field)) (q : List Field) → covers (set.from_list ps) q ≡ list_any (λ p. starts_with same_field q p) ps
covers_of ps q = same_from_decides _ _ (covers_word (set.from_list ps) q) (covered_by ps q (set.contains (set.from_list ps)) (from_list-Decides ps))

pub covers_any : (ps : List (List Field)) (q : List Field) → IsTrue (covers (set.from_list ps) q) ↔ Any (λ p. IsTrue (starts_with same_field q p)) ps
covers_any ps q = grind (arith, Any-from_list_any, covers_of, list_any-from_Any)

pub covers_none : (q : List Field) → covers set.empty q ≡ false
covers_none q = covers_of [] q

pub none_covered : (s : PathSet) (q : List Field) → s ≡ set.empty → covers s q ≡ false
none_covered s q e = ap (λ t. covers t q) e ∙ covers_none q

pub covers_insert : (s : PathSet) (p q : List Field) → covers (set.insert s p) q ≡ (starts_with same_field q p || covers s q)
covers_insert s p q = grind (arith, of_items s, covers_of (p ∷ set.items s) q, covers_of (set.items s) q)

pub inserted_covers : (s t : PathSet) (p q : List Field) → t ≡ set.insert s p → (covers t q ≡ true) ↔ ((covers s q ≡ true) ⊎ Beginning p q)
inserted_covers s t p q e = grind (arith, covers_insert s p q, e, starts_with-Decides p q _ refl)

-- What is covered after an insertion is what lies below the path, and what was covered. The first part says nothing: it
-- shows a search the call to match.
pub insert_covered : (s : PathSet) (p q : List Field) → (covers (set.insert s p) q ≡ covers (set.insert s p) q) × (covers (set.insert s p) q ≡ true → Beginning p q ⊎ (covers s q ≡ true)) × (p ≡ [] → covers (set.insert s p) q ≡ true) × (Beginning p q → covers (set.insert s p) q ≡ true)
insert_covered s p q = let t = inserted_covers s (set.insert s p) p q refl in (refl, λ h. ⊎_elim inr inl (t.0 h), λ e. t.1 (inr (root_begins p q e)), λ b. t.1 (inr b))

pub covers_union : (s t : PathSet) (q : List Field) → covers (set.union s t) q ≡ (covers s q || covers t q)
covers_union s t q = rw (of_items s, of_items t, ← of_append (set.items s) (set.items t), covers_of (set.items s ++ set.items t) q, covers_of (set.items s) q, covers_of (set.items t) q) (list_any-append (λ p. starts_with same_field q p) (set.items s) (set.items t))

pub covers_left : (s t : PathSet) (q : List Field) → covers s q ≡ true → covers (set.union s t) q ≡ true
covers_left s t q h = covers_union s t q ∙ or_left (covers s q) (covers t q) h

pub covers_right : (s t : PathSet) (q : List Field) → covers t q ≡ true → covers (set.union s t) q ≡ true
covers_right s t q h = covers_union s t q ∙ or_right (covers s q) (covers t q) h

-- What a union covers is what one of the two covers. The first part says nothing: it shows a search the call to match.
pub union_covered : (s t : PathSet) (q : List Field) → (covers (set.union s t) q ≡ covers (set.union s t) q) × (covers (set.union s t) q ≡ true → (covers s q ≡ true) ⊎ (covers t q ≡ true)) × (covers s q ≡ true → covers (set.union s t) q ≡ true) × (covers t q ≡ true → covers (set.union s t) q ≡ true)
union_covered s t q = (refl, λ h. or_cases (covers s q) (covers t q) (sym (covers_union s t q) ∙ h), covers_left s t q, covers_right s t q)

-- members are covered, and what is below
pub covers_member : (s : PathSet) (p : List Field) → set.contains s p ≡ true → covers s p ≡ true
covers_member s p h = (covers_word s p).1 (p, h, beginning_refl p)

pub of_covers_at : (ps : List (List Field)) (q : List Field) (k : ℕ) → get_or ps k q ≡ q → k < length ps → covers (set.from_list ps) q ≡ true
of_covers_at ps q k e l = covers_member (set.from_list ps) q (of_has_at ps q k e l)

covers_under : (s : PathSet) (p q : List Field) → covers s p ≡ true → Beginning p q → covers s q ≡ true
covers_under s p q h b = let c = (covers_word s p).0 h in (covers_word s q).1 (c.0, c.1, beginning_trans c.0 p q c.2 b)

pub covers_below : (s : PathSet) (p rest : List Field) → covers s p ≡ true → covers s (p ++ rest) ≡ true
covers_below s p rest h = covers_under s p (p ++ rest) h (rest, refl)

pub insert_covers : (s : PathSet) (p q : List Field) → covers s q ≡ true → covers (set.insert s p) q ≡ true
insert_covers s p q h = covers_insert s p q ∙ or_right (starts_with same_field q p) (covers s q) h

pub insert_covers_below : (s : PathSet) (p rest : List Field) → covers (set.insert s p) (p ++ rest) ≡ true
insert_covers_below s p rest = covers_below (set.insert s p) p rest (covers_member (set.insert s p) p (insert_has s p))

-- ---- the least paths

least_test : (s : PathSet) (p : List Field) → set.contains (least s) p ≡ (set.contains s p && not (list_any (λ q. begins_below q p) (set.items s)))
unfolding least
least_test s p =
    let test : List Field → Bool = λ x. not (list_any (λ q. begins_below q x) (set.items s)) in
    set.contains-retain s test p (λ x t. ap test (sym (same_tied p x t)))

below-Decides : (q p : List Field) → Decides (begins_below q p) (Beginning q p × (q ≢ p))
below-Decides q p = Decides-and _ _ (starts_with-Decides q p _ refl) (Decides-not _ (same_path-Decides q p))

pub least_word : (s : PathSet) (p : List Field) → IsTrue (set.contains (least s) p) ↔ (IsTrue (set.contains s p) × ((q : List Field) → IsTrue (set.contains s q) → Beginning q p → q ≡ p))
least_word s p =
    let test = λ (q : List Field). begins_below q p in (
      λ h.
          let parts = and_parts (set.contains s p) (not (list_any test (set.items s))) (sym (least_test s p) ∙ h) in (
            parts.0,
            λ q c b. by_bool (same_path q p) (same_path-Decides q p).0 (λ other. absurd (false≢true (
                sym (not-true _ parts.1) ∙ any_from test q (set.items s) ((items-Decides s q).0 c) ((below-Decides q p).1 (b, not_from_Decides _ (same_path-Decides q p) other))
                ))),
          ),
      λ l. least_test s p ∙ and_from (set.contains s p) (not (list_any test (set.items s))) l.0 (not_from_false _ (false_from_ne_true _ (λ some.
          let w = some_member test (set.items s) some in
          let below = (below-Decides w.0 p).0 w.2 in
          below.1 (l.1 w.0 ((items-Decides s w.0).1 w.1) below.0)))),
    )

-- a least path is a prefix of each member: the member itself, or a prefix of a shorter member
descend : (n : ℕ) (s : PathSet) (p : List Field) → length p < n → set.contains s p ≡ true → (r : List Field) × IsTrue (set.contains (least s) r) × Beginning r p
descend zero s p short c = absurd (omega (arith, short))
descend (suc n) s p short c =
    by_bool (list_any (λ q. begins_below q p) (set.items s))
    (λ some.
    let w = some_member (λ q. begins_below q p) (set.items s) some in
    let below = (below-Decides w.0 p).0 w.2 in
    let other = false_from_ne_true _ (λ e. below.1 ((same_path-Decides w.0 p).0 e)) in
    let r = descend n s w.0 (omega (arith, short, beginning_shorter w.0 p below.0 other)) ((items-Decides s w.0).1 w.1) in
    (r.0, r.1, beginning_trans r.0 w.0 p r.2 below.0))
    (λ none. (p, least_test s p ∙ and_from _ _ c (not_from_false _ none), beginning_refl p))

pub least_begins : (s : PathSet) (q : List Field) → IsTrue (covers s q) → (p : List Field) × IsTrue (set.contains (least s) p) × Beginning p q
least_begins s q h =
    let c = (covers_word s q).0 h in
    let r = descend (suc (length c.0)) s c.0 (omega arith) c.1 in
    (r.0, r.1, beginning_trans r.0 c.0 q r.2 c.2)

pub covers_least : (s : PathSet) (q : List Field) → covers (least s) q ≡ covers s q
covers_least s q = same_from_decides _ _ (covers_word (least s) q) (
  least_begins s q,
  λ c. (covers_word s q).1 (c.0, ((least_word s c.0).0 c.1).0, c.2),
)

-- a least path is least in each set that covers the same
least_along : (s t : PathSet) → SameCoverage s t → (p : List Field) → IsTrue (set.contains (least s) p) → IsTrue (set.contains (least t) p)
least_along s t same p h =
    let l = (least_word s p).0 h in
    let r = least_begins t p (sym (same p) ∙ covers_member s p l.0) in
    let u = (covers_word s r.0).0 (same r.0 ∙ covers_member t r.0 ((least_word t r.0).0 r.1).0) in
    let is = l.1 u.0 u.1 (beginning_trans u.0 r.0 p u.2 r.2) in
    subst (λ q. IsTrue (set.contains (least t) q)) (beginning_both r.0 p r.2 (subst (λ q. Beginning q r.0) is u.2)) r.1

-- sets that cover the same have the same least paths, and the converse
pub least_same : (s t : PathSet) → ((q : List Field) → covers s q ≡ covers t q) → least s ≡ least t
least_same s t same = same_by _ _ (λ p. same_from_decides _ _ (least_along s t same p, least_along t s (λ q. sym (same q)) p) (λ h. h, λ h. h))

pub least_tells_coverage : (s t : PathSet) → least s ≡ least t → (q : List Field) → covers s q ≡ covers t q
least_tells_coverage s t same q = sym (covers_least s q) ∙ ap (λ x. covers x q) same ∙ covers_least t q

pub least_least : (s : PathSet) → least (least s) ≡ least s
least_least s = least_same (least s) s (covers_least s)

pub least_union_left : (s t : PathSet) → least (set.union (least s) t) ≡ least (set.union s t)
least_union_left s t = least_same _ _ (λ q. covers_union _ t q ∙ ap (λ b. b || covers t q) (covers_least s q) ∙ sym (covers_union s t q))

pub least_union_right : (s t : PathSet) → least (set.union s (least t)) ≡ least (set.union s t)
least_union_right s t = least_same _ _ (λ q. covers_union s _ q ∙ ap (λ b. covers s q || b) (covers_least t q) ∙ sym (covers_union s t q))

-- a union with least paths covers what the union covers
pub union_covers_left : (s t : PathSet) (q : List Field) → covers (set.union (least s) t) q ≡ covers (set.union s t) q
union_covers_left s t q = covers_union (least s) t q ∙ ap (λ b. b || covers t q) (covers_least s q) ∙ sym (covers_union s t q)

pub union_covers_right : (s t : PathSet) (q : List Field) → covers (set.union s (least t)) q ≡ covers (set.union s t) q
union_covers_right s t q = covers_union s (least t) q ∙ ap (λ b. covers s q || b) (covers_least t q) ∙ sym (covers_union s t q)

-- a path that is covered already adds nothing
pub least_covered : (s : PathSet) (p : List Field) → covers s p ≡ true → least (set.insert s p) ≡ least s
least_covered s p h = least_same _ _ (λ q.
    let under : starts_with same_field q p ≡ true → covers s q ≡ true = λ e. covers_under s p q h ((starts_with-Decides p q _ refl).0 e) in
    grind (arith, covers_insert s p q, under))

-- nor does one below a path that is in
pub least_below : (s : PathSet) (p q : List Field) → Beginning p q → least (set.insert (set.insert s p) q) ≡ least (set.insert s p)
least_below s p q b = least_covered (set.insert s p) q (ap (covers (set.insert s p)) b.1 ∙ insert_covers_below s p b.0)

-- one path is its own cover
pub least_one : (p : List Field) → least (set.insert set.empty p) ≡ set.insert set.empty p
least_one p = same_by _ _ (λ q. grind (arith, least_word (set.insert set.empty p) q, one_only p))

-- the least paths are in each set that covers the same
pub least_in : (s t : PathSet) (p : List Field) → SameCoverage s t → set.contains (least s) p ≡ true → set.contains t p ≡ true
least_in s t p same h = ((least_word t p).0 (least_along s t same p h)).0

-- of a list whose set is the least, that set covers the same, and each path is in every list that covers the same
pub same_coverage : (cover : List (List Field)) (s : PathSet) → set.from_list cover ≡ least s → SameCoverage (set.from_list cover) s
same_coverage cover s is = λ q. ap (λ x. covers x q) is ∙ covers_least s q

pub cover_within : (cover ps : List (List Field)) (s : PathSet) → set.from_list cover ≡ least s → SameCoverage (set.from_list ps) s → (p : List Field) → Contains cover p → Contains ps p
cover_within cover ps s is alike p c = of_only ps p (least_in s (set.from_list ps) p (λ q. sym (alike q)) (rw (← is) (of_has cover p c)))

-- a cover has no more paths than a list that it is of
pub fewest : (xs ys : List (List Field)) → Distinct xs → set.from_list {R = path_cmp} xs ≡ least (set.from_list ys) → length xs ≤ length ys
fewest xs ys distinct is = length-le_from_is_member same_path_equiv xs ys (IsDistinct-from_AllPairs same_path-Decides xs distinct) (λ q m.
    let c = (from_list-Decides xs q).1 ((is_member-Decides same_path-Decides xs q).0 m) in
    (is_member-Decides same_path-Decides ys q).1 (of_only ys q ((least_word (set.from_list ys) q).0 (ap (λ s. set.contains s q) (sym is) ∙ c)).0))

-- the root covers every path
pub root_covers : (s : PathSet) (q : List Field) → set.contains s [] ≡ true → covers s q ≡ true
root_covers s q h = (covers_word s q).1 ([], h, (q, refl))

-- of a path that is covered by a member, said by what follows the member
pub covers_further : (s : PathSet) (p q r : List Field) → q ≡ p ++ r → set.contains s p ≡ true → covers s q ≡ true
covers_further s p q r e h = (covers_word s q).1 (p, h, (r, e))

-- of a list's set, by what the list has
pub listed_covered : (ps : List (List Field)) (q : List Field) → (covers (set.from_list ps) q ≡ covers (set.from_list ps) q) × (covers (set.from_list ps) q ≡ true → (p : List Field) × Contains ps p × Beginning p q)
listed_covered ps q = (refl, λ h. let w = (covers_word (set.from_list ps) q).0 h in (w.0, of_only ps w.0 w.1, w.2))

pub of_covers_below : (ps : List (List Field)) (p q r : List Field) (k : ℕ) → q ≡ p ++ r → get_or ps k p ≡ p → k < length ps → covers (set.from_list ps) q ≡ true
of_covers_below ps p q r k e at l = covers_further (set.from_list ps) p q r e (of_has_at ps p k at l)

-- beside the root no path is among the least
pub least_root : (s : PathSet) → set.contains s [] ≡ true → least s ≡ set.insert set.empty []
least_root s h = least_same s (set.insert set.empty []) (λ q. root_covers s q h ∙ sym (root_covers (set.insert set.empty []) q (insert_has set.empty []))) ∙ least_one []

-- the least paths are none where the set has none alone
pub least_empty : (s : PathSet) → least s ≡ set.empty → s ≡ set.empty
least_empty s e = same_by s set.empty (λ q. grind (arith, e, covers_none q, covers_least s q, covers_member s q, contains_empty q))

pub least_begins_once : (s : PathSet) (p r q : List Field) → IsTrue (set.contains (least s) p) → IsTrue (set.contains (least s) r) → Beginning p q → Beginning r q → p ≡ r
least_begins_once s p r q hp hr bp br = grind (arith, either_begins p r q bp br, ((least_word s r).0 hr).1 p ((least_word s p).0 hp).0, ((least_word s p).0 hp).1 r ((least_word s r).0 hr).0)

-- of a list of the least paths, by their places: each is a member, none but itself of the members is a prefix of it, and no two
-- of them overlap
pub cover_member : (cover : List (List Field)) (s : PathSet) (p : List Field) (k : ℕ) → set.from_list cover ≡ least s → get_or cover k p ≡ p → k < length cover → IsTrue (set.contains s p)
cover_member cover s p k is at l = ((least_word s p).0 (ap (λ x. set.contains x p) (sym is) ∙ of_has_at cover p k at l)).0

pub cover_first : (cover : List (List Field)) (s : PathSet) (p q : List Field) (k : ℕ) → set.from_list cover ≡ least s → get_or cover k q ≡ q → k < length cover → IsTrue (set.contains s p) → Beginning p q → p ≡ q
cover_first cover s p q k is at l h b = ((least_word s q).0 (ap (λ x. set.contains x q) (sym is) ∙ of_has_at cover q k at l)).1 p h b

pub cover_apart : (cover : List (List Field)) (s : PathSet) (p q : List Field) (j k : ℕ) → set.from_list cover ≡ least s → get_or cover j p ≡ p → j < length cover → get_or cover k q ≡ q → k < length cover → Overlaps p q → p ≡ q
cover_apart cover s p q j k is atp lp atq lq o = grind (arith, o, cover_first cover s p q k is atq lq (cover_member cover s p j is atp lp), cover_first cover s q p j is atp lp (cover_member cover s q k is atq lq))
