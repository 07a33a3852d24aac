-- SPDX-License-Identifier: Apache-2.0
-- SPDX-FileCopyrightText: Copyright the Vortex contributors

-- The empty set, and how many paths are as is said.
use Rattle.std.specs.FinSet as set
use Rattle.std.proofs.Common.{◌≡◌, ◌≤◌, ◌+◌, ◌∷◌, ℕ, List, [], Bor, ◌≢◌, true, false, length, map, cond, refl, sym, ap, ◌∙◌, arith, subst, ⊎_elim, IsTrue}
use Rattle.dtype_base.specs.Distinct.{Distinct}
use Rattle.std.proofs.lemmas.Bool.{false≢true, false_from_ne_true}
use Rattle.std.proofs.lemmas.List.{length-map, nil_from_length}
use Rattle.std.proofs.lemmas.Bool.Decides.{same_from_decides}
use Rattle.std.proofs.lemmas.Map.Made.{is_member-Decides, IsDistinct-from_AllPairs, length-le_from_is_member}
use Rattle.dtype_paths.specs.Covering.{IsCountOf, least}
use Rattle.dtype_paths.specs.EqualityLaws.{same_path-Decides, same_path_equiv}
use Rattle.dtype_paths.specs.PathOrder.{PathSet, path_cmp, set_of}
use Rattle.dtype_paths.specs.PathOrderLaws.{path_cmp_total}
use Rattle.dtype_paths.specs.declared.field.Field.{Field}
use Rattle.dtype_paths.proofs.lemmas.Cases.{by_bool}
use Rattle.dtype_paths.proofs.lemmas.DistinctLists.{distinct-cons, distinct-head, distinct-nil, distinct-tail}
use Rattle.dtype_paths.proofs.lemmas.ListMembers.{contains-head, contains-nil}
use Rattle.dtype_paths.proofs.lemmas.SetCovers.{least_empty, least_one, least_root, least_word}
use Rattle.dtype_paths.proofs.lemmas.SetMembers.{contains_empty, insert_has, insert_known, of_has, of_items, of_only, one_only, same_by, union_has, union_insert, union_none, union_only}

-- the least paths of the empty set are none
pub least_none : least set.empty ≡ set.empty
least_none = grind (arith, same_by, same_from_decides, least_word, false≢true, contains_empty)

-- a list whose set is empty has no path
pub none_listed : (ps : List (List Field)) → set_of ps ≡ set.empty → ps ≡ []
none_listed [] e = refl
none_listed (p ∷ ps) e =
    absurd (false≢true (sym (contains_empty p) ∙ sym (ap (λ s. set.contains s p) e) ∙ of_has (p ∷ ps) p (0, omega arith, refl)))

-- ---- counts

at_most : (P : List Field → Type 0) (m n : ℕ) → IsCountOf P m → IsCountOf P n → m ≤ n
at_most P m n a b =
    let fewer = length-le_from_is_member same_path_equiv a.paths b.paths (IsDistinct-from_AllPairs same_path-Decides a.paths a.distinct)
    (λ q h. (is_member-Decides same_path-Decides b.paths q).1 ((b.exact q).1 ((a.exact q).0 ((is_member-Decides same_path-Decides a.paths q).0 h)))) in
    omega (arith, a.count, b.count, fewer)

-- two counts of the same paths are one number
pub one_count : (P : List Field → Type 0) (m n : ℕ) → IsCountOf P m → IsCountOf P n → m ≡ n
one_count P m n a b = omega (arith, at_most P m n a b, at_most P n m b a)

-- ---- a list with each path of a set once, as `iter` gives it

pub len_of : (ps : List (List Field)) → Distinct ps → set.len (set_of ps) ≡ length ps
len_of [] d = set.len-empty path_cmp
len_of (p ∷ ps) d =
    let new : set.contains (set_of ps) p ≡ false = false_from_ne_true _ (λ c. distinct-head p ps d (of_only ps p c)) in
    let one_more : set.len (set_of (p ∷ ps)) ≡ set.len (set_of ps) + 1 = set.len-insert path_cmp_total (set_of ps) p ∙ ap (λ b. cond b (set.len (set_of ps)) (set.len (set_of ps) + 1)) new in
    let rest : set.len (set_of ps) ≡ length ps = len_of ps (distinct-tail p ps d) in
    omega (arith, one_more, rest)

-- it has as many paths as the set
pub listed_len : (ps : List (List Field)) (s : PathSet) → set_of ps ≡ s → Distinct ps → length ps ≡ set.len s
listed_len ps s is d = sym (ap set.len (sym is) ∙ len_of ps d)

-- so have references to them
pub lent_len : (xs : List (Bor (List Field))) (s : PathSet) → set_of (map (λ x. x.now) xs) ≡ s → Distinct (map (λ x. x.now) xs) → length xs ≡ set.len s
lent_len xs s is d = sym (length-map xs (λ x. x.now)) ∙ listed_len (map (λ x. x.now) xs) s is d

-- A set lends nothing exactly where it is empty. The first part says nothing: it shows a search the call to match.
pub lent_none : (xs : List (Bor (List Field))) → (set.from_list {R = path_cmp} (map (λ x. x.now) xs) ≡ set.from_list {R = path_cmp} (map (λ x. x.now) xs)) × (set.from_list {R = path_cmp} (map (λ x. x.now) xs) ≡ set.empty → length xs ≡ 0) × (length xs ≡ 0 → set.from_list {R = path_cmp} (map (λ x. x.now) xs) ≡ set.empty)
lent_none [] = (refl, λ e. refl, λ l. refl)
lent_none (x ∷ xs) = (refl, λ e. absurd (false≢true (sym (contains_empty x.now) ∙ sym (ap (λ s. set.contains s x.now) e) ∙ of_has (map (λ y. y.now) (x ∷ xs)) x.now (contains-head x.now (map (λ y. y.now) xs)))), λ l. absurd (omega (arith, l)))

-- it is empty where the set is
pub some_listed : (p : List Field) (ps : List (List Field)) (s : PathSet) → set_of (p ∷ ps) ≡ s → s ≢ set.empty
some_listed p ps s is e = cc (none_listed (p ∷ ps) (is ∙ e))

-- where the set has one path, so has the list
pub one_listed : (ps : List (List Field)) (p : List Field) → set_of ps ≡ set.insert set.empty p → Distinct ps → ps ≡ p ∷ []
one_listed ps p is d = go ps is (listed_len ps (set.insert set.empty p) is d ∙ len_of (p ∷ []) (distinct-cons p [] (contains-nil p) (distinct-nil [] refl)))
  where
    go : (qs : List (List Field)) → set_of qs ≡ set.insert set.empty p → length qs ≡ 1 → qs ≡ p ∷ []
    go (q ∷ []) e one = ap (λ x. x ∷ []) (one_only p q (ap (λ s. set.contains s q) (sym e) ∙ insert_has set.empty q))
    go [] e one = cc
    go (q ∷ r ∷ qs) e one = cc

-- and so has a list of its least paths
pub one_least_listed : (ps : List (List Field)) (p : List Field) → set_of ps ≡ least (set.insert set.empty p) → Distinct ps → length ps ≡ 1
one_least_listed ps p is d = ap length (one_listed ps p (is ∙ least_one p) d)

-- ---- at most as many

-- with one path more
pub insert_len : (s : PathSet) (p : List Field) → (set.len (set.insert s p) ≤ set.len s + 1) × (set.len s ≤ set.len (set.insert s p))
insert_len s p =
    let e = set.len-insert path_cmp_total s p in
    by_bool (set.contains s p)
    (λ h. let n : set.len (set.insert s p) ≡ set.len s = e ∙ ap (λ b. cond b (set.len s) (set.len s + 1)) h in (omega (arith, n), omega (arith, n)))
    (λ h. let n : set.len (set.insert s p) ≡ set.len s + 1 = e ∙ ap (λ b. cond b (set.len s) (set.len s + 1)) h in (omega (arith, n), omega (arith, n)))

-- the set of a list has no more paths than the list, and fewer where the list repeats one
pub list_len : (ps : List (List Field)) → set.len (set.from_list {R = path_cmp} ps) ≤ length ps
list_len [] = omega (arith, set.len-empty path_cmp)
list_len (p ∷ ps) = omega (arith, list_len ps, (insert_len (set_of ps) p).0)

pub once_listed : (ps : List (List Field)) → length ps ≤ set.len (set.from_list {R = path_cmp} ps) → Distinct ps
once_listed [] e = distinct-nil [] refl
once_listed (p ∷ ps) e = grind (arith, e, distinct-cons, insert_known, of_has, list_len, insert_len, once_listed ps)

-- of both a union has at most all
joined_len : (s : PathSet) (ps : List (List Field)) → (set.len s ≤ set.len (set.union s (set_of ps))) × (set.len (set.union s (set_of ps)) ≤ set.len s + set.len (set_of ps))
joined_len s [] = let e = ap set.len (union_none s) in (omega (arith, e), omega (arith, e))
joined_len s (p ∷ ps) =
    let r = joined_len s ps in
    let e = ap set.len (union_insert s (set_of ps) p) in
    let more = insert_len (set.union s (set_of ps)) p in (
      omega (arith, r.0, e, more.1),
      by_bool (set.contains (set_of ps) p)
          (λ h. let same = insert_known (set_of ps) p h in omega (arith, r.1, ap (λ t. set.len (set.union s t)) same, ap set.len same))
          (λ h. let n : set.len (set_of (p ∷ ps)) ≡ set.len (set_of ps) + 1 = set.len-insert path_cmp_total (set_of ps) p ∙ ap (λ b. cond b (set.len (set_of ps)) (set.len (set_of ps) + 1)) h in omega (arith, r.1, e, more.0, n)),
    )

pub union_len : (s t : PathSet) → (set.len s ≤ set.len (set.union s t)) × (set.len (set.union s t) ≤ set.len s + set.len t)
union_len s t = subst (λ x. (set.len s ≤ set.len (set.union s x)) × (set.len (set.union s x) ≤ set.len s + set.len x)) (sym (of_items t)) (joined_len s (set.items t))

-- a part of a set has no more than the set
pub part_len : (s t : PathSet) → ((p : List Field) → IsTrue (set.contains s p) → IsTrue (set.contains t p)) → set.len s ≤ set.len t
part_len s t within =
    let all : set.union s t ≡ t = same_by _ _ (λ q. same_from_decides _ _ (λ h. ⊎_elim (within q) (λ e. e) (union_only s t q h), λ h. union_has s t q h) (λ h. h, λ h. h)) in
    omega (arith, (union_len s t).0, ap set.len all)

-- so has a cover of it
pub least_len : (s : PathSet) → set.len (least s) ≤ set.len s
least_len s = part_len (least s) s (λ p h. ((least_word s p).0 h).0)

pub cover_len : (ps : List (List Field)) (s : PathSet) → set_of ps ≡ least s → Distinct ps → length ps ≤ set.len s
cover_len ps s is d = omega (arith, listed_len ps (least s) is d, least_len s)

-- of a list no more are opened than it has
pub cover_at_most : (ps : List (List Field)) → set.len (least (set.from_list {R = path_cmp} ps)) ≤ length ps
cover_at_most ps = omega (arith, least_len (set.from_list ps), list_len ps)

pub opened_at_most : (xs ps : List (List Field)) (s : PathSet) → set_of xs ≡ least s → s ≡ set_of ps → Distinct xs → length xs ≤ length ps
opened_at_most xs ps s is of d = omega (arith, cover_len xs s is d, ap set.len of, list_len ps)

-- A cover is none exactly where the set is empty. The first part says nothing: it shows a search the call to match.
pub cover_none : (ps : List (List Field)) → (set.from_list {R = path_cmp} ps ≡ set.from_list {R = path_cmp} ps) × ((s : PathSet) → set.from_list ps ≡ least s → (length ps ≡ 0 → s ≡ set.empty) × (s ≡ set.empty → length ps ≡ 0))
cover_none ps = grind (arith, least_empty, nil_from_length, none_listed, least_none)

-- where the root is contained, a cover has one path
pub root_alone_listed : (ps : List (List Field)) (s : PathSet) → set_of ps ≡ least s → Distinct ps → set.contains s [] ≡ true → length ps ≡ 1
root_alone_listed ps s is d root = ap length (one_listed ps [] (is ∙ least_root s root) d)
