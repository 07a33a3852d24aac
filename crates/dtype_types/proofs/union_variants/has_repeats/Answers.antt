-- SPDX-License-Identifier: Apache-2.0
-- SPDX-FileCopyrightText: Copyright the Vortex contributors

use Rattle.std.proofs.lemmas.Iterator.{YieldsList-from_slice, items_from_drains}
use Rattle.std.specs.HashSet as bag
use Rattle.std.proofs.Common.{◌≡◌, ◌≤◌, ◌↔◌, ℕ, Bool, false, List, [], ◌∷◌, map, length, Bor, nat_lt, sym, ap, ◌∙◌, subst, arith}
use Rattle.std.specs.Cmp.{IsEquivalence}
use Rattle.std.specs.HashSet.{HashSet, hash_set_len}
use Rattle.std.specs.List.{IsDistinct, AllByRecursion}
use Rattle.std.specs.Set.{distinct_count}
use Rattle.std.proofs.lemmas.Bool.Decides.{nat_tests}
use Rattle.std.proofs.lemmas.Cmp.{on_equiv}
use Rattle.std.proofs.lemmas.List.{length-map}
use Rattle.std.proofs.lemmas.Map.Made.{hash_set_len-from_list, distinct_count-le, IsDistinct-from_count, distinct_count-from_IsDistinct}
use Rattle.dtype_types.proofs.union_variants.has_repeats.Goals as goal

-- equality of two borrowed values
abbrev same_lent : {A : Type 0} → (A → A → Bool) → Bor A → Bor A → Bool
same_lent eq x y = eq x.now y.now

none_lent : {A : Type 0} (eq : A → A → Bool) (x : Bor A) (xs : List (Bor A)) → AllByRecursion (λ y. same_lent eq x y ≡ false) xs ↔ AllByRecursion (λ y. eq x.now y ≡ false) (map (λ y. y.now) xs)
none_lent eq x [] = (λ h. h, λ h. h)
none_lent eq x (y ∷ xs) = let rest = none_lent eq x xs in (λ h. (h.0, rest.0 h.1), λ h. (h.0, rest.1 h.1))

distinct_lent : {A : Type 0} (eq : A → A → Bool) (xs : List (Bor A)) → IsDistinct (same_lent eq) xs ↔ IsDistinct eq (map (λ y. y.now) xs)
unfolding IsDistinct
distinct_lent eq [] = (λ h. h, λ h. h)
distinct_lent eq (x ∷ xs) = let none = none_lent eq x xs in let rest = distinct_lent eq xs in (λ h. (none.0 h.0, rest.0 h.1), λ h. (none.1 h.0, rest.1 h.1))

-- the set of references to the items is shorter than the list exactly where two items are equal
shorter_set : {A S : Type 0} {eq : A → A → Bool} (laws : IsEquivalence eq) (items : List A) (xs : List (Bor A)) (set : HashSet (Bor A) S) (n : ℕ)
    → map (λ y. y.now) xs ≡ items → bag.IsFromIterResult (same_lent eq) xs set → n ≡ hash_set_len set
    → (nat_lt n (length items) ≡ false → IsDistinct eq items) × (IsDistinct eq items → nat_lt n (length items) ≡ false)
shorter_set {eq = eq} laws items xs set n lent made len =
    let same : IsEquivalence (same_lent eq) = on_equiv (λ y. y.now) laws in
    let count : n ≡ distinct_count (same_lent eq) xs = len ∙ hash_set_len-from_list same xs set made in
    let all : length xs ≡ length items = sym (length-map xs (λ y. y.now)) ∙ ap length lent in
    let most : distinct_count (same_lent eq) xs ≤ length xs = distinct_count-le (same_lent eq) xs in (
      λ e. subst (IsDistinct eq) lent ((distinct_lent eq xs).0 (IsDistinct-from_count same xs (grind (arith, nat_tests)))),
      λ h. let full : distinct_count (same_lent eq) xs ≡ length xs = distinct_count-from_IsDistinct same xs ((distinct_lent eq xs).1 (subst (IsDistinct eq) (sym lent) h)) in grind (arith, nat_tests),
    )

pub returns : goal.returns
returns g c =
    let h = c.in_ok-distinct.ensures.ran in
    shorter_set g.met.T.Eq.laws c.args.items.now h.0 c.in_ok-distinct.distinct c.len.result
    (items_from_drains h.0 h.1 (YieldsList-from_slice c.args.items.now c.iter.ensures.rest)) h.2 c.len.ensures.len
