-- SPDX-License-Identifier: Apache-2.0
-- SPDX-FileCopyrightText: Copyright the Vortex contributors

-- Lists without repeats (`Distinct`, and `IsDistinct` of std by a test), by cases on the list.
use Rattle.std.proofs.Common.{ℕ, ◌<◌, ◌≤◌, length, map, ◌≡◌, ◌≢◌, suc, Bool, Decides, List, [], ◌∷◌, ◌++◌, Option, Some, refl, sym, subst, arith, ⊎_elim, rules}
use Rattle.std.specs.List.{Contains, IsDistinct, filter_map}
use Rattle.std.specs.List.Sorted.{IsPermutation}
use Rattle.std.proofs.lemmas.Bool.Decides.{Decides-eqb, same_from_decides}
use Rattle.std.proofs.lemmas.List.Elements.{Contains-append_cases, Contains-get_or}
use Rattle.std.proofs.lemmas.List.Kept.{AllPairs-cons}
use Rattle.std.proofs.lemmas.Map.Keys.{IsDistinct-cons, IsDistinct-IsPermutation}
use Rattle.std.proofs.lemmas.Map.Made.{is_member-Decides, AllPairs-from_IsDistinct, IsDistinct-from_AllPairs}
use Rattle.std.proofs.lemmas.Map.Steps.{length-le_from_distinct_below}
use Rattle.dtype_base.specs.Distinct.{Distinct}
use Rattle.dtype_paths.proofs.lemmas.Cases.{by_option}
use Rattle.dtype_paths.proofs.lemmas.ListMembers.{contains-head, contains-tail, contains-map, contains-mapped, given_by}

pub IsDistinct-nil : {A : Type 0} (eq : A → A → Bool) → IsDistinct eq []
unfolding IsDistinct
IsDistinct-nil eq = tt

pub IsDistinct-one : {A : Type 0} (eq : A → A → Bool) (x : A) → IsDistinct eq (x ∷ [])
IsDistinct-one eq x = IsDistinct-cons eq x [] tt (IsDistinct-nil eq)

pub ruleset none_or_one = (IsDistinct-nil, IsDistinct-one)

module _ {A : Type 0} where
  pub distinct-nil : (xs : List A) → xs ≡ [] → Distinct xs
  distinct-nil xs h = search rules

  pub distinct-cons : (x : A) (xs : List A) → (Contains xs x → ⊥) → Distinct xs → Distinct (x ∷ xs)
  distinct-cons x xs new rest = AllPairs-cons (λ y z. y ≢ z) x xs (λ k d lt e. new (subst (Contains xs) (sym e) (Contains-get_or xs k d lt))) rest

  pub distinct-head : (x : A) (xs : List A) → Distinct (x ∷ xs) → Contains xs x → ⊥
  distinct-head x xs a c = a 0 (suc c.0) x (omega arith) (omega (arith, c.1)) (sym c.2)

  pub distinct-tail : (x : A) (xs : List A) → Distinct (x ∷ xs) → Distinct xs
  distinct-tail x xs a = λ i j d lt in_list. a (suc i) (suc j) d (omega (arith, lt)) (omega (arith, in_list))

  pub distinct-append : (xs ys : List A) → Distinct xs → Distinct ys → ((x : A) → Contains xs x → Contains ys x → ⊥) → Distinct (xs ++ ys)
  distinct-append [] ys a b none = b
  distinct-append (x ∷ xs) ys a b none =
      distinct-cons x (xs ++ ys)
      (λ c. ⊎_elim (λ d. distinct-head x xs a d) (λ d. none x (contains-head x xs) d) (Contains-append_cases xs ys x c))
      (distinct-append xs ys (distinct-tail x xs a) b (λ y c d. none y (contains-tail x y xs c) d))

  pub distinct-right : (xs ys : List A) → Distinct (xs ++ ys) → Distinct ys
  distinct-right [] ys a = a
  distinct-right (x ∷ xs) ys a = distinct-right xs ys (distinct-tail x (xs ++ ys) a)

-- numbers below n, each once, are at most n
pub distinct-below : (xs : List ℕ) (n : ℕ) → Distinct xs → ((q : ℕ) → Contains xs q → q < n) → length xs ≤ n
distinct-below xs n a h = length-le_from_distinct_below xs n (IsDistinct-from_AllPairs Decides-eqb xs a) (λ q e. h q ((is_member-Decides Decides-eqb xs q).0 e))

pub distinct-map : {A B : Type 0} (f : A → B) (xs : List A) → Distinct xs → ((x y : A) → Contains xs x → Contains xs y → f x ≡ f y → x ≡ y) → Distinct (map f xs)
distinct-map f [] a h = distinct-nil [] refl
distinct-map f (x ∷ xs) a h =
    distinct-cons (f x) (map f xs)
    (λ c. let w = contains-map f xs (f x) c in distinct-head x xs a (rw (← h w.0 x (contains-tail x w.0 xs w.1) (contains-head x xs) w.2) w.1))
    (distinct-map f xs (distinct-tail x xs a) (λ y z c d e. h y z (contains-tail x y xs c) (contains-tail x z xs d) e))

pub distinct-unmap : {A B : Type 0} (f : A → B) (xs : List A) → Distinct (map f xs) → Distinct xs
distinct-unmap f [] a = distinct-nil [] refl
distinct-unmap f (x ∷ xs) a =
    distinct-cons x xs (λ c. distinct-head (f x) (map f xs) a (contains-mapped f x xs c)) (distinct-unmap f xs (distinct-tail (f x) (map f xs) a))

-- what h gives of a list, where it gives nothing twice
pub distinct-given : {A B : Type 0} (h : A → Option B) (xs : List A) → Distinct xs → ((x z : A) (y : B) → h x ≡ Some y → h z ≡ Some y → x ≡ z) → Distinct (filter_map h xs)
distinct-given h [] a once = distinct-nil [] refl
distinct-given h (x ∷ xs) a once =
    let later = distinct-given h xs (distinct-tail x xs a) once in
    by_option (h x) (λ none. rw none later)
    (λ y e. rw e (distinct-cons y (filter_map h xs) (λ c. let w = given_by h xs y c in distinct-head x xs a (subst (Contains xs) (once w.0 x y w.2 e) w.1)) later))

-- in another order
pub distinct-moved : {A : Type 0} {eq : A → A → Bool} → ((x y : A) → Decides (eq x y) (x ≡ y)) → (xs ys : List A) → IsPermutation xs ys → Distinct xs → Distinct ys
distinct-moved {A} {eq} same xs ys p a =
    let flips = λ (x y : A). same_from_decides _ _ (same x y) (λ t. sym ((same y x).0 t), λ e. (same y x).1 (sym e)) in
    AllPairs-from_IsDistinct same ys (IsDistinct-IsPermutation eq flips xs ys p (IsDistinct-from_AllPairs same xs a))
