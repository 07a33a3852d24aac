-- SPDX-License-Identifier: Apache-2.0
-- SPDX-FileCopyrightText: Copyright the Vortex contributors

-- The members of a list, by cases on the list, and those of `map`, `filter_map` and `flat_map`.
use Rattle.std.proofs.Common.{suc, zero, map, ap, refl, ◌∙◌, ◌≡◌, ◌⊎◌, List, [], ◌∷◌, Option, Some, None, subst, sym, arith, ⊎_elim, rules}
use Rattle.std.specs.List.{Contains, cons_option, filter_map, flat_map}
use Rattle.std.proofs.lemmas.List.{get_or-map, length-map}
use Rattle.std.proofs.lemmas.List.Elements.{Contains-append_left, Contains-append_right}

module _ {A : Type 0} where
  pub contains-cons : (x y : A) (xs : List A) → Contains (x ∷ xs) y → (x ≡ y) ⊎ Contains xs y
  contains-cons x y xs h = search rules

  pub contains-head : (x : A) (xs : List A) → Contains (x ∷ xs) x
  contains-head x xs = (0, omega arith, refl)

  pub contains-tail : (x y : A) (xs : List A) → Contains xs y → Contains (x ∷ xs) y
  contains-tail x y xs c = (suc c.0, omega (arith, c.1), c.2)

  pub contains-nil : (x : A) → Contains [] x → ⊥
  contains-nil x c = omega (arith, c.1)

-- the members of a mapped list
pub contains-map : {A B : Type 0} (f : A → B) (xs : List A) (y : B) → Contains (map f xs) y → (x : A) × Contains xs x × (f x ≡ y)
contains-map f [] y c = absurd (contains-nil y c)
contains-map f (x ∷ xs) y (zero, lt, e) = (x, contains-head x xs, e)
contains-map f (x ∷ xs) y (suc i, lt, e) = let w = contains-map f xs y (i, omega (arith, lt), e) in (w.0, contains-tail x w.0 xs w.1, w.2)

pub contains-mapped : {A B : Type 0} (f : A → B) (x : A) (xs : List A) → Contains xs x → Contains (map f xs) (f x)
contains-mapped f x xs c = (c.0, omega (arith, c.1, length-map xs f), get_or-map f xs c.0 x (f x) c.1 ∙ ap f c.2)

-- those of a list of what h gives
module _ {A B : Type 0} (h : A → Option B) where
  given_cases : (o : Option B) (ys : List B) (y : B) → Contains (cons_option o ys) y → (o ≡ Some y) ⊎ Contains ys y
  given_cases o ys y h = grind (arith, contains-cons)

  given_later : (o : Option B) (ys : List B) (y : B) → Contains ys y → Contains (cons_option o ys) y
  given_later None ys y c = c
  given_later (Some x) ys y c = contains-tail x y ys c

  pub given_by : (xs : List A) (y : B) → Contains (filter_map h xs) y → (x : A) × Contains xs x × (h x ≡ Some y)
  given_by [] y c = absurd (contains-nil y c)
  given_by (x ∷ xs) y c =
      ⊎_elim
      (λ e. (x, contains-head x xs, e))
      (λ d. let w = given_by xs y d in (w.0, contains-tail x w.0 xs w.1, w.2))
      (given_cases (h x) (filter_map h xs) y c)

  pub contains-given : (xs : List A) (x : A) (y : B) → Contains xs x → h x ≡ Some y → Contains (filter_map h xs) y
  contains-given [] x y c e = absurd (contains-nil x c)
  contains-given (z ∷ xs) x y (zero, lt, at) e = rw (ap h at ∙ e) (contains-head y (filter_map h xs))
  contains-given (z ∷ xs) x y (suc i, lt, at) e = given_later (h z) (filter_map h xs) y (contains-given xs x y (i, omega (arith, lt), at) e)

pub contains-flat_map : {A B : Type 0} (f : A → List B) (x : A) (y : B) (xs : List A) → Contains xs x → Contains (f x) y → Contains (flat_map f xs) y
contains-flat_map f x y [] c d = absurd (contains-nil x c)
contains-flat_map f x y (z ∷ xs) (zero, lt, e) d = Contains-append_left (f z) (flat_map f xs) y (subst (λ a. Contains (f a) y) (sym e) d)
contains-flat_map f x y (z ∷ xs) (suc i, lt, e) d = Contains-append_right (f z) (flat_map f xs) y (contains-flat_map f x y xs (i, omega (arith, lt), e) d)
