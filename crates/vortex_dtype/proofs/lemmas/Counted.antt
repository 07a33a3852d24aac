-- SPDX-License-Identifier: Apache-2.0
-- SPDX-FileCopyrightText: Copyright the Vortex contributors

-- How many of a list pass a test: none exactly where all fail, and all exactly where none does.
use Rattle.std.proofs.Common.{◌≡◌, ◌↔◌, ◌+◌, ℕ, Bool, true, false, cond, List, [], ◌∷◌, length, refl, arith}
use Rattle.std.specs.Prelude.{count_by}
use Rattle.std.specs.List.{All, AllByRecursion}
use Rattle.std.proofs.lemmas.List.Elements.{All-from_recursion, recursion_from_All}
use Rattle.std.proofs.lemmas.List.Sums.{count_by-le-length, sum_by-cons}

module _ {X : Type 0} (p : X → Bool) where
  more : (x : X) (xs : List X) → count_by p (x ∷ xs) ≡ cond (p x) 1 0 + count_by p xs
  more x xs = sum_by-cons (λ y. cond (p y) 1 0) x xs

  none : (xs : List X) → (count_by p xs ≡ 0) ↔ AllByRecursion (λ x. p x ≡ false) xs
  none [] = (λ e. tt, λ h. refl)
  none (x ∷ xs) = grind (arith, more x xs, none xs)

  pub none_counted : (xs : List X) (n : ℕ) → n ≡ count_by p xs → (n ≡ 0) ↔ All (λ x. p x ≡ false) xs
  none_counted xs n e = grind (arith, e, none xs, All-from_recursion (λ x. p x ≡ false) xs, recursion_from_All (λ x. p x ≡ false) xs)

  all : (xs : List X) → (count_by p xs ≡ length xs) ↔ AllByRecursion (λ x. p x ≡ true) xs
  all [] = (λ e. tt, λ h. refl)
  all (x ∷ xs) = grind (arith, more x xs, all xs, count_by-le-length p xs)

  pub all_counted : (xs : List X) (n : ℕ) → n ≡ count_by p xs → (n ≡ length xs) ↔ All (λ x. p x ≡ true) xs
  all_counted xs n e = grind (arith, e, all xs, All-from_recursion (λ x. p x ≡ true) xs, recursion_from_All (λ x. p x ≡ true) xs)

pub ruleset counted = (none_counted, all_counted)
