-- SPDX-License-Identifier: Apache-2.0
-- SPDX-FileCopyrightText: Copyright the Vortex contributors

-- Lemmas about the number of binary digits: that it is what its definition says, and that of powers of two.
use Rattle.std.proofs.Common.{◌≡◌, ℕ, zero, suc, ◌+◌, ◌-◌, ◌*◌, ◌<◌, ◌≤◌, ◌^◌, ◌==◌, Bool, true, false, cond, refl, ap, arith, pow_mono, pow-suc}
use Rattle.std.proofs.lemmas.Bool.{eqb-true, eqb-false}
use Rattle.dtype_base.specs.BinaryDigits.{one_more, binary_digits, IsDigitsOf}

below_next : (digits d : ℕ) → 2 ^ digits < 2 ^ d → digits < d
below_next digits d h = grind (arith, pow_mono)

next : (n digits : ℕ) → IsDigitsOf n digits → IsDigitsOf (suc n) (one_more digits (suc n))
next n digits h = go (2 ^ digits == suc n) refl
  where
    go : (b : Bool) → (2 ^ digits == suc n) ≡ b → IsDigitsOf (suc n) (cond b (digits + 1) digits)
    go true e =
        let is : 2 ^ digits ≡ suc n = eqb-true (2 ^ digits) (suc n) e in
        let twice : 2 ^ suc digits ≡ 2 ^ digits * 2 = pow-suc 2 digits in
        let same : digits + 1 ≡ suc digits = omega arith in record {
          is_enough = omega (arith, is, twice, ap (λ d. 2 ^ d) same);
          fewest = λ d fits. let less = below_next digits d (omega (arith, is, fits)) in omega (arith, less);
        }
    go false e =
        let differ : 2 ^ digits ≡ suc n → ⊥ = eqb-false (2 ^ digits) (suc n) e in record {
          is_enough = omega (arith, h.is_enough, differ);
          fewest = λ d fits. h.fewest d (omega (arith, fits));
        }

pub digits_are : (n : ℕ) → IsDigitsOf n (binary_digits n)
unfolding binary_digits
digits_are zero = record { is_enough = omega arith; fewest = λ d fits. omega arith }
digits_are (suc n) = next n (binary_digits n) (digits_are n)

pub digits_reach : (n : ℕ) → n < 2 ^ binary_digits n
digits_reach n = (digits_are n).is_enough

pub digits_fewest : (n d : ℕ) → n < 2 ^ d → binary_digits n ≤ d
digits_fewest n d fits = (digits_are n).fewest d fits

-- a number from a power of two on, and below the next
pub digits_between : (n k : ℕ) → 2 ^ k ≤ n → n < 2 ^ suc k → binary_digits n ≡ suc k
digits_between n k low fits =
    let most = digits_fewest n (suc k) fits in
    let least = below_next k (binary_digits n) (omega (arith, low, digits_reach n)) in
    omega (arith, most, least)

-- the number before a power of two
pub digits_before : (k : ℕ) → binary_digits (2 ^ k - 1) ≡ k
unfolding binary_digits
digits_before zero = refl
digits_before (suc k) =
    let least : 0 ≤ k = omega arith in
    let one : 2 ^ 0 ≤ 2 ^ k = pow_mono least in
    digits_between (2 ^ suc k - 1) k (omega (arith, one, pow-suc 2 k)) (omega (arith, one, pow-suc 2 k))

-- among more than a power of two, and at most twice as many
pub digits_more : (n k : ℕ) → 2 ^ k < n → n ≤ 2 ^ k * 2 → binary_digits (n - 1) ≡ binary_digits (2 ^ k - 1) + 1
digits_more n k low high =
    omega (arith, digits_before k, digits_between (n - 1) k (omega (arith, low)) (omega (arith, low, high, pow-suc 2 k)))
