-- SPDX-License-Identifier: Apache-2.0
-- SPDX-FileCopyrightText: Copyright the Vortex contributors

-- A power of ten, and the numbers beside it, are at most a higher power.
use Rattle.std.proofs.Common.{◌≡◌, ℕ, ℤ, pos, neg_ℤ, unsigned_abs, ◌-◌, ◌^◌, ◌≤◌, ◌-ℤ◌, refl, ap, ◌∙◌, arith, lit<}
use Rattle.std.proofs.Math.Nat.{one-le-pow, pow-le-pow_right}
use Rattle.std.proofs.lemmas.Int.{ints}

pub power_below : (i p max : ℕ) → i ≡ p → p ≤ max → 10 ^ i ≤ 10 ^ max
power_below i p max e le = pow-le-pow_right (lit< tt) (omega (arith, e, le))

-- the number one below a power
pub less_one : (i p : ℕ) (a b : ℤ) → a ≡ b -ℤ pos 1 → b ≡ pos (10 ^ i) → i ≡ p → a ≡ pos (10 ^ p - 1)
less_one i p a b e is same =
    let positive : 1 ≤ 10 ^ i = one-le-pow i 10 (lit< tt) in
    let less : a ≡ pos (10 ^ i - 1) = omega (arith, ints) in less ∙ ap (λ (n : ℕ). pos (10 ^ n - 1)) same

pub below_power : (b : ℤ) (i p max : ℕ) → b ≡ pos (10 ^ i) → i ≡ p → p ≤ max → unsigned_abs (b -ℤ pos 1) ≤ 10 ^ max
below_power b i p max is e le =
    let less = less_one i p (b -ℤ pos 1) b refl is e in
    let below = power_below p p max refl le in omega (arith, ints)

pub above_opposite : (a : ℤ) (p max : ℕ) → a ≡ pos (10 ^ p - 1) → p ≤ max → unsigned_abs (neg_ℤ a) ≤ 10 ^ max
above_opposite a p max is le = let below = power_below p p max refl le in omega (arith, ints)
