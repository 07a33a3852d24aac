-- SPDX-License-Identifier: Apache-2.0
-- SPDX-FileCopyrightText: Copyright the Vortex contributors

-- Lemmas about decimals and their storage types. A caller names all of them in one line,
--     #![tactic(auto, using(dtype_base::proofs::lemmas::Decimals::decimals))]
use Rattle.std.proofs.Common.{◌≡◌, ◌+◌, ◌-◌, ◌*◌, ◌^◌, ◌<◌, ◌≤◌, ℕ, Bool, ◌&&◌, Some, nat_le, nat_lt, refl, ◌∙◌, arith}
use Rattle.std.proofs.lemmas.Bool.{agree_below_at, and_parts, leb-true, lt-ltb, ltb-true}
use Rattle.std.proofs.lemmas.Bool.Decides.{nat_tests}
use Rattle.std.proofs.Math.Pow.{pow_mono}
use Rattle.std.proofs.Math.Nat.{lt_of_le_of_lt, pow-le-pow_right}
use Rattle.dtype_base.specs.Decimals.{greatest_precision, IsBitWidth, bit_width, smallest_storage, storage}
use Rattle.dtype_base.specs.declared.decimal.DecimalType.{DecimalType}
use Rattle.dtype_base.specs.declared.decimal.DecimalType.TheVariants.{I8}

-- ---- the bit width of a precision

-- it is unique
pub one_bit_width : (p b c : ℕ) → IsBitWidth p b → IsBitWidth p c → b ≡ c
one_bit_width p b c h k = grind arith

-- a precision has the computed bit width, as a test of all up to the greatest shows
abbrev is_computed : ℕ → Bool
is_computed p = nat_le (10 ^ p) (2 ^ bit_width p) && nat_lt (2 ^ (bit_width p - 1)) (10 ^ p)

pub bit_width_is_least : (p : ℕ) → 1 ≤ p → p ≤ greatest_precision → IsBitWidth p (bit_width p)
bit_width_is_least p some most =
    let both = and_parts _ _ (agree_below_at is_computed (nat_lt 0) 77 p refl (omega arith) ∙ lt-ltb 0 p (omega arith)) in
    record {
      enough = leb-true _ _ both.0;
      least = λ c below. let up : c ≤ bit_width p - 1 = omega arith in lt_of_le_of_lt (pow_mono up) (ltb-true _ _ both.1);
    }

pub bit_width_is : (p b : ℕ) → IsBitWidth p b → 1 ≤ p → p ≤ greatest_precision → b ≡ bit_width p
bit_width_is p b h some most = one_bit_width p b (bit_width p) h (bit_width_is_least p some most)

-- ---- storage types

-- a storage type has all values of its digits, of both signs, and not of one digit more
pub digits_fit : (t : DecimalType) → 10 ^ (storage t).digits ≤ 2 ^ (8 * (storage t).bytes - 1)
digits_fit I8 = leb-true _ _ refl
digits_fit _ = leb-true _ _ refl

pub digits_are_most : (t : DecimalType) → 2 ^ (8 * (storage t).bytes - 1) < 10 ^ ((storage t).digits + 1)
digits_are_most I8 = ltb-true _ _ refl
digits_are_most _ = ltb-true _ _ refl

-- the smallest storage type that has so many digits has all values of them
found_digits : (p : ℕ) (t : DecimalType) → smallest_storage p ≡ Some t → p ≤ (storage t).digits
found_digits p I8 e = grind (arith, nat_tests)
found_digits p _ e = grind (arith, nat_tests)

pub smallest_fits : (p n : ℕ) (t : DecimalType) → smallest_storage p ≡ Some t → n ≡ (storage t).bytes → 10 ^ p ≤ 2 ^ (8 * n - 1)
smallest_fits p n t e is = grind (arith, found_digits, pow-le-pow_right, digits_fit)

pub ruleset decimals = (one_bit_width, bit_width_is_least, bit_width_is, digits_fit, digits_are_most, smallest_fits)
