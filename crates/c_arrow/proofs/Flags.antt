-- SPDX-License-Identifier: Apache-2.0
-- SPDX-FileCopyrightText: Copyright the Vortex contributors

-- A flag, as the code tests it, and flags that are written and read back.
use Rattle.std.proofs.Common.{◌≡◌, ℕ, zero, suc, ◌*◌, ◌^◌, ◌<◌, Bool, true, false, not, nat_eq, refl, ap, ◌∙◌, arith, bit_and}
use Rattle.std.proofs.lemmas.Nat.Bits.{and_pow, bit_at-lt}
use Rattle.std.specs.Int.{bit_at}
use Rattle.c_arrow.specs.Flags.{flags_of, has_sorted_keys, is_nullable}

is_one : (a p : ℕ) → a < 2 → nat_eq (1 * p) 0 ≡ false → not (nat_eq (a * p) 0) ≡ nat_eq a 1
is_one zero p lt h = let e : 0 * p ≡ 0 = omega arith in rw e refl
is_one (suc zero) p lt h = ap not h
is_one (suc (suc a)) p lt h = absurd (omega (arith, lt))

flag : (n k : ℕ) → nat_eq (1 * 2 ^ k) 0 ≡ false → not (nat_eq (bit_and n (2 ^ k)) 0) ≡ nat_eq (bit_at n k) 1
flag n k h = ap (λ b. not (nat_eq b 0)) (and_pow n k) ∙ is_one (bit_at n k) (2 ^ k) (bit_at-lt n k) h

pub flag_2 : (n : ℕ) → not (nat_eq (bit_and n 2) 0) ≡ nat_eq (bit_at n 1) 1
flag_2 n = flag n 1 refl

pub flag_4 : (n : ℕ) → not (nat_eq (bit_and n 4) 0) ≡ nat_eq (bit_at n 2) 1
flag_4 n = flag n 2 refl

pub ruleset flags = (flag_2, flag_4)

pub nullable_again : (nullable sorted : Bool) → is_nullable (flags_of nullable sorted) ≡ nullable
nullable_again true true = refl
nullable_again true false = refl
nullable_again false true = refl
nullable_again false false = refl

pub sorted_again : (nullable sorted : Bool) → has_sorted_keys (flags_of nullable sorted) ≡ sorted
sorted_again true true = refl
sorted_again true false = refl
sorted_again false true = refl
sorted_again false false = refl
