-- SPDX-License-Identifier: Apache-2.0
-- SPDX-FileCopyrightText: Copyright the Vortex contributors

-- Numbers in formats.
use Rattle.std.specs.Prelude.{ℕ, ◌+◌, ◌-◌, ◌*◌, ◌^◌, List, [], ◌∷◌, ◌==◌, Bool, true, false, nat_le, nat_lt, ◌&&◌, ◌||◌, not, Option, Some, None, if◌then◌else◌, ℤ, pos, neg_ℤ}
use Rattle.std.specs.Char.{is_ascii_digit}
use Rattle.dtype_text.specs.Leaves.{front, past}
use Rattle.dtype_text.specs.Read.{◌>>=◌, byte_at}

-- a number and one more digit, and a number whose digits come after those of n, if it is below 2^32
abbrev pub digit_after : ℕ → ℕ → Option ℕ
digit_after n c = if is_ascii_digit c && nat_lt (n * 10 + (c - 48)) (2 ^ 32) then Some (n * 10 + (c - 48)) else None

abbrev pub number_after : ℕ → List ℕ → Option ℕ
number_after n [] = Some n
number_after n (c ∷ cs) = digit_after n c >>= λ m. number_after m cs

-- The number of these digits, if it is below 2^32. For example, it is 16 of `016`, and there is none of `+1` or of no digits.
unfoldable pub number_of : List ℕ → Option ℕ
number_of [] = None
number_of (c ∷ cs) = number_after 0 (c ∷ cs)

-- the number, if it is at most this
abbrev pub at_most : ℕ → ℕ → Option ℕ
at_most most n = if nat_le n most then Some n else None

-- a size, which is a signed number of 32 bits in Arrow: a number from 0 to 2^31 - 1
unfoldable pub size_of : List ℕ → Option ℕ
size_of w = number_of w >>= at_most 2147483647

-- a number from 0 to 255
unfoldable pub small_of : List ℕ → Option ℕ
small_of w = number_of w >>= at_most 255

-- a number from -128 to 127
unfoldable pub signed_of : List ℕ → Option ℤ
signed_of [] = None
signed_of (b ∷ w) =
    if b == 45 then (number_of w >>= λ n. at_most 128 n >>= λ m. Some (neg_ℤ (pos m)))
    else (number_of (b ∷ w) >>= λ n. at_most 127 n >>= λ m. Some (pos m))

abbrev pub not_comma : ℕ → Bool
not_comma b = not (b == 44)

-- a width of decimals, in bits
abbrev pub is_width_number : Option ℕ → Bool
is_width_number None = false
is_width_number (Some n) = n == 32 || (n == 64 || (n == 128 || n == 256))

-- nothing, or a comma and a width
abbrev pub is_width : List ℕ → Bool
is_width [] = true
is_width (b ∷ w) = b == 44 && is_width_number (number_of w)

-- The precision and the scale of a decimal, and its width if it is there. For example, they are 10 and -2 of `10,-2,128`.
unfoldable pub decimal_parts : List ℕ → Option (ℕ × ℤ)
decimal_parts bytes = do
  behind ← byte_at 44 (past not_comma bytes)
  if is_width (past not_comma behind) then (small_of (front not_comma bytes) >>= λ p. signed_of (front not_comma behind) >>= λ s. Some (p, s)) else None
