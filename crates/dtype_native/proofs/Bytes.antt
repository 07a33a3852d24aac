-- SPDX-License-Identifier: Apache-2.0
-- SPDX-FileCopyrightText: Copyright the Vortex contributors

-- Little-endian bytes: how many there are, and that std's words for them, written and read, are these.
use Rattle.std.proofs.Common.{◌≡◌, ℕ, ℤ, zero, suc, pos, negsuc, ◌/◌, ◌%◌, ◌^◌, ◌<◌, List, [], ◌∷◌, length, get_or, refl, ap, sym, ◌∙◌, arith, FitsSigned}
use Rattle.std.specs.Int.{Width, w8, w16, w32, w64, byte_len, bytes_low_first, to_le_bytes, from_le_bytes, cast_signed, cast_unsigned}
use Rattle.std.proofs.lemmas.Int.{of_z-to_z}
use Rattle.std.proofs.lemmas.Nat.{le_bytes_2, le_bytes_4, le_bytes_8}
use Rattle.std.proofs.Math.Nat.{pow-suc, div-one, div-div-eq-div-mul}
use mir.Val.{bits}
use Rattle.dtype_native.specs.LittleEndian.{little_endian}
use Rattle.dtype_native.specs.NumberLaws.{of_bits, bits_below}

-- ---- what they are

pub length_little_endian : (k : ℕ) (z : ℤ) → length (little_endian k z) ≡ k
unfolding little_endian
length_little_endian zero z = refl
length_little_endian (suc k) (pos n) = ap suc (length_little_endian k (pos (n / 256)))
length_little_endian (suc k) (negsuc n) = ap suc (length_little_endian k (negsuc (n / 256)))

-- std's bytes of n from byte i upward
low_first : (i k n : ℕ) → bytes_low_first i k n ≡ little_endian k (pos (n / 256 ^ i))
unfolding little_endian
low_first i zero n = refl
low_first zero (suc k) n =
    ap (λ (m : ℕ). (m % 256) ∷ bytes_low_first 1 k n) (sym (div-one n))
    ∙ ap (λ (bs : List ℕ). (n / 1 % 256) ∷ bs) (low_first 1 k n ∙ ap (λ (m : ℕ). little_endian k (pos (m / 256))) (sym (div-one n)))
low_first (suc i) (suc k) n =
    let shifted : n / 256 ^ suc (suc i) ≡ n / 256 ^ suc i / 256 =
    ap (λ (m : ℕ). n / m) (pow-suc 256 (suc i)) ∙ sym (div-div-eq-div-mul n (256 ^ suc i) 256) in
    ap (λ (bs : List ℕ). (n / 256 ^ suc i % 256) ∷ bs) (low_first (suc (suc i)) k n ∙ ap (λ (m : ℕ). little_endian k (pos m)) shifted)

-- ---- what is written, at each width

whole : (k n : ℕ) → bytes_low_first 0 k n ≡ little_endian k (pos n)
whole k n = low_first 0 k n ∙ ap (λ (m : ℕ). little_endian k (pos m)) (div-one n)

one_byte : (n : ℕ) → n < 256 → n ∷ [] ≡ little_endian 1 (pos n)
one_byte n f =
    ap (λ (m : ℕ). m ∷ []) (omega arith) ∙ whole 1 n

pub written_u8 : (bs : List ℕ) (n : ℕ) → bs ≡ n ∷ [] → n < 2 ^ 8 → bs ≡ little_endian 1 (pos n)
written_u8 bs n e f = e ∙ one_byte n f

pub written_unsigned : (bs : List ℕ) (k n : ℕ) → bs ≡ bytes_low_first 0 k n → bs ≡ little_endian k (pos n)
written_unsigned bs k n e = e ∙ whole k n

pub written_i8 : (bs : List ℕ) (z : ℤ) → bs ≡ cast_unsigned w8 z ∷ [] → FitsSigned w8 z → bs ≡ little_endian 1 z
written_i8 bs z e f = e ∙ one_byte (cast_unsigned w8 z) (bits_below w8 z f) ∙ of_bits w8 z f

pub written_i16 : (bs : List ℕ) (z : ℤ) → bs ≡ to_le_bytes w16 (cast_unsigned w16 z) → FitsSigned w16 z → bs ≡ little_endian 2 z
written_i16 bs z e f = e ∙ whole 2 (cast_unsigned w16 z) ∙ of_bits w16 z f

pub written_i32 : (bs : List ℕ) (z : ℤ) → bs ≡ to_le_bytes w32 (cast_unsigned w32 z) → FitsSigned w32 z → bs ≡ little_endian 4 z
written_i32 bs z e f = e ∙ whole 4 (cast_unsigned w32 z) ∙ of_bits w32 z f

pub written_i64 : (bs : List ℕ) (z : ℤ) → bs ≡ to_le_bytes w64 (cast_unsigned w64 z) → FitsSigned w64 z → bs ≡ little_endian 8 z
written_i64 bs z e f = e ∙ whole 8 (cast_unsigned w64 z) ∙ of_bits w64 z f

pub ruleset written = (written_u8, written_unsigned, written_i8, written_i16, written_i32, written_i64)

-- ---- what is read, at each width

-- the items are bytes
abbrev AreBytes : List ℕ → Type 0
AreBytes bs = (i : ℕ) → get_or bs i 0 < 256

-- the bytes of a number are those of the signed number with its bits
signed : (w : Width) (z : ℤ) (bs : List ℕ) (n : ℕ) → z ≡ cast_signed w n → FitsSigned w z → n < 2 ^ bits w → bs ≡ little_endian (byte_len w) (pos n) → bs ≡ little_endian (byte_len w) z
signed w z bs n is f small e =
    let same : n ≡ cast_unsigned w z = sym (of_z-to_z w n small) ∙ ap (cast_unsigned w) (sym is) in
    e ∙ ap (λ (m : ℕ). little_endian (byte_len w) (pos m)) same ∙ of_bits w z f

one_item : (bs : List ℕ) → length bs ≡ 1 → bs ≡ get_or bs 0 0 ∷ []
one_item (b ∷ []) l = refl
one_item _ l = absurd (omega arith)

pub read_u8 : (bs : List ℕ) (n : ℕ) → n ≡ get_or bs 0 0 → length bs ≡ 1 → AreBytes bs → bs ≡ little_endian 1 (pos n)
read_u8 bs n e l f =
    one_item bs l ∙ ap (λ (m : ℕ). m ∷ []) (sym e) ∙ one_byte n (omega (arith, f 0))

pub read_u16 : (bs : List ℕ) (n : ℕ) → n ≡ from_le_bytes w16 bs → length bs ≡ 2 → AreBytes bs → bs ≡ little_endian 2 (pos n)
read_u16 bs n e l f = sym (le_bytes_2 bs n l f e) ∙ whole 2 n

pub read_u32 : (bs : List ℕ) (n : ℕ) → n ≡ from_le_bytes w32 bs → length bs ≡ 4 → AreBytes bs → bs ≡ little_endian 4 (pos n)
read_u32 bs n e l f = sym (le_bytes_4 bs n l f e) ∙ whole 4 n

pub read_u64 : (bs : List ℕ) (n : ℕ) → n ≡ from_le_bytes w64 bs → length bs ≡ 8 → AreBytes bs → bs ≡ little_endian 8 (pos n)
read_u64 bs n e l f = sym (le_bytes_8 bs n l f e) ∙ whole 8 n

pub read_i8 : (bs : List ℕ) (z : ℤ) → z ≡ cast_signed w8 (get_or bs 0 0) → FitsSigned w8 z → length bs ≡ 1 → AreBytes bs → bs ≡ little_endian 1 z
read_i8 bs z e g l f = signed w8 z bs (get_or bs 0 0) e g (f 0) (read_u8 bs (get_or bs 0 0) refl l f)

pub read_i16 : (bs : List ℕ) (z : ℤ) → z ≡ cast_signed w16 (from_le_bytes w16 bs) → FitsSigned w16 z → length bs ≡ 2 → AreBytes bs → bs ≡ little_endian 2 z
read_i16 bs z e g l f =
    signed w16 z bs (from_le_bytes w16 bs) e g (omega (arith, f 0, f 1)) (read_u16 bs (from_le_bytes w16 bs) refl l f)

pub read_i32 : (bs : List ℕ) (z : ℤ) → z ≡ cast_signed w32 (from_le_bytes w32 bs) → FitsSigned w32 z → length bs ≡ 4 → AreBytes bs → bs ≡ little_endian 4 z
read_i32 bs z e g l f =
    signed w32 z bs (from_le_bytes w32 bs) e g (omega (arith, f 0, f 1, f 2, f 3)) (read_u32 bs (from_le_bytes w32 bs) refl l f)

pub read_i64 : (bs : List ℕ) (z : ℤ) → z ≡ cast_signed w64 (from_le_bytes w64 bs) → FitsSigned w64 z → length bs ≡ 8 → AreBytes bs → bs ≡ little_endian 8 z
read_i64 bs z e g l f =
    signed w64 z bs (from_le_bytes w64 bs) e g (omega (arith, f 0, f 1, f 2, f 3, f 4, f 5, f 6, f 7)) (read_u64 bs (from_le_bytes w64 bs) refl l f)

pub ruleset read = (read_u8, read_u16, read_u32, read_u64, read_i8, read_i16, read_i32, read_i64)
