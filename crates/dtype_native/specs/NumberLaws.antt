-- SPDX-License-Identifier: Apache-2.0
-- SPDX-FileCopyrightText: Copyright the Vortex contributors

-- Proofs of the laws of the numeric traits, which the impls cite: arithmetic of bytes in base 256, of digits in
-- base ten, and of the ranges of integers.
use Rattle.std.specs.Prelude.{◌≡◌, ◌↔◌, ℕ, ℤ, zero, suc, pos, negsuc, neg_ℤ, ◌-◌, ◌*◌, ◌/◌, ◌%◌, ◌^◌, ◌<◌, ◌≤◌, ◌≤ℤ◌, ◌<ℤ◌, unsigned_abs, FitsSigned}
use Rattle.std.specs.Int.{Width, w8, byte_len, FitsUnsignedBits, cast_signed, cast_unsigned}
use Rattle.std.proofs.Common.{refl, ap, sym, ◌∙◌, arith, lt_of_le_of_lt}
use Rattle.std.proofs.Math.Nat.{pow-suc}
use Rattle.std.proofs.Math.Facts.{Fits-of_z}
use Rattle.std.proofs.lemmas.Int.{ints, fits_signed_from_abs, to_z-of_z}
use mir.Val.{hbits}
use Rattle.dtype_base.specs.declared.ptype.PType.{PType}
use Rattle.dtype_base.specs.Primitives.{ptype_row}
use Rattle.dtype_base.specs.Primitives.NumberKind.{Unsigned}
use Rattle.dtype_types.specs.values.Value.{InRange}
use Rattle.dtype_native.specs.LittleEndian.{little_endian}

-- ---- different numbers of a type have different bytes

-- a negative number has the bytes of its two's complement
complement : (k m : ℕ) → m < 256 ^ k → little_endian k (pos (256 ^ k - suc m)) ≡ little_endian k (negsuc m)
unfolding little_endian
complement zero m h = refl
complement (suc k) m h =
    let whole : 256 ^ suc k ≡ 256 * 256 ^ k = omega (arith, pow-suc 256 k) in
    let low : (256 ^ suc k - suc m) % 256 ≡ 255 - m % 256 = omega arith in
    let high : (256 ^ suc k - suc m) / 256 ≡ 256 ^ k - suc (m / 256) = omega arith in
    let rest : little_endian k (pos (256 ^ k - suc (m / 256))) ≡ little_endian k (negsuc (m / 256)) = complement k (m / 256) (omega arith) in
    rw (low, high, rest)

-- numbers with the same bytes are the same
pub injective : (k a b : ℕ) → a < 256 ^ k → b < 256 ^ k → little_endian k (pos a) ≡ little_endian k (pos b) → a ≡ b
unfolding little_endian
injective zero a b f g e = omega arith
injective (suc k) a b f g e =
    let whole : 256 ^ suc k ≡ 256 * 256 ^ k = omega (arith, pow-suc 256 k) in
    let low : a % 256 ≡ b % 256 = cc in
    let rest : little_endian k (pos (a / 256)) ≡ little_endian k (pos (b / 256)) = cc in
    let high : a / 256 ≡ b / 256 = injective k (a / 256) (b / 256) (omega arith) (omega arith) rest in
    omega arith

-- the bytes of a signed number are those of its bits
pub of_bits : (w : Width) (z : ℤ) → FitsSigned w z → little_endian (byte_len w) (pos (cast_unsigned w z)) ≡ little_endian (byte_len w) z
of_bits w (pos n) f = refl
of_bits w8 (negsuc n) f = let s = f.sfits in complement 1 n (omega arith)
of_bits _ (negsuc n) f = let s = f.sfits in complement _ n (omega arith)

pub bits_below : (w : Width) (z : ℤ) → FitsSigned w z → cast_unsigned w z < 256 ^ byte_len w
bits_below w8 z f = (Fits-of_z f).fits
bits_below _ z f = (Fits-of_z f).fits

pub signed_injective : (w : Width) (x y : ℤ) → FitsSigned w x → FitsSigned w y → little_endian (byte_len w) x ≡ little_endian (byte_len w) y → x ≡ y
signed_injective w x y f g e =
    let same : little_endian (byte_len w) (pos (cast_unsigned w x)) ≡ little_endian (byte_len w) (pos (cast_unsigned w y)) = of_bits w x f ∙ e ∙ sym (of_bits w y g) in
    let bits_same : cast_unsigned w x ≡ cast_unsigned w y = injective (byte_len w) (cast_unsigned w x) (cast_unsigned w y) (bits_below w x f) (bits_below w y g) same in
    sym (to_z-of_z w x f) ∙ ap (cast_signed w) bits_same ∙ to_z-of_z w y g

-- ---- the integers of a type

pub unsigned_range : (p : PType) (z : ℤ) → FitsUnsignedBits (8 * (ptype_row p).bytes) z ↔ InRange Unsigned p z
unsigned_range p (pos n) = ((λ f. f), (λ f. f))
unsigned_range p (negsuc n) = ((λ f. f), (λ f. f))

pub signed_range : (w : Width) (z : ℤ) → FitsSigned w z ↔ ((neg_ℤ (pos (2 ^ hbits w)) ≤ℤ z) × (z <ℤ pos (2 ^ hbits w)))
signed_range w (pos n) = (
  (λ f. let small = f.sfits in (omega (arith, ints), omega (arith, ints))),
  (λ r. let below = r.1 in record { sfits = omega (arith, ints) }),
)
signed_range w (negsuc n) = (
  (λ f. let small = f.sfits in (omega (arith, ints), omega (arith, ints))),
  (λ r. let above = r.0 in record { sfits = omega (arith, ints) }),
)

pub same_natural : (x y : ℕ) → pos x ≡ pos y → x ≡ y
same_natural x y e = cc

-- ---- the numbers of so many decimal digits

pub digits_fit : (w : Width) (digits : ℕ) → 10 ^ digits < 2 ^ hbits w → (z : ℤ) → unsigned_abs z ≤ 10 ^ digits → FitsSigned w z
digits_fit w digits below z few = fits_signed_from_abs w z (lt_of_le_of_lt few below)
