-- SPDX-License-Identifier: Apache-2.0
-- SPDX-FileCopyrightText: Copyright the Vortex contributors

-- The little-endian bytes of a whole number: its digits in base 256, the least significant first. From the
-- documentation of `ToBytes` and `TryFromBytes`, and of `to_le_bytes` of std.
use Rattle.std.specs.Prelude.{◌≡◌, ◌↔◌, ℕ, ℤ, zero, suc, pos, negsuc, ◌-◌, ◌/◌, ◌%◌, List, [], ◌∷◌, length, Result, IsOk, IfOk, IsOkUnless}
use Rattle.dtype_base.specs.declared.vortex_error.VortexError.{VortexError}
use Rattle.dtype_base.specs.declared.vortex_error.VortexError.TheVariants.{BytesLength}

-- The first k bytes of a whole number, the least significant first. A negative number is in two's complement: -1 - n
-- has the bytes of n with each bit inverted.
unfoldable pub little_endian : ℕ → ℤ → List ℕ
little_endian zero z = []
little_endian (suc k) (pos n) = (n % 256) ∷ little_endian k (pos (n / 256))
little_endian (suc k) (negsuc n) = (255 - n % 256) ∷ little_endian k (negsuc (n / 256))

-- r is the result of reading bytes as a number of this width: the number with these bytes if there are as many bytes as
-- the type is wide, and otherwise the error `BytesLength`
pub record ReadsBytes {T : Type 0} (width : ℕ) (value : T → ℤ) (fits : ℤ → Type 0) (bytes : List ℕ) (r : Result T VortexError) : Type 0 where
  pub accepted : IsOk r ↔ (length bytes ≡ width)
  pub refused : IsOkUnless r BytesLength
  pub read : IfOk r (λ x. bytes ≡ little_endian width (value x))
  pub in_range : IfOk r (λ x. fits (value x))
