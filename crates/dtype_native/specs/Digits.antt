-- SPDX-License-Identifier: Apache-2.0
-- SPDX-FileCopyrightText: Copyright the Vortex contributors

-- The numbers with a given number of decimal digits, and the text of a decimal type that is stored in a native type.
-- The bounds are arithmetic: in base ten, the greatest number with n digits is 10^n - 1. The text, and which decimals
-- are kept, are from the documentation of `NativeDecimalType` and `PrecisionScale`.
use Rattle.std.specs.Prelude.{◌≡◌, ◌↔◌, ℕ, List, ◌++◌, codes, Result, IsOk, MatchResult}
use Rattle.std.specs.Fmt.{decimal, signed_decimal}
use Rattle.dtype_base.specs.declared.vortex_error.VortexError.{VortexError}
use Rattle.dtype_base.specs.Decimals.{Decimal, IsDecimalWithin, DecimalError}
pub use Rattle.dtype_types.specs.values.Value.{HasDigits}

-- the text of a decimal type that is stored in the native type `name`, for example `decimal(i8, p=2, s=1)`
abbrev pub precision_scale_text : List ℕ → Decimal → List ℕ
precision_scale_text name d =
    codes "decimal(" ++ (name ++ (codes ", p=" ++ (decimal d.precision ++ (codes ", s=" ++ (signed_decimal d.scale ++ codes ")")))))

-- r is the result of storing the decimal type d in a native type with room for `max` digits: d, or the error
abbrev pub KeepsDecimal : ℕ → Decimal → Result Decimal VortexError → Type 0
KeepsDecimal max d r =
    (IsOk r ↔ IsDecimalWithin max d.precision d.scale)
    × MatchResult r (λ kept. kept ≡ d) (DecimalError max d.precision d.scale)
