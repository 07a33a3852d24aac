-- SPDX-License-Identifier: Apache-2.0
-- SPDX-FileCopyrightText: Copyright the Vortex contributors

-- Decimal types and their storage types. From the documentation of Vortex's `DecimalDType` and `DecimalType`.
use Rattle.std.specs.Prelude.{◌≡◌, ℕ, ◌+◌, ◌*◌, ◌/◌, ◌^◌, ◌<◌, ◌≤◌, ℤ, pos, neg_ℤ, ◌≤ℤ◌, ◌<ℤ◌, List, [], ◌∷◌, ◌++◌, codes, Option, Some, None, IsSomeAnd, find, nat_le}
use Rattle.std.specs.Fmt.{decimal, signed_decimal}
use Rattle.dtype_base.specs.declared.ptype.PType.{PType}
use Rattle.dtype_base.specs.declared.ptype.PType.TheVariants as primitives
use Rattle.dtype_base.specs.declared.decimal.DecimalType.{DecimalType}
use Rattle.dtype_base.specs.declared.decimal.DecimalType.TheVariants.{I8, I16, I32, I64, I128, I256}
use Rattle.dtype_base.specs.declared.vortex_error.VortexError.{VortexError}
use Rattle.dtype_base.specs.declared.vortex_error.VortexError.TheVariants.{PrecisionZero, PrecisionTooLarge, ScaleTooLarge, ScaleAbovePrecision}

-- a decimal type: how many digits its values have, and how many of these follow the decimal point
pub record Decimal : Type 0 where
  pub precision : ℕ
  pub scale : ℤ

-- a precision of 1 to max, and a scale that fits 8 bits and is at most the precision; a negative scale is a number of
-- zeros before the decimal point
pub record IsDecimalWithin (max precision : ℕ) (scale : ℤ) : Type 0 where
  pub some_digits : 1 ≤ precision
  pub precision_at_most : precision ≤ max
  pub scale_at_least : neg_ℤ (pos 128) ≤ℤ scale
  pub scale_at_most : scale ≤ℤ pos precision

-- the most digits of which every number fits 256 bits
abbrev pub greatest_precision : ℕ
greatest_precision = 76

-- the decimal types whose values 256 bits can hold
abbrev pub IsValidDecimal : Decimal → Type 0
IsValidDecimal d = IsDecimalWithin greatest_precision d.precision d.scale

-- e is the first of these errors that applies: a precision of 0, a precision above max, a scale above max, a scale
-- above the precision
abbrev pub DecimalError : (max precision : ℕ) (scale : ℤ) → VortexError → Type 0
DecimalError max precision scale (PrecisionZero m) = (m ≡ max) × (precision ≡ 0)
DecimalError max precision scale (PrecisionTooLarge p m) = (p ≡ precision) × (m ≡ max) × (max < precision)
DecimalError max precision scale (ScaleTooLarge s m) = (s ≡ scale) × (m ≡ pos max) × (1 ≤ precision) × (precision ≤ max) × (pos max <ℤ scale)
DecimalError max precision scale (ScaleAbovePrecision s p) = (s ≡ scale) × (p ≡ precision) × (1 ≤ precision) × (precision ≤ max) × (scale ≤ℤ pos max) × (pos precision <ℤ scale)
DecimalError max precision scale _ = ⊥

-- b is the least number of bits that hold every unsigned number of p digits
pub record IsBitWidth (p b : ℕ) : Type 0 where
  pub enough : 10 ^ p ≤ 2 ^ b
  pub least : (c : ℕ) → c < b → 2 ^ c < 10 ^ p

-- the bit width of a precision up to the greatest, computed: a digit takes about 3.322 bits
abbrev pub bit_width : ℕ → ℕ
bit_width p = p * 3322 / 1000 + 1

-- the text of a decimal type, for example `decimal(10,-5)`
abbrev pub decimal_text : Decimal → List ℕ
decimal_text d = codes "decimal(" ++ (decimal d.precision ++ (codes "," ++ (signed_decimal d.scale ++ codes ")")))

-- a row of the table of storage types
pub record Storage : Type 0 where
  pub number : ℕ
  pub text : List ℕ
  -- the width of a value in bytes
  pub bytes : ℕ
  -- the greatest number of decimal digits such that every number with so many digits fits the type
  pub digits : ℕ

-- the table of storage types
abbrev pub storage : DecimalType → Storage
storage I8 = record { number = 0; text = codes "i8"; bytes = 1; digits = 2 }
storage I16 = record { number = 1; text = codes "i16"; bytes = 2; digits = 4 }
storage I32 = record { number = 2; text = codes "i32"; bytes = 4; digits = 9 }
storage I64 = record { number = 3; text = codes "i64"; bytes = 8; digits = 18 }
storage I128 = record { number = 4; text = codes "i128"; bytes = 16; digits = 38 }
storage I256 = record { number = 5; text = codes "i256"; bytes = 32; digits = greatest_precision }

-- the narrowest storage type that can hold every number of that many digits
abbrev pub smallest_storage : ℕ → Option DecimalType
smallest_storage digits = find (λ t. nat_le digits (storage t).digits) (I8 ∷ I16 ∷ I32 ∷ I64 ∷ I128 ∷ I256 ∷ [])

-- t is the smallest storage type of that many digits, or one with a greater number
abbrev pub IsCompatible : DecimalType → ℕ → Type 0
IsCompatible t digits = IsSomeAnd (smallest_storage digits) (λ s. (storage s).number ≤ (storage t).number)

-- the storage type of the same name as a primitive type, if there is one
abbrev pub decimal_type_of : PType → Option DecimalType
decimal_type_of primitives.I8 = Some I8
decimal_type_of primitives.I16 = Some I16
decimal_type_of primitives.I32 = Some I32
decimal_type_of primitives.I64 = Some I64
decimal_type_of _ = None
