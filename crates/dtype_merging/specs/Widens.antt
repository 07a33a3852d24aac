-- SPDX-License-Identifier: Apache-2.0
-- SPDX-FileCopyrightText: Copyright the Vortex contributors

-- Which numbers can be read as which, by the caller's choice (`Widening`). A type of numbers can always be read as itself.
-- If the caller allows it, an integer type can also be read as an integer type that has all its values, and a decimal as a
-- decimal of the same scale and a greater precision, which has all its values too. For example, `i32` can be read as `i64`,
-- `u8` as `i16`, and `decimal(5,2)` as `decimal(7,2)`. A floating-point type can be read as itself only, because the bit
-- patterns of one aren't those of another.
use Rattle.std.specs.Prelude.{◌≡◌, ℕ, ◌-◌, ◌*◌, Bool, true, false, ◌&&◌, ◌||◌, ◌==◌, nat_le, Option, Some, None, if◌then◌else◌, not}
use Rattle.std.specs.Ordering.{int_eq}
use Rattle.dtype_base.specs.Decimals.{Decimal}
use Rattle.dtype_base.specs.Primitives.{ptype_row, NumberKind}
use Rattle.dtype_base.specs.Primitives.NumberKind.{Unsigned, Signed, Floating}
use Rattle.dtype_base.specs.declared.ptype.PType.{PType}
use Rattle.dtype_base.specs.declared.ptype.PType.TheVariants.{U8, U16, U32, I16, I32, I64}
use Rattle.dtype_types.specs.equality.Equality.{same_ptype}
use Rattle.dtype_merging.specs.declared.widening.Widening.{Widening}
use Rattle.dtype_merging.specs.declared.widening.Widening.TheVariants as widening

-- whether integers of this kind and this width in bytes have a sign, and how many binary digits they have besides
abbrev pub integer_form : NumberKind → ℕ → Option (Bool × ℕ)
integer_form Unsigned bytes = Some (false, 8 * bytes)
integer_form Signed bytes = Some (true, 8 * bytes - 1)
integer_form Floating bytes = None

-- the same of the integers of `p`, and None for a floating-point type
abbrev pub form_of : PType → Option (Bool × ℕ)
form_of p = integer_form (ptype_row p).kind (ptype_row p).bytes

-- whether each integer of the first form has the second: the second has a sign if the first has, and as many digits
abbrev pub form_fits : Option (Bool × ℕ) → Option (Bool × ℕ) → Bool
form_fits (Some a) (Some b) = (not a.0 || b.0) && nat_le a.1 b.1
form_fits (Some a) None = false
form_fits None b = false

-- whether `p` and `q` are integer types, and each integer of `p` is one of `q`
abbrev pub has_integers : PType → PType → Bool
has_integers p q = form_fits (form_of p) (form_of q)

-- whether numbers of `p` can be read as numbers of `q`
abbrev pub ptype_reads : Widening → PType → PType → Bool
ptype_reads widening.None p q = same_ptype p q
ptype_reads widening.Integers p q = same_ptype p q || has_integers p q

-- whether decimals of `d` can be read as decimals of `e`
abbrev pub decimal_reads : Widening → Decimal → Decimal → Bool
decimal_reads widening.None d e = (d.precision == e.precision) && int_eq d.scale e.scale
decimal_reads widening.Integers d e = nat_le d.precision e.precision && int_eq d.scale e.scale

-- Numbers of `p` can be read as numbers of `q`. This and the next are records, so that a search finds `w` in a fact about
-- types (`ReadsAs`).
pub record ReadsPrimitive (w : Widening) (p q : PType) : Type 0 where
  pub reads : ptype_reads w p q ≡ true

-- decimals of `d` can be read as decimals of `e`
pub record ReadsDecimal (w : Widening) (d e : Decimal) : Type 0 where
  pub reads : decimal_reads w d e ≡ true

-- the narrowest signed type that has all integers of an unsigned type, if there is one
abbrev pub signed_above : PType → Option PType
signed_above U8 = Some I16
signed_above U16 = Some I32
signed_above U32 = Some I64
signed_above _ = None

-- the first of the two types, if there is one
abbrev pub or_other : Option PType → Option PType → Option PType
or_other None o = o
or_other (Some p) o = Some p

-- the type `r`, if there is one and both `p` and `q` can be read as it
abbrev pub read_by_both : Widening → PType → PType → Option PType → Option PType
read_by_both w p q (Some r) = if ptype_reads w p r && ptype_reads w q r then Some r else None
read_by_both w p q None = None

-- the least type as which both `p` and `q` can be read, or None if there is none
abbrev pub common_ptype : Widening → PType → PType → Option PType
common_ptype w p q = if ptype_reads w p q then Some q else (if ptype_reads w q p then Some p else read_by_both w p q (or_other (signed_above p) (signed_above q)))

-- the least decimal type as which both `d` and `e` can be read, or None if there is none
abbrev pub common_decimal : Widening → Decimal → Decimal → Option Decimal
common_decimal w d e = if decimal_reads w d e then Some e else (if decimal_reads w e d then Some d else None)
