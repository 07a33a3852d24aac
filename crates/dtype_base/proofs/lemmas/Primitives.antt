-- SPDX-License-Identifier: Apache-2.0
-- SPDX-FileCopyrightText: Copyright the Vortex contributors

-- Lemmas about the table of primitive types. A caller names all of them in one line,
--     #![tactic(auto, using(dtype_base::proofs::lemmas::Primitives::primitives))]
-- A search splits one type: each lemma names the first case, and `_` stands for the others one by one.
use Rattle.std.proofs.Common.{◌≡◌, ◌+◌, ◌-◌, ◌*◌, ◌^◌, ◌==◌, ◌≤◌, ℕ, ℤ, true, cond, Some, refl, sym, ◌∙◌, arith}
use Rattle.std.specs.Prelude.{◌⊎◌, ◌≤ℤ◌, ◌<ℤ◌, int_le, int_lt, false}
use Rattle.std.proofs.lemmas.Bool.Decides.{nat_tests}
use Rattle.dtype_base.specs.Primitives.{NumberKind, Unsigned, Signed, Floating, ptype_row, IsInteger, IsUnsigned, IsSigned, IsNarrowest, HoldsUnsigned, HoldsSigned, narrowest_unsigned, narrowest_signed}
use Rattle.dtype_base.specs.declared.ptype.PType.{PType}
use Rattle.dtype_base.specs.declared.ptype.PType.TheVariants.{U8, U16, U32, U64, I8, I16, I32, I64, F16, F32, F64}

-- ---- the columns of the table

pub at_most_eight_bytes : (p : PType) → (ptype_row p).bytes ≤ 8
at_most_eight_bytes U8 = omega arith
at_most_eight_bytes _ = omega arith

pub greatest_of_unsigned : (p : PType) → IsUnsigned p → (ptype_row p).greatest + 1 ≡ 2 ^ (8 * (ptype_row p).bytes)
greatest_of_unsigned U8 is = grind arith
greatest_of_unsigned _ is = grind arith

pub greatest_of_signed : (p : PType) → IsSigned p → (ptype_row p).greatest + 1 ≡ 2 ^ (8 * (ptype_row p).bytes - 1)
greatest_of_signed U8 is = grind arith
greatest_of_signed _ is = grind arith

pub signed_as_wide : (p : PType) → (ptype_row (ptype_row p).signed).bytes ≡ (ptype_row p).bytes
signed_as_wide U8 = refl
signed_as_wide _ = refl

pub unsigned_as_wide : (p : PType) → (ptype_row (ptype_row p).unsigned).bytes ≡ (ptype_row p).bytes
unsigned_as_wide U8 = refl
unsigned_as_wide _ = refl

pub signed_is_signed : (p : PType) → IsInteger p → IsSigned (ptype_row p).signed
signed_is_signed U8 is = grind arith
signed_is_signed _ is = grind arith

pub unsigned_is_unsigned : (p : PType) → IsInteger p → IsUnsigned (ptype_row p).unsigned
unsigned_is_unsigned U8 is = grind arith
unsigned_is_unsigned _ is = grind arith

-- ---- a narrowest type is unique

-- the type of a kind and a width
of_width : NumberKind → ℕ → PType
of_width Unsigned b = cond (b == 1) U8 (cond (b == 2) U16 (cond (b == 4) U32 U64))
of_width Signed b = cond (b == 1) I8 (cond (b == 2) I16 (cond (b == 4) I32 I64))
of_width Floating b = cond (b == 2) F16 (cond (b == 4) F32 F64)

by_width : (p : PType) → p ≡ of_width (ptype_row p).kind (ptype_row p).bytes
unfolding of_width
by_width U8 = refl
by_width _ = refl

one_narrowest : (kind : NumberKind) (Holds : PType → Type 0) (p q : PType) → IsNarrowest kind Holds p → IsNarrowest kind Holds q → p ≡ q
one_narrowest kind Holds p q h k =
    let one_kind = h.kind_is ∙ sym k.kind_is in
    let one_width : (ptype_row p).bytes ≡ (ptype_row q).bytes = omega (arith, h.narrowest q k.kind_is k.holds, k.narrowest p h.kind_is h.holds) in
    by_width p ∙ (λ i. of_width (one_kind i) (one_width i)) ∙ sym (by_width q)

pub one_unsigned : (n : ℕ) (p q : PType) → IsNarrowest Unsigned (HoldsUnsigned n) p → IsNarrowest Unsigned (HoldsUnsigned n) q → p ≡ q
one_unsigned n = one_narrowest Unsigned (HoldsUnsigned n)

pub one_signed : (z : ℤ) (p q : PType) → IsNarrowest Signed (HoldsSigned z) p → IsNarrowest Signed (HoldsSigned z) q → p ≡ q
one_signed z = one_narrowest Signed (HoldsSigned z)

-- ---- the first type by width that holds a number is a narrowest

pub narrowest_unsigned_is : (n : ℕ) (p : PType) → Some p ≡ narrowest_unsigned n → IsNarrowest Unsigned (HoldsUnsigned n) p
narrowest_unsigned_is n U8 e = grind (arith, nat_tests)
narrowest_unsigned_is n _ e = grind (arith, nat_tests)

-- each test of integers with what it tells
le_tells : (a b : ℤ) → ((int_le a b ≡ true) × (a ≤ℤ b)) ⊎ ((int_le a b ≡ false) × (a ≤ℤ b → ⊥))
le_tells a b = grind arith

lt_tells : (a b : ℤ) → ((int_lt a b ≡ true) × (a <ℤ b)) ⊎ ((int_lt a b ≡ false) × (a <ℤ b → ⊥))
lt_tells a b = grind arith

pub narrowest_signed_is : (z : ℤ) (p : PType) → Some p ≡ narrowest_signed z → IsNarrowest Signed (HoldsSigned z) p
narrowest_signed_is z U8 e = grind (arith, le_tells, lt_tells)
narrowest_signed_is z _ e = grind (arith, le_tells, lt_tells)

pub ruleset primitives = (at_most_eight_bytes, greatest_of_unsigned, greatest_of_signed, signed_as_wide, unsigned_as_wide, signed_is_signed, unsigned_is_unsigned, one_unsigned, one_signed, narrowest_unsigned_is, narrowest_signed_is)
