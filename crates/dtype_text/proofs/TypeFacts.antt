-- SPDX-License-Identifier: Apache-2.0
-- SPDX-FileCopyrightText: Copyright the Vortex contributors

-- What readers of types need.
use Rattle.std.proofs.Common.{◌≡◌, ℕ, suc, ◌-◌, ◌<◌, ◌≤◌, List, Bool, true, false, cond, ℤ, refl, sym, ap, ◌∙◌, arith, inl, inr}
use Rattle.dtype_base.specs.Decimals.{Decimal, DecimalError, IsDecimalWithin}
use Rattle.dtype_base.specs.declared.vortex_error.VortexError.{VortexError}
use Rattle.dtype_base.specs.declared.vortex_error.VortexError.TheVariants.{PrecisionZero, PrecisionTooLarge, ScaleTooLarge, ScaleAbovePrecision}
use Rattle.dtype_types.specs.declared.extension.ExtDTypeRef.{ExtDTypeRef}
use Rattle.dtype_base.specs.declared.nullability.Nullability.{Nullability}
use Rattle.dtype_types.specs.tree.Tree.{Tree, Variants, fields, struct, union, extension}
use Rattle.dtype_types.specs.tree.TreeOf.{tree, children, variants_of, extension_tree}
use Rattle.dtype_types.specs.declared.struct_fields.StructFields.{StructFields}
use Rattle.dtype_types.specs.declared.dtype.DType.{Struct, Union, Extension}
use Rattle.dtype_types.proofs.lemmas.TreeLaws.{tree_struct, tree_union, tree_extension}
use Rattle.dtype_types.specs.declared.union_variants.UnionVariants.{UnionVariants}
use Rattle.std.specs.Prelude.{◌⊎◌, ◌≤ℤ◌, ◌<ℤ◌, ◌==◌, ◌&&◌, nat_le, nat_lt, int_le, int_lt, pos, neg_ℤ}
use Rattle.std.proofs.lemmas.Bool.{eqb-true, eq-eqb}
use Rattle.std.proofs.lemmas.Bool.Decides.{nat_tests}
use Rattle.dtype_text.proofs.Words.{both}
use Rattle.dtype_text.specs.TypeParts.{is_decimal, decimal_error, a_decimal}
use Rattle.dtype_text.specs.Types.{part_at, type_by}
use Rattle.dtype_text.specs.Outcome.{Outcome, got, refused}

-- a type within another, where more levels are allowed
pub part_more : (levels : ℕ) (bytes : List ℕ) → 0 < levels → part_at levels bytes ≡ type_by (part_at (levels - 1)) bytes
part_more levels bytes lt = let e : levels ≡ suc (levels - 1) = omega arith in ap (λ (n : ℕ). part_at n bytes) e

pub ruleset parts = (part_more)

pub made_struct : (s : StructFields) (n : Nullability) (ps : List (List ℕ × Tree)) → children s ≡ ps → tree (Struct s n) ≡ struct (fields ps) n
made_struct s n ps e = tree_struct s n ∙ ap (λ qs. struct (fields qs) n) e

pub ruleset structs = (made_struct)

pub made_union : (u : UnionVariants) (n : Nullability) (vs : Variants) → variants_of u ≡ vs → tree (Union u n) ≡ union vs n
made_union u n vs e = tree_union u n ∙ ap (λ ws. union ws n) e

pub ruleset unions = (made_union)

pub made_extension : (e : ExtDTypeRef) (id m : List ℕ) (t : Tree) → extension_tree e ≡ extension id m t → tree (Extension e) ≡ extension id m t
made_extension e id m t h = tree_extension e ∙ h

pub ruleset extensions = (made_extension)

-- each test of integers with what it tells
le_tells : (a b : ℤ) → ((int_le a b ≡ true) × (a ≤ℤ b)) ⊎ ((int_le a b ≡ false) × (a ≤ℤ b → ⊥))
le_tells a b = grind arith

le_true : (a b : ℤ) → a ≤ℤ b → int_le a b ≡ true
le_true a b h = elim (le_tells a b) [ inl t ↦ t.0 | inr f ↦ absurd (f.1 h) ]

true_le : (a b : ℤ) → int_le a b ≡ true → a ≤ℤ b
true_le a b h = elim (le_tells a b) [ inl t ↦ t.1 | inr f ↦ absurd (let clash : true ≡ false = sym h ∙ f.0 in let no_ : ⊥ = cc in no_) ]

-- the test of a decimal
pub decimal_test : (p : ℕ) (s : ℤ) → IsDecimalWithin 76 p s → is_decimal p s ≡ true
decimal_test p s h =
    let a : nat_le 1 p ≡ true = grind (arith, nat_tests, h.some_digits) in
    let b : nat_le p 76 ≡ true = grind (arith, nat_tests, h.precision_at_most) in
    let c : int_le (neg_ℤ (pos 128)) s ≡ true = le_true (neg_ℤ (pos 128)) s h.scale_at_least in
    let d : int_le s (pos p) ≡ true = le_true s (pos p) h.scale_at_most in
    rw (a, b, c, d) refl

pub false_unless : (b : Bool) → (b ≡ true → ⊥) → b ≡ false
false_unless true h = absurd (h refl)
false_unless false h = refl

pub decimal_within : (p : ℕ) (s : ℤ) → is_decimal p s ≡ true → IsDecimalWithin 76 p s
decimal_within p s e =
    let a = both (nat_le 1 p) (nat_le p 76 && (int_le (neg_ℤ (pos 128)) s && int_le s (pos p))) e in
    let b = both (nat_le p 76) (int_le (neg_ℤ (pos 128)) s && int_le s (pos p)) a.1 in
    let c = both (int_le (neg_ℤ (pos 128)) s) (int_le s (pos p)) b.1 in
    record { some_digits = grind (arith, nat_tests, a.0); precision_at_most = grind (arith, nat_tests, b.0); scale_at_least = true_le (neg_ℤ (pos 128)) s c.0; scale_at_most = true_le s (pos p) c.1 }

pub no_decimal : (p : ℕ) (s : ℤ) → (IsDecimalWithin 76 p s → ⊥) → is_decimal p s ≡ false
no_decimal p s h = false_unless (is_decimal p s) (λ e. h (decimal_within p s e))

pub decimal_is : (d : Decimal) (p : ℕ) (s : ℤ) → d.precision ≡ p → d.scale ≡ s → d ≡ a_decimal p s
decimal_is d p s e f = λ i. record { precision = e i; scale = f i }

-- the error of a decimal that isn't made
lt_tells : (a b : ℤ) → ((int_lt a b ≡ true) × (a <ℤ b)) ⊎ ((int_lt a b ≡ false) × (b ≤ℤ a))
lt_tells a b = grind arith

pub decimal_refused : (p : ℕ) (s : ℤ) → neg_ℤ (pos 128) ≤ℤ s → is_decimal p s ≡ false → DecimalError 76 p s (decimal_error p s)
unfolding decimal_error
decimal_refused p s least none = zero_ (p == 0) refl where
  above : (c : Bool) → int_lt (pos 76) s ≡ c → (p == 0) ≡ false → nat_lt 76 p ≡ false → 1 ≤ p → p ≤ 76 → DecimalError 76 p s (decimal_error p s)
  above true t e f some most = rw (e, f, t) (refl, refl, some, most, (elim (lt_tells (pos 76) s) [ inl h ↦ h.1 | inr h ↦ absurd (let clash : true ≡ false = sym t ∙ h.0 in let no_ : ⊥ = cc in no_) ]))
  above false t e f some most =
      let at_most : s ≤ℤ pos 76 = elim (lt_tells (pos 76) s) [ inl h ↦ absurd (let clash : false ≡ true = sym t ∙ h.0 in let no_ : ⊥ = cc in no_) | inr h ↦ h.1 ] in
      let over : pos p <ℤ s = elim (lt_tells (pos p) s) [
        | inl h ↦ h.1
        | inr h ↦ absurd (let is : is_decimal p s ≡ true = decimal_test p s (record { some_digits = some; precision_at_most = most; scale_at_least = least; scale_at_most = h.1 }) in let clash : true ≡ false = sym is ∙ none in let no_ : ⊥ = cc in no_)
      ] in
      rw (e, f, t) (refl, refl, some, most, at_most, over)

  large : (c : Bool) → nat_lt 76 p ≡ c → (p == 0) ≡ false → 1 ≤ p → DecimalError 76 p s (decimal_error p s)
  large true t e some = rw (e, t) (refl, refl, grind (arith, nat_tests, t))
  large false t e some = above (int_lt (pos 76) s) refl e t some (grind (arith, nat_tests, t))

  zero_ : (c : Bool) → (p == 0) ≡ c → DecimalError 76 p s (decimal_error p s)
  zero_ true t = rw t (refl, eqb-true p 0 t)
  zero_ false t = large (nat_lt 76 p) refl t (grind (arith, nat_tests, t))

-- the error that the library returns is that one
pub decimal_error_is : (p : ℕ) (s : ℤ) (e : VortexError) → DecimalError 76 p s e → decimal_error p s ≡ e
unfolding decimal_error
decimal_error_is p s (PrecisionZero m) h = rw (eq-eqb p 0 h.1) (ap PrecisionZero (sym h.0))
decimal_error_is p s (PrecisionTooLarge q m) h =
    let a : (p == 0) ≡ false = grind (arith, nat_tests, h.2) in
    let b : nat_lt 76 p ≡ true = grind (arith, nat_tests, h.2) in
    rw (a, b) (ap (λ (x : ℕ). PrecisionTooLarge x 76) (sym h.0) ∙ ap (λ (x : ℕ). PrecisionTooLarge q x) (sym h.1))
decimal_error_is p s (ScaleTooLarge z m) h =
    let a : (p == 0) ≡ false = grind (arith, nat_tests, h.2) in
    let b : nat_lt 76 p ≡ false = grind (arith, nat_tests, h.3) in
    let c : int_lt (pos 76) s ≡ true = grind (arith, h.4) in
    rw (a, b, c) (ap (λ (x : ℤ). ScaleTooLarge x (pos 76)) (sym h.0) ∙ ap (λ (x : ℤ). ScaleTooLarge z x) (sym h.1))
decimal_error_is p s (ScaleAbovePrecision z q) h =
    let a : (p == 0) ≡ false = grind (arith, nat_tests, h.2) in
    let b : nat_lt 76 p ≡ false = grind (arith, nat_tests, h.3) in
    let c : int_lt (pos 76) s ≡ false = grind (arith, h.4) in
    rw (a, b, c) (ap (λ (x : ℤ). ScaleAbovePrecision x p) (sym h.0) ∙ ap (λ (x : ℕ). ScaleAbovePrecision z x) (sym h.1))
decimal_error_is p s _ h = absurd h

-- what isn't made is refused with that error
pub decimal_none : {A : Type 0} (x : A) (p : ℕ) (s : ℤ) (v : VortexError) → DecimalError 76 p s v → cond (is_decimal p s) (got x) (refused (decimal_error p s)) ≡ refused v
decimal_none {A} x p s v h = rw (no_decimal p s (λ w. outside v h w)) (ap (as_refused A) (decimal_error_is p s v h)) where
  outside : (v : VortexError) → DecimalError 76 p s v → IsDecimalWithin 76 p s → ⊥
  outside (PrecisionZero m) h w = omega (arith, h.1, w.some_digits)
  outside (PrecisionTooLarge q m) h w = omega (arith, h.2, w.precision_at_most)
  outside (ScaleTooLarge z m) h w = grind (arith, h.4, w.scale_at_most, w.precision_at_most)
  outside (ScaleAbovePrecision z q) h w = grind (arith, h.5, w.scale_at_most)
  outside _ h w = h

  as_refused : (A : Type 0) → VortexError → Outcome A
  as_refused A e = refused e

pub ruleset decimals = (decimal_test, decimal_is, decimal_none)
