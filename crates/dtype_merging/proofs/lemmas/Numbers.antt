-- SPDX-License-Identifier: Apache-2.0
-- SPDX-FileCopyrightText: Copyright the Vortex contributors

-- Which numbers can be read as which is an order, the common type of two is the least above both, and what is read has the
-- values of what it was read from.
use Rattle.std.proofs.Common.{arith, ◌≡◌, ◌<◌, ◌≤◌, ◌==◌, ◌&&◌, ◌||◌, ◌⊎◌, ◌*◌, ◌-◌, ◌^◌, ℕ, ℤ, pos, negsuc, List, [], ◌∷◌, Bool, true, false, Option, Some, None, if◌then◌else◌, nat_le, refl, sym, ap, subst, ◌∙◌, inl, inr}
use Rattle.std.specs.Bool.{Decides}
use Rattle.std.specs.List.{list_all, list_any}
use Rattle.std.specs.Ordering.{int_eq}
use Rattle.std.proofs.Math.Bool.{not}
use Rattle.std.proofs.Math.Nat.{pow-le-pow_right}
use Rattle.std.proofs.Math.Pow.{pow_mono}
use Rattle.std.proofs.lemmas.Bool.{false≢true}
use Rattle.std.proofs.lemmas.Bool.Decides.{Decides-and, Decides-eqb, Decides-int_eq, Decides-like, leb_tells}
use Rattle.std.proofs.lemmas.Int.{ints}
use Rattle.std.proofs.lemmas.Nat.{pow_below, pow_pos}
use Rattle.std.proofs.lemmas.Option.{same_Some}
use Rattle.dtype_base.specs.Decimals.{Decimal}
use Rattle.dtype_base.specs.Primitives.{IsFloat, IsInteger, ptype_row, NumberKind}
use Rattle.dtype_base.specs.Primitives.NumberKind.{Unsigned, Signed, Floating}
use Rattle.dtype_base.specs.declared.nullability.Nullability.{Nullability}
use Rattle.dtype_base.specs.declared.ptype.PType.{PType}
use Rattle.dtype_base.specs.declared.ptype.PType.TheVariants.{U8, U16, U32, U64, I8, I16, I32, I64, F16, F32, F64}
use Rattle.dtype_types.specs.equality.Equality.{same_ptype}
use Rattle.dtype_types.specs.equality.EqualityLaws.{same_decimal-Decides, same_ptype-Decides}
use Rattle.dtype_types.specs.nullability.Sub.{Allows}
use Rattle.dtype_types.specs.tree.Tree.{primitive, decimal}
use Rattle.dtype_types.specs.values.Value.{FloatBitsOf, HasDigits, InRange, IntegerOf, Of, Value, null_value, number, float_bits, digits}
use Rattle.dtype_merging.specs.ReadsAs.{ReadsAs}
use Rattle.dtype_merging.specs.Widens.{common_decimal, common_ptype, decimal_reads, form_fits, form_of, has_integers, integer_form, or_other, ptype_reads, read_by_both, signed_above}
use Rattle.dtype_merging.specs.declared.widening.Widening.{Widening}
use Rattle.dtype_merging.specs.declared.widening.Widening.TheVariants as widening
use Rattle.dtype_merging.proofs.lemmas.Finding.{both_true, by_bool, true_both}

-- ---- what a test tells of all primitive types

abbrev ptypes : List PType
ptypes = U8 ∷ U16 ∷ U32 ∷ U64 ∷ I8 ∷ I16 ∷ I32 ∷ I64 ∷ F16 ∷ F32 ∷ F64 ∷ []

among : (p : PType) → list_any (λ q. same_ptype q p) ptypes ≡ true
among U8 = refl
among U16 = refl
among U32 = refl
among U64 = refl
among I8 = refl
among I16 = refl
among I32 = refl
among I64 = refl
among F16 = refl
among F32 = refl
among F64 = refl

of_one : (f : PType → Bool) (ps : List PType) (p : PType) → list_all f ps ≡ true → list_any (λ q. same_ptype q p) ps ≡ true → f p ≡ true
of_one f [] p e m = absurd (false≢true m)
of_one f (q ∷ qs) p e m =
    let both = both_true (f q) (list_all f qs) e in
    by_bool (same_ptype q p)
    (λ same. subst (λ r. f r ≡ true) ((same_ptype-Decides q p).0 same) both.0)
    (λ other. of_one f qs p both.1 (sym (ap (λ b. b || list_any (λ r. same_ptype r p) qs) other) ∙ m))

abbrev all_ptypes : (PType → Bool) → Bool
all_ptypes f = list_all f ptypes

each : (f : PType → Bool) → all_ptypes f ≡ true → (p : PType) → f p ≡ true
each f e p = of_one f ptypes p e (among p)

each_two : (f : PType → PType → Bool) → all_ptypes (λ p. all_ptypes (λ q. f p q)) ≡ true → (p q : PType) → f p q ≡ true
each_two f e p q = each (λ r. f p r) (each (λ r. all_ptypes (λ s. f r s)) e p) q

each_three : (f : PType → PType → PType → Bool) → all_ptypes (λ p. all_ptypes (λ q. all_ptypes (λ r. f p q r))) ≡ true → (p q r : PType) → f p q r ≡ true
each_three f e p q r = each_two (λ x y. f p x y) (each (λ x. all_ptypes (λ y. all_ptypes (λ z. f x y z))) e p) q r

abbrev implies : Bool → Bool → Bool
implies a b = not a || b

implied : (a b : Bool) → implies a b ≡ true → a ≡ true → b ≡ true
implied true b e f = e
implied false b e f = absurd (false≢true f)

abbrev there_and : (PType → Bool) → Option PType → Bool
there_and f None = false
there_and f (Some r) = f r

there_is : (f : PType → Bool) (o : Option PType) → there_and f o ≡ true → (r : PType) × (o ≡ Some r) × (f r ≡ true)
there_is f (Some r) e = (r, refl, e)
there_is f None e = absurd (false≢true e)

abbrev if_there : (PType → Bool) → Option PType → Bool
if_there f None = true
if_there f (Some r) = f r

of_there : (f : PType → Bool) (o : Option PType) (r : PType) → if_there f o ≡ true → o ≡ Some r → f r ≡ true
of_there f (Some x) r e is = subst (λ z. f z ≡ true) (same_Some x r is) e
of_there f None r e is = cc

-- ---- primitive types

ptype_same_test : (wide : Widening) → all_ptypes (λ p. ptype_reads wide p p) ≡ true
ptype_same_test widening.None = refl
ptype_same_test widening.Integers = refl

pub ptype_itself : (wide : Widening) (p : PType) → ptype_reads wide p p ≡ true
ptype_itself wide = each (λ p. ptype_reads wide p p) (ptype_same_test wide)

pub ptype_same : (wide : Widening) (p q : PType) → p ≡ q → ptype_reads wide p q ≡ true
ptype_same wide p q e = subst (λ r. ptype_reads wide p r ≡ true) e (ptype_itself wide p)

ptype_more_test : (wide : Widening) → all_ptypes (λ p. all_ptypes (λ q. all_ptypes (λ r. implies (ptype_reads wide p q && ptype_reads wide q r) (ptype_reads wide p r)))) ≡ true
ptype_more_test widening.None = refl
ptype_more_test widening.Integers = refl

pub ptype_more : (wide : Widening) (p q r : PType) → ptype_reads wide p q ≡ true → ptype_reads wide q r ≡ true → ptype_reads wide p r ≡ true
ptype_more wide p q r a b =
    implied (ptype_reads wide p q && ptype_reads wide q r) (ptype_reads wide p r)
    (each_three (λ p q r. implies (ptype_reads wide p q && ptype_reads wide q r) (ptype_reads wide p r)) (ptype_more_test wide) p q r)
    (true_both (ptype_reads wide p q) (ptype_reads wide q r) a b)

ptype_back_test : (wide : Widening) → all_ptypes (λ p. all_ptypes (λ q. implies (ptype_reads wide p q && ptype_reads wide q p) (same_ptype p q))) ≡ true
ptype_back_test widening.None = refl
ptype_back_test widening.Integers = refl

pub ptype_back : (wide : Widening) (p q : PType) → ptype_reads wide p q ≡ true → ptype_reads wide q p ≡ true → p ≡ q
ptype_back wide p q a b =
    (same_ptype-Decides p q).0
    (implied (ptype_reads wide p q && ptype_reads wide q p) (same_ptype p q)
    (each_two (λ p q. implies (ptype_reads wide p q && ptype_reads wide q p) (same_ptype p q)) (ptype_back_test wide) p q)
    (true_both (ptype_reads wide p q) (ptype_reads wide q p) a b))

common_above_test : (wide : Widening) → all_ptypes (λ p. all_ptypes (λ q. if_there (λ r. ptype_reads wide p r && ptype_reads wide q r) (common_ptype wide p q))) ≡ true
common_above_test widening.None = refl
common_above_test widening.Integers = refl

pub common_above : (wide : Widening) (p q r : PType) → common_ptype wide p q ≡ Some r → (ptype_reads wide p r ≡ true) × (ptype_reads wide q r ≡ true)
common_above wide p q r is =
    both_true (ptype_reads wide p r) (ptype_reads wide q r)
    (of_there (λ r. ptype_reads wide p r && ptype_reads wide q r) (common_ptype wide p q) r
    (each_two (λ p q. if_there (λ r. ptype_reads wide p r && ptype_reads wide q r) (common_ptype wide p q)) (common_above_test wide) p q) is)

common_least_test : (wide : Widening)
    → all_ptypes (λ p. all_ptypes (λ q. all_ptypes (λ r. implies (ptype_reads wide p r && ptype_reads wide q r) (there_and (λ c. ptype_reads wide c r) (common_ptype wide p q))))) ≡ true
common_least_test widening.None = refl
common_least_test widening.Integers = refl

pub common_least : (wide : Widening) (p q r : PType) → ptype_reads wide p r ≡ true → ptype_reads wide q r ≡ true → (c : PType) × (common_ptype wide p q ≡ Some c) × (ptype_reads wide c r ≡ true)
common_least wide p q r a b =
    there_is (λ c. ptype_reads wide c r) (common_ptype wide p q)
    (implied (ptype_reads wide p r && ptype_reads wide q r) (there_and (λ c. ptype_reads wide c r) (common_ptype wide p q))
    (each_three (λ p q r. implies (ptype_reads wide p r && ptype_reads wide q r) (there_and (λ c. ptype_reads wide c r) (common_ptype wide p q))) (common_least_test wide) p q r)
    (true_both (ptype_reads wide p r) (ptype_reads wide q r) a b))

pub common_same : (wide : Widening) (p q : PType) → p ≡ q → common_ptype wide p q ≡ Some p
common_same wide p q e =
    ap (λ b. if b then Some q else (if ptype_reads wide q p then Some p else read_by_both wide p q (or_other (signed_above p) (signed_above q)))) (ptype_same wide p q e) ∙ ap Some (sym e)

-- ---- the values of integer types

le_of : (m n : ℕ) → nat_le m n ≡ true → m ≤ n
le_of m n e = elim (leb_tells m n) [ inl t ↦ t.1 | inr f ↦ absurd (false≢true (sym f.0 ∙ e)) ]

in_range : (k l : NumberKind) (p q : PType) → form_fits (integer_form k (ptype_row p).bytes) (integer_form l (ptype_row q).bytes) ≡ true → (z : ℤ) → InRange k p z → InRange l q z
in_range Unsigned Unsigned p q e (pos n) h =
    let more = pow_mono (le_of (8 * (ptype_row p).bytes) (8 * (ptype_row q).bytes) e) in omega (arith, h, more)
in_range Unsigned Unsigned p q e (negsuc n) h = absurd h
in_range Unsigned Signed p q e (pos n) h =
    let more = pow_mono (le_of (8 * (ptype_row p).bytes) (8 * (ptype_row q).bytes - 1) e) in (omega (arith, ints, h, more), omega (arith, ints, h, more))
in_range Unsigned Signed p q e (negsuc n) h = absurd h
in_range Signed Signed p q e z h =
    let more = pow_mono (le_of (8 * (ptype_row p).bytes - 1) (8 * (ptype_row q).bytes - 1) e) in (omega (arith, ints, h.0, more), omega (arith, ints, h.1, more))
in_range Signed Unsigned p q e z h = absurd (false≢true e)
in_range Floating l p q e z h = absurd h
in_range Unsigned Floating p q e z h = absurd (false≢true e)
in_range Signed Floating p q e z h = absurd (false≢true e)

-- what a type can be read as is the same type, or has its integers
same_or_has : (wide : Widening) (p q : PType) → ptype_reads wide p q ≡ true → (p ≡ q) ⊎ (has_integers p q ≡ true)
same_or_has widening.None p q e = inl ((same_ptype-Decides p q).0 e)
same_or_has widening.Integers p q e = by_bool (same_ptype p q)
    (λ same. inl ((same_ptype-Decides p q).0 same))
    (λ other. inr (sym (ap (λ b. b || has_integers p q) other) ∙ e))

form_float : (k : NumberKind) (n : ℕ) (o : Option (Bool × ℕ)) → k ≡ Floating → form_fits (integer_form k n) o ≡ true → false ≡ true
form_float Floating n o e h = h
form_float Unsigned n o e h = cc
form_float Signed n o e h = cc

pub ptype_values : (wide : Widening) (p q : PType) (m n : Nullability) → ptype_reads wide p q ≡ true → Allows m n → (v : Value) → Of v (primitive p m) → Of v (primitive q n)
ptype_values wide p q m n e a null_value h = a h
ptype_values wide p q m n e a (number z) h = elim (same_or_has wide p q e) [
  | inl same ↦ subst (λ r. IntegerOf r z) same h
  | inr has ↦ in_range (ptype_row p).kind (ptype_row q).kind p q has z h
]
ptype_values wide p q m n e a (float_bits k) h = elim (same_or_has wide p q e) [
  | inl same ↦ subst (λ r. FloatBitsOf r k) same h
  | inr has ↦ absurd (false≢true (form_float (ptype_row p).kind (ptype_row p).bytes (form_of q) h.0 has))
]
ptype_values wide p q m n e a _ h = absurd h

-- of the law about them
pub not_widened : (p q : PType) (m n : Nullability) → ReadsAs widening.None (primitive p m) (primitive q n) → p ≡ q
not_widened p q m n h = (same_ptype-Decides p q).0 h.0.reads

pub integers_kept : (p q : PType) (m n : Nullability) (z : ℤ) → ReadsAs widening.Integers (primitive p m) (primitive q n) → IntegerOf p z → IntegerOf q z
integers_kept p q m n z h of = ptype_values widening.Integers p q m n h.0.reads h.1 (number z) of

pub floats_kept : (wide : Widening) (p q : PType) (m n : Nullability) → IsFloat p → ReadsAs wide (primitive p m) (primitive q n) → p ≡ q
floats_kept wide p q m n float h = elim (same_or_has wide p q h.0.reads) [
  | inl same ↦ same
  | inr has ↦ absurd (false≢true (form_float (ptype_row p).kind (ptype_row p).bytes (form_of q) float has))
]

-- a width of which no number is lost is no smaller
no_smaller : (m n : ℕ) → ((k : ℕ) → k < 2 ^ m → k < 2 ^ n) → nat_le m n ≡ true
no_smaller m n f = elim (leb_tells m n) [
  | inl t ↦ t.0
  | inr e ↦
      let lost : 2 ^ n < 2 ^ n = f (2 ^ n) (pow_below n m e.1) in absurd (omega (arith, lost))
]

-- integers that all have another form fit it
fits_all : (k l : NumberKind) (p q : PType) → (k ≡ Floating → ⊥) → ((z : ℤ) → InRange k p z → InRange l q z) → form_fits (integer_form k (ptype_row p).bytes) (integer_form l (ptype_row q).bytes) ≡ true
fits_all Unsigned Unsigned p q some h = no_smaller (8 * (ptype_row p).bytes) (8 * (ptype_row q).bytes) (λ k less. h (pos k) less)
fits_all Unsigned Signed p q some h =
    no_smaller (8 * (ptype_row p).bytes) (8 * (ptype_row q).bytes - 1) (λ k less. let of = h (pos k) less in omega (arith, ints, of.1))
fits_all Signed Signed p q some h =
    no_smaller (8 * (ptype_row p).bytes - 1) (8 * (ptype_row q).bytes - 1) (λ k less. let of = h (pos k) (omega (arith, ints, less), omega (arith, ints, less)) in omega (arith, ints, of.1))
fits_all Signed Unsigned p q some h =
    let one = pow_pos (8 * (ptype_row p).bytes - 1) in absurd (h (negsuc 0) (omega (arith, ints, one), omega (arith, ints, one)))
fits_all Unsigned Floating p q some h = absurd (h (pos 0) (pow_pos (8 * (ptype_row p).bytes)))
fits_all Signed Floating p q some h =
    let one = pow_pos (8 * (ptype_row p).bytes - 1) in absurd (h (pos 0) (omega (arith, ints, one), omega (arith, ints, one)))
fits_all Floating l p q some h = absurd (some refl)

either_true : (a b : Bool) → b ≡ true → (a || b) ≡ true
either_true true b e = refl
either_true false b e = e

pub integers_read : (p q : PType) (n : Nullability) → IsInteger p → ((z : ℤ) → IntegerOf p z → IntegerOf q z) → ReadsAs widening.Integers (primitive p n) (primitive q n)
integers_read p q n integer h =
    let some : (ptype_row p).kind ≡ Floating → ⊥ = λ e. elim integer [ inl u ↦ let other : Unsigned ≡ Floating = sym u ∙ e in cc | inr s ↦ let other : Signed ≡ Floating = sym s ∙ e in cc ] in
    (record { reads = either_true (same_ptype p q) (has_integers p q) (fits_all (ptype_row p).kind (ptype_row q).kind p q some h) }, λ e. e)

pub ruleset numbers = (not_widened, integers_kept, integers_read, floats_kept)

-- ---- decimals

-- one can be read as the other
abbrev pub DecimalReads : Widening → Decimal → Decimal → Type 0
DecimalReads widening.None d e = (d.precision ≡ e.precision) × (d.scale ≡ e.scale)
DecimalReads widening.Integers d e = (d.precision ≤ e.precision) × (d.scale ≡ e.scale)

le-Decides : (m n : ℕ) → Decides (nat_le m n) (m ≤ n)
le-Decides m n = (le_of m n, λ h. elim (leb_tells m n) [ inl t ↦ t.0 | inr f ↦ absurd (omega (arith, h, f.1)) ])

decimal-Decides : (wide : Widening) (d e : Decimal) → Decides (decimal_reads wide d e) (DecimalReads wide d e)
decimal-Decides widening.None d e = Decides-and (d.precision == e.precision) (int_eq d.scale e.scale) (Decides-eqb d.precision e.precision) (Decides-int_eq d.scale e.scale)
decimal-Decides widening.Integers d e = Decides-and (nat_le d.precision e.precision) (int_eq d.scale e.scale) (le-Decides d.precision e.precision) (Decides-int_eq d.scale e.scale)

same_parts : (d e : Decimal) → d.precision ≡ e.precision → d.scale ≡ e.scale → d ≡ e
same_parts d e p s = ap (λ x. record { precision = x; scale = d.scale }) p ∙ ap (λ x. record { precision = e.precision; scale = x }) s

itself : (wide : Widening) (d : Decimal) → DecimalReads wide d d
itself widening.None d = (refl, refl)
itself widening.Integers d = (omega arith, refl)

more : (wide : Widening) (d e f : Decimal) → DecimalReads wide d e → DecimalReads wide e f → DecimalReads wide d f
more widening.None d e f a b = (a.0 ∙ b.0, a.1 ∙ b.1)
more widening.Integers d e f a b = (omega (arith, a.0, b.0), a.1 ∙ b.1)

back : (wide : Widening) (d e : Decimal) → DecimalReads wide d e → DecimalReads wide e d → d ≡ e
back widening.None d e a b = same_parts d e a.0 a.1
back widening.Integers d e a b = same_parts d e (omega (arith, a.0, b.0)) a.1

pub decimal_itself : (wide : Widening) (d : Decimal) → decimal_reads wide d d ≡ true
decimal_itself wide d = (decimal-Decides wide d d).1 (itself wide d)

pub decimal_same : (wide : Widening) (d e : Decimal) → d ≡ e → decimal_reads wide d e ≡ true
decimal_same wide d e is = subst (λ x. decimal_reads wide d x ≡ true) is (decimal_itself wide d)

pub decimal_more : (wide : Widening) (d e f : Decimal) → decimal_reads wide d e ≡ true → decimal_reads wide e f ≡ true → decimal_reads wide d f ≡ true
decimal_more wide d e f a b = (decimal-Decides wide d f).1 (more wide d e f ((decimal-Decides wide d e).0 a) ((decimal-Decides wide e f).0 b))

pub decimal_back : (wide : Widening) (d e : Decimal) → decimal_reads wide d e ≡ true → decimal_reads wide e d ≡ true → d ≡ e
decimal_back wide d e a b = back wide d e ((decimal-Decides wide d e).0 a) ((decimal-Decides wide e d).0 b)

pub decimal_above : (wide : Widening) (d e c : Decimal) → common_decimal wide d e ≡ Some c → (decimal_reads wide d c ≡ true) × (decimal_reads wide e c ≡ true)
decimal_above wide d e c is = by_bool (decimal_reads wide d e)
    (λ first.
    let same : e ≡ c = same_Some e c (sym (ap (λ b. if b then Some e else (if decimal_reads wide e d then Some d else None)) first) ∙ is) in
    (subst (λ x. decimal_reads wide d x ≡ true) same first, decimal_same wide e c same))
    (λ apart.
    let rest = sym (ap (λ b. if b then Some e else (if decimal_reads wide e d then Some d else None)) apart) ∙ is in
    by_bool (decimal_reads wide e d)
    (λ second.
    let same : d ≡ c = same_Some d c (sym (ap (λ b. if b then Some d else None) second) ∙ rest) in
    (decimal_same wide d c same, subst (λ x. decimal_reads wide e x ≡ true) same second))
    (λ neither. let none = sym (ap (λ b. if b then Some d else None) neither) ∙ rest in cc))

one_reads : (wide : Widening) (d e f : Decimal) → DecimalReads wide d f → DecimalReads wide e f → DecimalReads wide d e ⊎ DecimalReads wide e d
one_reads widening.None d e f a b = inl (a.0 ∙ sym b.0, a.1 ∙ sym b.1)
one_reads widening.Integers d e f a b = elim (leb_tells d.precision e.precision) [
  | inl t ↦ inl (t.1, a.1 ∙ sym b.1)
  | inr t ↦ inr (omega (arith, t.1), b.1 ∙ sym a.1)
]

pub decimal_least : (wide : Widening) (d e f : Decimal) → decimal_reads wide d f ≡ true → decimal_reads wide e f ≡ true → (c : Decimal) × (common_decimal wide d e ≡ Some c) × (decimal_reads wide c f ≡ true)
decimal_least wide d e f a b = by_bool (decimal_reads wide d e)
    (λ first. (e, ap (λ b. if b then Some e else (if decimal_reads wide e d then Some d else None)) first, b))
    (λ apart.
    let second : decimal_reads wide e d ≡ true = elim (one_reads wide d e f ((decimal-Decides wide d f).0 a) ((decimal-Decides wide e f).0 b)) [
      | inl h ↦ absurd (false≢true (sym apart ∙ (decimal-Decides wide d e).1 h))
      | inr h ↦ (decimal-Decides wide e d).1 h
    ] in
    (d, ap (λ b. if b then Some e else (if decimal_reads wide e d then Some d else None)) apart ∙ ap (λ b. if b then Some d else None) second, a))

pub decimal_one : (wide : Widening) (d e c : Decimal) → common_decimal wide d e ≡ Some c → (d ≡ c) ⊎ (e ≡ c)
decimal_one wide d e c is = by_bool (decimal_reads wide d e)
    (λ first. inr (same_Some e c (sym (ap (λ b. if b then Some e else (if decimal_reads wide e d then Some d else None)) first) ∙ is)))
    (λ apart.
    let rest = sym (ap (λ b. if b then Some e else (if decimal_reads wide e d then Some d else None)) apart) ∙ is in
    by_bool (decimal_reads wide e d)
    (λ second. inl (same_Some d c (sym (ap (λ b. if b then Some d else None) second) ∙ rest)))
    (λ neither. let none = sym (ap (λ b. if b then Some d else None) neither) ∙ rest in cc))

pub decimal_common_same : (wide : Widening) (d e : Decimal) → d ≡ e → common_decimal wide d e ≡ Some d
decimal_common_same wide d e is =
    ap (λ b. if b then Some e else (if decimal_reads wide e d then Some d else None)) (decimal_same wide d e is) ∙ ap Some (sym is)

-- as many digits, or more
more_digits : (wide : Widening) (d e : Decimal) → DecimalReads wide d e → d.precision ≤ e.precision
more_digits widening.None d e h = omega (arith, h.0)
more_digits widening.Integers d e h = h.0

has_digits : (m n : ℕ) (z : ℤ) → m ≤ n → HasDigits m z → HasDigits n z
has_digits m n z le h = let pow : 10 ^ m ≤ 10 ^ n = pow-le-pow_right (omega arith) le in (omega (arith, ints, h.0, pow), omega (arith, ints, h.1, pow))

pub decimal_values : (wide : Widening) (d e : Decimal) (m n : Nullability) → decimal_reads wide d e ≡ true → Allows m n → (v : Value) → Of v (decimal d m) → Of v (decimal e n)
decimal_values wide d e m n r a null_value h = a h
decimal_values wide d e m n r a (digits z) h = has_digits d.precision e.precision z (more_digits wide d e ((decimal-Decides wide d e).0 r)) h
decimal_values wide d e m n r a _ h = absurd h
