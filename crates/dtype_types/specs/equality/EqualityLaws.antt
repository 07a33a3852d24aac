-- SPDX-License-Identifier: Apache-2.0
-- SPDX-FileCopyrightText: Copyright the Vortex contributors

-- What the test of equality returns under each rule. Under `Compared`, it returns true exactly if the trees are equal.
-- Under `Ignored`, it returns true exactly if the erased trees are equal. Under `Within`, it returns true exactly if
-- the first type is a subset of the second (`Sub`). Equality of types and of their parts is an equivalence.
use Rattle.std.specs.Prelude.{◌≡◌, ◌&&◌, ◌==◌, List, [], ◌∷◌, Some, slice_get, refl}
use Rattle.std.specs.Bool.{Decides}
use Rattle.std.specs.Ordering.{int_eq}
use Rattle.std.proofs.Common.{ap, subst, sym, ◌∙◌}
use Rattle.std.specs.Cmp.{booleans_Decides, signed_Decides, IsEquivalence, decided, on_equiv}
use Rattle.std.proofs.lemmas.Bool.{false≢true}
use Rattle.std.proofs.lemmas.Bool.Decides.{Decides-and, Decides-eqb, Decides-like}
use Rattle.std.proofs.lemmas.Option.{same_Some}
use Rattle.std.proofs.lemmas.Slice.Eq.{bytes_eq-Decides}
use Rattle.dtype_base.specs.declared.nullability.Nullability.{Nullability}
use Rattle.dtype_base.specs.declared.nullability.Nullability.TheVariants.{NonNullable, Nullable}
use Rattle.dtype_base.specs.Decimals.{Decimal}
use Rattle.dtype_base.specs.Primitives.{ptype_row}
use Rattle.dtype_base.specs.declared.ptype.PType.{PType}
use Rattle.dtype_base.specs.declared.ptype.PType.TheVariants.{U8, U16, U32, U64, I8, I16, I32, I64, F16, F32, F64}
use Rattle.dtype_types.specs.declared.dtype.equality.NullabilityRule.{NullabilityRule}
use Rattle.dtype_types.specs.declared.dtype.equality.NullabilityRule.TheVariants.{Compared, Ignored, Within}
use Rattle.dtype_types.specs.nullability.Nullable.{nullability}
use Rattle.dtype_types.specs.nullability.Sub.{Sub, Wherever, WhereverItems}
use Rattle.dtype_types.specs.tree.Tree.{Tree, no_items, item, null, bool, primitive, decimal, utf8, binary, list, fixed_size_list, map_of, struct, union, variant, extension, Holder, a_struct, a_union, Tag, Items, rest_of, first_tag}
use Rattle.dtype_types.specs.tree.TreeOf.{MapParts}
use Rattle.dtype_types.specs.tree.Erase.{erase, erase_items}
use Rattle.dtype_types.specs.equality.Equality.{Asks, equal_under, items_equal_under, map_equal_under, allows, same_ptype, same_tag, same_by, same_items_by, same_map_by}

allows-Decides : (s : NullabilityRule) (m n : Nullability) → Decides (allows s m n) (Asks s m n)
allows-Decides Ignored m n = (λ e. tt, λ h. refl)
allows-Decides Compared NonNullable NonNullable = (λ e. refl, λ e. refl)
allows-Decides Compared Nullable Nullable = (λ e. refl, λ e. refl)
allows-Decides Compared NonNullable Nullable = (λ e. absurd (false≢true e), λ e. cc)
allows-Decides Compared Nullable NonNullable = (λ e. absurd (false≢true e), λ e. cc)
allows-Decides Within Nullable Nullable = (λ e h. refl, λ h. refl)
allows-Decides Within Nullable NonNullable = (λ e. absurd (false≢true e), λ h. let never = h refl in cc)
allows-Decides Within NonNullable n = (λ e h. cc, λ h. refl)

abbrev ptypes : List PType
ptypes = U8 ∷ U16 ∷ U32 ∷ U64 ∷ I8 ∷ I16 ∷ I32 ∷ I64 ∷ F16 ∷ F32 ∷ F64 ∷ []

at_its_number : (p : PType) → slice_get ptypes (ptype_row p).number ≡ Some p
at_its_number U8 = refl
at_its_number _ = refl

pub same_ptype-Decides : (p q : PType) → Decides (same_ptype p q) (p ≡ q)
same_ptype-Decides p q =
    Decides-like _ (λ e. same_Some p q (sym (at_its_number p) ∙ ap (slice_get ptypes) e ∙ at_its_number q)) (λ e. ap (λ r. (ptype_row r).number) e) (Decides-eqb (ptype_row p).number (ptype_row q).number)

pub same_decimal-Decides : (d e : Decimal) → Decides ((d.precision == e.precision) && int_eq d.scale e.scale) (d ≡ e)
same_decimal-Decides d e =
    Decides-like _ (λ h. ap (λ p. record { precision = p; scale = d.scale }) h.0 ∙ ap (λ s. record { precision = e.precision; scale = s }) h.1) (λ h. (ap (λ x. x.precision) h, ap (λ x. x.scale) h))
    (Decides-and _ _ (Decides-eqb d.precision e.precision) (signed_Decides d.scale e.scale))

same_tag-Decides : (h : Holder) (f g : Tag h) → Decides (same_tag h f g) (f ≡ g)
same_tag-Decides a_struct f g = (λ e. refl, λ e. refl)
same_tag-Decides a_union f g = Decides-eqb f g

-- ---- the test under any rule: equal but for nullabilities, of which the rule holds at each place

abbrev Alike : NullabilityRule → Tree → Tree → Type 0
Alike s a b = (erase a ≡ erase b) × Wherever (Asks s) a b

mutual
  alike-Decides : (s : NullabilityRule) (a b : Tree) → Decides (equal_under s a b) (Alike s a b)
  alike-Decides s null null = (λ e. (refl, tt), λ h. refl)
  alike-Decides s (bool m) (bool n) = Decides-like _ (λ h. (refl, h)) (λ h. h.1) (allows-Decides s m n)
  alike-Decides s (primitive p m) (primitive q n) = Decides-like _ (λ h. (cc h.0, h.1)) (λ h. (cc h.0, h.1)) (Decides-and _ _ (same_ptype-Decides p q) (allows-Decides s m n))
  alike-Decides s (decimal d m) (decimal e n) = Decides-like _ (λ h. (cc h.0, h.1)) (λ h. (cc h.0, h.1)) (Decides-and _ _ (same_decimal-Decides d e) (allows-Decides s m n))
  alike-Decides s (utf8 m) (utf8 n) = Decides-like _ (λ h. (refl, h)) (λ h. h.1) (allows-Decides s m n)
  alike-Decides s (binary m) (binary n) = Decides-like _ (λ h. (refl, h)) (λ h. h.1) (allows-Decides s m n)
  alike-Decides s (variant m) (variant n) = Decides-like _ (λ h. (refl, h)) (λ h. h.1) (allows-Decides s m n)
  alike-Decides s (list t m) (list u n) =
      Decides-like _ (λ h. (cc h.1.0, (h.0, h.1.1))) (λ h. (h.1.0, (cc h.0, h.1.1))) (Decides-and _ _ (allows-Decides s m n) (alike-Decides s t u))
  alike-Decides s (fixed_size_list t j m) (fixed_size_list u k n) =
      Decides-like _ (λ h. (cc (h.0.1, h.1.0), (h.0.0, h.1.1))) (λ h. ((h.1.0, cc h.0), (cc h.0, h.1.1))) (Decides-and _ _ (Decides-and _ _ (allows-Decides s m n) (Decides-eqb j k)) (alike-Decides s t u))
  alike-Decides s (map_of t v x m) (map_of u w y n) =
      Decides-like _ (λ h. (cc (h.1.0.0.0, h.1.0.1.0, h.1.1), (h.0, h.1.0.0.1, h.1.0.1.1))) (λ h. (h.1.0, (((cc h.0, h.1.1), (cc h.0, h.1.2)), cc h.0)))
      (Decides-and _ _ (allows-Decides s m n) (Decides-and _ _ (Decides-and _ _ (alike-Decides s t u) (alike-Decides s v w)) (booleans_Decides x y)))
  alike-Decides s (struct fs m) (struct gs n) =
      Decides-like _ (λ h. (ap (λ x. struct x NonNullable) h.1.0, (h.0, h.1.1))) (λ h. (h.1.0, (cc h.0, h.1.1))) (Decides-and _ _ (allows-Decides s m n) (alike_items-Decides s fs gs))
  alike-Decides s (union vs m) (union ws n) =
      Decides-like _ (λ h. (ap (λ x. union x NonNullable) h.1.0, (h.0, h.1.1))) (λ h. (h.1.0, (cc h.0, h.1.1))) (Decides-and _ _ (allows-Decides s m n) (alike_items-Decides s vs ws))
  alike-Decides s (extension i a t) (extension j b u) =
      Decides-like _ (λ h. (cc (h.0.0, h.0.1, h.1.0), h.1.1)) (λ h. ((cc h.0, cc h.0), (cc h.0, h.1))) (Decides-and _ _ (Decides-and _ _ (bytes_eq-Decides i j) (bytes_eq-Decides a b)) (alike-Decides s t u))
  alike-Decides s _ _ = (λ e. absurd (false≢true e), λ h. absurd h.1)

  alike_items-Decides : (s : NullabilityRule) {k : Holder} (xs ys : Items k) → Decides (items_equal_under s xs ys) ((erase_items xs ≡ erase_items ys) × WhereverItems (Asks s) xs ys)
  alike_items-Decides s no_items no_items = (λ e. (refl, tt), λ h. refl)
  alike_items-Decides s {k} (item m t f xs) (item n u g ys) =
      Decides-like _ (λ h. (cc (h.0.0.0, h.0.0.1, h.0.1.0, h.1.0), (h.0.1.1, h.1.1))) (λ h. (((ap (first_tag {h = k} f) h.0, cc h.0), (cc h.0, h.1.0)), (ap rest_of h.0, h.1.1)))
      (Decides-and _ _ (Decides-and _ _ (Decides-and _ _ (same_tag-Decides k f g) (bytes_eq-Decides m n)) (alike-Decides s t u)) (alike_items-Decides s xs ys))
  alike_items-Decides s _ _ = (λ e. absurd (false≢true e), λ h. absurd h.1)

-- ---- what each rule makes of it

-- a rule holds at each place where it holds of any two nullabilities, or, if E makes the two types equal, of equal ones
module _ (R : Nullability → Nullability → Type 0) (E : Type 0) (holds : (m n : Nullability) → (E → m ≡ n) → R m n) where
  mutual
    -- the clause for two nulls makes the checker look at each kind of both types; the last holds for those without
    -- parts too
    wherever : (a b : Tree) → erase a ≡ erase b → (E → a ≡ b) → Wherever R a b
    wherever null null e f = tt
    wherever (list t m) (list u n) e f = (holds m n (λ x. cc (f x)), wherever t u (cc) (λ x. cc (f x)))
    wherever (fixed_size_list t j m) (fixed_size_list u k n) e f = (holds m n (λ x. cc (f x)), wherever t u (cc) (λ x. cc (f x)))
    wherever (map_of t v y m) (map_of u w z n) e f = (holds m n (λ x. cc (f x)), wherever t u (cc) (λ x. cc (f x)), wherever v w (cc) (λ x. cc (f x)))
    wherever (struct fs m) (struct gs n) e f = (holds m n (λ x. cc (f x)), wherever_items fs gs (cc) (λ x. cc (f x)))
    wherever (union vs m) (union ws n) e f = (holds m n (λ x. cc (f x)), wherever_items vs ws (cc) (λ x. cc (f x)))
    wherever (extension i a t) (extension j b u) e f = wherever t u (cc) (λ x. cc (f x))
    wherever _ null e f = cc e
    wherever a b e f = let leaf = holds (nullability a) (nullability b) (λ x. ap nullability (f x)) in first_of (cc e, search leaf)

    wherever_items : {h : Holder} (xs ys : Items h) → erase_items xs ≡ erase_items ys → (E → xs ≡ ys) → WhereverItems R xs ys
    wherever_items no_items no_items e f = tt
    wherever_items (item m t g xs) (item n u k ys) e f = (wherever t u (cc) (λ x. cc (f x)), wherever_items xs ys (ap rest_of e) (λ x. ap rest_of (f x)))
    wherever_items _ _ e f = absurd (cc e)

pub everywhere : (R : Nullability → Nullability → Type 0) → ((m n : Nullability) → R m n) → (a b : Tree) → erase a ≡ erase b → Wherever R a b
everywhere R any a b e = wherever R ⊥ (λ m n _. any m n) a b e (λ never. absurd never)

pub reflexive : (R : Nullability → Nullability → Type 0) → ((n : Nullability) → R n n) → (a : Tree) → Wherever R a a
reflexive R same a = wherever R (Unit {0}) (λ m n f. subst (R m) (f tt) (same m)) a a refl (λ _. refl)

-- types that are equal but for nullabilities are equal where one rule holds one way and another the other, and these
-- hold of equal nullabilities alone
module _ (R S : Nullability → Nullability → Type 0) (one : (m n : Nullability) → R m n → S n m → m ≡ n) where
  mutual
    pub equal_by : (a b : Tree) → erase a ≡ erase b → Wherever R a b → Wherever S b a → a ≡ b
    equal_by null null e h k = refl
    equal_by (bool m) (bool n) e h k = ap bool (one m n h k)
    equal_by (primitive p m) (primitive q n) e h k = cc (one m n h k)
    equal_by (decimal p m) (decimal q n) e h k = cc (one m n h k)
    equal_by (utf8 m) (utf8 n) e h k = ap utf8 (one m n h k)
    equal_by (binary m) (binary n) e h k = ap binary (one m n h k)
    equal_by (list t m) (list u n) e h k = cc (equal_by t u (cc) h.1 k.1, one m n h.0 k.0)
    equal_by (fixed_size_list t i m) (fixed_size_list u j n) e h k = cc (equal_by t u (cc) h.1 k.1, one m n h.0 k.0)
    equal_by (map_of t v x m) (map_of u w y n) e h k = cc (equal_by t u (cc) h.1 k.1, equal_by v w (cc) h.2 k.2, one m n h.0 k.0)
    equal_by (struct fs m) (struct gs n) e h k = cc (equal_items fs gs (cc) h.1 k.1, one m n h.0 k.0)
    equal_by (union vs m) (union ws n) e h k = cc (equal_items vs ws (cc) h.1 k.1, one m n h.0 k.0)
    equal_by (variant m) (variant n) e h k = ap variant (one m n h k)
    equal_by (extension i a t) (extension j b u) e h k = cc (equal_by t u (cc) h k)
    equal_by _ _ e h k = absurd h

    equal_items : {h : Holder} (xs ys : Items h) → erase_items xs ≡ erase_items ys → WhereverItems R xs ys → WhereverItems S ys xs → xs ≡ ys
    equal_items no_items no_items e h k = refl
    equal_items (item m t f xs) (item n u g ys) e h k = cc (ap (first_tag f) e, equal_by t u (cc) h.0 k.0, equal_items xs ys (ap rest_of e) h.1 k.1)
    equal_items _ _ e h k = absurd h

pub equal_erased-Decides : (a b : Tree) → Decides (equal_under Ignored a b) (erase a ≡ erase b)
equal_erased-Decides a b = Decides-like _ (λ h. h.0) (λ e. (e, everywhere (Asks Ignored) (λ m n. tt) a b e)) (alike-Decides Ignored a b)

pub sub_Decides : (a b : Tree) → Decides (equal_under Within a b) (Sub a b)
sub_Decides a b = Decides-like _ (λ h. record { erased = h.0; nullable = h.1 }) (λ s. (s.erased, s.nullable)) (alike-Decides Within a b)

pub equal_under-Decides : (a b : Tree) → Decides (equal_under Compared a b) (a ≡ b)
equal_under-Decides a b =
    Decides-like _ (λ h. equal_by (Asks Compared) (Asks Ignored) (λ m n e _. e) a b h.0 h.1 (everywhere (Asks Ignored) (λ m n. tt) b a (sym h.0)))
    (λ e. subst (Alike Compared a) e (refl, reflexive (Asks Compared) (λ n. refl) a)) (alike-Decides Compared a b)

pub items_equal-Decides : (h : Holder) (xs ys : Items h) → Decides (items_equal_under Compared xs ys) (xs ≡ ys)
items_equal-Decides a_struct xs ys = Decides-like _ (λ e. cc e) (λ e. ap (λ fs. struct fs NonNullable) e) (equal_under-Decides (struct xs NonNullable) (struct ys NonNullable))
items_equal-Decides a_union xs ys = Decides-like _ (λ e. cc e) (λ e. ap (λ vs. union vs NonNullable) e) (equal_under-Decides (union xs NonNullable) (union ys NonNullable))

pub map_equal-Decides : (m n : MapParts) → Decides (map_equal_under Compared m n) (m ≡ n)
map_equal-Decides (k, v, s) (l, w, t) = Decides-like _ (λ e. cc e) (λ e. ap (λ (m : MapParts). map_of m.0 m.1 m.2 NonNullable) e) (equal_under-Decides (map_of k v s NonNullable) (map_of l w t NonNullable))

-- ---- `==` of types and of their parts, as an equivalence

pub same_by_equiv : {X : Type 0} (seen : X → Tree) → IsEquivalence (same_by seen)
same_by_equiv seen = on_equiv seen (decided (equal_under Compared) equal_under-Decides)

pub same_items_by_equiv : {X : Type 0} {h : Holder} (seen : X → Items h) → IsEquivalence (same_items_by seen)
same_items_by_equiv {X} {h} seen = on_equiv seen (decided (λ xs ys. items_equal_under Compared xs ys) (items_equal-Decides h))

pub same_map_by_equiv : {X : Type 0} (seen : X → MapParts) → IsEquivalence (same_map_by seen)
same_map_by_equiv seen = on_equiv seen (decided (map_equal_under Compared) map_equal-Decides)

pub ruleset exact_tests = (equal_under-Decides, equal_erased-Decides)
