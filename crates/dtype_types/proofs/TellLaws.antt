-- SPDX-License-Identifier: Apache-2.0
-- SPDX-FileCopyrightText: Copyright the Vortex contributors

-- `tell` gives a value exactly where the first type isn't below the second, also through sizes 0. Where no size is 0, what it
-- gives is a value of the first type and not of the second.
use Rattle.std.proofs.Common.{◌≡◌, ◌↔◌, ℕ, Option, Some, None, refl, inl, inr, ap}
use Rattle.std.specs.Prelude.{option_map, IsSomeAnd}
use Rattle.dtype_base.specs.declared.nullability.Nullability.{Nullability}
use Rattle.dtype_base.specs.declared.nullability.Nullability.TheVariants.{NonNullable, Nullable}
use Rattle.dtype_types.specs.equality.HashLaws.{equal_types_hash_alike, erased_fed}
use Rattle.dtype_types.specs.nullability.Nullable.{nullability}
use Rattle.dtype_types.specs.nullability.Sub.{Sub, Allows, NullableWherever, NullableWhereverItems}
use Rattle.dtype_types.specs.tree.Erase.{erase, erase_items}
use Rattle.dtype_types.specs.tree.Tree.{Tree, Fields, no_items, field, Variants, item, null, list, fixed_size_list, map_of, struct, union, extension, rest_of, first_tag}
use Rattle.dtype_types.specs.tree.Valid.{Valid, ValidItems}
use Rattle.dtype_types.specs.values.Value.{Value, Named, Of, IncludedIn, NamedOf, VariantOf, null_value, items, fixed_items, entries, record_of, tagged, no_values, value, no_entries, entry, named}
use Rattle.dtype_types.specs.values.Sample.{sample, samples, copies}
use Rattle.dtype_types.specs.values.Tell.{or_else, null_else, tell, tell_fields, tell_variants, HasNoSizeZero, ItemsHaveNoSizeZero}
use Rattle.dtype_types.proofs.lemmas.NullValues.{null_is_of_nullable}
use Rattle.dtype_types.proofs.lemmas.SampleLaws.{sample_of, samples_of, copies_hold, value_count-copies, each_copy}
use Rattle.dtype_types.proofs.lemmas.SubValues.{sub_values}
use Rattle.dtype_types.proofs.OwnTags.{OwnTags, own_tags, lacks_also, value_of_first, later_of}

-- ---- an answer: none where S holds, else one that P holds of, and S doesn't

abbrev Told : {X : Type 0} → Type 0 → (X → Type 0) → Option X → Type 0
Told S P None = S
Told S P (Some w) = (S → ⊥) × P w

-- of a valid type with no size 0, a value of the first and not of the second
abbrev Apart : Tree → Tree → Value → Type 0
Apart a b v = Valid a → HasNoSizeZero a → Of v a × (Of v b → ⊥)

abbrev FieldsApart : Fields → Fields → Named → Type 0
FieldsApart fs gs r = ValidItems fs → ItemsHaveNoSizeZero fs → NamedOf r fs × (NamedOf r gs → ⊥)

abbrev VariantsApart : Variants → Variants → ℕ × Value → Type 0
VariantsApart vs ws c = OwnTags vs → ItemsHaveNoSizeZero vs → VariantOf c.0 c.1 vs × (VariantOf c.0 c.1 ws → ⊥)

told_more : {X : Type 0} (S : Type 0) (P Q : X → Type 0) → ((w : X) → P w → Q w) → (o : Option X) → Told S P o → Told S Q o
told_more S P Q more None h = h
told_more S P Q more (Some w) h = (h.0, more w h.1)

told_map : {X Y : Type 0} (S : Type 0) (P : X → Type 0) (Q : Y → Type 0) (f : X → Y) → ((w : X) → P w → Q (f w)) → (o : Option X) → Told S P o → Told S Q (option_map f o)
told_map S P Q f more None h = h
told_map S P Q f more (Some w) h = (h.0, more w h.1)

told_or : {X : Type 0} (S T : Type 0) (P : X → Type 0) (a b : Option X) → Told S P a → Told T P b → Told (S × T) P (or_else a b)
told_or S T P (Some w) b h k = (λ x. h.0 x.0, h.1)
told_or S T P None None h k = (h, k)
told_or S T P None (Some w) h k = (λ x. k.0 x.1, k.1)

-- null where the first type alone has it, else a value of the parts
told_node : (a b : Tree) (S T : Type 0) → (Allows (nullability a) (nullability b) → S → T) → (T → Allows (nullability a) (nullability b)) → (T → S) → (o : Option Value) → Told S (Apart a b) o
    → Told T (Apart a b) (null_else (nullability a) (nullability b) o)
told_node a b S T = go (nullability a) (nullability b) (null_is_of_nullable a).1 (null_is_of_nullable b).0
  where
    go : (m n : Nullability) → (m ≡ Nullable → Of null_value a) → (Of null_value b → n ≡ Nullable) → (Allows m n → S → T) → (T → Allows m n) → (T → S) → (o : Option Value) → Told S (Apart a b) o → Told T (Apart a b) (null_else m n o)
    go Nullable NonNullable p q f g k o h = (λ t. let never = g t refl in cc, λ _ _. (p refl, λ x. cc (q x)))
    go Nullable Nullable p q f g k None h = f (λ x. x) h
    go NonNullable n p q f g k None h = f (λ x. cc x) h
    go Nullable Nullable p q f g k (Some w) h = (λ t. h.0 (k t), h.1)
    go NonNullable n p q f g k (Some w) h = (λ t. h.0 (k t), h.1)

told_leaf : (a b : Tree) → Told (Allows (nullability a) (nullability b)) (Apart a b) (null_else (nullability a) (nullability b) None)
told_leaf a b = told_node a b (Unit {0}) (Allows (nullability a) (nullability b)) (λ x u. x) (λ x. x) (λ x. tt) None tt

told_inner : (a b : Tree) (S : Type 0) (o : Option Value) → Told S (Apart a b) o → Told (Allows (nullability a) (nullability b) × S) (Apart a b) (null_else (nullability a) (nullability b) o)
told_inner a b S o h = told_node a b S (Allows (nullability a) (nullability b) × S) (λ x s. (x, s)) (λ t. t.0) (λ t. t.1) o h

-- ---- at every depth

-- the last clause holds for the kinds that have no parts too, the one for null makes the checker look at each kind
mutual
  told : (a b : Tree) → erase a ≡ erase b → Told (NullableWherever a b) (Apart a b) (tell a b)
  told null null e = tt
  told (list t m) (list u n) e =
      told_inner (list t m) (list u n) (NullableWherever t u) _
      (told_map (NullableWherever t u) (Apart t u) (Apart (list t m) (list u n)) (λ v. items (value v no_values)) (λ w r h z. let p = r h z in ((p.0, tt), λ q. p.1 q.0)) (tell t u) (told t u (cc)))
  told (fixed_size_list t j m) (fixed_size_list u k n) e =
      told_inner (fixed_size_list t j m) (fixed_size_list u k n) (NullableWherever t u) _
      (told_map (NullableWherever t u) (Apart t u) (Apart (fixed_size_list t j m) (fixed_size_list u k n)) (λ v. fixed_items (copies j v))
      (λ w r h z. let p = r h.1 z.1 in ((value_count-copies j w, each_copy (λ v. Of v t) j w p.0), λ q. p.1 (copies_hold (λ v. Of v u) j w z.0 q.1))) (tell t u) (told t u (cc)))
  told (map_of t v x m) (map_of u w y n) e =
      let apart = Apart (map_of t v x m) (map_of u w y n) in
      told_node (map_of t v x m) (map_of u w y n) (NullableWherever t u × NullableWherever v w) (Allows m n × NullableWherever t u × NullableWherever v w) (λ x s. (x, s.0, s.1)) (λ t. t.0) (λ t. (t.1, t.2)) _
      (told_or (NullableWherever t u) (NullableWherever v w) apart _ _
      (told_map (NullableWherever t u) (Apart t u) apart (λ d. entries (entry d (sample v) no_entries)) (λ d r h z. let p = r h.1 z.0 in ((p.0, sample_of v h.2, tt), λ q. p.1 q.0)) (tell t u) (told t u (cc)))
      (told_map (NullableWherever v w) (Apart v w) apart (λ d. entries (entry (sample t) d no_entries)) (λ d r h z. let p = r h.2 z.1 in ((sample_of t h.1, p.0, tt), λ q. p.1 q.1)) (tell v w) (told v w (cc))))
  told (struct fs m) (struct gs n) e =
      told_inner (struct fs m) (struct gs n) (NullableWhereverItems fs gs) _
      (told_map (NullableWhereverItems fs gs) (FieldsApart fs gs) (Apart (struct fs m) (struct gs n)) (λ r. record_of r) (λ r p. p) (tell_fields fs gs) (told_fields fs gs (cc)))
  told (union vs m) (union ws n) e =
      told_inner (union vs m) (union ws n) (NullableWhereverItems vs ws) _
      (told_map (NullableWhereverItems vs ws) (VariantsApart vs ws) (Apart (union vs m) (union ws n)) (λ c. tagged c.0 c.1) (λ c p h z. p (own_tags vs m h) z) (tell_variants vs ws) (told_variants vs ws (cc)))
  told (extension i a t) (extension j b u) e = told_more (NullableWherever t u) (Apart t u) (Apart (extension i a t) (extension j b u)) (λ v r h z. r h.1 z) (tell t u) (told t u (cc))
  told _ null e = cc e
  told a b e = let leaf = told_leaf a b in first_of (cc e, search leaf)

  told_fields : (fs gs : Fields) → erase_items fs ≡ erase_items gs → Told (NullableWhereverItems fs gs) (FieldsApart fs gs) (tell_fields fs gs)
  told_fields no_items no_items e = tt
  told_fields (item m t _ fs) (item n u _ gs) e =
      let apart = FieldsApart (field m t fs) (field n u gs) in
      told_or (NullableWherever t u) (NullableWhereverItems fs gs) apart _ _
      (told_map (NullableWherever t u) (Apart t u) apart (λ v. named m v (samples fs)) (λ v r h z. let p = r h.0 z.0 in ((refl, p.0, samples_of fs h.1), λ q. p.1 q.1)) (tell t u) (told t u (cc)))
      (told_map (NullableWhereverItems fs gs) (FieldsApart fs gs) apart (λ r. named m (sample t) r) (λ r p h z. let s = p h.1 z.1 in ((refl, sample_of t h.0, s.0), λ q. s.1 q.2)) (tell_fields fs gs) (told_fields fs gs (ap rest_of e)))
  told_fields _ _ e = absurd (cc e)

  told_variants : (vs ws : Variants) → erase_items vs ≡ erase_items ws → Told (NullableWhereverItems vs ws) (VariantsApart vs ws) (tell_variants vs ws)
  told_variants no_items no_items e = tt
  told_variants (item m t g vs) (item n u i ws) e =
      let apart = VariantsApart (item m t g vs) (item n u i ws) in
      told_or (NullableWherever t u) (NullableWhereverItems vs ws) apart _ _
      (told_map (NullableWherever t u) (Apart t u) apart (λ v. (g, v))
      (λ v r h z. let p = r h.0 z.0 in (inl (refl, p.0), λ q. p.1 (value_of_first g i v n u ws (lacks_also g vs ws (ap rest_of e) h.1) q))) (tell t u) (told t u (cc)))
      (told_more (NullableWhereverItems vs ws) (VariantsApart vs ws) apart
      (λ c p h z. let r = p h.2 z.1 in (inr r.0, λ q. r.1 (later_of g c.0 i c.1 n u vs ws (ap (first_tag g) e) h.1 r.0 q))) (tell_variants vs ws) (told_variants vs ws (ap rest_of e)))
  told_variants _ _ e = absurd (cc e)

-- what holds of what `tell` gives, by whether it gives anything
by_told : (a b : Tree) → erase a ≡ erase b → (P : Option Value → Type 0) → (Sub a b → P None) → ((w : Value) → ¬ (Sub a b) → Apart a b w → P (Some w)) → P (tell a b)
by_told a b e P none some = go (tell a b) (told a b e)
  where
    go : (o : Option Value) → Told (NullableWherever a b) (Apart a b) o → P o
    go None h = none (record { erased = e; nullable = h })
    go (Some w) h = some w (λ s. h.0 s.nullable) h.1

pub told_exactly : (a b : Tree) → erase a ≡ erase b → (tell a b ≡ None) ↔ Sub a b
told_exactly a b e = by_told a b e (λ o. (o ≡ None) ↔ Sub a b) (λ s. (λ _. s, λ _. refl)) (λ w differ _. (λ x. cc, λ s. absurd (differ s)))

pub tells_apart : (a b : Tree) → Valid a → HasNoSizeZero a → erase a ≡ erase b → (Sub a b → ⊥) → IsSomeAnd (tell a b) (λ v. Of v a × ¬ (Of v b))
tells_apart a b h z e not_below = by_told a b e (λ o. IsSomeAnd o (λ v. Of v a × ¬ (Of v b))) (λ s. absurd (not_below s)) (λ w _ apart. apart h z)

pub included_is_sub : (a b : Tree) → Valid a → HasNoSizeZero a → erase a ≡ erase b → IncludedIn a b → Sub a b
included_is_sub a b h z e all = by_told a b e (λ _. Sub a b) (λ s. s) (λ w _ apart. let p = apart h z in absurd (p.1 (all w p.0)))

-- what laws of types and their values cite
pub ruleset type_laws = (equal_types_hash_alike, erased_fed, sample_of, null_is_of_nullable, sub_values)
