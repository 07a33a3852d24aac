-- SPDX-License-Identifier: Apache-2.0
-- SPDX-FileCopyrightText: Copyright the Vortex contributors

-- Which values of two types are values of what a rule makes of the two. So where one type is below another its values are
-- values of the other, and the values that two types have in common are those of the greatest type below both.
use Rattle.std.proofs.Common.{◌≡◌, ℕ, refl, sym, subst, inl, inr, ap}
use Rattle.dtype_base.specs.Nullability.{either}
use Rattle.dtype_base.specs.declared.nullability.Nullability.{Nullability}
use Rattle.dtype_base.specs.declared.nullability.Nullability.TheVariants.{NonNullable, Nullable}
use Rattle.dtype_types.specs.tree.Erase.{erase, erase_items}
use Rattle.dtype_types.specs.nullability.Merged.{Rule, both, merge, merge_items}
use Rattle.dtype_types.specs.nullability.Nullable.{SetNull}
use Rattle.dtype_types.specs.nullability.Sub.{Sub}
use Rattle.dtype_types.specs.tree.Tree.{Tree, Fields, no_items, Variants, item, null, bool, primitive, decimal, utf8, binary, list, fixed_size_list, map_of, struct, union, variant, extension, rest_of, first_tag}
use Rattle.dtype_types.specs.tree.Valid.{Valid, ValidItems}
use Rattle.dtype_types.specs.values.Value.{Value, Values, Entries, Named, IncludedIn, Of, NamedOf, VariantOf, Each, EachEntry, null_value, items, fixed_items, entries, record_of, tagged, no_values, value, no_entries, entry, no_named, named}
use Rattle.dtype_types.proofs.OwnTags.{OwnTags, LacksTag, own_tags, lacks_also, value_of_first, later_of}
use Rattle.dtype_types.proofs.lemmas.Bounds.{upper_of}
use Rattle.dtype_types.proofs.lemmas.NullValues.{of_set}

-- `Second` says whether a value has to be of the second type too
module _ (Second : Type 0) where
  each_of_two : (P Q R : Value → Type 0) → ((v : Value) → P v → (Second → Q v) → R v) → (vs : Values) → Each P vs → (Second → Each Q vs) → Each R vs
  each_of_two P Q R f no_values h k = tt
  each_of_two P Q R f (value v vs) h k = (f v h.0 (λ s. (k s).0), each_of_two P Q R f vs h.1 (λ s. (k s).1))

  abbrev Goes : Tree → Tree → Tree → Type 0
  Goes t u w = (v : Value) → Of v t → (Second → Of v u) → Of v w

  entries_of_two : (t u w t' u' w' : Tree) → Goes t u w → Goes t' u' w' → (es : Entries) → EachEntry (λ k. Of k t) (λ v. Of v t') es → (Second → EachEntry (λ k. Of k u) (λ v. Of v u') es)
      → EachEntry (λ k. Of k w) (λ v. Of v w') es
  entries_of_two t u w t' u' w' f g no_entries h k = tt
  entries_of_two t u w t' u' w' f g (entry x y es) h k = (f x h.0 (λ s. (k s).0), g y h.1 (λ s. (k s).1), entries_of_two t u w t' u' w' f g es h.2 (λ s. (k s).2))

  -- ---- one kind with parts each

  -- a rule, and of what the two nullabilities allow what the one allows that it makes of them
  module _ (r : Rule) (keeps : (P : Nullability → Type 0) → (P NonNullable → P Nullable) → (m n : Nullability) → P m → (Second → P n) → P (r m n)) where
    goes_null : (m n : Nullability) → m ≡ Nullable → (Second → n ≡ Nullable) → r m n ≡ Nullable
    goes_null = keeps (λ x. x ≡ Nullable) (λ _. refl)

    goes_leaf : (K : Nullability → Tree) → SetNull (K NonNullable) Nullable (K Nullable) → (m n : Nullability) → Goes (K m) (K n) (K (r m n))
    goes_leaf K set m n v = keeps (λ x. Of v (K x)) (of_set (K NonNullable) (K Nullable) Nullable set (λ _. refl) v) m n

    goes_list : (t u w : Tree) (m n : Nullability) → Goes t u w → Goes (list t m) (list u n) (list w (r m n))
    goes_list t u w m n f null_value o p = goes_null m n o p
    goes_list t u w m n f (items vs) o p = each_of_two (λ v. Of v t) (λ v. Of v u) (λ v. Of v w) f vs o p
    goes_list t u w m n f _ o p = o

    goes_fixed : (t u w : Tree) (j k : ℕ) (m n : Nullability) → Goes t u w → Goes (fixed_size_list t j m) (fixed_size_list u k n) (fixed_size_list w j (r m n))
    goes_fixed t u w j k m n f null_value o p = goes_null m n o p
    goes_fixed t u w j k m n f (fixed_items vs) o p = (o.0, each_of_two (λ v. Of v t) (λ v. Of v u) (λ v. Of v w) f vs o.1 (λ s. (p s).1))
    goes_fixed t u w j k m n f _ o p = o

    goes_map : (t u w t' u' w' : Tree) (x y : _) (m n : Nullability) → Goes t u w → Goes t' u' w' → Goes (map_of t t' x m) (map_of u u' y n) (map_of w w' x (r m n))
    goes_map t u w t' u' w' x y m n f g null_value o p = goes_null m n o p
    goes_map t u w t' u' w' x y m n f g (entries es) o p = entries_of_two t u w t' u' w' f g es o p
    goes_map t u w t' u' w' x y m n f g _ o p = o

    goes_struct : (fs gs hs : Fields) (m n : Nullability) → ((nvs : Named) → NamedOf nvs fs → (Second → NamedOf nvs gs) → NamedOf nvs hs) → Goes (struct fs m) (struct gs n) (struct hs (r m n))
    goes_struct fs gs hs m n f null_value o p = goes_null m n o p
    goes_struct fs gs hs m n f (record_of nvs) o p = f nvs o p
    goes_struct fs gs hs m n f _ o p = o

    goes_union : (vs ws xs : Variants) (m n : Nullability) → ((g : ℕ) (v : Value) → VariantOf g v vs → (Second → VariantOf g v ws) → VariantOf g v xs) → Goes (union vs m) (union ws n) (union xs (r m n))
    goes_union vs ws xs m n f null_value o p = goes_null m n o p
    goes_union vs ws xs m n f (tagged g v) o p = f g v o p
    goes_union vs ws xs m n f _ o p = o

    -- ---- at every depth

    mutual
      of_merge : (a b : Tree) → erase a ≡ erase b → (Second → Valid a) → Goes a b (merge r a b)
      of_merge null null e h v o p = o
      of_merge (bool m) (bool n) e h v o p = goes_leaf bool refl m n v o p
      of_merge (primitive q m) (primitive i n) e h v o p = let same : i ≡ q = cc in goes_leaf (primitive q) refl m n v o (λ s. subst (λ z. Of v (primitive z n)) same (p s))
      of_merge (decimal q m) (decimal i n) e h v o p = let same : i ≡ q = cc in goes_leaf (decimal q) refl m n v o (λ s. subst (λ z. Of v (decimal z n)) same (p s))
      of_merge (utf8 m) (utf8 n) e h v o p = goes_leaf utf8 refl m n v o p
      of_merge (binary m) (binary n) e h v o p = goes_leaf binary refl m n v o p
      of_merge (list t m) (list u n) e h v o p = goes_list t u (merge r t u) m n (λ x. of_merge t u (cc) h x) v o p
      of_merge (fixed_size_list t j m) (fixed_size_list u k n) e h v o p = goes_fixed t u (merge r t u) j k m n (λ x. of_merge t u (cc) (λ s. (h s).1) x) v o p
      of_merge (map_of t t' x m) (map_of u u' y n) e h v o p =
          goes_map t u (merge r t u) t' u' (merge r t' u') x y m n (λ z. of_merge t u (cc) (λ s. (h s).1) z) (λ z. of_merge t' u' (cc) (λ s. (h s).2) z) v o p
      of_merge (struct fs m) (struct gs n) e h v o p = goes_struct fs gs (merge_items r fs gs) m n (λ z. named_of_merge fs gs (cc) h z) v o p
      of_merge (union vs m) (union ws n) e h v o p = goes_union vs ws (merge_items r vs ws) m n (λ g z. variant_of_merge vs ws (cc) (λ s. own_tags vs m (h s)) g z) v o p
      of_merge (variant m) (variant n) e h v o p = goes_leaf variant refl m n v o p
      of_merge (extension i a t) (extension j b u) e h v o p = of_merge t u (cc) (λ s. (h s).1) v o p
      of_merge _ _ e h v o p = cc

      named_of_merge : (fs gs : Fields) → erase_items fs ≡ erase_items gs → (Second → ValidItems fs) → (nvs : Named) → NamedOf nvs fs → (Second → NamedOf nvs gs) → NamedOf nvs (merge_items r fs gs)
      named_of_merge no_items no_items e h nvs o p = o
      named_of_merge (item m t _ fs) (item n u _ gs) e h (named l v rest) o p =
          (o.0, of_merge t u (cc) (λ s. (h s).0) v o.1 (λ s. (p s).1), named_of_merge fs gs (ap rest_of e) (λ s. (h s).1) rest o.2 (λ s. (p s).2))
      named_of_merge (item m t _ fs) (item n u _ gs) e h no_named o p = o
      named_of_merge _ _ e h nvs o p = cc

      variant_of_merge : (vs ws : Variants) → erase_items vs ≡ erase_items ws → (Second → OwnTags vs) → (g : ℕ) (v : Value) → VariantOf g v vs → (Second → VariantOf g v ws) → VariantOf g v (merge_items r vs ws)
      variant_of_merge no_items no_items e h g v o p = o
      variant_of_merge (item m t i vs) (item n u j ws) e h g v (inl o) p =
          inl (o.0, of_merge t u (cc) (λ s. (h s).0) v o.1 (λ s. value_of_first g j v n u ws (subst (λ k. LacksTag k ws) (sym o.0) (lacks_also i vs ws (ap rest_of e) (h s).1)) (p s)))
      variant_of_merge (item m t i vs) (item n u j ws) e h g v (inr o) p =
          inr (variant_of_merge vs ws (ap rest_of e) (λ s. (h s).2) g v o (λ s. later_of i g j v n u vs ws (ap (first_tag i) e) (h s).1 o (p s)))
      variant_of_merge _ _ e h g v o p = cc

-- ---- of one of the two, and of both

pub each_of : (P Q : Value → Type 0) → ((v : Value) → P v → Q v) → (vs : Values) → Each P vs → Each Q vs
each_of P Q f vs h = each_of_two ⊥ P P Q (λ v o _. f v o) vs h (λ never. absurd never)

pub each_entry : (t u t' u' : Tree) → IncludedIn t u → IncludedIn t' u' → (es : Entries) → EachEntry (λ k. Of k t) (λ v. Of v t') es → EachEntry (λ k. Of k u) (λ v. Of v u') es
each_entry t u t' u' f g es h = entries_of_two ⊥ t t u t' t' u' (λ v o _. f v o) (λ v o _. g v o) es h (λ never. absurd never)

keeps_first : (P : Nullability → Type 0) → (P NonNullable → P Nullable) → (m n : Nullability) → P m → (⊥ → P n) → P (either m n)
keeps_first P up NonNullable NonNullable h k = h
keeps_first P up NonNullable Nullable h k = up h
keeps_first P up Nullable NonNullable h k = h
keeps_first P up Nullable Nullable h k = h

pub sub_values : (a b : Tree) → Sub a b → IncludedIn a b
sub_values a b h v o = subst (Of v) (upper_of a b h) (of_merge ⊥ either keeps_first a b h.erased (λ never. absurd never) v o (λ never. absurd never))

keeps_both : (P : Nullability → Type 0) → (P NonNullable → P Nullable) → (m n : Nullability) → P m → (Unit {0} → P n) → P (both m n)
keeps_both P up NonNullable n h k = h
keeps_both P up Nullable n h k = k tt

pub of_both : (a b : Tree) → erase a ≡ erase b → Valid a → (v : Value) → Of v a → Of v b → Of v (merge both a b)
of_both a b e h v o p = of_merge (Unit {0}) both keeps_both a b e (λ _. h) v o (λ _. p)
