-- SPDX-License-Identifier: Apache-2.0
-- SPDX-FileCopyrightText: Copyright the Vortex contributors

-- The least type above two is least among all types that take the values of both.
use Rattle.std.proofs.Common.{◌≡◌, ◌∙◌, ◌<◌, ℕ, arith, refl, sym, subst, inl, inr, ap}
use Rattle.dtype_base.specs.Nullability.{either}
use Rattle.dtype_base.specs.declared.nullability.Nullability.{Nullability}
use Rattle.dtype_base.specs.declared.nullability.Nullability.TheVariants.{NonNullable, Nullable}
use Rattle.dtype_types.specs.nullability.Merged.{merge, merge_items}
use Rattle.dtype_types.specs.tree.Erase.{erase, erase_items}
use Rattle.dtype_types.specs.tree.Tree.{Tree, Fields, no_items, Variants, item, null, bool, primitive, decimal, utf8, binary, list, fixed_size_list, map_of, struct, union, variant, extension, rest_of, first_tag}
use Rattle.dtype_types.specs.tree.Valid.{Valid, ValidItems}
use Rattle.dtype_types.specs.values.Sample.{sample, samples, copies}
use Rattle.dtype_types.specs.values.Value.{Value, Values, Named, IncludedIn, Of, NamedOf, VariantOf, Each, value_count, null_value, items, fixed_items, entries, record_of, tagged, no_values, value, no_entries, entry, no_named, named}
use Rattle.dtype_types.proofs.lemmas.SampleLaws.{sample_of, samples_of, copies_hold, each_copy, value_count-copies}
use Rattle.dtype_types.proofs.lemmas.SubValues.{each_of, each_entry}
use Rattle.dtype_types.proofs.lemmas.ValidLists.{variants_are}
use Rattle.dtype_types.proofs.OwnTags.{OwnTags, own_tags, absent, value_of_first}

-- ---- least among the types that take the values of both

-- what holds of two nullabilities holds of the one that is made of them
choose : (P : Nullability → Type 0) (m n : Nullability) → P m → P n → P (either m n)
choose P NonNullable NonNullable p q = p
choose P NonNullable Nullable p q = q
choose P Nullable NonNullable p q = p
choose P Nullable Nullable p q = p

-- what w takes, each type takes that takes what t and u take
abbrev Least : Tree → Tree → Tree → Type 0
Least t u w = (c : Tree) → Valid c → IncludedIn t c → IncludedIn u c → IncludedIn w c

least_list : (t u w : Tree) (m n : Nullability) → Least t u w → (d : Tree) → Valid d → IncludedIn (list t m) d → IncludedIn (list u n) d → IncludedIn (list w (either m n)) d
least_list t u w m n f d x i j null_value o = choose (λ k. k ≡ Nullable → Of null_value d) m n (i null_value) (j null_value) o
least_list t u w m n f (list c _) x i j (items vs) o =
    each_of (λ v. Of v w) (λ v. Of v c) (f c x (λ q p. (i (items (value q no_values)) (p, tt)).0) (λ q p. (j (items (value q no_values)) (p, tt)).0)) vs o
least_list t u w m n f (extension a b s) x i j (items vs) o = least_list t u w m n f s x.1 i j (items vs) o
least_list t u w m n f _ x i j (items vs) o = absurd (i (items no_values) tt)
least_list t u w m n f _ x i j _ o = absurd o

fixed_each : (w c : Tree) (k : ℕ) → (0 < k → IncludedIn w c) → (vs : Values) → value_count vs ≡ k → Each (λ v. Of v w) vs → Each (λ v. Of v c) vs
fixed_each w c k f no_values n h = tt
fixed_each w c k f (value y ys) n h = each_of (λ v. Of v w) (λ v. Of v c) (f (omega (arith, n))) (value y ys) h

least_fixed : (t u w : Tree) (k : ℕ) (m n : Nullability) (z : Value) → Of z t → Least t u w → (d : Tree) → Valid d → IncludedIn (fixed_size_list t k m) d → IncludedIn (fixed_size_list u k n) d → IncludedIn (fixed_size_list w k (either m n)) d
least_fixed t u w k m n z zt f d x i j null_value o = choose (λ k. k ≡ Nullable → Of null_value d) m n (i null_value) (j null_value) o
least_fixed t u w k m n z zt f (fixed_size_list c l _) x i j (fixed_items vs) o = (
  o.0 ∙ sym (value_count-copies k z) ∙ (i (fixed_items (copies k z)) (value_count-copies k z, each_copy (λ v. Of v t) k z zt)).0,
  fixed_each w c k (λ some. f c x.1 (λ q p. copies_hold (λ v. Of v c) k q some (i (fixed_items (copies k q)) (value_count-copies k q, each_copy (λ v. Of v t) k q p)).1)
      (λ q p. copies_hold (λ v. Of v c) k q some (j (fixed_items (copies k q)) (value_count-copies k q, each_copy (λ v. Of v u) k q p)).1)) vs o.0 o.1,
)
least_fixed t u w k m n z zt f (extension a b s) x i j (fixed_items vs) o = least_fixed t u w k m n z zt f s x.1 i j (fixed_items vs) o
least_fixed t u w k m n z zt f _ x i j (fixed_items vs) o = absurd (i (fixed_items (copies k z)) (value_count-copies k z, each_copy (λ v. Of v t) k z zt))
least_fixed t u w k m n z zt f _ x i j _ o = absurd o

least_map : (t u w t' u' w' : Tree) (x y : _) (m n : Nullability) → Valid t → Valid t' → Valid u → Valid u' → Least t u w → Least t' u' w' → (d : Tree) → Valid d → IncludedIn (map_of t t' x m) d → IncludedIn (map_of u u' y n) d
    → IncludedIn (map_of w w' x (either m n)) d
least_map t u w t' u' w' x y m n h h' k k' f g d z i j null_value o = choose (λ k. k ≡ Nullable → Of null_value d) m n (i null_value) (j null_value) o
least_map t u w t' u' w' x y m n h h' k k' f g (map_of c c' _ _) z i j (entries es) o =
    each_entry w c w' c'
    (f c z.1 (λ q p. (i (entries (entry q (sample t') no_entries)) (p, sample_of t' h', tt)).0) (λ q p. (j (entries (entry q (sample u') no_entries)) (p, sample_of u' k', tt)).0))
    (g c' z.2 (λ q p. (i (entries (entry (sample t) q no_entries)) (sample_of t h, p, tt)).1) (λ q p. (j (entries (entry (sample u) q no_entries)) (sample_of u k, p, tt)).1)) es o
least_map t u w t' u' w' x y m n h h' k k' f g (extension a b s) z i j (entries es) o = least_map t u w t' u' w' x y m n h h' k k' f g s z.1 i j (entries es) o
least_map t u w t' u' w' x y m n h h' k k' f g _ z i j (entries es) o = absurd (i (entries no_entries) tt)
least_map t u w t' u' w' x y m n h h' k k' f g _ z i j _ o = absurd o

abbrev Least_named : Fields → Fields → Fields → Type 0
Least_named fs gs hs = (ds : Fields) → ValidItems ds → ((nvs : Named) → NamedOf nvs fs → NamedOf nvs ds) → ((nvs : Named) → NamedOf nvs gs → NamedOf nvs ds) → (nvs : Named) → NamedOf nvs hs → NamedOf nvs ds

least_struct : (fs gs hs : Fields) (m n : Nullability) → ValidItems fs → Least_named fs gs hs → (d : Tree) → Valid d → IncludedIn (struct fs m) d → IncludedIn (struct gs n) d → IncludedIn (struct hs (either m n)) d
least_struct fs gs hs m n h f d x i j null_value o = choose (λ k. k ≡ Nullable → Of null_value d) m n (i null_value) (j null_value) o
least_struct fs gs hs m n h f (struct ds _) x i j (record_of nvs) o = f ds x (λ nvs. i (record_of nvs)) (λ nvs. j (record_of nvs)) nvs o
least_struct fs gs hs m n h f (extension a b s) x i j (record_of nvs) o = least_struct fs gs hs m n h f s x.1 i j (record_of nvs) o
least_struct fs gs hs m n h f _ x i j (record_of nvs) o = absurd (i (record_of (samples fs)) (samples_of fs h))
least_struct fs gs hs m n h f _ x i j _ o = absurd o

abbrev In_variants : Variants → Variants → Type 0
In_variants vs ds = (g : ℕ) (v : Value) → VariantOf g v vs → VariantOf g v ds

abbrev Least_tagged : Variants → Variants → Variants → Type 0
Least_tagged vs ws xs = (ds : Variants) → OwnTags ds → In_variants vs ds → In_variants ws ds → In_variants xs ds

least_union : (vs ws xs : Variants) (m n : Nullability) → Valid (union vs m) → Least_tagged vs ws xs → (d : Tree) → Valid d → IncludedIn (union vs m) d → IncludedIn (union ws n) d → IncludedIn (union xs (either m n)) d
least_union vs ws xs m n h f d x i j null_value o = choose (λ k. k ≡ Nullable → Of null_value d) m n (i null_value) (j null_value) o
least_union no_items ws xs m n h f d x i j (tagged g v) o = absurd ((variants_are no_items h.0).0.0.2 refl)
least_union vs ws xs m n h f (union ds l) x i j (tagged g v) o = f ds (own_tags ds l x) (λ g v. i (tagged g v)) (λ g v. j (tagged g v)) g v o
least_union vs ws xs m n h f (extension a b s) x i j (tagged g v) o = least_union vs ws xs m n h f s x.1 i j (tagged g v) o
least_union (item l t k vs) ws xs m n h f _ x i j (tagged g v) o = absurd (i (tagged k (sample t)) (inl (refl, sample_of t h.1.0)))
least_union _ ws xs m n h f _ x i j _ o = absurd o

-- the type that a tag has, in variants of distinct tags
abbrev At_tag : Variants → ℕ → Type 0
At_tag ds g = (c : Tree) × Valid c × ((v : Value) → VariantOf g v ds → Of v c) × ((v : Value) → Of v c → VariantOf g v ds)

at_tag : (ds : Variants) → OwnTags ds → (g : ℕ) (z : Value) → VariantOf g z ds → At_tag ds g
at_tag (item m t k ds) x g z (inl o) =
    (t, x.0, λ v p. value_of_first k k v m t ds x.1 (subst (λ h. VariantOf h v (item m t k ds)) o.0 p), λ v p. inl (o.0, p))
at_tag (item m t k ds) x g z (inr o) =
    let rest = at_tag ds x.2 g z o in
    (rest.0, rest.1, λ v p. elim p [ inl q ↦ absurd (absent k ds x.1 g z q.0 o) | inr q ↦ rest.2 v q ], λ v p. inr (rest.3 v p))
at_tag no_items x g z o = absurd o

mutual
  pub least_values : (a b : Tree) → erase a ≡ erase b → Valid a → Valid b → (d : Tree) → Valid d → IncludedIn a d → IncludedIn b d → IncludedIn (merge either a b) d
  least_values null null e h k d x i j = i
  least_values (bool m) (bool n) e h k d x i j = choose (λ z. IncludedIn (bool z) d) m n i j
  least_values (primitive p m) (primitive q n) e h k d x i j = let same : p ≡ q = cc in choose (λ z. IncludedIn (primitive p z) d) m n i (subst (λ z. IncludedIn (primitive z n) d) (sym same) j)
  least_values (decimal p m) (decimal q n) e h k d x i j = let same : p ≡ q = cc in choose (λ z. IncludedIn (decimal p z) d) m n i (subst (λ z. IncludedIn (decimal z n) d) (sym same) j)
  least_values (utf8 m) (utf8 n) e h k d x i j = choose (λ z. IncludedIn (utf8 z) d) m n i j
  least_values (binary m) (binary n) e h k d x i j = choose (λ z. IncludedIn (binary z) d) m n i j
  least_values (list t m) (list u n) e h k d x i j = least_list t u (merge either t u) m n (λ c. least_values t u (cc) h k c) d x i j
  least_values (fixed_size_list t r m) (fixed_size_list u s n) e h k d x i j =
      let same : r ≡ s = cc in
      least_fixed t u (merge either t u) r m n (sample t) (sample_of t h.1) (λ c. least_values t u (cc) h.1 k.1 c) d x i (subst (λ z. IncludedIn (fixed_size_list u z n) d) (sym same) j)
  least_values (map_of t t' y m) (map_of u u' z n) e h k d x i j =
      least_map t u (merge either t u) t' u' (merge either t' u') y z m n h.1 h.2 k.1 k.2 (λ c. least_values t u (cc) h.1 k.1 c) (λ c. least_values t' u' (cc) h.2 k.2 c) d x i j
  least_values (struct fs m) (struct gs n) e h k d x i j = least_struct fs gs (merge_items either fs gs) m n h (λ ds. least_named fs gs (cc) h k ds) d x i j
  least_values (union vs m) (union ws n) e h k d x i j = least_union vs ws (merge_items either vs ws) m n h (λ ds. least_tagged vs ws (cc) (own_tags vs m h) (own_tags ws n k) ds) d x i j
  least_values (variant m) (variant n) e h k d x i j = choose (λ z. IncludedIn (variant z) d) m n i j
  least_values (extension l a t) (extension r b u) e h k d x i j = least_values t u (cc) h.1 k.1 d x i j
  least_values _ _ e h k d x i j = cc

  least_named : (fs gs : Fields) → erase_items fs ≡ erase_items gs → ValidItems fs → ValidItems gs → Least_named fs gs (merge_items either fs gs)
  least_named no_items no_items e h k ds x i j nvs o = i nvs o
  least_named (item m t _ fs) (item n u _ gs) e h k (item l c _ ds) x i j (named y v rest) o = (
    o.0 ∙ (i (named m (sample t) (samples fs)) (refl, sample_of t h.0, samples_of fs h.1)).0,
    least_values t u (cc) h.0 k.0 c x.0 (λ q p. (i (named m q (samples fs)) (refl, p, samples_of fs h.1)).1) (λ q p. (j (named n q (samples gs)) (refl, p, samples_of gs k.1)).1) v o.1,
    least_named fs gs (ap rest_of e) h.1 k.1 ds x.1 (λ r p. (i (named m (sample t) r) (refl, sample_of t h.0, p)).2) (λ r p. (j (named n (sample u) r) (refl, sample_of u k.0, p)).2) rest o.2,
  )
  least_named (item m t _ fs) (item n u _ gs) e h k (item l c _ ds) x i j no_named o = absurd o
  least_named (item m t _ fs) (item n u _ gs) e h k no_items x i j nvs o = absurd (i (named m (sample t) (samples fs)) (refl, sample_of t h.0, samples_of fs h.1))
  least_named _ _ e h k ds x i j nvs o = cc

  least_tagged : (vs ws : Variants) → erase_items vs ≡ erase_items ws → OwnTags vs → OwnTags ws → Least_tagged vs ws (merge_items either vs ws)
  least_tagged no_items no_items e h k ds x i j g v o = absurd o
  least_tagged (item m t a vs) (item n u b ws) e h k ds x i j g v (inl o) =
      let same : a ≡ b = ap (first_tag a) e in
      let at = at_tag ds x a (sample t) (i a (sample t) (inl (refl, sample_of t h.0))) in
      subst (λ z. VariantOf z v ds) (sym o.0) (at.3 v (least_values t u (cc) h.0 k.0 at.0 at.1 (λ q p. at.2 q (i a q (inl (refl, p)))) (λ q p. at.2 q (j a q (inl (same, p)))) v o.1))
  least_tagged (item m t a vs) (item n u b ws) e h k ds x i j g v (inr o) = least_tagged vs ws (ap rest_of e) h.2 k.2 ds x (λ g v p. i g v (inr p)) (λ g v p. j g v (inr p)) g v o
  least_tagged _ _ e h k ds x i j g v o = cc
