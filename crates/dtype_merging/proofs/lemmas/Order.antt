-- SPDX-License-Identifier: Apache-2.0
-- SPDX-FileCopyrightText: Copyright the Vortex contributors

-- The order of types by what can be read as what: it is reflexive and transitive, and types of which each can be read as
-- the other are the same up to the order of columns. A subset can be read as what it is a subset of.
use Rattle.std.proofs.Common.{◌≡◌, ℕ, List, ◌∷◌, Bool, true, false, refl, sym, ap, subst, ◌∙◌, inl, inr}
use Rattle.std.proofs.lemmas.Bool.{false≢true}
use Rattle.std.proofs.lemmas.Option.{same_Some}
use Rattle.dtype_base.specs.Distinct.{Distinct}
use Rattle.dtype_base.specs.declared.nullability.Nullability.{Nullability}
use Rattle.dtype_types.specs.declared.dtype.kinds.Kind.{Kind}
use Rattle.dtype_types.specs.declared.dtype.kinds.Kind.TheVariants as variants
use Rattle.dtype_types.specs.parts.Lookups.{first_named}
use Rattle.dtype_types.specs.tree.Kinds.{kind}
use Rattle.dtype_types.specs.tree.Tree.{Tree, Fields, Variants, Holder, Items, no_items, item, pairs, list, fixed_size_list, map_of, struct, union, extension}
use Rattle.dtype_merging.specs.ReadsAs.{Alike, EachBeside, EachFound, EachTagged, OnlyFurther, keyed, tags}
use Rattle.dtype_merging.specs.MergedColumns.{no_repeats}
use Rattle.dtype_merging.proofs.lemmas.Beside.{beside_names}
use Rattle.dtype_merging.proofs.lemmas.Repeats.{repeat_or_not, tested_distinct}
use Rattle.dtype_merging.proofs.lemmas.Finding.{Agrees, agrees_first, agrees_rest, by_option, found, no_repeats_rest, of_some_and, some_and, to_found}
use Rattle.dtype_merging.proofs.lemmas.Variants.{own_along, own_keys, own_or_not}

-- ---- kinds without parts

-- whether the types of a kind have no parts
abbrev pub plain_kind : Kind → Bool
plain_kind variants.List = false
plain_kind variants.FixedSizeList = false
plain_kind variants.Map = false
plain_kind variants.Struct = false
plain_kind variants.Union = false
plain_kind variants.Extension = false
plain_kind _ = true

abbrev pub plain : Tree → Bool
plain t = plain_kind (kind t)

-- whether the kind is that of `null`
abbrev pub null_kind : Kind → Bool
null_kind variants.Null = true
null_kind _ = false

abbrev pub is_null : Tree → Bool
is_null t = null_kind (kind t)

-- whether a type of the kind, apart from its parts, is read only as the types of which it is a subset
abbrev pub subset_kind : Kind → Bool
subset_kind variants.Null = false
subset_kind variants.Primitive = false
subset_kind variants.Decimal = false
subset_kind _ = true

-- ---- the parts of a type that is alike another

module _ (L : Tree → Tree → Type 0) (R : Nullability → Nullability → Type 0) (K : Bool → Tree → Bool → Tree → Type 0) (E : Tree → Type 0) (V : Type 0) where
  pub alike_plain : (t u : Tree) → plain t ≡ true → Alike L R K E V t u → L t u
  alike_plain (list t m) u p h = absurd (false≢true p)
  alike_plain (fixed_size_list t j m) u p h = absurd (false≢true p)
  alike_plain (map_of t v x m) u p h = absurd (false≢true p)
  alike_plain (struct fs m) u p h = absurd (false≢true p)
  alike_plain (union vs m) u p h = absurd (false≢true p)
  alike_plain (extension i a t) u p h = absurd (false≢true p)
  alike_plain t u p h = h

  pub plain_alike : (t u : Tree) → plain t ≡ true → L t u → Alike L R K E V t u
  plain_alike (list t m) u p h = absurd (false≢true p)
  plain_alike (fixed_size_list t j m) u p h = absurd (false≢true p)
  plain_alike (map_of t v x m) u p h = absurd (false≢true p)
  plain_alike (struct fs m) u p h = absurd (false≢true p)
  plain_alike (union vs m) u p h = absurd (false≢true p)
  plain_alike (extension i a t) u p h = absurd (false≢true p)
  plain_alike t u p h = h

  module _ (kinds : (t u : Tree) → is_null t ≡ false → L t u → kind t ≡ kind u) where
    pub of_list : (t : Tree) (m : Nullability) (w : Tree) → Alike L R K E V (list t m) w → (u : Tree) × (n : Nullability) × (w ≡ list u n) × R m n × Alike L R K E V t u
    of_list t m (list u n) h = (u, n, refl, h.0, h.1)
    of_list t m w h = let e = kinds (list t m) w refl h in cc

    pub of_fixed : (t : Tree) (j : ℕ) (m : Nullability) (w : Tree) → Alike L R K E V (fixed_size_list t j m) w → (u : Tree) × (n : Nullability) × (w ≡ fixed_size_list u j n) × R m n × Alike L R K E V t u
    of_fixed t j m (fixed_size_list u i n) h = (u, n, ap (λ z. fixed_size_list u z n) (sym h.0), h.1, h.2)
    of_fixed t j m w h = let e = kinds (fixed_size_list t j m) w refl h in cc

    pub of_map : (t v : Tree) (x : Bool) (m : Nullability) (z : Tree) → Alike L R K E V (map_of t v x m) z
        → (u w : Tree) × (y : Bool) × (n : Nullability) × (z ≡ map_of u w y n) × K x t y u × R m n × Alike L R K E V t u × Alike L R K E V v w
    of_map t v x m (map_of u w y n) h = (u, w, y, n, refl, h.0, h.1, h.2, h.3)
    of_map t v x m z h = let e = kinds (map_of t v x m) z refl h in cc

    pub of_struct : (fs : Fields) (m : Nullability) (w : Tree) → Alike L R K E V (struct fs m) w → (gs : Fields) × (n : Nullability) × (w ≡ struct gs n) × Alike L R K E V (struct fs m) (struct gs n)
    of_struct fs m (struct gs n) h = (gs, n, refl, h)
    of_struct fs m w h = let e = kinds (struct fs m) w refl h in cc

    pub of_union : (vs : Variants) (m : Nullability) (w : Tree) → Alike L R K E V (union vs m) w → (ws : Variants) × (n : Nullability) × (w ≡ union ws n) × Alike L R K E V (union vs m) (union ws n)
    of_union vs m (union ws n) h = (ws, n, refl, h)
    of_union vs m w h = let e = kinds (union vs m) w refl h in cc

    pub of_extension : (i b : List ℕ) (t w : Tree) → Alike L R K E V (extension i b t) w → (u : Tree) × (w ≡ extension i b u) × Alike L R K E V t u
    of_extension i b t (extension j c u) h = (u, ap (λ o. extension o c u) (sym h.0) ∙ ap (λ o. extension i o u) (sym h.1), h.2)
    of_extension i b t w h = let e = kinds (extension i b t) w refl h in cc

    -- types that are alike are of one kind, unless the first is null
    pub alike_kind : (t w : Tree) → is_null t ≡ false → Alike L R K E V t w → kind t ≡ kind w
    alike_kind (list t m) w s h = ap kind (sym (of_list t m w h).2)
    alike_kind (fixed_size_list t j m) w s h = ap kind (sym (of_fixed t j m w h).2)
    alike_kind (map_of t v x m) w s h = ap kind (sym (of_map t v x m w h).4)
    alike_kind (struct fs m) w s h = ap kind (sym (of_struct fs m w h).2)
    alike_kind (union vs m) w s h = ap kind (sym (of_union vs m w h).2)
    alike_kind (extension i b t) w s h = ap kind (sym (of_extension i b t w h).1)
    alike_kind t w s h = kinds t w s (alike_plain t w refl h)

    -- ---- reflexive

    module _ (L_same : (t : Tree) → L t t) (R_same : (n : Nullability) → R n n) (K_same : (x : Bool) (t : Tree) → K x t x t) where
      mutual
        pub alike_itself : (t : Tree) → Alike L R K E V t t
        alike_itself (list t m) = (R_same m, alike_itself t)
        alike_itself (fixed_size_list t j m) = (refl, R_same m, alike_itself t)
        alike_itself (map_of t v x m) = (K_same x t, R_same m, alike_itself t, alike_itself v)
        alike_itself (struct fs m) = elim (repeat_or_not fs fs) [
          | inl d ↦ inl (d, R_same m, found_itself fs fs (tested_distinct (pairs fs) d.0) (λ n t is. is), λ n u none is. cc)
          | inr d ↦ inr (d, R_same m, beside_itself fs)
        ]
        alike_itself (union vs m) = elim (own_or_not vs vs) [
          | inl d ↦ inl (d, R_same m, tagged_itself vs (keyed vs) (own_keys vs d.0) (λ n t is. is), λ n u none is. cc)
          | inr d ↦ inr (d, L_same (union vs m))
        ]
        alike_itself (extension i b t) = (refl, refl, alike_itself t)
        alike_itself t = L_same t

        found_itself : (fs gs : Fields) → no_repeats (pairs fs) ≡ true → Agrees (pairs fs) (pairs gs) → EachFound L R K E V fs gs
        found_itself no_items gs d h = tt
        found_itself (item n t _ fs) gs d h =
            let r = no_repeats_rest (n, t) (pairs fs) d in
            (of_some_and (Alike L R K E V t) (first_named (pairs gs) n) t (agrees_first n t (pairs fs) (pairs gs) h) (alike_itself t), found_itself fs gs r.1 (agrees_rest n t (pairs fs) (pairs gs) r.0 h))

        tagged_itself : (vs : Variants) (gs : Fields) → no_repeats (pairs (keyed vs)) ≡ true → Agrees (pairs (keyed vs)) (pairs gs) → EachTagged L R K E V vs gs
        tagged_itself no_items gs d h = tt
        tagged_itself (item n t f vs) gs d h =
            let r = no_repeats_rest (f ∷ n, t) (pairs (keyed vs)) d in (
              of_some_and (Alike L R K E V t) (first_named (pairs gs) (f ∷ n)) t (agrees_first (f ∷ n) t (pairs (keyed vs)) (pairs gs) h) (alike_itself t),
              tagged_itself vs gs r.1 (agrees_rest (f ∷ n) t (pairs (keyed vs)) (pairs gs) r.0 h),
            )

        beside_itself : {h : Holder} (xs : Items h) → EachBeside L R K E V xs xs
        beside_itself no_items = tt
        beside_itself (item n t f xs) = (refl, refl, alike_itself t, beside_itself xs)

    -- ---- transitive

    module _ (L_more : (t u v : Tree) → L t u → L u v → L t v) (R_more : (l m n : Nullability) → R l m → R m n → R l n)
        (K_more : (x y z : Bool) (t u v : Tree) → K x t y u → K y u z v → K x t z v) (E_more : (t u : Tree) → Alike L R K E V t u → E t → E u)
        (plain_more : (t u v : Tree) → plain t ≡ true → L t u → Alike L R K E V u v → L t v)
        (L_tags : (vs ws : Variants) (m n : Nullability) → L (union vs m) (union ws n) → tags vs ≡ tags ws) where
      further_more : (fs gs hs : Fields) → OnlyFurther E fs gs → EachFound L R K E V gs hs → OnlyFurther E gs hs → OnlyFurther E fs hs
      further_more fs gs hs f a g n v none is = by_option (first_named (pairs gs) n)
          (λ e. g n v e is)
          (λ u e. let s = found L R K E V gs hs a n u e in E_more u v (subst (Alike L R K E V u) (same_Some s.0 v (sym s.1 ∙ is)) s.2) (f n u none e))

      -- two structs after a third, from what is done with their fields
      structs_more : (fs gs hs : Fields) (l m n : Nullability) → (EachFound L R K E V fs gs → EachFound L R K E V gs hs → EachFound L R K E V fs hs)
          → (EachBeside L R K E V fs gs → EachBeside L R K E V gs hs → EachBeside L R K E V fs hs)
          → Alike L R K E V (struct fs l) (struct gs m) → Alike L R K E V (struct gs m) (struct hs n) → Alike L R K E V (struct fs l) (struct hs n)
      structs_more fs gs hs l m n go also (inl h) (inl g) = inl ((h.0.0, g.0.1), R_more l m n h.1 g.1, go h.2 g.2, further_more fs gs hs h.3 g.2 g.3)
      structs_more fs gs hs l m n go also (inl h) (inr g) = absurd (g.0 (h.0.1, subst Distinct (beside_names L R K E V gs hs g.2) h.0.1))
      structs_more fs gs hs l m n go also (inr h) (inl g) = absurd (h.0 (subst Distinct (sym (beside_names L R K E V fs gs h.2)) g.0.0, g.0.0))
      structs_more fs gs hs l m n go also (inr h) (inr g) = inr (λ d. h.0 (d.0, subst Distinct (beside_names L R K E V fs gs h.2) d.0), R_more l m n h.1 g.1, also h.2 g.2)

      variants_more : (us vs ws : Variants) → OnlyFurther (λ u. V) (keyed us) (keyed vs) → OnlyFurther (λ u. V) (keyed vs) (keyed ws) → OnlyFurther (λ u. V) (keyed us) (keyed ws)
      variants_more us vs ws f g n v none is = by_option (first_named (pairs (keyed vs)) n) (λ e. g n v e is) (λ u e. f n u none e)

      -- two unions after a third
      unions_more : (us vs ws : Variants) (l m n : Nullability) → (EachTagged L R K E V us (keyed vs) → EachTagged L R K E V vs (keyed ws) → EachTagged L R K E V us (keyed ws))
          → Alike L R K E V (union us l) (union vs m) → Alike L R K E V (union vs m) (union ws n) → Alike L R K E V (union us l) (union ws n)
      unions_more us vs ws l m n go (inl h) (inl g) = inl ((h.0.0, g.0.1), R_more l m n h.1 g.1, go h.2 g.2, variants_more us vs ws h.3 g.3)
      unions_more us vs ws l m n go (inl h) (inr g) = absurd (g.0 (h.0.1, own_along vs ws (L_tags vs ws m n g.1) h.0.1))
      unions_more us vs ws l m n go (inr h) (inl g) = absurd (h.0 (own_along vs us (sym (L_tags us vs l m h.1)) g.0.0, g.0.0))
      unions_more us vs ws l m n go (inr h) (inr g) = inr (λ d. h.0 (d.0, own_along us vs (L_tags us vs l m h.1) d.0), L_more (union us l) (union vs m) (union ws n) h.1 g.1)

      mutual
        pub alike_more : (t u v : Tree) → Alike L R K E V t u → Alike L R K E V u v → Alike L R K E V t v
        alike_more (list t l) u v h g =
            let i = of_list t l u h in
            let j = of_list i.0 i.1 v (subst (λ z. Alike L R K E V z v) i.2 g) in
            subst (Alike L R K E V (list t l)) (sym j.2) (R_more l i.1 j.1 i.3 j.3, alike_more t i.0 j.0 i.4 j.4)
        alike_more (fixed_size_list t k l) u v h g =
            let i = of_fixed t k l u h in
            let j = of_fixed i.0 k i.1 v (subst (λ z. Alike L R K E V z v) i.2 g) in
            subst (Alike L R K E V (fixed_size_list t k l)) (sym j.2) (refl, R_more l i.1 j.1 i.3 j.3, alike_more t i.0 j.0 i.4 j.4)
        alike_more (map_of t w x l) u v h g =
            let i = of_map t w x l u h in
            let j = of_map i.0 i.1 i.2 i.3 v (subst (λ z. Alike L R K E V z v) i.4 g) in
            subst (Alike L R K E V (map_of t w x l)) (sym j.4) (K_more x i.2 j.2 t i.0 j.0 i.5 j.5, R_more l i.3 j.3 i.6 j.6, alike_more t i.0 j.0 i.7 j.7, alike_more w i.1 j.1 i.8 j.8)
        alike_more (struct fs l) u v h g =
            let i = of_struct fs l u h in
            let j = of_struct i.0 i.1 v (subst (λ z. Alike L R K E V z v) i.2 g) in
            subst (Alike L R K E V (struct fs l)) (sym j.2) (structs_more fs i.0 j.0 l i.1 j.1 (found_more fs i.0 j.0) (beside_more fs i.0 j.0) i.3 j.3)
        alike_more (union us l) u v h g =
            let i = of_union us l u h in
            let j = of_union i.0 i.1 v (subst (λ z. Alike L R K E V z v) i.2 g) in
            subst (Alike L R K E V (union us l)) (sym j.2) (unions_more us i.0 j.0 l i.1 j.1 (tagged_more us i.0 (keyed j.0)) i.3 j.3)
        alike_more (extension i b t) u v h g =
            let p = of_extension i b t u h in
            let q = of_extension i b p.0 v (subst (λ z. Alike L R K E V z v) p.1 g) in
            subst (Alike L R K E V (extension i b t)) (sym q.1) (refl, refl, alike_more t p.0 q.0 p.2 q.2)
        alike_more t u v h g = plain_alike t v refl (plain_more t u v refl (alike_plain t u refl h) g)

        found_more : (fs gs hs : Fields) → EachFound L R K E V fs gs → EachFound L R K E V gs hs → EachFound L R K E V fs hs
        found_more no_items gs hs h g = tt
        found_more (item n t _ fs) gs hs h g =
            let s = some_and (Alike L R K E V t) (first_named (pairs gs) n) h.0 in
            let r = found L R K E V gs hs g n s.0 s.1 in
            (of_some_and (Alike L R K E V t) (first_named (pairs hs) n) r.0 r.1 (alike_more t s.0 r.0 s.2 r.2), found_more fs gs hs h.1 g)

        tagged_more : (us vs : Variants) (hs : Fields) → EachTagged L R K E V us (keyed vs) → EachTagged L R K E V vs hs → EachTagged L R K E V us hs
        tagged_more no_items vs hs h g = tt
        tagged_more (item n t f us) vs hs h g =
            let s = some_and (Alike L R K E V t) (first_named (pairs (keyed vs)) (f ∷ n)) h.0 in
            let r = found L R K E V (keyed vs) hs (to_found L R K E V vs hs g) (f ∷ n) s.0 s.1 in
            (of_some_and (Alike L R K E V t) (first_named (pairs hs) (f ∷ n)) r.0 r.1 (alike_more t s.0 r.0 s.2 r.2), tagged_more us vs hs h.1 g)

        beside_more : {h : Holder} (xs ys zs : Items h) → EachBeside L R K E V xs ys → EachBeside L R K E V ys zs → EachBeside L R K E V xs zs
        beside_more no_items no_items no_items h g = tt
        beside_more (item m t f xs) (item n u g ys) (item k v e zs) p q = (p.0 ∙ q.0, p.1 ∙ q.1, alike_more t u v p.2 q.2, beside_more xs ys zs p.3 q.3)
        beside_more no_items no_items (item k v e zs) p q = absurd q
        beside_more no_items (item n u g ys) zs p q = absurd p
        beside_more (item m t f xs) no_items zs p q = absurd p
        beside_more (item m t f xs) (item n u g ys) no_items p q = absurd q
