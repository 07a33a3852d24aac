-- SPDX-License-Identifier: Apache-2.0
-- SPDX-FileCopyrightText: Copyright the Vortex contributors

-- Laws of merging: what is merged of valid types is valid, types that differ in nullabilities alone are merged as
-- `merge_nullability` merges them, and merging is commutative and associative up to the order of columns.
use Rattle.std.proofs.Common.{◌≡◌, ◌==◌, ◌&&◌, ◌<◌, suc, arith, IfNone, IfSome, [], ◌∷◌, ◌++◌, Option, Some, None, refl, sym, ap, subst, ◌∙◌, inl, inr}
use Rattle.std.specs.Option.{option_map}
use Rattle.std.specs.Prelude.{◌↔◌}
use Rattle.std.specs.Str.{bytes_eq}
use Rattle.std.proofs.lemmas.Option.{same_Some}
use Rattle.std.proofs.lemmas.List.Elements.{All-append, All-cons}
use Rattle.dtype_base.specs.Bytes.{Bytes}
use Rattle.dtype_base.specs.Decimals.{IsValidDecimal}
use Rattle.dtype_base.specs.Nullability.{either}
use Rattle.dtype_base.specs.declared.nullability.Nullability.TheVariants.{Nullable}
use Rattle.dtype_types.specs.nullability.Merged.{merge, merged}
use Rattle.dtype_types.specs.nullability.Nullable.{IsNullable, set_null}
use Rattle.dtype_types.specs.parts.Lookups.{first_named}
use Rattle.dtype_types.specs.tree.Erase.{erase}
use Rattle.dtype_types.specs.tree.Tree.{Tree, Fields, Variants, Holder, Items, no_items, item, pairs, fields, null, primitive, decimal, list, fixed_size_list, map_of, struct, union, extension}
use Rattle.dtype_types.specs.tree.TreeOf.{tree}
use Rattle.dtype_types.specs.tree.Valid.{Valid, ValidItems}
use Rattle.dtype_types.specs.values.Value.{Of, Value}
use Rattle.dtype_types.specs.declared.dtype.DType.{DType}
use Rattle.dtype_types.proofs.lemmas.Merging.{merged_least, merged_valid, under_some}
use Rattle.dtype_types.proofs.lemmas.ValidLists.{are_variants, variants_are}
use Rattle.dtype_types.proofs.lemmas.ValidParts.{fields_of_pairs}
use Rattle.dtype_types.proofs.lemmas.Validity.{set_valid}
use Rattle.dtype_merging.specs.Filled.{filled}
use Rattle.dtype_merging.specs.ReadsAs.{HaveNoReader, IsLeastReader, ReadsAs, SameColumns, keyed, tags}
use Rattle.dtype_merging.specs.MergedColumns.{column, columns_merged, further, further_variants, joined, made_nullable, merged_beside, merged_by_name, merged_by_tag, no_repeats, stay_sorted, struct_with, variant_type}
use Rattle.dtype_merging.specs.Widens.{common_decimal, common_ptype}
use Rattle.dtype_merging.specs.declared.widening.Widening.{Widening}
use Rattle.dtype_merging.proofs.lemmas.Beside.{items_of, put_some}
use Rattle.dtype_merging.proofs.lemmas.Columns.{further_kept, further_left, kept_variant, left_variant, made_set}
use Rattle.dtype_merging.proofs.lemmas.Filling.{of_filled}
use Rattle.dtype_merging.proofs.lemmas.Finding.{Pairs, by_bool, by_option}
use Rattle.dtype_merging.proofs.lemmas.Merging.{above, field_valid, if_some, keyed_valid, least, map_made, mapped_some, pick_false, merged_with_null, pick_true, prepended, same_merged, unions_of}
use Rattle.dtype_merging.proofs.lemmas.Numbers.{decimal_one}
use Rattle.dtype_merging.proofs.lemmas.Reading.{reads_back, reads_itself, reads_more, sub_reads}
use Rattle.dtype_merging.proofs.lemmas.Variants.{tested_accepted}

-- ---- valid types

made_valid : (t : Tree) → Valid t → Valid (made_nullable t)
made_valid t h = set_valid t (made_nullable t) Nullable (made_set t) h

further_valid : (fs gs : Pairs) → ValidItems (fields gs) → ValidItems (fields (further fs gs))
further_valid fs [] h = tt
further_valid fs (g ∷ gs) h = by_option (first_named fs g.0)
    (λ none. subst (λ ps. ValidItems (fields ps)) (sym (further_kept fs gs g none)) (made_valid g.1 h.0, further_valid fs gs h.1))
    (λ t some. subst (λ ps. ValidItems (fields ps)) (sym (further_left fs gs g t some)) (further_valid fs gs h.1))

joined_valid : (ps qs : Pairs) → ValidItems (fields ps) → ValidItems (fields qs) → ValidItems (fields (ps ++ qs))
joined_valid [] qs h g = g
joined_valid (p ∷ ps) qs h g = (h.0, joined_valid ps qs h.1 g)

-- the tags and the types of variants

joined_tags : (us ws : Variants) → tags (joined us ws) ≡ tags us ++ tags ws
joined_tags no_items ws = refl
joined_tags (item n t f us) ws = ap (λ gs. f ∷ gs) (joined_tags us ws)

tagged_tags : (wide : Widening) (vs : Variants) (gs : Fields) (us : Variants) → merged_by_tag wide vs gs ≡ Some us → tags vs ≡ tags us
tagged_tags wide no_items gs us e = ap tags (same_Some no_items us e)
tagged_tags wide (item n t f vs) gs us e =
    let r = put_some n f (variant_type t (λ u. columns_merged wide t u) (first_named (pairs gs) (f ∷ n))) (merged_by_tag wide vs gs) us e in
    ap (λ ks. f ∷ ks) (tagged_tags wide vs gs r.1 r.3) ∙ ap tags r.4

further_tags : (fs : Fields) (ws : Variants) → Bytes (tags ws) → Bytes (tags (further_variants fs ws))
further_tags fs no_items h = h
further_tags fs (item n u g ws) h =
    let rest = further_tags fs ws (λ k d within. h (suc k) d (omega (arith, within))) in
    by_option (first_named (pairs fs) (g ∷ n))
    (λ none. subst (λ z. Bytes (tags z)) (sym (kept_variant fs n u g ws none)) (All-cons (λ b. b < 256) g (tags (further_variants fs ws)) (h 0 g (omega arith)) rest))
    (λ t some. subst (λ z. Bytes (tags z)) (sym (left_variant fs n u g ws t some)) rest)

variants_valid : (us ws : Variants) → ValidItems us → ValidItems ws → ValidItems (joined us ws)
variants_valid no_items ws h g = g
variants_valid (item n t f us) ws h g = (h.0, variants_valid us ws h.1 g)

further_variants_valid : (fs : Fields) (ws : Variants) → ValidItems ws → ValidItems (further_variants fs ws)
further_variants_valid fs no_items h = tt
further_variants_valid fs (item n u g ws) h = by_option (first_named (pairs fs) (g ∷ n))
    (λ none. subst ValidItems (sym (kept_variant fs n u g ws none)) (h.0, further_variants_valid fs ws h.1))
    (λ t some. subst ValidItems (sym (left_variant fs n u g ws t some)) (further_variants_valid fs ws h.1))

mutual
  pub merge_valid : (wide : Widening) (a b c : Tree) → columns_merged wide a b ≡ Some c → Valid a → Valid b → Valid c
  merge_valid wide null b c e h g = subst Valid (same_Some (made_nullable b) c e) (made_valid b g)
  merge_valid wide a null c e h g = subst Valid (same_Some (made_nullable a) c (sym (merged_with_null wide a) ∙ e)) (made_valid a h)
  merge_valid wide (list t m) (list u n) c e h g =
      let r = mapped_some (λ x. list x (either m n)) (columns_merged wide t u) c e in subst Valid r.2 (merge_valid wide t u r.0 r.1 h g)
  merge_valid wide (fixed_size_list t j m) (fixed_size_list u k n) c e h g =
      let s = if_some (j == k) (option_map (λ x. fixed_size_list x j (either m n)) (columns_merged wide t u)) c e in
      let r = mapped_some (λ x. fixed_size_list x j (either m n)) (columns_merged wide t u) c s.1 in subst Valid r.2 (h.0, merge_valid wide t u r.0 r.1 h.1 g.1)
  merge_valid wide (map_of t v x m) (map_of u w y n) c e h g =
      let r = map_made (columns_merged wide t u) (columns_merged wide v w) (stay_sorted x t y u) (either m n) c e in
      subst Valid r.4 (r.5, merge_valid wide t u r.0 r.2 h.1 g.1, merge_valid wide v w r.1 r.3 h.2 g.2)
  merge_valid wide (struct fs m) (struct gs n) c e h g =
      let test = no_repeats (pairs fs) && no_repeats (pairs gs) in
      let more = further (pairs fs) (pairs gs) in
      let named = struct_with (merged_by_name wide fs gs) more (either m n) in
      let beside = option_map (λ hs. struct hs (either m n)) (merged_beside wide fs gs) in
      by_bool test
      (λ tested.
      let r = mapped_some (λ qs. struct (fields (qs ++ more)) (either m n)) (merged_by_name wide fs gs) c (sym (pick_true test named beside tested) ∙ e) in
      subst Valid r.2 (joined_valid r.0 more (merge_valid_rows wide fs gs r.0 r.1 h g) (further_valid (pairs fs) (pairs gs) (subst ValidItems (sym (fields_of_pairs gs)) g))))
      (λ differ.
      let r = mapped_some (λ hs. struct hs (either m n)) (merged_beside wide fs gs) c (sym (pick_false test named beside differ) ∙ e) in
      subst Valid r.2 (merge_valid_beside wide fs gs r.0 r.1 h g))
  merge_valid wide (union vs m) (union ws n) c e h g =
      let r = unions_of wide vs ws m n c e in
      let more = further_variants (keyed vs) ws in
      let all = joined r.0 more in
      let bytes : Bytes (tags all) = subst Bytes (sym (joined_tags r.0 more))
      (All-append (λ b. b < 256) (tags r.0) (tags more) (subst Bytes (tagged_tags wide vs (keyed ws) r.0 r.2) (variants_are vs h.0).1) (further_tags (keyed vs) ws (variants_are ws g.0).1)) in
      subst Valid r.4 (are_variants all (tested_accepted all r.3) bytes, variants_valid r.0 more (merge_valid_tagged wide vs (keyed ws) r.0 r.2 h.1 (keyed_valid ws g.1)) (further_variants_valid (keyed vs) ws g.1))
  merge_valid wide (extension i a t) (extension j b u) c e h g =
      let s = if_some (bytes_eq i j && bytes_eq a b) (option_map (extension i a) (columns_merged wide t u)) c e in
      let r = mapped_some (extension i a) (columns_merged wide t u) c s.1 in subst Valid r.2 (h.0, merge_valid wide t u r.0 r.1 h.1 g.1)
  merge_valid wide (primitive p m) (primitive q n) c e h g =
      let r = mapped_some (λ x. primitive x (either m n)) (common_ptype wide p q) c e in subst Valid r.2 tt
  merge_valid wide (decimal d m) (decimal k n) c e h g =
      let r = mapped_some (λ x. decimal x (either m n)) (common_decimal wide d k) c e in
      subst Valid r.2 (elim (decimal_one wide d k r.0 r.1) [ inl same ↦ subst IsValidDecimal same h | inr same ↦ subst IsValidDecimal same g ])
  merge_valid wide a b c e h g = merged_valid a b c e h g

  merge_valid_rows : (wide : Widening) (fs gs : Fields) (ps : Pairs) → merged_by_name wide fs gs ≡ Some ps → ValidItems fs → ValidItems gs → ValidItems (fields ps)
  merge_valid_rows wide no_items gs ps e h g = subst (λ qs. ValidItems (fields qs)) (same_Some [] ps e) tt
  merge_valid_rows wide (item n t _ fs) gs ps e h g =
      let r = prepended n (column t (λ u. columns_merged wide t u) (first_named (pairs gs) n)) (merged_by_name wide fs gs) ps e in
      let x = r.0 in
      let here : Valid x = by_option (first_named (pairs gs) n)
      (λ none. subst Valid (same_Some (made_nullable t) x (sym (ap (column t (λ u. columns_merged wide t u)) none) ∙ r.2)) (made_valid t h.0))
      (λ u some. merge_valid wide t u x (sym (ap (column t (λ u. columns_merged wide t u)) some) ∙ r.2) h.0 (field_valid gs n u g some)) in
      subst (λ qs. ValidItems (fields qs)) r.4 (here, merge_valid_rows wide fs gs r.1 r.3 h.1 g)

  merge_valid_tagged : (wide : Widening) (vs : Variants) (gs : Fields) (us : Variants) → merged_by_tag wide vs gs ≡ Some us → ValidItems vs → ValidItems gs → ValidItems us
  merge_valid_tagged wide no_items gs us e h g = subst ValidItems (same_Some no_items us e) tt
  merge_valid_tagged wide (item n t f vs) gs us e h g =
      let r = put_some n f (variant_type t (λ u. columns_merged wide t u) (first_named (pairs gs) (f ∷ n))) (merged_by_tag wide vs gs) us e in
      let x = r.0 in
      let here : Valid x = by_option (first_named (pairs gs) (f ∷ n))
      (λ none. subst Valid (same_Some t x (sym (ap (variant_type t (λ u. columns_merged wide t u)) none) ∙ r.2)) h.0)
      (λ u some. merge_valid wide t u x (sym (ap (variant_type t (λ u. columns_merged wide t u)) some) ∙ r.2) h.0 (field_valid gs (f ∷ n) u g some)) in
      subst ValidItems r.4 (here, merge_valid_tagged wide vs gs r.1 r.3 h.1 g)

  merge_valid_beside : (wide : Widening) {h : Holder} (xs ys zs : Items h) → merged_beside wide xs ys ≡ Some zs → ValidItems xs → ValidItems ys → ValidItems zs
  merge_valid_beside wide no_items no_items zs e p q = subst ValidItems (same_Some no_items zs e) tt
  merge_valid_beside wide (item m t f xs) (item n u g ys) zs e p q =
      let r = items_of wide m t f xs n u g ys zs e in subst ValidItems r.6 (merge_valid wide t u r.0 r.4 p.0 q.0, merge_valid_beside wide xs ys r.1 r.5 p.1 q.1)
  merge_valid_beside wide no_items (item n u g ys) zs e p q = cc
  merge_valid_beside wide (item m t f xs) no_items zs e p q = cc

-- ---- types that differ in nullabilities alone

pub as_by_nullability : (wide : Widening) (a b : Tree) → Valid a → Valid b → erase a ≡ erase b → columns_merged wide a b ≡ merged a b
as_by_nullability wide a b h g e =
    let c = merge either a b in
    let is = under_some either a b e in
    let up = merged_least a b c is in
    let r = least wide a b c (merged_valid a b c is h g) (sub_reads wide a c up.first) (sub_reads wide b c up.second) in
    r.1 ∙ ap Some (sym (same_merged wide a b r.0 r.1 e)) ∙ sym is

-- ---- in any order

pub turned_around : (wide : Widening) (a b c : Tree) → Valid a → Valid b → columns_merged wide a b ≡ Some c → (d : Tree) × (columns_merged wide b a ≡ Some d) × SameColumns c d
turned_around wide a b c h g e =
    let up = above wide a b c e in
    let d = least wide b a c (merge_valid wide a b c e h g) up.1 up.0 in
    let back = above wide b a d.0 d.1 in
    let again = least wide a b d.0 (merge_valid wide b a d.0 d.1 g h) back.1 back.0 in
    (d.0, d.1, reads_back wide c d.0 (subst (λ z. ReadsAs wide z d.0) (same_Some again.0 c (sym again.1 ∙ e)) again.2) d.2)

pub from_the_left : (wide : Widening) (a b c x y : Tree) → Valid a → Valid b → Valid c → columns_merged wide a b ≡ Some x → columns_merged wide x c ≡ Some y
    → (z w : Tree) × (columns_merged wide b c ≡ Some z) × (columns_merged wide a z ≡ Some w) × SameColumns y w
from_the_left wide a b c x y h g k e f =
    let valid_x = merge_valid wide a b x e h g in
    let at_x = above wide a b x e in
    let at_y = above wide x c y f in
    let valid_y = merge_valid wide x c y f valid_x k in
    let z = least wide b c y valid_y (reads_more wide b x y at_x.1 at_y.0) at_y.1 in
    let w = least wide a z.0 y valid_y (reads_more wide a x y at_x.0 at_y.0) z.2 in
    let at_z = above wide b c z.0 z.1 in
    let at_w = above wide a z.0 w.0 w.1 in
    let valid_w = merge_valid wide a z.0 w.0 w.1 h (merge_valid wide b c z.0 z.1 g k) in
    let x_again = least wide a b w.0 valid_w at_w.0 (reads_more wide b z.0 w.0 at_z.0 at_w.1) in
    let x_below = subst (λ t. ReadsAs wide t w.0) (same_Some x_again.0 x (sym x_again.1 ∙ e)) x_again.2 in
    let y_again = least wide x c w.0 valid_w x_below (reads_more wide c z.0 w.0 at_z.1 at_w.1) in
    (z.0, w.0, z.1, w.1, reads_back wide y w.0 (subst (λ t. ReadsAs wide t w.0) (same_Some y_again.0 y (sym y_again.1 ∙ f)) y_again.2) w.2)

pub from_the_right : (wide : Widening) (a b c z w : Tree) → Valid a → Valid b → Valid c → columns_merged wide b c ≡ Some z → columns_merged wide a z ≡ Some w
    → (x y : Tree) × (columns_merged wide a b ≡ Some x) × (columns_merged wide x c ≡ Some y) × SameColumns w y
from_the_right wide a b c z w h g k e f =
    let valid_z = merge_valid wide b c z e g k in
    let at_z = above wide b c z e in
    let at_w = above wide a z w f in
    let valid_w = merge_valid wide a z w f h valid_z in
    let x = least wide a b w valid_w at_w.0 (reads_more wide b z w at_z.0 at_w.1) in
    let y = least wide x.0 c w valid_w x.2 (reads_more wide c z w at_z.1 at_w.1) in
    let at_x = above wide a b x.0 x.1 in
    let at_y = above wide x.0 c y.0 y.1 in
    let valid_y = merge_valid wide x.0 c y.0 y.1 (merge_valid wide a b x.0 x.1 h g) k in
    let z_again = least wide b c y.0 valid_y (reads_more wide b x.0 y.0 at_x.1 at_y.0) at_y.1 in
    let z_below = subst (λ t. ReadsAs wide t y.0) (same_Some z_again.0 z (sym z_again.1 ∙ e)) z_again.2 in
    let w_again = least wide a z y.0 valid_y (reads_more wide a x.0 y.0 at_x.0 at_y.0) z_below in
    (x.0, y.0, x.1, y.1, reads_back wide w y.0 (subst (λ t. ReadsAs wide t y.0) (same_Some w_again.0 w (sym w_again.1 ∙ f)) w_again.2) y.2)

-- ---- with a type that has only nulls, and with what can be read as the type

pub nulls_read : (wide : Widening) (t : Tree) → ReadsAs wide null t ↔ IsNullable t
nulls_read wide t = (λ h. h, λ h. h)

pub nulls_first : (wide : Widening) (t : Tree) → columns_merged wide null t ≡ set_null t Nullable
nulls_first wide t = sym (made_set t)

pub nulls_second : (wide : Widening) (t : Tree) → columns_merged wide t null ≡ set_null t Nullable
nulls_second wide t = merged_with_null wide t ∙ sym (made_set t)

pub ruleset with_nulls = (nulls_read, nulls_first, nulls_second)

pub changes_nothing : (wide : Widening) (t u : Tree) → Valid t → ReadsAs wide u t → (c : Tree) × (columns_merged wide t u ≡ Some c) × SameColumns c t
changes_nothing wide t u v h =
    let r = least wide t u t v (reads_itself wide t) h in (r.0, r.1, reads_back wide r.0 t r.2 (above wide t u r.0 r.1).0)

pub changes_nothing_turned : (wide : Widening) (t u : Tree) → Valid t → ReadsAs wide u t → (c : Tree) × (columns_merged wide u t ≡ Some c) × SameColumns c t
changes_nothing_turned wide t u v h =
    let r = least wide u t t v h (reads_itself wide t) in (r.0, r.1, reads_back wide r.0 t r.2 (above wide u t r.0 r.1).1)

-- ---- of what a call returns

pub merged_is_least : (wide : Widening) (a b c : Tree) → columns_merged wide a b ≡ Some c → IsLeastReader wide a b c
merged_is_least wide a b c e = record {
  first = (above wide a b c e).0;
  second = (above wide a b c e).1;
  least = λ d v h g. let r = least wide a b d v h g in subst (λ z. ReadsAs wide z d) (same_Some r.0 c (sym r.1 ∙ e)) r.2;
}

pub none_has_no_reader : (wide : Widening) (a b : Tree) → columns_merged wide a b ≡ None → HaveNoReader wide a b
none_has_no_reader wide a b e d v h g = let r = least wide a b d v h g in let some = r.1 in cc

pub returned_least : (wide : Widening) (a b : Tree) (o : Option DType) → option_map tree o ≡ columns_merged wide a b → IfSome o (λ c. IsLeastReader wide a b (tree c))
returned_least wide a b None e = tt
returned_least wide a b (Some c) e = merged_is_least wide a b (tree c) (sym e)

pub returned_none : (wide : Widening) (a b : Tree) (o : Option DType) → option_map tree o ≡ columns_merged wide a b → IfNone o (HaveNoReader wide a b)
returned_none wide a b None e = none_has_no_reader wide a b (sym e)
returned_none wide a b (Some c) e = tt

pub returned_valid : (wide : Widening) (a b : Tree) (o : Option DType) → option_map tree o ≡ columns_merged wide a b → Valid a → Valid b → IfSome o (λ c. Valid (tree c))
returned_valid wide a b None e h g = tt
returned_valid wide a b (Some c) e h g = merge_valid wide a b (tree c) (sym e) h g

pub returned_values : (wide : Widening) (a b : Tree) (o : Option DType) → option_map tree o ≡ columns_merged wide a b
    → IfSome o (λ c. ((v : Value) → Of v a → Of (filled a (tree c) v) (tree c)) × ((v : Value) → Of v b → Of (filled b (tree c) v) (tree c)))
returned_values wide a b None e = tt
returned_values wide a b (Some c) e = let h = above wide a b (tree c) (sym e) in (of_filled wide a (tree c) h.0, of_filled wide b (tree c) h.1)

pub ruleset returned = (returned_least, returned_none, returned_valid, returned_values)
