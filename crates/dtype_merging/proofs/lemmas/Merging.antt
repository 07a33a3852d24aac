-- SPDX-License-Identifier: Apache-2.0
-- SPDX-FileCopyrightText: Copyright the Vortex contributors

-- What is merged of two types: both can be read as it, it can be read as each valid type as which both can be read, and
-- there is one if there is such a valid type.
use Rattle.std.proofs.Common.{◌≡◌, ◌≢◌, ◌==◌, ◌&&◌, ℕ, List, [], ◌∷◌, ◌++◌, Bool, true, false, Option, Some, None, if◌then◌else◌, refl, sym, ap, subst, ◌∙◌, inl, inr, append-nil}
use Rattle.std.specs.Option.{is_some, option_map}
use Rattle.std.specs.Str.{bytes_eq}
use Rattle.std.proofs.lemmas.Bool.{eq-eqb, eqb-true, false≢true}
use Rattle.std.proofs.lemmas.Option.{same_Some}
use Rattle.std.proofs.lemmas.Slice.Eq.{bytes_eq-Decides}
use Rattle.dtype_base.specs.Distinct.{Distinct}
use Rattle.dtype_base.specs.Decimals.{Decimal}
use Rattle.dtype_base.specs.Nullability.{either}
use Rattle.dtype_base.specs.declared.nullability.Nullability.{Nullability}
use Rattle.dtype_base.specs.declared.nullability.Nullability.TheVariants.{NonNullable, Nullable}
use Rattle.dtype_base.specs.declared.ptype.PType.{PType}
use Rattle.dtype_types.specs.nullability.Merged.{merge, merge_items, merged}
use Rattle.dtype_types.specs.nullability.Nullable.{IsNullable, nullability}
use Rattle.dtype_types.specs.nullability.Sub.{Sub, Allows}
use Rattle.dtype_types.specs.parts.Lookups.{first_named}
use Rattle.dtype_types.specs.declared.dtype.kinds.Kind.TheVariants as variants
use Rattle.dtype_types.specs.tree.Erase.{erase, erase_items}
use Rattle.dtype_types.specs.tree.Kinds.{kind}
use Rattle.dtype_types.specs.tree.Tree.{Tree, Fields, Variants, Holder, Items, no_items, item, pairs, fields, null, primitive, decimal, list, fixed_size_list, map_of, struct, union, extension, first_tag, rest_of}
use Rattle.dtype_types.specs.tree.Valid.{Valid, ValidItems}
use Rattle.dtype_types.proofs.lemmas.Bounds.{upwards}
use Rattle.dtype_types.proofs.lemmas.JoinedFields.{named_behind}
use Rattle.dtype_types.proofs.lemmas.Merging.{merged_least, under_some, under_where}
use Rattle.dtype_types.proofs.lemmas.NullValues.{allows_either}
use Rattle.dtype_types.proofs.lemmas.Validity.{type_named_valid}
use Rattle.dtype_types.proofs.lemmas.ValidParts.{fields_of_pairs}
use Rattle.dtype_merging.specs.ReadsAs.{EachBeside, EachFound, EachTagged, HasOwnTags, NoRepeats, OnlyFurther, OwnTags, ReadsAs, ReadsPlain, StaySorted, keyed, tags}
use Rattle.dtype_merging.specs.MergedColumns.{can_be_variants, column, columns_merged, further, further_variants, joined, made_nullable, map_of_key, map_with, merged_beside, merged_by_name, merged_by_tag, no_repeats, others_merged, own_tags, prepend, put_first, stay_sorted, struct_with, union_with, variant_type}
use Rattle.dtype_merging.specs.Widens.{common_decimal, common_ptype, decimal_reads, ptype_reads}
use Rattle.dtype_merging.specs.declared.widening.Widening.{Widening}
use Rattle.dtype_merging.proofs.lemmas.Beside.{beside_names, items_of, name_or, of_items, put_some, type_or}
use Rattle.dtype_merging.proofs.lemmas.Columns.{Rows, distinct_columns, found_before, found_behind, further_back, further_finds, further_left, further_repeats, further_skips, in_struct, joined_nothing, joined_repeats, keyed_joined, made_above, made_is, made_least, of_columns, row_at, row_back, row_none, row_repeats, variant_back, variant_finds, variant_skips, variants_none, variants_repeat}
use Rattle.dtype_merging.proofs.lemmas.Finding.{Agrees, Pairs, agrees_first, agrees_rest, both_true, by_bool, by_name, by_option, each_found, finds_first, finds_later, found, no_repeats_rest, of_found, some_and, to_found, true_both}
use Rattle.dtype_merging.proofs.lemmas.Numbers.{common_above, common_least, common_same, decimal_above, decimal_common_same, decimal_least}
use Rattle.dtype_merging.proofs.lemmas.Order.{alike_plain, is_null, of_extension, of_fixed, of_list, of_map, of_struct, of_union, plain, plain_kind, subset_kind}
use Rattle.dtype_merging.proofs.lemmas.Reading.{erased_kind, erased_lacks, not_null, plain_kinds, plain_sub, read_tags, reads_itself, reads_kind, reads_nullable, sub_reads}
use Rattle.dtype_merging.proofs.lemmas.Repeats.{distinct_tested, repeats_tested, tested_distinct}
use Rattle.dtype_merging.proofs.lemmas.Variants.{any_key, can_be, can_own, has_key, own_along, own_keys, own_tested, tested_own, tested_variants, valid_own, variants_tested}

-- ---- results that are there

pub pick_true : {X : Type 0} (b : Bool) (x y : X) → b ≡ true → (if b then x else y) ≡ x
pick_true b x y e = ap (λ z. if z then x else y) e

pub pick_false : {X : Type 0} (b : Bool) (x y : X) → b ≡ false → (if b then x else y) ≡ y
pick_false b x y e = ap (λ z. if z then x else y) e

pub if_some : {X : Type 0} (b : Bool) (o : Option X) (c : X) → (if b then o else None) ≡ Some c → (b ≡ true) × (o ≡ Some c)
if_some true o c e = (refl, e)
if_some false o c e = cc

pub mapped_some : {X : Type 0} (f : X → Tree) (o : Option X) (c : Tree) → option_map f o ≡ Some c → (x : X) × (o ≡ Some x) × (f x ≡ c)
mapped_some f (Some x) c e = (x, refl, same_Some (f x) c e)
mapped_some f None c e = cc

pub prepended : (n : List ℕ) (o : Option Tree) (r : Option Pairs) (ps : Pairs) → prepend n o r ≡ Some ps → (x : Tree) × (rest : Pairs) × (o ≡ Some x) × (r ≡ Some rest) × ((n, x) ∷ rest ≡ ps)
prepended n (Some x) (Some rest) ps e = (x, rest, refl, refl, same_Some ((n, x) ∷ rest) ps e)
prepended n (Some x) None ps e = cc
prepended n None r ps e = cc

key_made : (m : Nullability) (k v : Tree) (s : Bool) (n : Nullability) (c : Tree) → map_of_key m k v s n ≡ Some c → (map_of k v s n ≡ c) × (m ≡ NonNullable)
key_made NonNullable k v s n c e = (same_Some (map_of k v s n) c e, refl)
key_made Nullable k v s n c e = cc

pub map_made : (o p : Option Tree) (s : Bool) (n : Nullability) (c : Tree) → map_with o p s n ≡ Some c → (k v : Tree) × (o ≡ Some k) × (p ≡ Some v) × (map_of k v s n ≡ c) × (nullability k ≡ NonNullable)
map_made (Some k) (Some v) s n c e = let r = key_made (nullability k) k v s n c e in (k, v, refl, refl, r.0, r.1)
map_made (Some k) None s n c e = cc
map_made None p s n c e = cc

pub union_made : (o : Option Variants) (n : Nullability) (c : Tree) → union_with o n ≡ Some c → (vs : Variants) × (o ≡ Some vs) × (can_be_variants vs ≡ true) × (union vs n ≡ c)
union_made (Some vs) n c e = let s = if_some (can_be_variants vs) (Some (union vs n)) c e in (vs, refl, s.0, same_Some (union vs n) c s.1)
union_made None n c e = cc

joined_of : (o : Option Variants) (more us : Variants) → option_map (λ vs. joined vs more) o ≡ Some us → (vs : Variants) × (o ≡ Some vs) × (joined vs more ≡ us)
joined_of (Some vs) more us e = (vs, refl, same_Some (joined vs more) us e)
joined_of None more us e = cc

-- what is merged of two unions
pub unions_of : (wide : Widening) (vs ws : Variants) (m n : Nullability) (c : Tree) → columns_merged wide (union vs m) (union ws n) ≡ Some c
    → (us : Variants) × OwnTags vs ws × (merged_by_tag wide vs (keyed ws) ≡ Some us) × (can_be_variants (joined us (further_variants (keyed vs) ws)) ≡ true) × (union (joined us (further_variants (keyed vs) ws)) (either m n) ≡ c)
unions_of wide vs ws m n c e =
    let more = further_variants (keyed vs) ws in
    let made = option_map (λ us. joined us more) (merged_by_tag wide vs (keyed ws)) in
    let s = if_some (own_tags vs && own_tags ws) (union_with made (either m n)) c e in
    let d = both_true (own_tags vs) (own_tags ws) s.0 in
    let r = union_made made (either m n) c s.1 in
    let j = joined_of (merged_by_tag wide vs (keyed ws)) more r.0 r.1 in
    (j.0, (own_tested vs d.0, own_tested ws d.1), j.1, subst (λ z. can_be_variants z ≡ true) (sym j.2) r.2, ap (λ z. union z (either m n)) j.2 ∙ r.3)

keyed_erased : (vs : Variants) → erase_items (keyed vs) ≡ keyed (erase_items vs)
keyed_erased no_items = refl
keyed_erased (item n t f vs) = ap (item (f ∷ n) (erase t) tt) (keyed_erased vs)

key_kept : (m : Nullability) (k v : Tree) (s : Bool) (n : Nullability) → m ≢ Nullable → map_of_key m k v s n ≡ Some (map_of k v s n)
key_kept NonNullable k v s n sure = refl
key_kept Nullable k v s n sure = absurd (sure refl)

behind : (ps qs : Pairs) (n : List ℕ) → first_named ps n ≡ None → first_named (ps ++ qs) n ≡ first_named qs n
behind = named_behind

-- ---- types that are equal except for nullabilities

-- a type that is merged with `null` is made nullable
pub merged_with_null : (wide : Widening) (a : Tree) → columns_merged wide a null ≡ Some (made_nullable a)
merged_with_null wide null = refl
merged_with_null wide _ = refl

-- of what a call tells of two kinds
pub others_first : (a b : Tree) → kind a ≡ variants.Null → others_merged a b ≡ Some (made_nullable b)
others_first null b e = refl
others_first a b e = cc

pub others_second : (a b : Tree) → kind b ≡ variants.Null → others_merged a b ≡ Some (made_nullable a)
others_second null null e = refl
others_second a null e = refl
others_second a b e = cc

pub others_neither : (a b : Tree) → kind a ≢ variants.Null → kind b ≢ variants.Null → others_merged a b ≡ merged a b
others_neither null b one other = absurd (one refl)
others_neither a null one other = absurd (other refl)
others_neither a b one other = refl

pub ruleset merging_others = (others_first, others_second, others_neither)

pub plain_merged : (wide : Widening) (a b : Tree) → plain a ≡ true → subset_kind (kind a) ≡ true → is_null b ≡ false → columns_merged wide a b ≡ merged a b
plain_merged wide null b p s z = absurd (false≢true s)
plain_merged wide a null p s z = absurd (false≢true (sym z))
plain_merged wide (primitive q m) b p s z = absurd (false≢true s)
plain_merged wide (decimal d m) b p s z = absurd (false≢true s)
plain_merged wide (list t m) b p s z = absurd (false≢true p)
plain_merged wide (fixed_size_list t j m) b p s z = absurd (false≢true p)
plain_merged wide (map_of t v x m) b p s z = absurd (false≢true p)
plain_merged wide (struct fs m) b p s z = absurd (false≢true p)
plain_merged wide (union vs m) b p s z = absurd (false≢true p)
plain_merged wide (extension i a t) b p s z = absurd (false≢true p)
plain_merged wide a b p s z = refl

-- no further columns, if the first list has each name of the second
further_none : (fs gs : Pairs) → ((n : List ℕ) (u : Tree) → first_named gs n ≡ Some u → (t : Tree) × (first_named fs n ≡ Some t)) → further fs gs ≡ []
further_none fs [] h = refl
further_none fs (g ∷ gs) h =
    let s = h g.0 g.1 (finds_first g.0 g.0 g.1 gs refl) in
    further_left fs gs g s.0 s.1 ∙ further_none fs gs (λ n u is. by_name g.0 n (λ e. (s.0, sym (ap (first_named fs) e) ∙ s.1)) (λ ne. h n u (finds_later g.0 n g.1 gs ne ∙ is)))

sorted_alike : (x y : Bool) (t u : Tree) → x ≡ y → erase t ≡ erase u → stay_sorted x t y u ≡ x
sorted_alike true true t u e f = (under_where either t u).1 f
sorted_alike true false t u e f = cc
sorted_alike false y t u e f = refl

mutual
  -- what is merged of them is their least upper bound by nullability
  pub same_merged : (wide : Widening) (a b c : Tree) → columns_merged wide a b ≡ Some c → erase a ≡ erase b → merge either a b ≡ c
  same_merged wide (list t m) (list u n) c e f =
      let r = mapped_some (λ x. list x (either m n)) (columns_merged wide t u) c e in ap (λ x. list x (either m n)) (same_merged wide t u r.0 r.1 (cc)) ∙ r.2
  same_merged wide (list t m) b c e f = let k = erased_kind (list t m) b f in cc
  same_merged wide (fixed_size_list t j m) (fixed_size_list u k n) c e f =
      let s = if_some (j == k) (option_map (λ x. fixed_size_list x j (either m n)) (columns_merged wide t u)) c e in
      let r = mapped_some (λ x. fixed_size_list x j (either m n)) (columns_merged wide t u) c s.1 in ap (λ x. fixed_size_list x j (either m n)) (same_merged wide t u r.0 r.1 (cc)) ∙ r.2
  same_merged wide (fixed_size_list t j m) b c e f = let k = erased_kind (fixed_size_list t j m) b f in cc
  same_merged wide (map_of t v x m) (map_of u w y n) c e f =
      let keys : erase t ≡ erase u = cc in
      let values : erase v ≡ erase w = cc in
      let flags : x ≡ y = cc in
      let r = map_made (columns_merged wide t u) (columns_merged wide v w) (stay_sorted x t y u) (either m n) c e in
      ap (λ k. map_of k (merge either v w) x (either m n)) (same_merged wide t u r.0 r.2 keys) ∙ ap (λ z. map_of r.0 z x (either m n)) (same_merged wide v w r.1 r.3 values)
      ∙ ap (λ s. map_of r.0 r.1 s (either m n)) (sym (sorted_alike x y t u flags keys)) ∙ r.4
  same_merged wide (map_of t v x m) b c e f = let k = erased_kind (map_of t v x m) b f in cc
  same_merged wide (struct fs m) (struct gs n) c e f =
      let same : erase_items fs ≡ erase_items gs = cc in
      let test = no_repeats (pairs fs) && no_repeats (pairs gs) in
      let more = further (pairs fs) (pairs gs) in
      let named = struct_with (merged_by_name wide fs gs) more (either m n) in
      let beside = option_map (λ hs. struct hs (either m n)) (merged_beside wide fs gs) in
      let whole = merge_items either fs gs in
      by_bool test
      (λ tested.
      let d = both_true (no_repeats (pairs fs)) (no_repeats (pairs gs)) tested in
      let none : more ≡ [] = further_none (pairs fs) (pairs gs) (λ k u is. by_option (first_named (pairs fs) k) (λ lacks. let z = erased_lacks fs gs k same lacks in cc) (λ t at. (t, at))) in
      let r = mapped_some (λ qs. struct (fields (qs ++ more)) (either m n)) (merged_by_name wide fs gs) c (sym (pick_true test named beside tested) ∙ e) in
      let rows : fields (pairs whole) ≡ fields (r.0 ++ more) = ap fields (same_rows wide fs gs gs r.0 r.1 same d.1 (λ k u is. is) ∙ sym (append-nil r.0) ∙ ap (λ qs. r.0 ++ qs) (sym none)) in
      ap (λ hs. struct hs (either m n)) (sym (fields_of_pairs whole) ∙ rows) ∙ r.2)
      (λ differ.
      let r = mapped_some (λ hs. struct hs (either m n)) (merged_beside wide fs gs) c (sym (pick_false test named beside differ) ∙ e) in
      ap (λ hs. struct hs (either m n)) (same_items wide fs gs r.0 r.1 same) ∙ r.2)
  same_merged wide (struct fs m) b c e f = let k = erased_kind (struct fs m) b f in cc
  same_merged wide (union vs m) (union ws n) c e f =
      let same : erase_items vs ≡ erase_items ws = cc in
      let r = unions_of wide vs ws m n c e in
      let keys : erase_items (keyed vs) ≡ erase_items (keyed ws) = keyed_erased vs ∙ ap keyed same ∙ sym (keyed_erased ws) in
      let none : further_variants (keyed vs) ws ≡ no_items =
      variants_none (keyed vs) ws (λ k u is. by_option (first_named (pairs (keyed vs)) k) (λ lacks. let z = erased_lacks (keyed vs) (keyed ws) k keys lacks in cc) (λ t at. (t, at))) in
      ap (λ z. union z (either m n)) (same_variants wide vs ws (keyed ws) r.0 r.2 same (own_keys ws r.1.1) (λ k u is. is) ∙ sym (joined_nothing r.0) ∙ ap (joined r.0) (sym none)) ∙ r.4
  same_merged wide (union vs m) b c e f = let k = erased_kind (union vs m) b f in cc
  same_merged wide (extension i a t) (extension j b u) c e f =
      let s = if_some (bytes_eq i j && bytes_eq a b) (option_map (extension i a) (columns_merged wide t u)) c e in
      let r = mapped_some (extension i a) (columns_merged wide t u) c s.1 in ap (extension i a) (same_merged wide t u r.0 r.1 (cc)) ∙ r.2
  same_merged wide (extension i a t) b c e f = let k = erased_kind (extension i a t) b f in cc
  same_merged wide null null c e f = same_Some null c e
  same_merged wide null b c e f = let k = erased_kind null b f in cc
  same_merged wide (primitive p m) (primitive q n) c e f =
      let same : p ≡ q = cc in same_Some (primitive p (either m n)) c (sym (ap (option_map (λ r. primitive r (either m n))) (common_same wide p q same)) ∙ e)
  same_merged wide (primitive p m) b c e f = let k = erased_kind (primitive p m) b f in cc
  same_merged wide (decimal d m) (decimal g n) c e f =
      let same : d ≡ g = cc in same_Some (decimal d (either m n)) c (sym (ap (option_map (λ r. decimal r (either m n))) (decimal_common_same wide d g same)) ∙ e)
  same_merged wide (decimal d m) b c e f = let k = erased_kind (decimal d m) b f in cc
  same_merged wide a b c e f = same_Some (merge either a b) c (sym (under_some either a b f) ∙ sym (plain_merged wide a b refl refl (not_null a b (erased_kind a b f) refl)) ∙ e)

  -- the columns that the names find; `hs` is the whole struct of which `gs` are the last fields
  same_rows : (wide : Widening) (fs gs hs : Fields) (ps : Pairs) → merged_by_name wide fs hs ≡ Some ps → erase_items fs ≡ erase_items gs → no_repeats (pairs gs) ≡ true → Agrees (pairs gs) (pairs hs)
      → pairs (merge_items either fs gs) ≡ ps
  same_rows wide no_items no_items hs ps e f d a = same_Some [] ps e
  same_rows wide no_items (item n u _ gs) hs ps e f d a = cc
  same_rows wide (item n t _ fs) no_items hs ps e f d a = cc
  same_rows wide (item n t _ fs) (item k u _ gs) hs ps e f d a =
      let name : k ≡ n = cc in
      let type : erase t ≡ erase u = cc in
      let r = no_repeats_rest (k, u) (pairs gs) d in
      let at : first_named (pairs hs) n ≡ Some u = sym (ap (first_named (pairs hs)) name) ∙ agrees_first k u (pairs gs) (pairs hs) a in
      let p = prepended n (column t (λ u. columns_merged wide t u) (first_named (pairs hs) n)) (merged_by_name wide fs hs) ps e in
      let here : merge either t u ≡ p.0 = same_merged wide t u p.0 (sym (ap (column t (λ u. columns_merged wide t u)) at) ∙ p.2) type in
      ap (λ x. (n, x) ∷ pairs (merge_items either fs gs)) here
      ∙ ap (λ xs. (n, p.0) ∷ xs) (same_rows wide fs gs hs p.1 p.3 (ap rest_of f) r.1 (agrees_rest k u (pairs gs) (pairs hs) r.0 a)) ∙ p.4

  -- the variants that the tags and names find; `hs` is the whole union of which `ws` are the last variants
  same_variants : (wide : Widening) (vs ws : Variants) (hs : Fields) (us : Variants) → merged_by_tag wide vs hs ≡ Some us → erase_items vs ≡ erase_items ws → no_repeats (pairs (keyed ws)) ≡ true → Agrees (pairs (keyed ws)) (pairs hs)
      → merge_items either vs ws ≡ us
  same_variants wide no_items no_items hs us e f d a = same_Some no_items us e
  same_variants wide no_items (item n u g ws) hs us e f d a = cc
  same_variants wide (item m t k vs) no_items hs us e f d a = cc
  same_variants wide (item m t k vs) (item n u g ws) hs us e f d a =
      let name : m ≡ n = ap (name_or m) f in
      let tag : k ≡ g = ap (first_tag k) f in
      let key : (g ∷ n) ≡ (k ∷ m) = ap (λ z. z ∷ n) (sym tag) ∙ ap (λ z. k ∷ z) (sym name) in
      let r = no_repeats_rest (g ∷ n, u) (pairs (keyed ws)) d in
      let at : first_named (pairs hs) (k ∷ m) ≡ Some u = ap (first_named (pairs hs)) (sym key) ∙ agrees_first (g ∷ n) u (pairs (keyed ws)) (pairs hs) a in
      let p = put_some m k (variant_type t (λ u. columns_merged wide t u) (first_named (pairs hs) (k ∷ m))) (merged_by_tag wide vs hs) us e in
      let here : merge either t u ≡ p.0 = same_merged wide t u p.0 (sym (ap (variant_type t (λ u. columns_merged wide t u)) at) ∙ p.2) (ap (type_or (erase t)) f) in
      ap (λ x. item m x k (merge_items either vs ws)) here ∙ ap (item m p.0 k) (same_variants wide vs ws hs p.1 p.3 (ap rest_of f) r.1 (agrees_rest (g ∷ n) u (pairs (keyed ws)) (pairs hs) r.0 a)) ∙ p.4

  same_items : (wide : Widening) {h : Holder} (xs ys zs : Items h) → merged_beside wide xs ys ≡ Some zs → erase_items xs ≡ erase_items ys → merge_items either xs ys ≡ zs
  same_items wide no_items no_items zs e f = same_Some no_items zs e
  same_items wide (item m t g xs) (item n u k ys) zs e f =
      let r = items_of wide m t g xs n u k ys zs e in
      ap (λ x. item m x g (merge_items either xs ys)) (same_merged wide t u r.0 r.4 (ap (type_or (erase t)) f)) ∙ ap (λ rest. item m r.0 g rest) (same_items wide xs ys r.1 r.5 (ap rest_of f)) ∙ r.6
  same_items wide no_items (item n u k ys) zs e f = cc
  same_items wide (item m t g xs) no_items zs e f = cc

-- the keys of two maps whose merged keys are sorted: those of both maps are sorted, and they are the same keys
keys_stay : (wide : Widening) (x y : Bool) (t u k : Tree) → columns_merged wide t u ≡ Some k → stay_sorted x t y u ≡ true → (x ≡ true) × (y ≡ true) × (erase t ≡ erase k) × (erase u ≡ erase k)
keys_stay wide x y t u k made sorted =
    let all = both_true (x && y) (is_some (merged t u)) sorted in
    let flags = both_true x y all.0 in
    let same = (under_where either t u).0 all.1 in
    let up = merged_least t u k (under_some either t u same ∙ ap Some (same_merged wide t u k made same)) in (flags.0, flags.1, up.first.erased, up.second.erased)

-- types that differ in nullabilities alone can be read as their least upper bound
of_merged : (wide : Widening) (a b c : Tree) → merged a b ≡ Some c → ReadsAs wide a c × ReadsAs wide b c
of_merged wide a b c e = let h = merged_least a b c e in (sub_reads wide a c h.first, sub_reads wide b c h.second)

-- ---- both can be read as what is merged

nulls_above : (wide : Widening) (b c : Tree) → Some (made_nullable b) ≡ Some c → ReadsAs wide null c × ReadsAs wide b c
nulls_above wide b c e = let is = same_Some (made_nullable b) c e in (subst IsNullable is (made_is b), subst (ReadsAs wide b) is (made_above wide b))

-- of a field and the column for it: what can be read as the column
abbrev Above : Widening → Fields → List ℕ → Tree → Tree → Type 0
Above wide gs n t x = ReadsAs wide t x × ((u : Tree) → first_named (pairs gs) n ≡ Some u → ReadsAs wide u x) × (first_named (pairs gs) n ≡ None → IsNullable x)

-- two structs can be read as the struct of such columns, followed by the further ones
structs_above : (wide : Widening) (fs gs : Fields) (m n : Nullability) (ps : Pairs) → no_repeats (pairs fs) ≡ true → no_repeats (pairs gs) ≡ true → Rows (Above wide gs) fs ps
    → ReadsAs wide (struct fs m) (struct (fields (ps ++ further (pairs fs) (pairs gs))) (either m n)) × ReadsAs wide (struct gs n) (struct (fields (ps ++ further (pairs fs) (pairs gs))) (either m n))
structs_above wide fs gs m n ps d e rows =
    let more = further (pairs fs) (pairs gs) in
    let all = ps ++ more in
    let alone = distinct_columns all (joined_repeats ps more (row_repeats (Above wide gs) fs ps rows d) (further_repeats (pairs fs) (pairs gs) e)
    (λ k x is. let r = row_back (Above wide gs) fs ps rows k x is in further_skips (pairs fs) (pairs gs) k r.0 r.1)) in (
      inl (
        (distinct_tested (pairs fs) d, alone),
        allows_either m n,
        each_found (ReadsPlain wide) Allows StaySorted IsNullable (Unit {0}) fs (fields all) d (λ k t is. let r = row_at (Above wide gs) fs ps rows k t is in (r.0, in_struct all k (Some r.0) (found_before ps more k r.0 r.1), r.2.0)),
        λ k x none is. by_option (first_named ps k)
            (λ lacks. let b = further_back (pairs fs) (pairs gs) k x (sym (behind ps more k lacks) ∙ of_columns all k (Some x) is) in subst IsNullable (sym b.3) (made_is b.0))
            (λ y some. let r = row_back (Above wide gs) fs ps rows k y some in let at = r.1 in cc),
      ),
      inl (
        (distinct_tested (pairs gs) e, alone),
        upwards.second m n,
        each_found (ReadsPlain wide) Allows StaySorted IsNullable (Unit {0}) gs (fields all) e (λ k u is. by_option (first_named (pairs fs) k)
            (λ none. (made_nullable u, in_struct all k (Some (made_nullable u)) (found_behind ps more k (made_nullable u) (row_none (Above wide gs) fs ps rows k none) (further_finds (pairs fs) (pairs gs) k u none is)), made_above wide u))
            (λ t some. let r = row_at (Above wide gs) fs ps rows k t some in (r.0, in_struct all k (Some r.0) (found_before ps more k r.0 r.1), r.2.1 u is))),
        λ k x none is. by_option (first_named ps k)
            (λ lacks. let b = further_back (pairs fs) (pairs gs) k x (sym (behind ps more k lacks) ∙ of_columns all k (Some x) is) in let at = b.2 in cc)
            (λ y some.
            let r = row_back (Above wide gs) fs ps rows k y some in
            let same = same_Some y x (sym (found_before ps more k y some) ∙ of_columns all k (Some x) is) in subst IsNullable same (r.2.2 none)),
      ),
    )

-- two structs, in one of which a name repeats, can be read as the struct of fields as which theirs can be read one by one
repeating_above : (wide : Widening) (fs gs hs : Fields) (m n : Nullability) → (¬ NoRepeats fs gs) → EachBeside (ReadsPlain wide) Allows StaySorted IsNullable (Unit {0}) fs hs × EachBeside (ReadsPlain wide) Allows StaySorted IsNullable (Unit {0}) gs hs
    → ReadsAs wide (struct fs m) (struct hs (either m n)) × ReadsAs wide (struct gs n) (struct hs (either m n))
repeating_above wide fs gs hs m n repeat h =
    let first = beside_names (ReadsPlain wide) Allows StaySorted IsNullable (Unit {0}) fs hs h.0 in
    let second = beside_names (ReadsPlain wide) Allows StaySorted IsNullable (Unit {0}) gs hs h.1 in (
      inr (λ d. repeat (d.0, subst Distinct (sym second) d.1), allows_either m n, h.0),
      inr (λ d. repeat (subst Distinct (sym first) d.1, d.0), upwards.second m n, h.1),
    )

-- of a variant and what is merged of it: what can be read as it
abbrev AboveTagged : Widening → Fields → List ℕ → Tree → Tree → Type 0
AboveTagged wide gs k t x = ReadsAs wide t x × ((u : Tree) → first_named (pairs gs) k ≡ Some u → ReadsAs wide u x)

-- two unions can be read as the union of such variants, followed by the further ones
unions_above : (wide : Widening) (vs ws us : Variants) (m n : Nullability) → OwnTags vs ws → HasOwnTags (joined us (further_variants (keyed vs) ws)) → Rows (AboveTagged wide (keyed ws)) (keyed vs) (pairs (keyed us))
    → ReadsAs wide (union vs m) (union (joined us (further_variants (keyed vs) ws)) (either m n)) × ReadsAs wide (union ws n) (union (joined us (further_variants (keyed vs) ws)) (either m n))
unions_above wide vs ws us m n d alone rows =
    let fs = keyed vs in
    let gs = keyed ws in
    let more = further_variants fs ws in
    let all = keyed (joined us more) in
    let ps = pairs (keyed us) in
    let qs = pairs (keyed more) in
    let both : pairs all ≡ ps ++ qs = keyed_joined us more in
    let at : (k : List ℕ) (x : Tree) → first_named (ps ++ qs) k ≡ Some x → first_named (pairs all) k ≡ Some x = λ k x is. ap (λ z. first_named z k) both ∙ is in (
      inl (
        (d.0, alone),
        allows_either m n,
        of_found (ReadsPlain wide) Allows StaySorted IsNullable (Unit {0}) vs all (each_found (ReadsPlain wide) Allows StaySorted IsNullable (Unit {0}) fs all (own_keys vs d.0) (λ k t is. let r = row_at (AboveTagged wide gs) fs ps rows k t is in (r.0, at k r.0 (found_before ps qs k r.0 r.1), r.2.0))),
        λ k u none is. tt,
      ),
      inl (
        (d.1, alone),
        upwards.second m n,
        of_found (ReadsPlain wide) Allows StaySorted IsNullable (Unit {0}) ws all (each_found (ReadsPlain wide) Allows StaySorted IsNullable (Unit {0}) gs all (own_keys ws d.1) (λ k u is. by_option (first_named (pairs fs) k)
            (λ none. (u, at k u (found_behind ps qs k u (row_none (AboveTagged wide gs) fs ps rows k none) (variant_finds fs ws k none ∙ is)), reads_itself wide u))
            (λ t some. let r = row_at (AboveTagged wide gs) fs ps rows k t some in (r.0, at k r.0 (found_before ps qs k r.0 r.1), r.2.1 u is)))),
        λ k u none is. tt,
      ),
    )

mutual
  pub above : (wide : Widening) (a b c : Tree) → columns_merged wide a b ≡ Some c → ReadsAs wide a c × ReadsAs wide b c
  above wide null b c e = nulls_above wide b c e
  above wide a null c e = let h = nulls_above wide a c (sym (merged_with_null wide a) ∙ e) in (h.1, h.0)
  above wide (list t m) (list u n) c e =
      let r = mapped_some (λ x. list x (either m n)) (columns_merged wide t u) c e in
      let h = above wide t u r.0 r.1 in
      subst (λ z. ReadsAs wide (list t m) z × ReadsAs wide (list u n) z) r.2 ((allows_either m n, h.0), (upwards.second m n, h.1))
  above wide (fixed_size_list t j m) (fixed_size_list u k n) c e =
      let s = if_some (j == k) (option_map (λ x. fixed_size_list x j (either m n)) (columns_merged wide t u)) c e in
      let r = mapped_some (λ x. fixed_size_list x j (either m n)) (columns_merged wide t u) c s.1 in
      let h = above wide t u r.0 r.1 in
      subst (λ z. ReadsAs wide (fixed_size_list t j m) z × ReadsAs wide (fixed_size_list u k n) z) r.2 ((refl, allows_either m n, h.0), (sym (eqb-true j k s.0), upwards.second m n, h.1))
  above wide (map_of t v x m) (map_of u w y n) c e =
      let s = stay_sorted x t y u in
      let r = map_made (columns_merged wide t u) (columns_merged wide v w) s (either m n) c e in
      let h = above wide t u r.0 r.2 in
      let g = above wide v w r.1 r.3 in
      subst (λ z. ReadsAs wide (map_of t v x m) z × ReadsAs wide (map_of u w y n) z) r.4 (
        (λ e. let k = keys_stay wide x y t u r.0 r.2 e in (k.0, k.2), allows_either m n, h.0, g.0),
        (λ e. let k = keys_stay wide x y t u r.0 r.2 e in (k.1, k.3), upwards.second m n, h.1, g.1),
      )
  above wide (struct fs m) (struct gs n) c e =
      let test = no_repeats (pairs fs) && no_repeats (pairs gs) in
      let more = further (pairs fs) (pairs gs) in
      let named = struct_with (merged_by_name wide fs gs) more (either m n) in
      let beside = option_map (λ hs. struct hs (either m n)) (merged_beside wide fs gs) in
      by_bool test
      (λ tested.
      let d = both_true (no_repeats (pairs fs)) (no_repeats (pairs gs)) tested in
      let r = mapped_some (λ qs. struct (fields (qs ++ more)) (either m n)) (merged_by_name wide fs gs) c (sym (pick_true test named beside tested) ∙ e) in
      subst (λ z. ReadsAs wide (struct fs m) z × ReadsAs wide (struct gs n) z) r.2 (structs_above wide fs gs m n r.0 d.0 d.1 (above_rows wide fs gs r.0 r.1)))
      (λ differ.
      let r = mapped_some (λ hs. struct hs (either m n)) (merged_beside wide fs gs) c (sym (pick_false test named beside differ) ∙ e) in
      subst (λ z. ReadsAs wide (struct fs m) z × ReadsAs wide (struct gs n) z) r.2 (repeating_above wide fs gs r.0 m n (repeats_tested fs gs differ) (above_beside wide fs gs r.0 r.1)))
  above wide (union vs m) (union ws n) c e =
      let r = unions_of wide vs ws m n c e in
      let all = joined r.0 (further_variants (keyed vs) ws) in
      let rows = above_tagged wide vs (keyed ws) r.0 r.2 in
      let own : HasOwnTags all = can_own all r.3 in
      subst (λ z. ReadsAs wide (union vs m) z × ReadsAs wide (union ws n) z) r.4 (unions_above wide vs ws r.0 m n r.1 own rows)
  above wide (extension i a t) (extension j b u) c e =
      let s = if_some (bytes_eq i j && bytes_eq a b) (option_map (extension i a) (columns_merged wide t u)) c e in
      let same = both_true (bytes_eq i j) (bytes_eq a b) s.0 in
      let r = mapped_some (extension i a) (columns_merged wide t u) c s.1 in
      let h = above wide t u r.0 r.1 in
      subst (λ z. ReadsAs wide (extension i a t) z × ReadsAs wide (extension j b u) z) r.2 ((refl, refl, h.0), (sym ((bytes_eq-Decides i j).0 same.0), sym ((bytes_eq-Decides a b).0 same.1), h.1))
  above wide (primitive p m) (primitive q n) c e =
      let r = mapped_some (λ x. primitive x (either m n)) (common_ptype wide p q) c e in
      let h = common_above wide p q r.0 r.1 in
      subst (λ z. ReadsAs wide (primitive p m) z × ReadsAs wide (primitive q n) z) r.2 ((record { reads = h.0 }, allows_either m n), (record { reads = h.1 }, upwards.second m n))
  above wide (decimal d m) (decimal g n) c e =
      let r = mapped_some (λ x. decimal x (either m n)) (common_decimal wide d g) c e in
      let h = decimal_above wide d g r.0 r.1 in
      subst (λ z. ReadsAs wide (decimal d m) z × ReadsAs wide (decimal g n) z) r.2 ((record { reads = h.0 }, allows_either m n), (record { reads = h.1 }, upwards.second m n))
  above wide a b c e = of_merged wide a b c e

  above_rows : (wide : Widening) (fs gs : Fields) (ps : Pairs) → merged_by_name wide fs gs ≡ Some ps → Rows (Above wide gs) fs ps
  above_rows wide no_items gs ps e = subst (Rows (Above wide gs) no_items) (same_Some [] ps e) tt
  above_rows wide (item n t _ fs) gs ps e =
      let r = prepended n (column t (λ u. columns_merged wide t u) (first_named (pairs gs) n)) (merged_by_name wide fs gs) ps e in
      let x = r.0 in
      let here : Above wide gs n t x = by_option (first_named (pairs gs) n)
      (λ none.
      let made : made_nullable t ≡ x = same_Some (made_nullable t) x (sym (ap (column t (λ u. columns_merged wide t u)) none) ∙ r.2) in
      (subst (ReadsAs wide t) made (made_above wide t), λ u some. cc, λ _. subst IsNullable made (made_is t)))
      (λ u some.
      let h = above wide t u x (sym (ap (column t (λ u. columns_merged wide t u)) some) ∙ r.2) in
      (h.0, λ v at. subst (λ z. ReadsAs wide z x) (same_Some u v (sym some ∙ at)) h.1, λ none. cc)) in
      subst (Rows (Above wide gs) (item n t tt fs)) r.4 (refl, here, above_rows wide fs gs r.1 r.3)

  pub above_tagged : (wide : Widening) (vs : Variants) (gs : Fields) (us : Variants) → merged_by_tag wide vs gs ≡ Some us → Rows (AboveTagged wide gs) (keyed vs) (pairs (keyed us))
  above_tagged wide no_items gs us e = subst (λ z. Rows (AboveTagged wide gs) no_items (pairs (keyed z))) (same_Some no_items us e) tt
  above_tagged wide (item n t f vs) gs us e =
      let r = put_some n f (variant_type t (λ u. columns_merged wide t u) (first_named (pairs gs) (f ∷ n))) (merged_by_tag wide vs gs) us e in
      let x = r.0 in
      let here : AboveTagged wide gs (f ∷ n) t x = by_option (first_named (pairs gs) (f ∷ n))
      (λ none.
      let made : t ≡ x = same_Some t x (sym (ap (variant_type t (λ u. columns_merged wide t u)) none) ∙ r.2) in
      (subst (ReadsAs wide t) made (reads_itself wide t), λ u some. cc))
      (λ u some.
      let h = above wide t u x (sym (ap (variant_type t (λ u. columns_merged wide t u)) some) ∙ r.2) in
      (h.0, λ v at. subst (λ z. ReadsAs wide z x) (same_Some u v (sym some ∙ at)) h.1)) in
      subst (λ z. Rows (AboveTagged wide gs) (item (f ∷ n) t tt (keyed vs)) (pairs (keyed z))) r.4 (refl, here, above_tagged wide vs gs r.1 r.3)

  pub above_beside : (wide : Widening) {h : Holder} (xs ys zs : Items h) → merged_beside wide xs ys ≡ Some zs → EachBeside (ReadsPlain wide) Allows StaySorted IsNullable (Unit {0}) xs zs × EachBeside (ReadsPlain wide) Allows StaySorted IsNullable (Unit {0}) ys zs
  above_beside wide no_items no_items zs e = subst (λ z. EachBeside (ReadsPlain wide) Allows StaySorted IsNullable (Unit {0}) no_items z × EachBeside (ReadsPlain wide) Allows StaySorted IsNullable (Unit {0}) no_items z) (same_Some no_items zs e) (tt, tt)
  above_beside wide (item m t f xs) (item n u g ys) zs e =
      let r = items_of wide m t f xs n u g ys zs e in
      let h = above wide t u r.0 r.4 in
      let rest = above_beside wide xs ys r.1 r.5 in
      subst (λ z. EachBeside (ReadsPlain wide) Allows StaySorted IsNullable (Unit {0}) (item m t f xs) z × EachBeside (ReadsPlain wide) Allows StaySorted IsNullable (Unit {0}) (item n u g ys) z) r.6 ((refl, refl, h.0, rest.0), (sym r.2, sym r.3, h.1, rest.1))
  above_beside wide no_items (item n u g ys) zs e = cc
  above_beside wide (item m t f xs) no_items zs e = cc

-- ---- what is merged can be read as each valid type as which both can be read

-- of a field and the column for it: the column can be read as the field of that name in a third struct
abbrev Below : Widening → Fields → List ℕ → Tree → Tree → Type 0
Below wide hs n t x = (y : Tree) → first_named (pairs hs) n ≡ Some y → ReadsAs wide x y

structs_below : (wide : Widening) (fs gs hs : Fields) (m n o : Nullability) (ps : Pairs) → NoRepeats fs hs → NoRepeats gs hs → Allows m o → Allows n o → EachFound (ReadsPlain wide) Allows StaySorted IsNullable (Unit {0}) fs hs → EachFound (ReadsPlain wide) Allows StaySorted IsNullable (Unit {0}) gs hs
    → OnlyFurther IsNullable fs hs → Rows (Below wide hs) fs ps → ReadsAs wide (struct (fields (ps ++ further (pairs fs) (pairs gs))) (either m n)) (struct hs o)
structs_below wide fs gs hs m n o ps d e l r f g only rows =
    let more = further (pairs fs) (pairs gs) in
    let all = ps ++ more in
    let fs_alone = tested_distinct (pairs fs) d.0 in
    let all_alone = joined_repeats ps more (row_repeats (Below wide hs) fs ps rows fs_alone) (further_repeats (pairs fs) (pairs gs) (tested_distinct (pairs gs) e.0))
    (λ k x is. let b = row_back (Below wide hs) fs ps rows k x is in further_skips (pairs fs) (pairs gs) k b.0 b.1) in
    inl (
      (distinct_columns all all_alone, d.1),
      upwards.least o m n l r,
      each_found (ReadsPlain wide) Allows StaySorted IsNullable (Unit {0}) (fields all) hs (tested_distinct (pairs (fields all)) (distinct_columns all all_alone)) (λ k x is. by_option (first_named ps k)
          (λ lacks.
          let b = further_back (pairs fs) (pairs gs) k x (sym (behind ps more k lacks) ∙ of_columns all k (Some x) is) in
          let s = found (ReadsPlain wide) Allows StaySorted IsNullable (Unit {0}) gs hs g k b.0 b.2 in
          (s.0, s.1, subst (λ z. ReadsAs wide z s.0) (sym b.3) (made_least wide b.0 s.0 s.2 (only k s.0 b.1 s.1))))
          (λ y some.
          let b = row_back (Below wide hs) fs ps rows k y some in
          let s = found (ReadsPlain wide) Allows StaySorted IsNullable (Unit {0}) fs hs f k b.0 b.1 in
          (s.0, s.1, subst (λ z. ReadsAs wide z s.0) (same_Some y x (sym (found_before ps more k y some) ∙ of_columns all k (Some x) is)) (b.2 s.0 s.1)))),
      λ k y none is. by_option (first_named (pairs fs) k)
          (λ lacks. only k y lacks is)
          (λ t some. let b = row_at (Below wide hs) fs ps rows k t some in let at = in_struct all k (Some b.0) (found_before ps more k b.0 b.1) in cc),
    )

-- what is merged of two types, and that it can be read as d
abbrev pub MergedBelow : Widening → Tree → Tree → Tree → Type 0
MergedBelow wide a b d = (c : Tree) × (columns_merged wide a b ≡ Some c) × ReadsAs wide c d

-- of two subsets
subs_below : (wide : Widening) (a b d : Tree) → Sub a d → Sub b d → (c : Tree) × (merged a b ≡ Some c) × ReadsAs wide c d
subs_below wide a b d h g =
    let same = h.erased ∙ sym g.erased in
    let is = under_some either a b same in
    let c = merge either a b in (c, is, sub_reads wide c d ((merged_least a b c is).least d h g))

plain_below : (wide : Widening) (a b d : Tree) → plain a ≡ true → is_null a ≡ false → subset_kind (kind a) ≡ true → is_null b ≡ false → ReadsAs wide a d → ReadsAs wide b d → MergedBelow wide a b d
plain_below wide a b d p x k y h g =
    let kinds : kind b ≡ kind a = reads_kind wide b d y g ∙ sym (reads_kind wide a d x h) in
    let of_a = alike_plain (ReadsPlain wide) Allows StaySorted IsNullable (Unit {0}) a d p h in
    let of_b = alike_plain (ReadsPlain wide) Allows StaySorted IsNullable (Unit {0}) b d (ap plain_kind kinds ∙ p) g in
    let s = subs_below wide a b d (plain_sub wide a d k of_a) (plain_sub wide b d (ap subset_kind kinds ∙ k) of_b) in (s.0, plain_merged wide a b p k y ∙ s.1, s.2)

-- what a type of numbers can be read as
of_primitive : (wide : Widening) (p : PType) (m : Nullability) (d : Tree) → ReadsAs wide (primitive p m) d → (r : PType) × (o : Nullability) × (d ≡ primitive r o) × (ptype_reads wide p r ≡ true) × Allows m o
of_primitive wide p m (primitive r o) h = (r, o, refl, h.0.reads, h.1)
of_primitive wide p m d h = let k = reads_kind wide (primitive p m) d refl h in cc

of_decimal : (wide : Widening) (c : Decimal) (m : Nullability) (d : Tree) → ReadsAs wide (decimal c m) d → (r : Decimal) × (o : Nullability) × (d ≡ decimal r o) × (decimal_reads wide c r ≡ true) × Allows m o
of_decimal wide c m (decimal r o) h = (r, o, refl, h.0.reads, h.1)
of_decimal wide c m d h = let k = reads_kind wide (decimal c m) d refl h in cc

pub field_valid : (hs : Fields) (n : List ℕ) (y : Tree) → ValidItems hs → first_named (pairs hs) n ≡ Some y → Valid y
field_valid hs n y v is = type_named_valid (pairs hs) n y is (subst ValidItems (sym (fields_of_pairs hs)) v)

-- of two structs, from what is done with their fields
structs_least : (wide : Widening) (fs gs hs : Fields) (m n o : Nullability)
    → (EachFound (ReadsPlain wide) Allows StaySorted IsNullable (Unit {0}) fs hs → EachFound (ReadsPlain wide) Allows StaySorted IsNullable (Unit {0}) gs hs → OnlyFurther IsNullable gs hs → (ps : Pairs) × (merged_by_name wide fs gs ≡ Some ps) × Rows (Below wide hs) fs ps)
    → (EachBeside (ReadsPlain wide) Allows StaySorted IsNullable (Unit {0}) fs hs → EachBeside (ReadsPlain wide) Allows StaySorted IsNullable (Unit {0}) gs hs → (xs : Fields) × (merged_beside wide fs gs ≡ Some xs) × EachBeside (ReadsPlain wide) Allows StaySorted IsNullable (Unit {0}) xs hs)
    → ReadsAs wide (struct fs m) (struct hs o) → ReadsAs wide (struct gs n) (struct hs o) → MergedBelow wide (struct fs m) (struct gs n) (struct hs o)
structs_least wide fs gs hs m n o go also (inl h) (inl g) =
    let rows = go h.2 g.2 g.3 in
    let more = further (pairs fs) (pairs gs) in
    let tested = true_both (no_repeats (pairs fs)) (no_repeats (pairs gs)) (tested_distinct (pairs fs) h.0.0) (tested_distinct (pairs gs) g.0.0) in (
      struct (fields (rows.0 ++ more)) (either m n),
      pick_true (no_repeats (pairs fs) && no_repeats (pairs gs)) (struct_with (merged_by_name wide fs gs) more (either m n)) (option_map (λ hs. struct hs (either m n)) (merged_beside wide fs gs)) tested ∙ ap (λ r. struct_with r more (either m n)) rows.1,
      structs_below wide fs gs hs m n o rows.0 h.0 g.0 h.1 g.1 h.2 g.2 h.3 rows.2,
    )
structs_least wide fs gs hs m n o go also (inl h) (inr g) = absurd (g.0 (subst Distinct (sym (beside_names (ReadsPlain wide) Allows StaySorted IsNullable (Unit {0}) gs hs g.2)) h.0.1, h.0.1))
structs_least wide fs gs hs m n o go also (inr h) (inl g) = absurd (h.0 (subst Distinct (sym (beside_names (ReadsPlain wide) Allows StaySorted IsNullable (Unit {0}) fs hs h.2)) g.0.1, g.0.1))
structs_least wide fs gs hs m n o go also (inr h) (inr g) =
    let s = also h.2 g.2 in
    let same = beside_names (ReadsPlain wide) Allows StaySorted IsNullable (Unit {0}) fs hs h.2 in
    let test = no_repeats (pairs fs) && no_repeats (pairs gs) in
    let differ : test ≡ false = by_bool test
    (λ tested. let d = distinct_tested (pairs fs) ((both_true (no_repeats (pairs fs)) (no_repeats (pairs gs)) tested).0) in absurd (h.0 (d, subst Distinct same d)))
    (λ e. e) in
    let beside = option_map (λ xs. struct xs (either m n)) (merged_beside wide fs gs) in (
      struct s.0 (either m n),
      pick_false test (struct_with (merged_by_name wide fs gs) (further (pairs fs) (pairs gs)) (either m n)) beside differ ∙ ap (option_map (λ xs. struct xs (either m n))) s.1,
      inr (λ d. h.0 (subst Distinct (sym same) d.1, d.1), upwards.least o m n h.1 g.1, s.2),
    )

pub keyed_valid : (vs : Variants) → ValidItems vs → ValidItems (keyed vs)
keyed_valid no_items v = tt
keyed_valid (item n t f vs) v = (v.0, keyed_valid vs v.1)

-- of two unions
unions_least : (wide : Widening) (vs ws us : Variants) (m n o : Nullability) → Valid (union us o)
    → (EachTagged (ReadsPlain wide) Allows StaySorted IsNullable (Unit {0}) vs (keyed us) → EachTagged (ReadsPlain wide) Allows StaySorted IsNullable (Unit {0}) ws (keyed us) → (xs : Variants) × (merged_by_tag wide vs (keyed ws) ≡ Some xs) × Rows (Below wide (keyed us)) (keyed vs) (pairs (keyed xs)))
    → ReadsAs wide (union vs m) (union us o) → ReadsAs wide (union ws n) (union us o) → MergedBelow wide (union vs m) (union ws n) (union us o)
unions_least wide vs ws us m n o v go (inl h) (inl g) =
    let rows = go h.2 g.2 in
    let fs = keyed vs in
    let hs = keyed us in
    let more = further_variants fs ws in
    let all = joined rows.0 more in
    let ps = pairs (keyed rows.0) in
    let qs = pairs (keyed more) in
    let both : pairs (keyed all) ≡ ps ++ qs = keyed_joined rows.0 more in
    let keys : no_repeats (pairs (keyed all)) ≡ true = ap no_repeats both
    ∙ joined_repeats ps qs (row_repeats (Below wide hs) fs ps rows.2 (own_keys vs h.0.0)) (variants_repeat fs ws (own_keys ws g.0.0))
    (λ k x is. let b = row_back (Below wide hs) fs ps rows.2 k x is in variant_skips fs ws k b.0 b.1) in
    let each : (k : List ℕ) (x : Tree) → first_named (pairs (keyed all)) k ≡ Some x → (y : Tree) × (first_named (pairs hs) k ≡ Some y) × ReadsAs wide x y = λ k x at.
    let is : first_named (ps ++ qs) k ≡ Some x = sym (ap (λ z. first_named z k) both) ∙ at in
    by_option (first_named ps k)
    (λ lacks.
    let b = variant_back fs ws k x (sym (behind ps qs k lacks) ∙ is) in
    found (ReadsPlain wide) Allows StaySorted IsNullable (Unit {0}) (keyed ws) hs (to_found (ReadsPlain wide) Allows StaySorted IsNullable (Unit {0}) ws hs g.2) k x b.1)
    (λ y some.
    let b = row_back (Below wide hs) fs ps rows.2 k y some in
    let s = found (ReadsPlain wide) Allows StaySorted IsNullable (Unit {0}) fs hs (to_found (ReadsPlain wide) Allows StaySorted IsNullable (Unit {0}) vs hs h.2) k b.0 b.1 in
    (s.0, s.1, subst (λ z. ReadsAs wide z s.0) (same_Some y x (sym (found_before ps qs k y some) ∙ is)) (b.2 s.0 s.1))) in
    let first = any_key vs h.0.0.0 in
    let there = row_at (Below wide hs) fs ps rows.2 first.0 first.1 first.2 in
    let ne : tags all ≢ [] = has_key all first.0 there.0 (ap (λ z. first_named z first.0) both ∙ found_before ps qs first.0 there.0 there.1) in
    let can : can_be_variants all ≡ true = can_be all us (tested_variants us v.0) ne keys (λ k x is. let r = each k x is in (r.0, r.1)) in
    let tested = true_both (own_tags vs) (own_tags ws) (tested_own vs h.0.0) (tested_own ws g.0.0) in (
      union all (either m n),
      pick_true (own_tags vs && own_tags ws) (union_with (option_map (λ us. joined us more) (merged_by_tag wide vs (keyed ws))) (either m n)) None tested
          ∙ ap (λ r. union_with (option_map (λ us. joined us more) r) (either m n)) rows.1 ∙ pick_true (can_be_variants all) (Some (union all (either m n))) None can,
      inl (((ne, variants_tested all can), h.0.1), upwards.least o m n h.1 g.1, of_found (ReadsPlain wide) Allows StaySorted IsNullable (Unit {0}) all hs (each_found (ReadsPlain wide) Allows StaySorted IsNullable (Unit {0}) (keyed all) hs keys each), λ k u none is. tt),
    )
unions_least wide vs ws us m n o v go (inl h) (inr g) = absurd (g.0 (own_along us ws (sym (read_tags wide ws us n o g.1)) h.0.1, h.0.1))
unions_least wide vs ws us m n o v go (inr h) (inl g) = absurd (h.0 (own_along us vs (sym (read_tags wide vs us m o h.1)) g.0.1, g.0.1))
unions_least wide vs ws us m n o v go (inr h) (inr g) =
    let own : HasOwnTags us = own_tested us (valid_own us v.0) in absurd (h.0 (own_along us vs (sym (read_tags wide vs us m o h.1)) own, own))

mutual
  pub least : (wide : Widening) (a b d : Tree) → Valid d → ReadsAs wide a d → ReadsAs wide b d → MergedBelow wide a b d
  least wide null b d v h g = (made_nullable b, refl, made_least wide b d g h)
  least wide a null d v h g = (made_nullable a, merged_with_null wide a, made_least wide a d h g)
  least wide (list t m) (list u n) d v h g =
      let i = of_list (ReadsPlain wide) Allows StaySorted IsNullable (Unit {0}) (plain_kinds wide) t m d h in
      let b = subst (ReadsAs wide (list u n)) i.2 g in
      let r = least wide t u i.0 (subst Valid i.2 v) i.4 b.1 in
      (list r.0 (either m n), ap (option_map (λ x. list x (either m n))) r.1, subst (ReadsAs wide (list r.0 (either m n))) (sym i.2) (upwards.least i.1 m n i.3 b.0, r.2))
  least wide (list t m) b d v h g = let ha = reads_kind wide (list t m) d refl h in let hb = reads_kind wide b d refl g in cc
  least wide (fixed_size_list t j m) (fixed_size_list u k n) d v h g =
      let i = of_fixed (ReadsPlain wide) Allows StaySorted IsNullable (Unit {0}) (plain_kinds wide) t j m d h in
      let b = subst (ReadsAs wide (fixed_size_list u k n)) i.2 g in
      let at = subst Valid i.2 v in
      let r = least wide t u i.0 at.1 i.4 b.2 in (
        fixed_size_list r.0 j (either m n),
        pick_true (j == k) (option_map (λ x. fixed_size_list x j (either m n)) (columns_merged wide t u)) None (eq-eqb j k (sym b.0)) ∙ ap (option_map (λ x. fixed_size_list x j (either m n))) r.1,
        subst (ReadsAs wide (fixed_size_list r.0 j (either m n))) (sym i.2) (refl, upwards.least i.1 m n i.3 b.1, r.2),
      )
  least wide (fixed_size_list t j m) b d v h g = let ha = reads_kind wide (fixed_size_list t j m) d refl h in let hb = reads_kind wide b d refl g in cc
  least wide (map_of t p x m) (map_of u q y n) d v h g =
      let i = of_map (ReadsPlain wide) Allows StaySorted IsNullable (Unit {0}) (plain_kinds wide) t p x m d h in
      let b = subst (ReadsAs wide (map_of u q y n)) i.4 g in
      let at = subst Valid i.4 v in
      let k = least wide t u i.0 at.1 i.7 b.2 in
      let w = least wide p q i.1 at.2 i.8 b.3 in
      let s = stay_sorted x t y u in
      let stay : StaySorted s k.0 i.2 i.0 = λ e.
      let one = i.5 e in
      let other = b.0 e in
      let sorted : s ≡ true = true_both (x && y) (is_some (merged t u)) (true_both x y one.0 other.0) ((under_where either t u).1 (one.1 ∙ sym other.1)) in
      (sorted, sym (keys_stay wide x y t u k.0 k.1 sorted).2 ∙ one.1) in
      let sure : nullability k.0 ≢ Nullable = λ e. let null = reads_nullable wide k.0 i.0 k.2 e in let key = at.0 in cc in (
        map_of k.0 w.0 s (either m n),
        ap (λ o. map_with o (columns_merged wide p q) s (either m n)) k.1 ∙ ap (λ o. map_with (Some k.0) o s (either m n)) w.1 ∙ key_kept (nullability k.0) k.0 w.0 s (either m n) sure,
        subst (ReadsAs wide (map_of k.0 w.0 s (either m n))) (sym i.4) (stay, upwards.least i.3 m n i.6 b.1, k.2, w.2),
      )
  least wide (map_of t p x m) b d v h g = let ha = reads_kind wide (map_of t p x m) d refl h in let hb = reads_kind wide b d refl g in cc
  least wide (struct fs m) (struct gs n) d v h g =
      let i = of_struct (ReadsPlain wide) Allows StaySorted IsNullable (Unit {0}) (plain_kinds wide) fs m d h in
      let s = structs_least wide fs gs i.0 m n i.1 (rows_least wide fs gs i.0 (subst Valid i.2 v)) (beside_least wide fs gs i.0 (subst Valid i.2 v)) i.3 (subst (ReadsAs wide (struct gs n)) i.2 g) in
      (s.0, s.1, subst (ReadsAs wide s.0) (sym i.2) s.2)
  least wide (struct fs m) b d v h g = let ha = reads_kind wide (struct fs m) d refl h in let hb = reads_kind wide b d refl g in cc
  least wide (union vs m) (union ws n) d v h g =
      let i = of_union (ReadsPlain wide) Allows StaySorted IsNullable (Unit {0}) (plain_kinds wide) vs m d h in
      let valid = subst Valid i.2 v in
      let s = unions_least wide vs ws i.0 m n i.1 valid (λ f e. tagged_least wide vs (keyed ws) (keyed i.0) (keyed_valid i.0 valid.1) f (to_found (ReadsPlain wide) Allows StaySorted IsNullable (Unit {0}) ws (keyed i.0) e)) i.3 (subst (ReadsAs wide (union ws n)) i.2 g) in
      (s.0, s.1, subst (ReadsAs wide s.0) (sym i.2) s.2)
  least wide (union vs m) b d v h g = let ha = reads_kind wide (union vs m) d refl h in let hb = reads_kind wide b d refl g in cc
  least wide (extension i a t) (extension j b u) d v h g =
      let p = of_extension (ReadsPlain wide) Allows StaySorted IsNullable (Unit {0}) (plain_kinds wide) i a t d h in
      let q = subst (ReadsAs wide (extension j b u)) p.1 g in
      let at = subst Valid p.1 v in
      let r = least wide t u p.0 at.1 p.2 q.2 in (
        extension i a r.0,
        pick_true (bytes_eq i j && bytes_eq a b) (option_map (extension i a) (columns_merged wide t u)) None (true_both (bytes_eq i j) (bytes_eq a b) ((bytes_eq-Decides i j).1 (sym q.0)) ((bytes_eq-Decides a b).1 (sym q.1)))
            ∙ ap (option_map (extension i a)) r.1,
        subst (ReadsAs wide (extension i a r.0)) (sym p.1) (refl, refl, r.2),
      )
  least wide (extension i a t) b d v h g = let ha = reads_kind wide (extension i a t) d refl h in let hb = reads_kind wide b d refl g in cc
  least wide (primitive p m) (primitive q n) d v h g =
      let i = of_primitive wide p m d h in
      let b = subst (ReadsAs wide (primitive q n)) i.2 g in
      let r = common_least wide p q i.0 i.3 b.0.reads in
      (primitive r.0 (either m n), ap (option_map (λ x. primitive x (either m n))) r.1, subst (ReadsAs wide (primitive r.0 (either m n))) (sym i.2) (record { reads = r.2 }, upwards.least i.1 m n i.4 b.1))
  least wide (primitive p m) b d v h g = let ha = reads_kind wide (primitive p m) d refl h in let hb = reads_kind wide b d refl g in cc
  least wide (decimal c m) (decimal e n) d v h g =
      let i = of_decimal wide c m d h in
      let b = subst (ReadsAs wide (decimal e n)) i.2 g in
      let r = decimal_least wide c e i.0 i.3 b.0.reads in
      (decimal r.0 (either m n), ap (option_map (λ x. decimal x (either m n))) r.1, subst (ReadsAs wide (decimal r.0 (either m n))) (sym i.2) (record { reads = r.2 }, upwards.least i.1 m n i.4 b.1))
  least wide (decimal c m) b d v h g = let ha = reads_kind wide (decimal c m) d refl h in let hb = reads_kind wide b d refl g in cc
  least wide a b d v h g = plain_below wide a b d refl refl refl refl h g

  rows_least : (wide : Widening) (fs gs hs : Fields) → ValidItems hs → EachFound (ReadsPlain wide) Allows StaySorted IsNullable (Unit {0}) fs hs → EachFound (ReadsPlain wide) Allows StaySorted IsNullable (Unit {0}) gs hs → OnlyFurther IsNullable gs hs
      → (ps : Pairs) × (merged_by_name wide fs gs ≡ Some ps) × Rows (Below wide hs) fs ps
  rows_least wide no_items gs hs v f g only = ([], refl, tt)
  rows_least wide (item n t _ fs) gs hs v f g only =
      let s = some_and (ReadsAs wide t) (first_named (pairs hs) n) f.0 in
      let y = s.0 in
      let other = first_named (pairs gs) n in
      let cell : (x : Tree) × (column t (λ u. columns_merged wide t u) other ≡ Some x) × ReadsAs wide x y = by_option other
      (λ none. (made_nullable t, ap (column t (λ u. columns_merged wide t u)) none, made_least wide t y s.2 (only n y none s.1)))
      (λ u some.
      let r = found (ReadsPlain wide) Allows StaySorted IsNullable (Unit {0}) gs hs g n u some in
      let c = least wide t u y (field_valid hs n y v s.1) s.2 (subst (ReadsAs wide u) (same_Some r.0 y (sym r.1 ∙ s.1)) r.2) in
      (c.0, ap (column t (λ u. columns_merged wide t u)) some ∙ c.1, c.2)) in
      let rest = rows_least wide fs gs hs v f.1 g only in (
        (n, cell.0) ∷ rest.0,
        ap (λ o. prepend n o (merged_by_name wide fs gs)) cell.1 ∙ ap (prepend n (Some cell.0)) rest.1,
        (refl, λ z at. subst (ReadsAs wide cell.0) (same_Some y z (sym s.1 ∙ at)) cell.2, rest.2),
      )

  tagged_least : (wide : Widening) (vs : Variants) (gs hs : Fields) → ValidItems hs → EachTagged (ReadsPlain wide) Allows StaySorted IsNullable (Unit {0}) vs hs → EachFound (ReadsPlain wide) Allows StaySorted IsNullable (Unit {0}) gs hs → (us : Variants) × (merged_by_tag wide vs gs ≡ Some us) × Rows (Below wide hs) (keyed vs) (pairs (keyed us))
  tagged_least wide no_items gs hs v f g = (no_items, refl, tt)
  tagged_least wide (item n t k vs) gs hs v f g =
      let s = some_and (ReadsAs wide t) (first_named (pairs hs) (k ∷ n)) f.0 in
      let y = s.0 in
      let other = first_named (pairs gs) (k ∷ n) in
      let cell : (x : Tree) × (variant_type t (λ u. columns_merged wide t u) other ≡ Some x) × ReadsAs wide x y = by_option other
      (λ none. (t, ap (variant_type t (λ u. columns_merged wide t u)) none, s.2))
      (λ u some.
      let r = found (ReadsPlain wide) Allows StaySorted IsNullable (Unit {0}) gs hs g (k ∷ n) u some in
      let c = least wide t u y (field_valid hs (k ∷ n) y v s.1) s.2 (subst (ReadsAs wide u) (same_Some r.0 y (sym r.1 ∙ s.1)) r.2) in
      (c.0, ap (variant_type t (λ u. columns_merged wide t u)) some ∙ c.1, c.2)) in
      let rest = tagged_least wide vs gs hs v f.1 g in (
        item n cell.0 k rest.0,
        ap (λ o. put_first n k o (merged_by_tag wide vs gs)) cell.1 ∙ ap (put_first n k (Some cell.0)) rest.1,
        (refl, λ z at. subst (ReadsAs wide cell.0) (same_Some y z (sym s.1 ∙ at)) cell.2, rest.2),
      )

  beside_least : (wide : Widening) {h : Holder} (xs ys zs : Items h) → ValidItems zs → EachBeside (ReadsPlain wide) Allows StaySorted IsNullable (Unit {0}) xs zs → EachBeside (ReadsPlain wide) Allows StaySorted IsNullable (Unit {0}) ys zs
      → (ws : Items h) × (merged_beside wide xs ys ≡ Some ws) × EachBeside (ReadsPlain wide) Allows StaySorted IsNullable (Unit {0}) ws zs
  beside_least wide no_items no_items no_items v p q = (no_items, refl, tt)
  beside_least wide (item m t f xs) (item n u g ys) (item k y e zs) v p q =
      let c = least wide t u y v.0 p.2 q.2 in
      let rest = beside_least wide xs ys zs v.1 p.3 q.3 in
      (item m c.0 f rest.0, of_items wide m t f xs n u g ys c.0 rest.0 (p.0 ∙ sym q.0) (p.1 ∙ sym q.1) c.1 rest.1, (p.0, p.1, c.2, rest.2))
  beside_least wide no_items ys (item k y e zs) v p q = absurd p
  beside_least wide (item m t f xs) ys no_items v p q = absurd p
  beside_least wide no_items (item n u g ys) no_items v p q = absurd q
  beside_least wide (item m t f xs) no_items (item k y e zs) v p q = absurd q
