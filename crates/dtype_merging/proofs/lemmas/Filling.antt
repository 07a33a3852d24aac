-- SPDX-License-Identifier: Apache-2.0
-- SPDX-FileCopyrightText: Copyright the Vortex contributors

-- The value that a reader makes of a value of one type to read it as another is a value of the other.
use Rattle.std.proofs.Common.{◌≡◌, ◌==◌, ◌&&◌, ℕ, suc, List, ◌∷◌, Bool, true, false, Some, None, if◌then◌else◌, refl, sym, ap, subst, ◌∙◌, inl, inr}
use Rattle.std.specs.List.{list_all}
use Rattle.std.proofs.Math.Bool.{not}
use Rattle.std.proofs.lemmas.Bool.{false≢true}
use Rattle.std.proofs.lemmas.Bool.Decides.{Decides-eqb}
use Rattle.std.proofs.lemmas.Option.{same_Some}
use Rattle.dtype_base.specs.declared.nullability.Nullability.{Nullability}
use Rattle.dtype_types.specs.nullability.Nullable.{IsNullable}
use Rattle.dtype_types.specs.nullability.Sub.{Allows}
use Rattle.dtype_types.specs.parts.Lookups.{first_named}
use Rattle.dtype_types.specs.tree.Erase.{erase, erase_items}
use Rattle.dtype_types.specs.tree.Tree.{Tree, Fields, Variants, no_items, item, pairs, null, primitive, decimal, list, fixed_size_list, map_of, struct, union, extension, first_tag, rest_of}
use Rattle.dtype_types.specs.values.Value.{Value, Values, no_values, value, Entries, no_entries, entry, Named, no_named, named, null_value, items, fixed_items, entries, record_of, tagged, Each, EachEntry, NamedOf, Of, VariantOf, value_count}
use Rattle.dtype_types.proofs.lemmas.Lookups.{other_name, taken_same_name}
use Rattle.dtype_types.proofs.lemmas.NullValues.{null_is_of_nullable}
use Rattle.dtype_types.proofs.lemmas.SubValues.{sub_values}
use Rattle.dtype_merging.specs.Filled.{cell, each_entry, each_value, filled, filled_beside, filled_pairs, filled_variant, in_entries, in_items, in_record, in_variant, or_same, value_named}
use Rattle.dtype_merging.specs.MergedColumns.{no_repeats, own_tags, tags_differ}
use Rattle.dtype_merging.specs.ReadsAs.{EachBeside, EachFound, OnlyFurther, ReadsAs, ReadsPlain, StaySorted, keyed, tags}
use Rattle.dtype_merging.specs.declared.widening.Widening.{Widening}
use Rattle.dtype_merging.proofs.lemmas.Beside.{name_or, type_or}
use Rattle.dtype_merging.proofs.lemmas.Finding.{Agrees, agrees_first, agrees_rest, both_true, by_bool, by_name, by_option, by_place, finds_first, finds_later, found, no_repeats_rest, to_found, true_both}
use Rattle.dtype_merging.proofs.lemmas.Numbers.{decimal_values, ptype_values}
use Rattle.dtype_merging.proofs.lemmas.Order.{alike_plain, plain}
use Rattle.dtype_merging.proofs.lemmas.Reading.{erased_kind, reads_kind}
use Rattle.dtype_merging.proofs.lemmas.Repeats.{distinct_tested, tested_distinct}
use Rattle.dtype_merging.proofs.lemmas.Variants.{first_tag_alone, tag_apart, own_keys, own_tested, tested_own, tested_tags}

-- ---- one kind with parts each

each_filled : (P Q : Value → Type 0) (f : Value → Value) → ((v : Value) → P v → Q (f v)) → (vs : Values) → Each P vs → Each Q (each_value f vs)
each_filled P Q f g no_values h = tt
each_filled P Q f g (value v vs) h = (g v h.0, each_filled P Q f g vs h.1)

as_many : (f : Value → Value) (vs : Values) → value_count (each_value f vs) ≡ value_count vs
as_many f no_values = refl
as_many f (value v vs) = ap suc (as_many f vs)

list_filled : (t u : Tree) (m n : Nullability) (f : Value → Value) → ((v : Value) → Of v t → Of (f v) u) → Allows m n → (v : Value) → Of v (list t m) → Of (in_items f v) (list u n)
list_filled t u m n f g a null_value o = a o
list_filled t u m n f g a (items vs) o = each_filled (λ v. Of v t) (λ v. Of v u) f g vs o
list_filled t u m n f g a _ o = absurd o

fixed_filled : (t u : Tree) (k : ℕ) (m n : Nullability) (f : Value → Value) → ((v : Value) → Of v t → Of (f v) u) → Allows m n → (v : Value) → Of v (fixed_size_list t k m) → Of (in_items f v) (fixed_size_list u k n)
fixed_filled t u k m n f g a null_value o = a o
fixed_filled t u k m n f g a (fixed_items vs) o = (as_many f vs ∙ o.0, each_filled (λ v. Of v t) (λ v. Of v u) f g vs o.1)
fixed_filled t u k m n f g a _ o = absurd o

entries_filled : (t u p q : Tree) (f h : Value → Value) → ((v : Value) → Of v t → Of (f v) u) → ((v : Value) → Of v p → Of (h v) q) → (es : Entries)
    → EachEntry (λ k. Of k t) (λ v. Of v p) es → EachEntry (λ k. Of k u) (λ v. Of v q) (each_entry f h es)
entries_filled t u p q f h c d no_entries o = tt
entries_filled t u p q f h c d (entry x y es) o = (c x o.0, d y o.1, entries_filled t u p q f h c d es o.2)

map_filled : (t u p q : Tree) (x y : Bool) (m n : Nullability) (f h : Value → Value) → ((v : Value) → Of v t → Of (f v) u) → ((v : Value) → Of v p → Of (h v) q) → Allows m n → (v : Value)
    → Of v (map_of t p x m) → Of (in_entries f h v) (map_of u q y n)
map_filled t u p q x y m n f h c d a null_value o = a o
map_filled t u p q x y m n f h c d a (entries es) o = entries_filled t u p q f h c d es o
map_filled t u p q x y m n f h c d a _ o = absurd o

struct_filled : (fs gs : Fields) (m n : Nullability) (f : Named → Named) → ((nvs : Named) → NamedOf nvs fs → NamedOf (f nvs) gs) → Allows m n → (v : Value) → Of v (struct fs m) → Of (in_record f v) (struct gs n)
struct_filled fs gs m n f g a null_value o = a o
struct_filled fs gs m n f g a (record_of nvs) o = g nvs o
struct_filled fs gs m n f g a _ o = absurd o

union_filled : (vs ws : Variants) (m n : Nullability) (f : ℕ → Value → Value) → ((k : ℕ) (x : Value) → VariantOf k x vs → VariantOf k (f k x) ws) → Allows m n → (v : Value) → Of v (union vs m) → Of (in_variant f v) (union ws n)
union_filled vs ws m n f g a null_value o = a o
union_filled vs ws m n f g a (tagged k x) o = g k x o
union_filled vs ws m n f g a _ o = absurd o

-- a value with the tag of a variant is of no other variant
other_variant : (vs : Variants) (f k : ℕ) (x : Value) → list_all (λ g. not (f == g)) (tags vs) ≡ true → k ≡ f → VariantOf k x vs → ⊥
other_variant no_items f k x apart e o = o
other_variant (item n t g vs) f k x apart e o =
    let h = both_true (not (f == g)) (list_all (λ z. not (f == z)) (tags vs)) apart in
    elim o [ inl at ↦ false≢true (ap not (sym ((Decides-eqb f g).1 (sym e ∙ at.0))) ∙ h.0) | inr later ↦ other_variant vs f k x h.1 e later ]

-- the variant of which a value is
variant_value : (vs : Variants) (k : ℕ) (x : Value) → tags_differ vs ≡ true → VariantOf k x vs → (n : List ℕ) × (t : Tree) × (first_named (pairs (keyed vs)) (k ∷ n) ≡ Some t) × Of x t
variant_value no_items k x d o = absurd o
variant_value (item m t f vs) k x d (inl at) = (m, t, finds_first (f ∷ m) (k ∷ m) t (pairs (keyed vs)) (ap (λ z. z ∷ m) (sym at.0)), at.1)
variant_value (item m t f vs) k x d (inr later) =
    let alone = first_tag_alone m t f vs d in
    let r = variant_value vs k x alone.1 later in
    (r.0, r.1, finds_later (f ∷ m) (k ∷ r.0) t (pairs (keyed vs)) (λ q. let tag : k ≡ f = cc in other_variant vs f k x alone.0 tag later) ∙ r.2, r.3)

-- the value that a name finds is of the type that it finds
named_value : (nvs : Named) (fs : Fields) → NamedOf nvs fs → (n : List ℕ) (t : Tree) → first_named (pairs fs) n ≡ Some t → (v : Value) × (value_named nvs n ≡ Some v) × Of v t
named_value no_named no_items o n t is = cc
named_value (named k v rest) (item m u _ fs) o n t is = by_place m n u t (pairs fs) is
    (λ e same. (v, taken_same_name k n (Some v) (value_named rest n) (o.0 ∙ e), subst (Of v) same o.1))
    (λ ne later. let r = named_value rest fs o.2 n t later in (r.0, other_name k n (Some v) (value_named rest n) (λ q. ne (sym o.0 ∙ q)) ∙ r.1, r.2))
named_value no_named (item m u _ fs) o n t is = absurd o
named_value (named k v rest) no_items o n t is = absurd o

plain_filled : (t u : Tree) (v : Value) → plain t ≡ true → filled t u v ≡ v
plain_filled (list t m) u v p = absurd (false≢true p)
plain_filled (fixed_size_list t j m) u v p = absurd (false≢true p)
plain_filled (map_of t w x m) u v p = absurd (false≢true p)
plain_filled (struct fs m) u v p = absurd (false≢true p)
plain_filled (union vs m) u v p = absurd (false≢true p)
plain_filled (extension i a t) u v p = absurd (false≢true p)
plain_filled t u v p = refl

null_filled : (u : Tree) (v : Value) → IsNullable u → Of v null → Of v u
null_filled u null_value h o = (null_is_of_nullable u).1 h
null_filled u _ h o = absurd o

-- ---- types that are equal except for nullabilities

each_same : (P : Value → Type 0) (f : Value → Value) → ((v : Value) → P v → f v ≡ v) → (vs : Values) → Each P vs → each_value f vs ≡ vs
each_same P f g no_values h = refl
each_same P f g (value v vs) h = ap (λ x. value x (each_value f vs)) (g v h.0) ∙ ap (value v) (each_same P f g vs h.1)

items_same : (t : Tree) (n : Nullability) (f : Value → Value) → ((v : Value) → Of v t → f v ≡ v) → (v : Value) → Of v (list t n) → in_items f v ≡ v
items_same t n f g (items vs) o = ap items (each_same (λ v. Of v t) f g vs o)
items_same t n f g null_value o = refl
items_same t n f g _ o = absurd o

fixed_same : (t : Tree) (k : ℕ) (n : Nullability) (f : Value → Value) → ((v : Value) → Of v t → f v ≡ v) → (v : Value) → Of v (fixed_size_list t k n) → in_items f v ≡ v
fixed_same t k n f g (fixed_items vs) o = ap fixed_items (each_same (λ v. Of v t) f g vs o.1)
fixed_same t k n f g null_value o = refl
fixed_same t k n f g _ o = absurd o

entries_same : (t p : Tree) (f h : Value → Value) → ((v : Value) → Of v t → f v ≡ v) → ((v : Value) → Of v p → h v ≡ v) → (es : Entries) → EachEntry (λ k. Of k t) (λ v. Of v p) es → each_entry f h es ≡ es
entries_same t p f h c d no_entries o = refl
entries_same t p f h c d (entry x y es) o =
    ap (λ z. entry z (h y) (each_entry f h es)) (c x o.0) ∙ ap (λ z. entry x z (each_entry f h es)) (d y o.1) ∙ ap (entry x y) (entries_same t p f h c d es o.2)

map_same : (t p : Tree) (x : Bool) (n : Nullability) (f h : Value → Value) → ((v : Value) → Of v t → f v ≡ v) → ((v : Value) → Of v p → h v ≡ v) → (v : Value) → Of v (map_of t p x n) → in_entries f h v ≡ v
map_same t p x n f h c d (entries es) o = ap entries (entries_same t p f h c d es o)
map_same t p x n f h c d null_value o = refl
map_same t p x n f h c d _ o = absurd o

record_same : (fs : Fields) (n : Nullability) (f : Named → Named) → ((nvs : Named) → NamedOf nvs fs → f nvs ≡ nvs) → (v : Value) → Of v (struct fs n) → in_record f v ≡ v
record_same fs n f g (record_of nvs) o = ap record_of (g nvs o)
record_same fs n f g null_value o = refl
record_same fs n f g _ o = absurd o

variant_same : (vs : Variants) (n : Nullability) (f : ℕ → Value → Value) → ((k : ℕ) (x : Value) → VariantOf k x vs → f k x ≡ x) → (v : Value) → Of v (union vs n) → in_variant f v ≡ v
variant_same vs n f g (tagged k x) o = ap (tagged k) (g k x o)
variant_same vs n f g null_value o = refl
variant_same vs n f g _ o = absurd o

-- a name that no field has finds no value
no_value : (nvs : Named) (fs : Fields) (n : List ℕ) → NamedOf nvs fs → first_named (pairs fs) n ≡ None → value_named nvs n ≡ None
no_value no_named fs n o none = refl
no_value (named k v rest) (item m u _ fs) n o none = by_name m n
    (λ e. let some = finds_first m n u (pairs fs) e in cc)
    (λ ne. other_name k n (Some v) (value_named rest n) (λ q. ne (sym o.0 ∙ q)) ∙ no_value rest fs n o.2 (sym (finds_later m n u (pairs fs) ne) ∙ none))
no_value (named k v rest) no_items n o none = absurd o

mutual
  pub same_filled : (t u : Tree) (v : Value) → erase t ≡ erase u → Of v t → filled t u v ≡ v
  same_filled (list t m) (list u n) v e o = let f : erase t ≡ erase u = cc in items_same t m (λ x. filled t u x) (λ x p. same_filled t u x f p) v o
  same_filled (list t m) u v e o = let k = erased_kind (list t m) u e in cc
  same_filled (fixed_size_list t j m) (fixed_size_list u i n) v e o = let f : erase t ≡ erase u = cc in fixed_same t j m (λ x. filled t u x) (λ x p. same_filled t u x f p) v o
  same_filled (fixed_size_list t j m) u v e o = let k = erased_kind (fixed_size_list t j m) u e in cc
  same_filled (map_of t p x m) (map_of u q y n) v e o =
      let f : erase t ≡ erase u = cc in
      let g : erase p ≡ erase q = cc in map_same t p x m (λ k. filled t u k) (λ w. filled p q w) (λ k h. same_filled t u k f h) (λ w h. same_filled p q w g h) v o
  same_filled (map_of t p x m) u v e o = let k = erased_kind (map_of t p x m) u e in cc
  same_filled (struct fs m) (struct gs n) v e o =
      let f : erase_items fs ≡ erase_items gs = cc in
      by_bool (no_repeats (pairs fs) && no_repeats (pairs gs))
      (λ tested.
      let d = both_true (no_repeats (pairs fs)) (no_repeats (pairs gs)) tested in
      subst (λ b. (if b then in_record (λ nvs. filled_pairs fs nvs gs) v else in_record (λ nvs. filled_beside fs nvs gs) v) ≡ v) (sym tested)
      (record_same fs m (λ nvs. filled_pairs fs nvs gs) (λ nvs p. pairs_same fs fs gs nvs nvs f d.0 (λ k z is. is) (λ k z is. is) p) v o))
      (λ differ.
      subst (λ b. (if b then in_record (λ nvs. filled_pairs fs nvs gs) v else in_record (λ nvs. filled_beside fs nvs gs) v) ≡ v) (sym differ)
      (record_same fs m (λ nvs. filled_beside fs nvs gs) (λ nvs p. beside_same fs gs nvs f p) v o))
  same_filled (struct fs m) u v e o = let k = erased_kind (struct fs m) u e in cc
  same_filled (union vs m) (union ws n) v e o =
      let f : erase_items vs ≡ erase_items ws = cc in
      by_bool (own_tags vs && own_tags ws)
      (λ tested.
      let d = both_true (own_tags vs) (own_tags ws) tested in
      subst (λ b. (if b then in_variant (λ k x. filled_variant (keyed vs) ws k x) v else v) ≡ v) (sym tested)
      (variant_same vs m (λ k x. filled_variant (keyed vs) ws k x)
      (λ k x p. variants_same vs ws (keyed vs) k x (tested_tags vs (own_tested vs d.0).1) f (own_keys vs (own_tested vs d.0)) (λ n z is. is) p) v o))
      (λ repeat. subst (λ b. (if b then in_variant (λ k x. filled_variant (keyed vs) ws k x) v else v) ≡ v) (sym repeat) refl)
  same_filled (union vs m) u v e o = let k = erased_kind (union vs m) u e in cc
  same_filled (extension i a t) (extension j b u) v e o = same_filled t u v (cc) o
  same_filled (extension i a t) u v e o = let k = erased_kind (extension i a t) u e in cc
  same_filled t u v e o = plain_filled t u v refl

  -- `hs` and `whole` are the struct and its value, of which `fs` and `nvs` are the last fields
  pairs_same : (fs hs gs : Fields) (nvs whole : Named) → erase_items fs ≡ erase_items gs → no_repeats (pairs fs) ≡ true → Agrees (pairs fs) (pairs hs)
      → ((n : List ℕ) (v : Value) → value_named nvs n ≡ Some v → value_named whole n ≡ Some v) → NamedOf nvs fs → filled_pairs hs whole gs ≡ nvs
  pairs_same no_items hs no_items no_named whole e d a w o = refl
  pairs_same (item n t _ fs) hs (item k u _ gs) (named m x rest) whole e d a w o =
      let name : k ≡ n = cc in
      let type : erase t ≡ erase u = ap (type_or (erase t)) e in
      let r = no_repeats_rest (n, t) (pairs fs) d in
      let type_at : first_named (pairs hs) k ≡ Some t = ap (first_named (pairs hs)) name ∙ agrees_first n t (pairs fs) (pairs hs) a in
      let value_at : value_named whole k ≡ Some x = w k x (taken_same_name m k (Some x) (value_named rest k) (o.0 ∙ sym name)) in
      let here : cell (λ t v. filled t u v) (first_named (pairs hs) k) (value_named whole k) ≡ x =
      ap (λ z. cell (λ t v. filled t u v) z (value_named whole k)) type_at ∙ ap (λ z. cell (λ t v. filled t u v) (Some t) z) value_at ∙ same_filled t u x type o.1 in
      let behind : (p : List ℕ) (y : Value) → value_named rest p ≡ Some y → value_named whole p ≡ Some y =
      λ p y is. w p y (other_name m p (Some x) (value_named rest p) (λ q. let none = no_value rest fs n o.2 r.0 in let same : n ≡ p = sym o.0 ∙ q in let at = ap (value_named rest) same in cc) ∙ is) in
      ap (λ z. named k z (filled_pairs hs whole gs)) here ∙ ap (λ z. named z x (filled_pairs hs whole gs)) (name ∙ sym o.0)
      ∙ ap (named m x) (pairs_same fs hs gs rest whole (ap rest_of e) r.1 (agrees_rest n t (pairs fs) (pairs hs) r.0 a) behind o.2)
  pairs_same no_items hs (item k u _ gs) nvs whole e d a w o = cc
  pairs_same (item n t _ fs) hs no_items nvs whole e d a w o = cc
  pairs_same no_items hs no_items (named m x rest) whole e d a w o = absurd o
  pairs_same (item n t _ fs) hs (item k u _ gs) no_named whole e d a w o = absurd o

  beside_same : (fs gs : Fields) (nvs : Named) → erase_items fs ≡ erase_items gs → NamedOf nvs fs → filled_beside fs nvs gs ≡ nvs
  beside_same no_items gs nvs e o = refl
  beside_same (item n t _ fs) (item k u _ gs) (named m x rest) e o =
      ap (λ z. named m z (filled_beside fs rest gs)) (same_filled t u x (ap (type_or (erase t)) e) o.1) ∙ ap (named m x) (beside_same fs gs rest (ap rest_of e) o.2)
  beside_same (item n t _ fs) no_items nvs e o = cc
  beside_same (item n t _ fs) (item k u _ gs) no_named e o = refl

  -- `hs` is the whole first union, of which `vs` are the last variants
  variants_same : (vs ws : Variants) (hs : Fields) (k : ℕ) (x : Value) → tags_differ vs ≡ true → erase_items vs ≡ erase_items ws → no_repeats (pairs (keyed vs)) ≡ true → Agrees (pairs (keyed vs)) (pairs hs)
      → VariantOf k x vs → filled_variant hs ws k x ≡ x
  variants_same no_items ws hs k x d e z a o = absurd o
  variants_same (item m t f vs) no_items hs k x d e z a o = cc
  variants_same (item m t f vs) (item n u g ws) hs k x d e z a o =
      let alone = first_tag_alone m t f vs d in
      let name : m ≡ n = ap (name_or m) e in
      let tag : f ≡ g = ap (first_tag f) e in
      let key : (g ∷ n) ≡ (f ∷ m) = ap (λ z. z ∷ n) (sym tag) ∙ ap (λ z. f ∷ z) (sym name) in
      let r = no_repeats_rest (f ∷ m, t) (pairs (keyed vs)) z in
      let other = first_named (pairs hs) (g ∷ n) in
      let at : other ≡ Some t = ap (first_named (pairs hs)) key ∙ agrees_first (f ∷ m) t (pairs (keyed vs)) (pairs hs) a in
      by_bool (k == g)
      (λ same.
      let is : k ≡ f = (Decides-eqb k g).0 same ∙ sym tag in
      subst (λ b. (if b then or_same (λ t. filled t u x) other x else filled_variant hs ws k x) ≡ x) (sym same)
      (ap (λ o. or_same (λ t. filled t u x) o x) at
      ∙ elim o [ inl here ↦ same_filled t u x (ap (type_or (erase t)) e) here.1 | inr later ↦ absurd (other_variant vs f k x alone.0 is later) ]))
      (λ ne. subst (λ b. (if b then or_same (λ t. filled t u x) other x else filled_variant hs ws k x) ≡ x) (sym ne)
      (elim o [
        | inl here ↦ absurd (false≢true (sym ne ∙ (Decides-eqb k g).1 (here.0 ∙ tag)))
        | inr later ↦ variants_same vs ws hs k x alone.1 (ap rest_of e) r.1 (agrees_rest (f ∷ m) t (pairs (keyed vs)) (pairs hs) r.0 a) later
      ]))

mutual
  pub of_filled : (wide : Widening) (t u : Tree) → ReadsAs wide t u → (v : Value) → Of v t → Of (filled t u v) u
  of_filled wide (list t m) (list u n) h v o = list_filled t u m n (λ x. filled t u x) (of_filled wide t u h.1) h.0 v o
  of_filled wide (list t m) u h v o = let k = reads_kind wide (list t m) u refl h in cc
  of_filled wide (fixed_size_list t j m) (fixed_size_list u k n) h v o =
      subst (λ z. Of (in_items (λ x. filled t u x) v) (fixed_size_list u z n)) h.0 (fixed_filled t u j m n (λ x. filled t u x) (of_filled wide t u h.2) h.1 v o)
  of_filled wide (fixed_size_list t j m) u h v o = let k = reads_kind wide (fixed_size_list t j m) u refl h in cc
  of_filled wide (map_of t p x m) (map_of u q y n) h v o = map_filled t u p q x y m n (λ k. filled t u k) (λ w. filled p q w) (of_filled wide t u h.2) (of_filled wide p q h.3) h.1 v o
  of_filled wide (map_of t p x m) u h v o = let k = reads_kind wide (map_of t p x m) u refl h in cc
  of_filled wide (struct fs m) (struct gs n) (inl h) v o =
      let tested = true_both (no_repeats (pairs fs)) (no_repeats (pairs gs)) (tested_distinct (pairs fs) h.0.0) (tested_distinct (pairs gs) h.0.1) in
      subst (λ b. Of (if b then in_record (λ nvs. filled_pairs fs nvs gs) v else in_record (λ nvs. filled_beside fs nvs gs) v) (struct gs n)) (sym tested)
      (struct_filled fs gs m n (λ nvs. filled_pairs fs nvs gs) (λ nvs p. pairs_filled wide fs gs gs nvs h.2 h.3 (tested_distinct (pairs gs) h.0.1) (λ k z is. is) p) h.1 v o)
  of_filled wide (struct fs m) (struct gs n) (inr h) v o =
      let test = no_repeats (pairs fs) && no_repeats (pairs gs) in
      let differ : test ≡ false = by_bool test
      (λ tested. let d = both_true (no_repeats (pairs fs)) (no_repeats (pairs gs)) tested in absurd (h.0 (distinct_tested (pairs fs) d.0, distinct_tested (pairs gs) d.1)))
      (λ e. e) in
      subst (λ b. Of (if b then in_record (λ nvs. filled_pairs fs nvs gs) v else in_record (λ nvs. filled_beside fs nvs gs) v) (struct gs n)) (sym differ)
      (struct_filled fs gs m n (λ nvs. filled_beside fs nvs gs) (λ nvs p. beside_filled wide fs gs nvs h.2 p) h.1 v o)
  of_filled wide (struct fs m) u h v o = let k = reads_kind wide (struct fs m) u refl h in cc
  of_filled wide (union vs m) (union ws n) (inl h) v o =
      let tested = true_both (own_tags vs) (own_tags ws) (tested_own vs h.0.0) (tested_own ws h.0.1) in
      subst (λ b. Of (if b then in_variant (λ k x. filled_variant (keyed vs) ws k x) v else v) (union ws n)) (sym tested)
      (union_filled vs ws m n (λ k x. filled_variant (keyed vs) ws k x) (λ k x p.
      let q = variant_value vs k x (tested_tags vs h.0.0.1) p in
      variant_filled wide (keyed vs) ws k x q.0 q.1 (tested_tags ws h.0.1.1) q.2 q.3 (found (ReadsPlain wide) Allows StaySorted IsNullable (Unit {0}) (keyed vs) (keyed ws) (to_found (ReadsPlain wide) Allows StaySorted IsNullable (Unit {0}) vs (keyed ws) h.2) (k ∷ q.0) q.1 q.2)) h.1 v o)
  of_filled wide (union vs m) (union ws n) (inr h) v o =
      let test = own_tags vs && own_tags ws in
      let repeat : test ≡ false = by_bool test (λ tested. let d = both_true (own_tags vs) (own_tags ws) tested in absurd (h.0 (own_tested vs d.0, own_tested ws d.1))) (λ e. e) in
      subst (λ b. Of (if b then in_variant (λ k x. filled_variant (keyed vs) ws k x) v else v) (union ws n)) (sym repeat) (sub_values (union vs m) (union ws n) h.1 v o)
  of_filled wide (union vs m) u h v o = let k = reads_kind wide (union vs m) u refl h in cc
  of_filled wide (extension i a t) (extension j b u) h v o = of_filled wide t u h.2 v o
  of_filled wide (extension i a t) u h v o = let k = reads_kind wide (extension i a t) u refl h in cc
  of_filled wide null u h v o = null_filled u v h o
  of_filled wide (primitive p m) (primitive q n) h v o = ptype_values wide p q m n h.0.reads h.1 v o
  of_filled wide (decimal c m) (decimal d n) h v o = decimal_values wide c d m n h.0.reads h.1 v o
  of_filled wide t u h v o = subst (λ x. Of x u) (sym (plain_filled t u v refl)) (sub_values t u (alike_plain (ReadsPlain wide) Allows StaySorted IsNullable (Unit {0}) t u refl h) v o)

  -- `hs` is the whole struct of which `gs` are the last fields
  pairs_filled : (wide : Widening) (fs gs hs : Fields) (nvs : Named) → EachFound (ReadsPlain wide) Allows StaySorted IsNullable (Unit {0}) fs hs → OnlyFurther IsNullable fs hs → no_repeats (pairs gs) ≡ true → Agrees (pairs gs) (pairs hs) → NamedOf nvs fs
      → NamedOf (filled_pairs fs nvs gs) gs
  pairs_filled wide fs no_items hs nvs f only d a o = tt
  pairs_filled wide fs (item n u _ gs) hs nvs f only d a o =
      let at = agrees_first n u (pairs gs) (pairs hs) a in
      let rest = no_repeats_rest (n, u) (pairs gs) d in
      let here : Of (cell (λ t v. filled t u v) (first_named (pairs fs) n) (value_named nvs n)) u = by_option (first_named (pairs fs) n)
      (λ none. subst (λ z. Of (cell (λ t v. filled t u v) z (value_named nvs n)) u) (sym none) ((null_is_of_nullable u).1 (only n u none at)))
      (λ t some.
      let x = named_value nvs fs o n t some in
      let r = found (ReadsPlain wide) Allows StaySorted IsNullable (Unit {0}) fs hs f n t some in
      let reads = subst (ReadsAs wide t) (same_Some r.0 u (sym r.1 ∙ at)) r.2 in
      subst (λ z. Of (cell (λ t v. filled t u v) z (value_named nvs n)) u) (sym some) (subst (λ z. Of (cell (λ t v. filled t u v) (Some t) z) u) (sym x.1) (of_filled wide t u reads x.0 x.2))) in
      (refl, here, pairs_filled wide fs gs hs nvs f only rest.1 (agrees_rest n u (pairs gs) (pairs hs) rest.0 a) o)

  beside_filled : (wide : Widening) (fs gs : Fields) (nvs : Named) → EachBeside (ReadsPlain wide) Allows StaySorted IsNullable (Unit {0}) fs gs → NamedOf nvs fs → NamedOf (filled_beside fs nvs gs) gs
  beside_filled wide no_items no_items no_named h o = tt
  beside_filled wide (item m t _ fs) (item n u _ gs) (named k v nvs) h o = (o.0 ∙ h.0, of_filled wide t u h.2 v o.1, beside_filled wide fs gs nvs h.3 o.2)
  beside_filled wide no_items no_items (named k v nvs) h o = absurd o
  beside_filled wide no_items (item n u _ gs) nvs h o = absurd h
  beside_filled wide (item m t _ fs) no_items nvs h o = absurd h
  beside_filled wide (item m t _ fs) (item n u _ gs) no_named h o = absurd o

  variant_filled : (wide : Widening) (fs : Fields) (ws : Variants) (k : ℕ) (x : Value) (n : List ℕ) (t : Tree) → tags_differ ws ≡ true → first_named (pairs fs) (k ∷ n) ≡ Some t → Of x t
      → (u : Tree) × (first_named (pairs (keyed ws)) (k ∷ n) ≡ Some u) × ReadsAs wide t u → VariantOf k (filled_variant fs ws k x) ws
  variant_filled wide fs no_items k x n t d at o r = let none = r.1 in cc
  variant_filled wide fs (item m u g ws) k x n t d at o r =
      let alone = first_tag_alone m u g ws d in
      let other = first_named (pairs fs) (g ∷ m) in
      by_bool (k == g)
      (λ e.
      let tag = (Decides-eqb k g).0 e in
      by_place (g ∷ m) (k ∷ n) u r.0 (pairs (keyed ws)) r.1
      (λ key same.
      let here : other ≡ Some t = ap (first_named (pairs fs)) key ∙ at in
      subst (λ b. VariantOf k (if b then or_same (λ t. filled t u x) other x else filled_variant fs ws k x) (item m u g ws)) (sym e)
      (subst (λ z. VariantOf k (or_same (λ t. filled t u x) z x) (item m u g ws)) (sym here) (inl (tag, of_filled wide t u (subst (ReadsAs wide t) (sym same) r.2) x o))))
      (λ ne later. let none = tag_apart g n ws alone.0 in let some = ap (λ z. first_named (pairs (keyed ws)) (z ∷ n)) (sym tag) ∙ later in cc))
      (λ ne. subst (λ b. VariantOf k (if b then or_same (λ t. filled t u x) other x else filled_variant fs ws k x) (item m u g ws)) (sym ne)
      (by_place (g ∷ m) (k ∷ n) u r.0 (pairs (keyed ws)) r.1
      (λ key same. let tag : k ≡ g = cc in absurd (false≢true (sym ne ∙ (Decides-eqb k g).1 tag)))
      (λ _ later. inr (variant_filled wide fs ws k x n t alone.1 at o (r.0, later, r.2)))))
