-- SPDX-License-Identifier: Apache-2.0
-- SPDX-FileCopyrightText: Copyright the Vortex contributors

-- The schema that is written of a type is read as this type.
use Rattle.std.proofs.Common.{◌≡◌, ◌≢◌, ℕ, zero, suc, ◌+◌, ◌*◌, ◌<◌, ◌≤◌, Bool, true, false, not, ◌&&◌, ◌==◌, List, [], ◌∷◌, ◌++◌, length, drop, Option, Some, None, Result, Ok, Err, refl, sym, ap, subst, ◌∙◌, arith, inl, inr, map}
use Rattle.std.specs.Prelude.{codes, ◌⊎◌, nat_eq, nat_lt, ℤ, pos, ◌≤ℤ◌, ◌<ℤ◌, int_lt, if◌then◌else◌}
use Rattle.std.specs.List.{list_any, IsDistinct, AllByRecursion}
use Rattle.std.specs.Str.{is_utf8, bytes_eq}
use Rattle.dtype_base.specs.Bytes.{Bytes}
use Rattle.dtype_base.specs.Decimals.{Decimal, IsValidDecimal}
use Rattle.dtype_base.specs.Nullability.{nullability_of}
use Rattle.dtype_base.specs.declared.nullability.Nullability.{Nullability}
use Rattle.dtype_base.specs.declared.nullability.Nullability.TheVariants.{NonNullable, Nullable}
use Rattle.dtype_base.specs.declared.ptype.PType.TheVariants as p
use Rattle.dtype_types.specs.nullability.Nullable.{nullability}
use Rattle.dtype_types.specs.tree.Tree as of
use Rattle.dtype_types.specs.tree.Tree.{Tree, Holder, Tag, Items, Fields, Variants, triples, no_items, item, fields, extension}
use Rattle.dtype_types.specs.tree.Valid.{Valid, ValidItems}
use Rattle.dtype_text.specs.Grammar.{AreTexts, ItemsAreTexts}
use Rattle.dtype_text.specs.TypeParts.{is_nonnullable}
use Rattle.dtype_text.specs.Unions.{differ, is_empty}
use Rattle.dtype_types.specs.parts.Lookups.{variant_tags, variant_names}
use Rattle.dtype_types.specs.parts.Unions.{AreVariants}
use Rattle.std.proofs.lemmas.Int.{ints}
use Rattle.std.proofs.lemmas.Bool.{eq-eqb}
use Rattle.std.proofs.lemmas.Bool.Decides.{Decides-eqb, nat_tests}
use Rattle.std.proofs.lemmas.Slice.Eq.{bytes_eq-Decides}
use Rattle.std.proofs.lemmas.Map.Made.{IsDistinct-from_AllPairs}
use Rattle.std.proofs.lemmas.Map.Keys.{IsDistinct-head, IsDistinct-tail}
use Rattle.c_arrow.specs.Again.{StandsFor, both_said}
use Rattle.c_arrow.specs.Faults.{Fault, ◌>>=◌, or_fault, read_within}
use Rattle.c_arrow.specs.Flags.{is_nullable, has_sorted_keys}
use Rattle.c_arrow.specs.Formats.{format_of}
use Rattle.c_arrow.specs.FormatsWritten.{bytes_format, checked_nul, decimal_format, fixed_size_format, letter_of, union_format}
use Rattle.c_arrow.specs.FromArrow.{own, child_from, part_from, each, list_from, fixed_from, struct_from, union_from, map_from, map_of_entries, entries_from, format_from, storage_from, keyed_from, type_from, inner_at, from_arrow}
use Rattle.c_arrow.specs.Kept.{id_of, is_byte, is_list, storage_of}
use Rattle.c_arrow.specs.Keys.{said_in, nothing_said, extension_metadata, is_tensor}
use Rattle.c_arrow.specs.Read.{Field, bytes_of, keys_of, level, name_of, or_refuse, decimal_of, map_of, union_of, tagged, is_entries, is_struct, date_of, time_of, timestamp_of, kept_storage, kept_type}
use Rattle.c_arrow.specs.Schema.{Schema, schema, Schemas, no_schema, more, no_values}
use Rattle.c_arrow.specs.Temporal.{Written, temporal_in, written_of, date_tree, time_tree, timestamp_tree}
use Rattle.c_arrow.specs.Write.{Label, called, storage_called, nullable_flag, map_flags, leaf, parent, none, before, are_bytes, bytes_field, fixed_field, map_field, named, child, child_of, children_of, field_of, to_arrow, level_if, temporal, metadata_for, inner_extension, outer_extension, extension_at}
use Rattle.c_arrow.specs.declared.fault.Problem.TheVariants as problem
use Rattle.c_arrow.specs.declared.format.Format.{Format}
use Rattle.c_arrow.specs.declared.format.Format.TheVariants as f
use Rattle.c_arrow.specs.declared.kept.Kept.{Kept}
use Rattle.c_arrow.specs.declared.kept.Kept.TheVariants as kept
use Rattle.c_arrow.proofs.KeysAgain.{keys_again}
use Rattle.c_arrow.proofs.Leaves.{both}
use Rattle.c_arrow.proofs.TemporalAgain.{a_byte, written_again}
use Rattle.c_arrow.proofs.FormatsAgain.{ascii_utf8, words_again, letter_again, fixed_again, bytes_again, decimal_again, union_again}

-- ---- results

bind_ok : {A B : Type 0} (r : Result A Fault) (f : A → Result B Fault) (y : B) → (r >>= f) ≡ Ok y → (x : A) × (r ≡ Ok x) × (f x ≡ Ok y)
bind_ok (Ok x) f y e = (x, refl, e)
bind_ok (Err v) f y e = absurd cc

abbrev ok : {A : Type 0} → A → Result A Fault
ok x = Ok x

value_of : {A : Type 0} → A → Result A Fault → A
value_of d (Ok x) = x
value_of d (Err e) = d

ok_is : {A : Type 0} (x y : A) → ok x ≡ ok y → x ≡ y
unfolding value_of
ok_is x y e = ap (value_of x) e

within_ok : {A : Type 0} (name : List ℕ) (r : Result A Fault) (y : A) → read_within name r ≡ Ok y → r ≡ Ok y
within_ok name (Ok x) y e = e
within_ok name (Err v) y e = absurd cc

-- ---- what was written

parent_made : (format : List ℕ) (flags : ℕ) (label : Label) (cs : Result Schemas Fault) (s : Schema) → parent format flags label cs ≡ Ok s → (css : Schemas) × (cs ≡ Ok css) × (schema flags format label.name label.metadata css no_values ≡ s)
unfolding parent
parent_made format flags label cs s e =
    let b = bind_ok cs (λ css. Ok (schema flags format label.name label.metadata css no_values)) s e in
    (b.0, b.1, ok_is _ _ b.2)

before_made : (c : Result Schema Fault) (cs : Result Schemas Fault) (css : Schemas) → before c cs ≡ Ok css → (x : Schema) × (xs : Schemas) × (c ≡ Ok x) × (cs ≡ Ok xs) × (more x xs ≡ css)
unfolding before
before_made c cs css e =
    let b = bind_ok c (λ x. cs >>= λ xs. Ok (more x xs)) css e in
    let d = bind_ok cs (λ xs. Ok (more b.0 xs)) css b.2 in
    (b.0, d.0, b.1, d.1, ok_is _ _ d.2)

one_made : (c : Result Schema Fault) (css : Schemas) → before c none ≡ Ok css → (x : Schema) × (c ≡ Ok x) × (more x no_schema ≡ css)
one_made c css e =
    let b = before_made c none css e in
    (b.0, b.2, ap (λ xs. more b.0 xs) (ok_is _ _ b.3) ∙ b.4)

child_made : (levels : ℕ) (name : List ℕ) (t : Tree) (c : Schema) → child_of levels name t ≡ Ok c → (below : ℕ) × (levels ≡ suc below) × (field_of below (called name) t ≡ Ok c)
unfolding child named
child_made zero name t c e = absurd cc
child_made (suc below) name t c e =
    let b = bind_ok (checked_nul name) (λ _. field_of below (called name) t) c (within_ok name (checked_nul name >>= λ _. field_of below (called name) t) c e) in
    (below, refl, b.2)

-- ---- what is read

nullability_again : (n : Nullability) → nullability_of (is_nullable (nullable_flag n)) ≡ n
nullability_again Nullable = refl
nullability_again NonNullable = refl

abbrev whole : ℕ → List ℕ → Label → Schemas → Schema
whole flags format label cs = schema flags format label.name label.metadata cs no_values

-- the type of a field without its extension
abbrev IsStored : ℕ → ℕ → Label → Schema → Tree → Type 0
IsStored k levels label s t = (flags : ℕ) × (format : List ℕ) × (cs : Schemas) × (whole flags format label cs ≡ s) × (storage_from (inner_at k) (own (whole flags format label cs)) (is_nullable flags) levels cs no_values ≡ Ok t)

-- the type of a field with this name
abbrev IsRead : ℕ → ℕ → List ℕ → Schema → Tree → Type 0
IsRead k levels name s t = (type_from (inner_at k) s (is_nullable (own s).node.flags) levels ≡ Ok t) × ((own s).name ≡ name)

plain_keys : (field : Field) → field.metadata ≡ [] → keys_of field ≡ Ok nothing_said
unfolding keys_of said_in
plain_keys field e = ap (λ m. or_refuse field problem.Metadata (said_in m)) e

plain_read : (k levels : ℕ) (label : Label) (s : Schema) (t : Tree) → label.metadata ≡ [] → IsStored k levels label s t → IsRead k levels label.name s t
unfolding type_from keyed_from
plain_read k levels label s t e (flags, format, cs, is, stored) =
    let field = own (whole flags format label cs) in
    let read : type_from (inner_at k) (whole flags format label cs) (is_nullable flags) levels ≡ Ok t =
    ap (λ r. r >>= λ key. keyed_from (inner_at k) field key.name key.metadata (is_nullable flags) levels cs no_values) (plain_keys field e) ∙ stored in
    subst (λ x. IsRead k levels label.name x t) is (read, refl)

stored_by : (k levels : ℕ) (label : Label) (s : Schema) (t : Tree) (flags : ℕ) (format : List ℕ) (cs : Schemas) (say : Format) → whole flags format label cs ≡ s → format_of format ≡ Some say → format_from (inner_at k) (own (whole flags format label cs)) say (is_nullable flags) levels cs ≡ Ok t → IsStored k levels label s t
unfolding storage_from
stored_by k levels label s t flags format cs say is said made =
    let field = own (whole flags format label cs) in
    (flags, format, cs, is, ap (λ o. or_refuse field problem.Format o >>= λ format'. format_from (inner_at k) field format' (is_nullable flags) levels cs) said ∙ made)

leaf_stored : (k levels : ℕ) (label : Label) (s : Schema) (n : Nullability) (format : List ℕ) (say : Format) (t : Nullability → Tree) → leaf format label n ≡ Ok s → format_of format ≡ Some say → ((field : Field) → format_from (inner_at k) field say (is_nullable (nullable_flag n)) levels no_schema ≡ Ok (t (nullability_of (is_nullable (nullable_flag n))))) → IsStored k levels label s (t n)
unfolding leaf
leaf_stored k levels label s n format say t e said made =
    stored_by k levels label s (t n) (nullable_flag n) format no_schema say (ok_is _ _ e) said (made (own (whole (nullable_flag n) format label no_schema)) ∙ ap (λ m. Ok (t m)) (nullability_again n))

-- a child whose type is a part of the type
pub part_again : (k levels below : ℕ) (parent_ : Field) (name : List ℕ) (c : Schema) (t : Tree) → levels ≡ suc below → is_utf8 name ≡ true → IsRead k below name c t → part_from (inner_at (suc k)) parent_ levels c ≡ Ok (name, t)
unfolding part_from child_from name_of
part_again k levels below parent_ name c t is utf8 (read, called_) =
    let test : is_utf8 (own c).name ≡ true = ap is_utf8 called_ ∙ utf8 in
    let named_ : name_of (own c) ≡ Ok (own c).name = rw test refl in
    let is_ = is_nullable (own c).node.flags in
    let inside : (name_of (own c) >>= λ n. type_from (inner_at k) c is_ below >>= λ u. Ok (n, u)) ≡ Ok (name, t) =
    ap (λ r. r >>= λ n. type_from (inner_at k) c is_ below >>= λ u. Ok (n, u)) named_ ∙ ap (λ r. r >>= λ u. Ok ((own c).name, u)) read ∙ ap (λ n. Ok (n, t)) called_ in
    ap (λ (l : ℕ). part_from (inner_at (suc k)) parent_ l c) is ∙ ap (read_within (own c).name) inside

-- what is read of the children of this type
abbrev Reads : ℕ → ℕ → Tree → Type 0
Reads k levels t = (below : ℕ) (name : List ℕ) (c : Schema) → levels ≡ suc below → field_of below (called name) t ≡ Ok c → IsRead k below name c t

-- a child with this name
module _ (k levels : ℕ) (name : List ℕ) (utf8 : is_utf8 name ≡ true) (t : Tree) (reads : Reads k levels t) where
  child_again : (c : Schema) → child_of levels name t ≡ Ok c → (field : Field) → part_from (inner_at (suc k)) field levels c ≡ Ok (name, t)
  child_again c e field =
      let m = child_made levels name t c e in
      part_again k levels m.0 field name c t m.1 utf8 (reads m.0 name c m.1 m.2)

item_utf8 : is_utf8 (codes "item") ≡ true
item_utf8 = ascii_utf8 (codes "item") refl

key_utf8 : is_utf8 (codes "key") ≡ true
key_utf8 = ascii_utf8 (codes "key") refl

value_utf8 : is_utf8 (codes "value") ≡ true
value_utf8 = ascii_utf8 (codes "value") refl

entries_utf8 : is_utf8 (codes "entries") ≡ true
entries_utf8 = ascii_utf8 (codes "entries") refl

module _ (k levels : ℕ) (label : Label) (s : Schema) (n : Nullability) where
  list_stored : (t : Tree) → Reads k levels t → field_of levels label (of.list t n) ≡ Ok s → IsStored (suc k) levels label s (of.list t n)
  unfolding format_from list_from
  list_stored t reads e =
      let p = parent_made (codes "+l") (nullable_flag n) label (before (child_of levels (codes "item") t) none) s e in
      let o = one_made (child_of levels (codes "item") t) p.0 p.1 in
      let is : whole (nullable_flag n) (codes "+l") label (more o.0 no_schema) ≡ s = ap (whole (nullable_flag n) (codes "+l") label) o.2 ∙ p.2 in
      let field = own (whole (nullable_flag n) (codes "+l") label (more o.0 no_schema)) in
      let part = child_again k levels (codes "item") item_utf8 t reads o.0 o.1 field in
      stored_by (suc k) levels label s (of.list t n) (nullable_flag n) (codes "+l") (more o.0 no_schema) f.List is words_again.4
      (ap (λ (r : Result (List ℕ × Tree) Fault). r >>= λ c. Ok (of.list c.1 (nullability_of (is_nullable (nullable_flag n))))) part ∙ ap (λ m. Ok (of.list t m)) (nullability_again n))

  fixed_stored : (t : Tree) (size : ℕ) → Reads k levels t → fixed_field label (child_of levels (codes "item") t) size n ≡ Ok s → IsStored (suc k) levels label s (of.fixed_size_list t size n)
  unfolding format_from fixed_from
  fixed_stored t size reads e =
      let b = bind_ok (fixed_size_format size) (λ format. parent format (nullable_flag n) label (before (child_of levels (codes "item") t) none)) s e in
      let p = parent_made b.0 (nullable_flag n) label (before (child_of levels (codes "item") t) none) s b.2 in
      let o = one_made (child_of levels (codes "item") t) p.0 p.1 in
      let is : whole (nullable_flag n) b.0 label (more o.0 no_schema) ≡ s = ap (whole (nullable_flag n) b.0 label) o.2 ∙ p.2 in
      let field = own (whole (nullable_flag n) b.0 label (more o.0 no_schema)) in
      let part = child_again k levels (codes "item") item_utf8 t reads o.0 o.1 field in
      stored_by (suc k) levels label s (of.fixed_size_list t size n) (nullable_flag n) b.0 (more o.0 no_schema) (f.FixedSizeList size) is (fixed_again size b.0 b.1)
      (ap (λ (r : Result (List ℕ × Tree) Fault). r >>= λ c. Ok (of.fixed_size_list c.1 size (nullability_of (is_nullable (nullable_flag n))))) part ∙ ap (λ m. Ok (of.fixed_size_list t size m)) (nullability_again n))

module _ (k levels : ℕ) (label : Label) (s : Schema) (n : Nullability) (t : Tree) (size : ℕ) where
  bytes_stored : is_byte t ≡ true → bytes_field levels label size n ≡ Ok s → IsStored k levels label s (of.fixed_size_list t size n)
  unfolding bytes_field leaf format_from bytes_of
  bytes_stored byte e =
      let b = bind_ok (bytes_format size) (λ format. level levels >>= λ below. leaf format label n) s e in
      let l = bind_ok (level levels) (λ below. leaf b.0 label n) s b.2 in
      let m = nullability_of (is_nullable (nullable_flag n)) in
      stored_by k levels label s (of.fixed_size_list t size n) (nullable_flag n) b.0 no_schema (f.FixedSizeBinary size) (ok_is _ _ l.2) (bytes_again size b.0 b.1)
      (ap (λ (r : Result ℕ Fault). r >>= λ below. Ok (of.fixed_size_list (of.primitive p.U8 NonNullable) size m)) l.1
      ∙ ap (λ x. Ok (of.fixed_size_list (of.primitive p.U8 NonNullable) size x)) (nullability_again n)
      ∙ ap (λ x. Ok (of.fixed_size_list x size n)) (sym (a_byte t byte)))

sized_stored : (k levels : ℕ) (label : Label) (s : Schema) (n : Nullability) (t : Tree) (size : ℕ) → Reads k levels t → field_of levels label (of.fixed_size_list t size n) ≡ Ok s → IsStored (suc k) levels label s (of.fixed_size_list t size n)
unfolding are_bytes
sized_stored k levels label s n t size reads e = split (is_byte t && not (is_tensor label.metadata)) refl where
  by : Bool → Result Schema Fault
  by c = if c then bytes_field levels label size n else fixed_field label (child_of levels (codes "item") t) size n

  split : (c : Bool) → (is_byte t && not (is_tensor label.metadata)) ≡ c → IsStored (suc k) levels label s (of.fixed_size_list t size n)
  split true is = bytes_stored (suc k) levels label s n t size (both (is_byte t) (not (is_tensor label.metadata)) is).0 (sym (ap by is) ∙ e)
  split false is = fixed_stored k levels label s n t size reads (sym (ap by is) ∙ e)

-- ---- structs and unions

abbrev item_pairs : {h : Holder} → Items h → List (List ℕ × Tree)
item_pairs no_items = []
item_pairs (item n t g rest) = (n, t) ∷ item_pairs rest

-- what is read of the children of a struct or a union
abbrev ReadsAll : {h : Holder} → ℕ → ℕ → Items h → Type 0
ReadsAll k levels fs = (css : Schemas) → children_of levels fs ≡ Ok css → (field : Field) → each (part_from (inner_at (suc k)) field levels) css ≡ Ok (item_pairs fs)

none_again : (h : Holder) (k levels : ℕ) → ReadsAll {h = h} k levels no_items
none_again h k levels css e field = ap (each (part_from (inner_at (suc k)) field levels)) (sym (ok_is _ _ e))

more_again : {h : Holder} (k levels : ℕ) (n : List ℕ) (t : Tree) (g : Tag h) (rest : Items h) → is_utf8 n ≡ true → Reads k levels t → ReadsAll k levels rest → ReadsAll k levels (item n t g rest)
more_again k levels n t g rest utf8 reads all css e field =
    let b = before_made (child_of levels n t) (children_of levels rest) css e in
    let part = part_from (inner_at (suc k)) field levels in
    let first = child_again k levels n utf8 t reads b.0 b.2 field in
    let others = all b.1 b.3 field in
    ap (each part) (sym b.4) ∙ ap (λ (r : Result (List ℕ × Tree) Fault). r >>= λ x. each part b.1 >>= λ xs. Ok (x ∷ xs)) first ∙ ap (λ (r : Result (List (List ℕ × Tree)) Fault). r >>= λ xs. Ok ((n, t) ∷ xs)) others

fields_again : (fs : Fields) → fields (item_pairs fs) ≡ fs
fields_again no_items = refl
fields_again (item n t g rest) = ap (λ r. item n t g r) (fields_again rest)

pub struct_stored : (k levels : ℕ) (label : Label) (s : Schema) (n : Nullability) (fs : Fields) → ReadsAll k levels fs → field_of levels label (of.struct fs n) ≡ Ok s → IsStored (suc k) levels label s (of.struct fs n)
unfolding format_from struct_from
struct_stored k levels label s n fs reads e =
    let p = parent_made (codes "+s") (nullable_flag n) label (children_of levels fs) s e in
    let field = own (whole (nullable_flag n) (codes "+s") label p.0) in
    stored_by (suc k) levels label s (of.struct fs n) (nullable_flag n) (codes "+s") p.0 f.Struct p.2 words_again.5
    (ap (λ (r : Result (List (List ℕ × Tree)) Fault). r >>= λ xs. Ok (of.struct (fields xs) (nullability_of (is_nullable (nullable_flag n))))) (reads p.0 p.1 field)
    ∙ ap (λ xs. Ok (of.struct xs (nullability_of (is_nullable (nullable_flag n))))) (fields_again fs) ∙ ap (λ m. Ok (of.struct fs m)) (nullability_again n))

-- ---- maps

sorted_again : (n : Nullability) (sorted : Bool) → (has_sorted_keys (map_flags n sorted) ≡ sorted) × (nullability_of (is_nullable (map_flags n sorted)) ≡ n)
sorted_again Nullable true = (refl, refl)
sorted_again Nullable false = (refl, refl)
sorted_again NonNullable true = (refl, refl)
sorted_again NonNullable false = (refl, refl)

map_read : (key value : Tree) (sorted : Bool) (n : Nullability) → nullability key ≡ NonNullable → map_of key value sorted n ≡ Ok (of.map_of key value sorted n)
unfolding map_of
map_read key value sorted n e =
    let test : is_nonnullable (nullability key) ≡ true = ap is_nonnullable e in
    rw test refl

abbrev entry_label : Label
entry_label = called (codes "entries")

entries_again : (k levels : ℕ) (key value : Tree) (kx vx : Schema) → Reads k levels key → Reads k levels value → child_of levels (codes "key") key ≡ Ok kx → child_of levels (codes "value") value ≡ Ok vx → (field : Field) → field.name ≡ codes "entries" → entries_from (inner_at (suc k)) field levels (more kx (more vx no_schema)) ≡ Ok (key, value)
unfolding entries_from name_of
entries_again k levels key value kx vx rk rv ek ev field is =
    let test : is_utf8 field.name ≡ true = ap is_utf8 is ∙ entries_utf8 in
    let named_ : name_of field ≡ Ok field.name = rw test refl in
    let part = part_from (inner_at (suc k)) field levels in
    ap (λ r. r >>= λ n. part kx >>= λ a. part vx >>= λ b. Ok (a.1, b.1)) named_
    ∙ ap (λ (r : Result (List ℕ × Tree) Fault). r >>= λ a. part vx >>= λ b. Ok (a.1, b.1)) (child_again k levels (codes "key") key_utf8 key rk kx ek field)
    ∙ ap (λ (r : Result (List ℕ × Tree) Fault). r >>= λ b. Ok (key, b.1)) (child_again k levels (codes "value") value_utf8 value rv vx ev field)

is_entries_again : (flags : ℕ) (kx vx : Schema) → is_entries (own (whole flags (codes "+s") entry_label (more kx (more vx no_schema)))) ≡ true
is_entries_again flags kx vx = ap (λ o. is_struct o && true) words_again.5

map_stored : (k levels : ℕ) (label : Label) (s : Schema) (n : Nullability) (key value : Tree) (sorted : Bool) → nullability key ≡ NonNullable → Reads k levels key → Reads k levels value → field_of levels label (of.map_of key value sorted n) ≡ Ok s → IsStored (suc (suc k)) levels label s (of.map_of key value sorted n)
unfolding map_field format_from map_from map_of_entries
map_stored k levels label s n key value sorted nonnull rk rv e =
    let ck = child_of levels (codes "key") key in
    let cv = child_of levels (codes "value") value in
    let pair = read_within (codes "entries") (before ck (before cv none)) in
    let entry = parent (codes "+s") (nullable_flag NonNullable) entry_label pair in
    let p = parent_made (codes "+m") (map_flags n sorted) label (before entry none) s e in
    let o = one_made entry p.0 p.1 in
    let q = parent_made (codes "+s") (nullable_flag NonNullable) entry_label pair o.0 o.1 in
    let b = before_made ck (before cv none) q.0 (within_ok (codes "entries") (before ck (before cv none)) q.0 q.1) in
    let v = one_made cv b.1 b.3 in
    let cs = more b.0 (more v.0 no_schema) in
    let whole_entry = whole (nullable_flag NonNullable) (codes "+s") entry_label cs in
    let same : whole_entry ≡ o.0 = ap (whole (nullable_flag NonNullable) (codes "+s") entry_label) (ap (more b.0) v.2 ∙ b.4) ∙ q.2 in
    let is : whole (map_flags n sorted) (codes "+m") label (more whole_entry no_schema) ≡ s = ap (λ x. whole (map_flags n sorted) (codes "+m") label (more x no_schema)) same ∙ ap (whole (map_flags n sorted) (codes "+m") label) o.2 ∙ p.2 in
    let entries_ = entries_again k levels key value b.0 v.0 rk rv b.2 v.1 (own whole_entry) refl in
    let test = is_entries_again (nullable_flag NonNullable) b.0 v.0 in
    let flags = sorted_again n sorted in
    let made : map_of key value (has_sorted_keys (map_flags n sorted)) (nullability_of (is_nullable (map_flags n sorted))) ≡ Ok (of.map_of key value sorted n) =
    ap (λ o'. map_of key value o' (nullability_of (is_nullable (map_flags n sorted)))) flags.0 ∙ ap (λ m. map_of key value sorted m) flags.1 ∙ map_read key value sorted n nonnull in
    stored_by (suc (suc k)) levels label s (of.map_of key value sorted n) (map_flags n sorted) (codes "+m") (more whole_entry no_schema) f.Map is words_again.6
    (rw test (ap (λ (r : Result (Tree × Tree) Fault). read_within (codes "entries") r >>= λ kv. map_of kv.0 kv.1 (has_sorted_keys (map_flags n sorted)) (nullability_of (is_nullable (map_flags n sorted)))) entries_ ∙ made))

-- ---- unions

none_same : {A : Type 0} (same : A → A → Bool) (x : A) (xs : List A) → AllByRecursion (λ y. same x y ≡ false) xs → list_any (same x) xs ≡ false
none_same same x [] h = refl
none_same same x (y ∷ ys) h = rw (h.0, none_same same x ys h.1) refl

distinct_differ : {A : Type 0} (same : A → A → Bool) (xs : List A) → IsDistinct same xs → differ same xs ≡ true
distinct_differ same [] d = refl
distinct_differ same (x ∷ xs) d = rw (none_same same x xs (IsDistinct-head same x xs d), distinct_differ same xs (IsDistinct-tail same x xs d)) refl

tagged_again : (vs : Variants) → tagged (item_pairs vs) (variant_tags (triples vs)) ≡ vs
tagged_again no_items = refl
tagged_again (item n t g rest) = ap (λ r. item n t g r) (tagged_again rest)

tag_count : (vs : Variants) → length (item_pairs vs) ≡ length (variant_tags (triples vs))
tag_count no_items = refl
tag_count (item n t g rest) = ap (λ (k : ℕ). suc k) (tag_count rest)

names_again : (vs : Variants) → map (λ q. q.0) (item_pairs vs) ≡ variant_names (triples vs)
names_again no_items = refl
names_again (item n t g rest) = ap (λ ns. n ∷ ns) (names_again rest)

some_again : (vs : Variants) → variant_names (triples vs) ≢ [] → is_empty (item_pairs vs) ≡ false
some_again no_items h = absurd (h refl)
some_again (item n t g rest) h = refl

union_read : (vs : Variants) (n : Nullability) → AreVariants vs → union_of (item_pairs vs) (variant_tags (triples vs)) n ≡ Ok (of.union vs n)
unfolding union_of AreVariants
union_read vs n h =
    let gs = variant_tags (triples vs) in
    let counts : (length (item_pairs vs) == length gs) ≡ true = eq-eqb _ _ (tag_count vs) in
    let some = some_again vs h.0.0.2 in
    let tags : differ nat_eq gs ≡ true = distinct_differ nat_eq gs (IsDistinct-from_AllPairs Decides-eqb gs h.0.1) in
    let names : differ bytes_eq (map (λ q. q.0) (item_pairs vs)) ≡ true = ap (differ bytes_eq) (names_again vs) ∙ distinct_differ bytes_eq (variant_names (triples vs)) (IsDistinct-from_AllPairs bytes_eq-Decides (variant_names (triples vs)) h.0.2) in
    rw (counts, some, tags, names) (ap (λ us. Ok (of.union us n)) (tagged_again vs))

pub union_stored : (k levels : ℕ) (label : Label) (s : Schema) (n : Nullability) (vs : Variants) → AreVariants vs → ReadsAll k levels vs → field_of levels label (of.union vs n) ≡ Ok s → IsStored (suc k) levels label s (of.union vs n)
unfolding format_from union_from
union_stored k levels label s n vs valid reads e =
    let gs = variant_tags (triples vs) in
    let b = bind_ok (union_format gs) (λ format. parent format (nullable_flag n) label (children_of levels vs)) s e in
    let p = parent_made b.0 (nullable_flag n) label (children_of levels vs) s b.2 in
    let field = own (whole (nullable_flag n) b.0 label p.0) in
    let u = union_again gs b.0 b.1 in
    let m = nullability_of (is_nullable (nullable_flag n)) in
    stored_by (suc k) levels label s (of.union vs n) (nullable_flag n) b.0 p.0 f.Union p.2 u.0
    (ap (λ (o : Option (List ℕ)). or_refuse field problem.Format o >>= λ ids. each (part_from (inner_at (suc k)) field levels) p.0 >>= λ fs. union_of fs ids m) u.1
    ∙ ap (λ (r : Result (List (List ℕ × Tree)) Fault). r >>= λ fs. union_of fs gs m) (reads p.0 p.1 field)
    ∙ ap (λ x. union_of (item_pairs vs) gs x) (nullability_again n) ∙ union_read vs n valid)

-- ---- decimals

lt_tells : (a b : ℤ) → ((int_lt a b ≡ true) × (a <ℤ b)) ⊎ ((int_lt a b ≡ false) × (a <ℤ b → ⊥))
lt_tells a b = grind arith

lt_false : (a b : ℤ) → b ≤ℤ a → int_lt a b ≡ false
lt_false a b h = elim (lt_tells a b) [ inl t ↦ absurd (omega (arith, ints, h, t.1)) | inr f ↦ f.0 ]

some_digits : (n : ℕ) → 1 ≤ n → (n == 0) ≡ false
some_digits n h = grind (arith, nat_tests, h)

at_most_76 : (n : ℕ) → n ≤ 76 → nat_lt 76 n ≡ false
at_most_76 n h = grind (arith, nat_tests, h)

decimal_read : (d : Decimal) (m : Nullability) → IsValidDecimal d → decimal_of d.precision d.scale m ≡ Ok (of.decimal d m)
unfolding decimal_of
decimal_read d m h =
    let a = some_digits d.precision h.some_digits in
    let b = at_most_76 d.precision h.precision_at_most in
    let c : d.scale ≤ℤ pos 76 = omega (arith, ints, h.scale_at_most, h.precision_at_most) in
    rw (a, b, lt_false (pos 76) d.scale c, lt_false (pos d.precision) d.scale h.scale_at_most) refl

-- ---- extensions

kept_made : (field : Field) (it : Kept) (nullable : Bool) (below x : ℕ) → level_if (is_list it) below ≡ Ok x → kept_type field it nullable (suc below) ≡ Ok (extension (id_of it) field.format (storage_of it (nullability_of nullable)))
unfolding kept_type kept_storage level_if storage_of is_list bytes_of
kept_made field kept.Duration nullable below x e = refl
kept_made field kept.Months nullable below x e = refl
kept_made field kept.Days nullable zero x e = absurd cc
kept_made field kept.Days nullable (suc below) x e = refl
kept_made field kept.Nanoseconds nullable zero x e = absurd cc
kept_made field kept.Nanoseconds nullable (suc below) x e = refl

temporal_stored : (k below : ℕ) (label : Label) (s : Schema) (w : Written) (t : Tree) → StandsFor w t → temporal below label w ≡ Ok s → IsStored k (suc below) label s t
unfolding temporal leaf format_from date_of time_of timestamp_of
temporal_stored k below label s w t which e =
    let format = w.letters ++ w.zone in
    let b = bind_ok (checked_nul w.zone) (λ _. level_if w.is_list below >>= λ _. leaf format label w.nullability) s e in
    let l = bind_ok (level_if w.is_list below) (λ _. leaf format label w.nullability) s b.2 in
    let is : whole (nullable_flag w.nullability) format label no_schema ≡ s = ok_is _ _ l.2 in
    let field = own (whole (nullable_flag w.nullability) format label no_schema) in
    let n = nullability_again w.nullability in
    elim which [
      | inl dated ↦ elim dated.0.1 [
        | inl h ↦ stored_by k (suc below) label s t (nullable_flag w.nullability) format no_schema (f.Date dated.0.0) is h.0 (ap (λ m. Ok (date_tree dated.0.0 m)) n ∙ ap (λ x. Ok x) h.1)
        | inr other ↦ elim other [
          | inl h ↦ stored_by k (suc below) label s t (nullable_flag w.nullability) format no_schema (f.Time dated.0.0) is h.0 (ap (λ m. Ok (time_tree dated.0.0 m)) n ∙ ap (λ x. Ok x) h.1)
          | inr h ↦ stored_by k (suc below) label s t (nullable_flag w.nullability) format no_schema (f.Timestamp dated.0.0) is h.0
              (ap (λ m. or_refuse field problem.Zone (timestamp_tree dated.0.0 (drop 4 format) m)) n ∙ ap (or_refuse field problem.Zone) h.1)
        ]
      ]
      | inr h ↦ stored_by k (suc below) label s t (nullable_flag w.nullability) format no_schema (f.Kept h.0) is h.1
          (kept_made field h.0 (is_nullable (nullable_flag w.nullability)) below l.0 (ap (λ c. level_if c below) (sym h.2) ∙ l.1)
          ∙ ap (λ m. Ok (extension (id_of h.0) format (storage_of h.0 m))) n ∙ ap (λ x. Ok x) h.3)
    ]

inner_stored : (k levels : ℕ) (label : Label) (s : Schema) (t : Tree) (o : Option Written) → ((w : Written) → o ≡ Some w → StandsFor w t) → inner_extension levels label o ≡ Ok s → IsStored k levels label s t
unfolding inner_extension
inner_stored k zero label s t None which e = absurd cc
inner_stored k (suc below) label s t None which e = absurd cc
inner_stored k zero label s t (Some w) which e = absurd cc
inner_stored k (suc below) label s t (Some w) which e = temporal_stored k below label s w t (which w refl) e

keyed_read : (k below : ℕ) (name m id bytes : List ℕ) (s : Schema) (storage : Tree) → said_in m ≡ Some (both_said id bytes) → is_utf8 id ≡ true → IsStored k below (storage_called name m) s storage → IsRead k (suc below) name s (extension id bytes storage)
unfolding type_from keyed_from keys_of
keyed_read k below name m id bytes s storage said utf8 (flags, format, cs, is, stored) =
    let label = storage_called name m in
    let field = own (whole flags format label cs) in
    let keyed : keyed_from (inner_at k) field (Some id) (Some bytes) (is_nullable flags) (suc below) cs no_values ≡ Ok (extension id bytes storage) =
    rw utf8 (ap (λ r. r >>= λ t. Ok (extension id bytes t)) stored) in
    let read : type_from (inner_at k) (whole flags format label cs) (is_nullable flags) (suc below) ≡ Ok (extension id bytes storage) =
    ap (λ o. or_refuse field problem.Metadata o >>= λ key. keyed_from (inner_at k) field key.name key.metadata (is_nullable flags) (suc below) cs no_values) said ∙ keyed in
    subst (λ x. IsRead k (suc below) name x (extension id bytes storage)) is (read, refl)

some_or : {A : Type 0} (v : Fault) (o : Option A) (x : A) → or_fault v o ≡ Ok x → o ≡ Some x
some_or v (Some y) x e = ap (λ z. Some z) (ok_is _ _ e)
some_or v None x e = absurd cc

metadata_made : (id bytes m : List ℕ) → metadata_for id bytes ≡ Ok m → extension_metadata id bytes ≡ Some m
unfolding metadata_for
metadata_made id bytes m e = some_or _ (extension_metadata id bytes) m (bind_ok (checked_nul id) (λ _. or_fault _ (extension_metadata id bytes)) m e).2

module _ (k : ℕ) (id bytes : List ℕ) (storage : Tree) (utf8 : is_utf8 id ≡ true) where
  -- what is read of the storage type
  abbrev ReadsStorage : ℕ → List ℕ → Type 0
  ReadsStorage levels name = (below : ℕ) (m : List ℕ) (c : Schema) → levels ≡ suc below → field_of below (storage_called name m) storage ≡ Ok c → IsStored k below (storage_called name m) c storage

  outer_read : (levels : ℕ) (name : List ℕ) (s : Schema) (o : Option Written) → ((w : Written) → o ≡ Some w → StandsFor w (extension id bytes storage)) → ReadsStorage levels name → outer_extension levels name o (metadata_for id bytes) (λ below l. field_of below l storage) ≡ Ok s → IsRead k levels name s (extension id bytes storage)
  unfolding outer_extension
  outer_read zero name s None which reads e = absurd cc
  outer_read zero name s (Some w) which reads e = absurd cc
  outer_read (suc below) name s (Some w) which reads e =
      plain_read k (suc below) (called name) s (extension id bytes storage) refl (temporal_stored k below (called name) s w (extension id bytes storage) (which w refl) e)
  outer_read (suc below) name s None which reads e =
      let b = bind_ok (metadata_for id bytes) (λ m. field_of below (storage_called name m) storage) s e in
      keyed_read k below name b.0 id bytes s storage (keys_again id bytes b.0 (metadata_made id bytes b.0 b.1)) utf8 (reads below b.0 s refl b.2)

-- ---- types

-- a label with which a type is written without an extension
abbrev IsPlain : Label → Tree → Type 0
IsPlain label (extension id bytes storage) = label.is_storage ≡ true
IsPlain label _ = Unit {0}

storage_plain : (name m : List ℕ) (t : Tree) → IsPlain (storage_called name m) t
storage_plain name m (extension id bytes storage) = refl
storage_plain name m _ = tt

abbrev Both : ℕ → ℕ → Label → Schema → Tree → Type 0
Both k levels label s t = (IsPlain label t → IsStored k levels label s t) × (label.is_storage ≡ false → label.metadata ≡ [] → IsRead k levels label.name s t)

stored_both : (k levels : ℕ) (label : Label) (s : Schema) (t : Tree) → IsStored k levels label s t → Both k levels label s t
stored_both k levels label s t stored = (λ _. stored, λ _ m. plain_read k levels label s t m stored)

extension_both : (k levels : ℕ) (label : Label) (s : Schema) (id bytes : List ℕ) (storage : Tree) (utf8 : is_utf8 id ≡ true) → Bytes bytes → ReadsStorage k id bytes storage utf8 levels label.name → field_of levels label (extension id bytes storage) ≡ Ok s → Both k levels label s (extension id bytes storage)
unfolding extension_at temporal_in
extension_both k levels label s id bytes storage utf8 are_bytes reads e = split label.is_storage refl where
  which : (w : Written) → written_of id bytes storage ≡ Some w → StandsFor w (extension id bytes storage)
  which w is = written_again id bytes storage w are_bytes is

  by : Bool → Result Schema Fault
  by c = if c then inner_extension levels label (written_of id bytes storage) else outer_extension levels label.name (written_of id bytes storage) (metadata_for id bytes) (λ below l. field_of below l storage)

  split : (c : Bool) → label.is_storage ≡ c → Both k levels label s (extension id bytes storage)
  split true is = (λ _. inner_stored k levels label s (extension id bytes storage) (written_of id bytes storage) which (sym (ap by is) ∙ e), λ no_. absurd (let clash : true ≡ false = sym is ∙ no_ in cc))
  split false is = (λ plain. absurd (let clash : true ≡ false = sym plain ∙ is in cc), λ _ _. outer_read k id bytes storage utf8 levels label.name s (written_of id bytes storage) which reads (sym (ap by is) ∙ e))

mutual
  unfolding format_from

  again : (t : Tree) (k levels : ℕ) (label : Label) (s : Schema) → 2 * levels + 1 < k → Valid t → AreTexts t → field_of levels label t ≡ Ok s → Both k levels label s t
  again of.null k levels label s lt v x e = stored_both k levels label s of.null (leaf_stored k levels label s Nullable (codes "n") f.Null (λ _. of.null) e words_again.0 (λ field. refl))
  again (of.bool n) k levels label s lt v x e = stored_both k levels label s (of.bool n) (leaf_stored k levels label s n (codes "b") f.Bool (λ m. of.bool m) e words_again.1 (λ field. refl))
  again (of.primitive p n) k levels label s lt v x e = stored_both k levels label s (of.primitive p n) (leaf_stored k levels label s n (letter_of p) (f.Primitive p) (λ m. of.primitive p m) e (letter_again p) (λ field. refl))
  again (of.decimal d n) k levels label s lt v x e =
      stored_both k levels label s (of.decimal d n) (leaf_stored k levels label s n (decimal_format d.precision d.scale) (f.Decimal d.precision d.scale) (λ m. of.decimal d m) e (decimal_again d.precision d.scale v)
      (λ field. decimal_read d (nullability_of (is_nullable (nullable_flag n))) v))
  again (of.utf8 n) k levels label s lt v x e = stored_both k levels label s (of.utf8 n) (leaf_stored k levels label s n (codes "u") f.Utf8 (λ m. of.utf8 m) e words_again.2 (λ field. refl))
  again (of.binary n) k levels label s lt v x e = stored_both k levels label s (of.binary n) (leaf_stored k levels label s n (codes "z") f.Binary (λ m. of.binary m) e words_again.3 (λ field. refl))
  again (of.list t n) zero levels label s lt v x e = absurd (omega (arith, lt))
  again (of.list t n) (suc k) levels label s lt v x e =
      stored_both (suc k) levels label s (of.list t n) (list_stored k levels label s n t (λ below name c is made. (again t k below (called name) c (omega (arith, lt, is)) v x made).1 refl refl) e)
  again (of.fixed_size_list t size n) zero levels label s lt v x e = absurd (omega (arith, lt))
  again (of.fixed_size_list t size n) (suc k) levels label s lt v x e =
      stored_both (suc k) levels label s (of.fixed_size_list t size n) (sized_stored k levels label s n t size (λ below name c is made. (again t k below (called name) c (omega (arith, lt, is)) v.1 x made).1 refl refl) e)
  again (of.map_of a b sorted n) zero levels label s lt v x e = absurd (omega (arith, lt))
  again (of.map_of a b sorted n) (suc zero) levels label s lt v x e = absurd (omega (arith, lt))
  again (of.map_of a b sorted n) (suc (suc k)) levels label s lt v x e =
      stored_both (suc (suc k)) levels label s (of.map_of a b sorted n) (map_stored k levels label s n a b sorted v.0
      (λ below name c is made. (again a k below (called name) c (omega (arith, lt, is)) v.1 x.0 made).1 refl refl)
      (λ below name c is made. (again b k below (called name) c (omega (arith, lt, is)) v.2 x.1 made).1 refl refl) e)
  again (of.struct fs n) zero levels label s lt v x e = absurd (omega (arith, lt))
  again (of.struct fs n) (suc k) levels label s lt v x e = stored_both (suc k) levels label s (of.struct fs n) (struct_stored k levels label s n fs (all_again fs k levels (omega (arith, lt)) v x) e)
  again (of.union vs n) zero levels label s lt v x e = absurd (omega (arith, lt))
  again (of.union vs n) (suc k) levels label s lt v x e = stored_both (suc k) levels label s (of.union vs n) (union_stored k levels label s n vs v.0 (all_again vs k levels (omega (arith, lt)) v.1 x) e)
  again (of.variant n) k levels label s lt v x e = absurd cc
  again (extension id bytes storage) k levels label s lt v x e =
      extension_both k levels label s id bytes storage x.0 v.0
      (λ below m c is made. (again storage k below (storage_called label.name m) c (omega (arith, lt, is)) v.1 x.1 made).0 (storage_plain label.name m storage)) e

  all_again : {h : Holder} (fs : Items h) (k levels : ℕ) → 2 * levels < k + 1 → ValidItems fs → ItemsAreTexts fs → ReadsAll k levels fs
  all_again {h} no_items k levels lt v x = none_again h k levels
  all_again (item n t g rest) k levels lt v x =
      more_again k levels n t g rest x.0 (λ below name c is made. (again t k below (called name) c (omega (arith, lt, is)) v.0 x.1 made).1 refl refl) (all_again rest k levels lt v.1 x.2)

pub round_trip : (t : Tree) (s : Schema) → Valid t → AreTexts t → to_arrow t ≡ Ok s → from_arrow s ≡ Ok t
unfolding from_arrow
round_trip t s v x e = ((again t 299 128 (called []) s (omega arith) v x e).1 refl refl).0
