-- SPDX-License-Identifier: Apache-2.0
-- SPDX-FileCopyrightText: Copyright the Vortex contributors

-- The schema that is written of a type for Arrow's C data interface, or why there is none. A fault is the first that is met
-- when the fields are written in the order of the flat form.
use Rattle.std.specs.Prelude.{ℕ, zero, suc, List, [], ◌++◌, codes, Bool, true, false, not, ◌&&◌, Option, Some, None, Result, Ok, Err, if◌then◌else◌}
use Rattle.dtype_base.specs.declared.nullability.Nullability.{Nullability}
use Rattle.dtype_base.specs.declared.nullability.Nullability.TheVariants.{NonNullable, Nullable}
use Rattle.dtype_types.specs.parts.Lookups.{variant_tags}
use Rattle.dtype_types.specs.tree.Tree.{Tree, Holder, Items, no_items, item, triples, null, bool, primitive, decimal, utf8, binary, list, fixed_size_list, map_of, struct, union, variant, extension}
use Rattle.c_arrow.specs.Faults.{Fault, ◌>>=◌, or_fault, read_within, refused, too_deep}
use Rattle.c_arrow.specs.Flags.{flags_of}
use Rattle.c_arrow.specs.FormatsWritten.{bytes_format, checked_nul, decimal_format, fixed_size_format, letter_of, union_format}
use Rattle.c_arrow.specs.Kept.{is_byte}
use Rattle.c_arrow.specs.Keys.{extension_metadata, is_tensor}
use Rattle.c_arrow.specs.Read.{level}
use Rattle.c_arrow.specs.Schema.{Schema, Schemas, schema, no_schema, more, no_values, flat}
use Rattle.c_arrow.specs.Temporal.{Written, temporal_in}
use Rattle.c_arrow.specs.declared.fault.Problem.{Problem}
use Rattle.c_arrow.specs.declared.fault.Problem.TheVariants as problem
use Rattle.c_arrow.specs.declared.node.ArrowNode.{ArrowNode}

-- the fault that a type has no Arrow type
abbrev pub no_type : Problem → Fault
no_type p = refused [] [] p

-- the name of a field, its metadata, and whether its type is the storage type of an extension
pub record Label : Type 0 where
  pub name : List ℕ
  pub metadata : List ℕ
  pub is_storage : Bool

-- the label of a field without metadata
abbrev pub called : List ℕ → Label
called name = record { name = name; metadata = []; is_storage = false }

-- the label of a field that is an extension with this metadata, whose storage type is written
abbrev pub storage_called : List ℕ → List ℕ → Label
storage_called name metadata = record { name = name; metadata = metadata; is_storage = true }

-- the flags of a field that is no map, which tell whether it is nullable
abbrev pub nullable_flag : Nullability → ℕ
nullable_flag Nullable = flags_of true false
nullable_flag NonNullable = flags_of false false

-- the flags of a map, which tell also whether its keys are sorted
abbrev pub map_flags : Nullability → Bool → ℕ
map_flags Nullable sorted = flags_of true sorted
map_flags NonNullable sorted = flags_of false sorted

-- a field without children
unfoldable pub leaf : List ℕ → Label → Nullability → Result Schema Fault
leaf format label n = Ok (schema (nullable_flag n) format label.name label.metadata no_schema no_values)

-- a field with these children
unfoldable pub parent : List ℕ → ℕ → Label → Result Schemas Fault → Result Schema Fault
parent format flags label children = do
  cs ← children
  Ok (schema flags format label.name label.metadata cs no_values)

-- no children, and a child before others
abbrev pub none : Result Schemas Fault
none = Ok no_schema

unfoldable pub before : Result Schema Fault → Result Schemas Fault → Result Schemas Fault
before first rest = do
  c ← first
  cs ← rest
  Ok (more c cs)

-- Whether a fixed-size list of these elements is written as byte strings of one length: if its elements are bytes that can't be
-- null, and it isn't the storage type of a tensor. For example, so is `fixed_size_list(u8)[16]`, which a column of UUIDs has.
unfoldable pub are_bytes : Label → Tree → Bool
are_bytes label element = is_byte element && not (is_tensor label.metadata)

-- byte strings of one length, which take a level as lists do
unfoldable pub bytes_field : ℕ → Label → ℕ → Nullability → Result Schema Fault
bytes_field levels label size n = do
  format ← bytes_format size
  below ← level levels
  leaf format label n

-- a fixed-size list with this element
abbrev pub fixed_field : Label → Result Schema Fault → ℕ → Nullability → Result Schema Fault
fixed_field label element size n = fixed_size_format size >>= λ format. parent format (nullable_flag n) label (before element none)

-- the key and the value of a map
abbrev pub entries : Result Schema Fault → Result Schema Fault → Result Schemas Fault
entries key value = before key (before value none)

-- A map with this key and this value. They are the children of its one child `entries`, which is a struct and not nullable.
unfoldable pub map_field : Label → Result Schemas Fault → Bool → Nullability → Result Schema Fault
map_field label key_and_value sorted n =
    let entry = parent (codes "+s") (nullable_flag NonNullable) (called (codes "entries")) (read_within (codes "entries") key_and_value) in
    parent (codes "+m") (map_flags n sorted) label (before entry none)

-- a field with this name, if the name can be written
unfoldable pub named : List ℕ → Result Schema Fault → Result Schema Fault
named name field = checked_nul name >>= λ _. field

-- The child with this name, a level deeper. `field` makes it of the levels that are left and of its label.
unfoldable pub child : ℕ → List ℕ → (ℕ → Label → Result Schema Fault) → Result Schema Fault
child zero name field = Err too_deep
child (suc levels) name field = read_within name (named name (field levels (called name)))

-- a level less, if it is taken
unfoldable pub level_if : Bool → ℕ → Result ℕ Fault
level_if true levels = level levels
level_if false levels = Ok levels

-- a date, a time, a timestamp, a duration or an interval, whose storage type may have so many levels
unfoldable pub temporal : ℕ → Label → Written → Result Schema Fault
temporal levels label t = do
  u ← checked_nul t.zone
  below ← level_if t.is_list levels
  leaf (t.letters ++ t.zone) label t.nullability

-- An extension within an extension. It has an Arrow type only if it is a date, a time, a timestamp, a duration or an interval.
unfoldable pub inner_extension : ℕ → Label → Option Written → Result Schema Fault
inner_extension levels label None = Err (no_type problem.Extension)
inner_extension zero label (Some t) = Err too_deep
inner_extension (suc levels) label (Some t) = temporal levels label t

-- the metadata that says which extension a field is
unfoldable pub metadata_for : List ℕ → List ℕ → Result (List ℕ) Fault
metadata_for id bytes = checked_nul id >>= λ _. or_fault (no_type problem.Length) (extension_metadata id bytes)

-- An extension that is no other's storage type: a date, a time, a timestamp, a duration or an interval, or else its storage type
-- with metadata.
unfoldable pub outer_extension : ℕ → List ℕ → Option Written → Result (List ℕ) Fault → (ℕ → Label → Result Schema Fault) → Result Schema Fault
outer_extension zero name t metadata storage = Err too_deep
outer_extension (suc levels) name (Some t) metadata storage = temporal levels (called name) t
outer_extension (suc levels) name None metadata storage = metadata >>= λ bytes. storage levels (storage_called name bytes)

-- an extension with this id and these bytes of metadata, which has a format of its own if `t` is there
unfoldable pub extension_at : ℕ → Label → List ℕ → List ℕ → Option Written → (ℕ → Label → Result Schema Fault) → Result Schema Fault
extension_at levels label id bytes t storage = if label.is_storage then inner_extension levels label t else outer_extension levels label.name t (metadata_for id bytes) storage

abbrev mutual
  -- the field of a type with this label, which may have so many levels
  pub field_of : ℕ → Label → Tree → Result Schema Fault
  field_of levels label null = leaf (codes "n") label Nullable
  field_of levels label (bool n) = leaf (codes "b") label n
  field_of levels label (primitive p n) = leaf (letter_of p) label n
  field_of levels label (decimal d n) = leaf (decimal_format d.precision d.scale) label n
  field_of levels label (utf8 n) = leaf (codes "u") label n
  field_of levels label (binary n) = leaf (codes "z") label n
  field_of levels label (list t n) = parent (codes "+l") (nullable_flag n) label (before (child levels (codes "item") (λ below l. field_of below l t)) none)
  field_of levels label (fixed_size_list t size n) =
      if are_bytes label t then bytes_field levels label size n else fixed_field label (child levels (codes "item") (λ below l. field_of below l t)) size n
  field_of levels label (map_of k v sorted n) = map_field label (entries (child levels (codes "key") (λ below l. field_of below l k)) (child levels (codes "value") (λ below l. field_of below l v))) sorted n
  field_of levels label (struct fs n) = parent (codes "+s") (nullable_flag n) label (children_of levels fs)
  field_of levels label (union vs n) = do
    format ← union_format (variant_tags (triples vs))
    parent format (nullable_flag n) label (children_of levels vs)
  field_of levels label (variant n) = Err (no_type problem.Variant)
  field_of levels label (extension id bytes storage) = extension_at levels label id bytes (temporal_in (extension id bytes storage)) (λ below l. field_of below l storage)

  -- the fields of the items of a struct or of a union
  pub children_of : {h : Holder} → ℕ → Items h → Result Schemas Fault
  children_of levels no_items = none
  children_of levels (item name t tag rest) = before (child levels name (λ below l. field_of below l t)) (children_of levels rest)

-- the child of this type
abbrev pub child_of : ℕ → List ℕ → Tree → Result Schema Fault
child_of levels name t = child levels name (λ below l. field_of below l t)

-- a field with this name and of this type, if the name can be written
abbrev pub named_of : ℕ → List ℕ → Tree → Result Schema Fault
named_of levels name t = named name (field_of levels (called name) t)

-- the key and the value of a map, of these types
abbrev pub entries_of : ℕ → Tree → Tree → Result Schemas Fault
entries_of levels k v = entries (child_of levels (codes "key") k) (child_of levels (codes "value") v)

-- The schema of a type, or the fault why there is none. The name of the root is empty, and a type may have 128 levels. For
-- example, the schema of `{a=i32?}` is a field with the format `+s` and one child: `a`, with the format `i` and the flags 2.
abbrev pub to_arrow : Tree → Result Schema Fault
to_arrow t = field_of 128 (called []) t

-- the nodes and the texts of the schema of a type
abbrev pub nodes_and_texts : Tree → Result (List ArrowNode × List ℕ) Fault
nodes_and_texts t = to_arrow t >>= λ s. Ok (flat s)
