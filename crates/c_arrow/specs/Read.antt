-- SPDX-License-Identifier: Apache-2.0
-- SPDX-FileCopyrightText: Copyright the Vortex contributors

-- What is read of nodes and texts: a type, or the first fault. A reader takes what it reads from the front of both lists
-- and returns it with what is left of them.
use Rattle.std.specs.Prelude.{◌≡◌, ℕ, ℤ, zero, suc, pos, List, [], ◌∷◌, Option, Some, None, Result, Ok, Err, Bool, true, false, if◌then◌else◌, ◌==◌, ◌&&◌, ◌||◌, not, length, map, take, drop, nat_eq, nat_le, nat_lt, int_lt}
use Rattle.std.specs.List.{zip}
use Rattle.std.specs.Str.{is_utf8, bytes_eq}
use Rattle.dtype_base.specs.Nullability.{nullability_of}
use Rattle.dtype_base.specs.declared.nullability.Nullability.{Nullability}
use Rattle.dtype_base.specs.declared.ptype.PType.{PType}
use Rattle.dtype_base.specs.declared.ptype.PType.TheVariants as p
use Rattle.dtype_base.specs.declared.vortex_error.VortexError.TheVariants as error
use Rattle.dtype_types.specs.nullability.Nullable.{nullability}
use Rattle.dtype_types.specs.tree.Tree as of
use Rattle.dtype_types.specs.tree.Tree.{Tree, Variants, fields, variants}
use Rattle.dtype_text.specs.TypeParts.{a_decimal, is_nonnullable}
use Rattle.dtype_text.specs.Unions.{differ, is_empty}
use Rattle.c_arrow.specs.Faults.{Fault, out_of_range, too_deep, library, refused, ◌>>=◌, or_fault, problem_of_number, read_within, Stops}
use Rattle.c_arrow.specs.Flags.{is_nullable, has_sorted_keys}
use Rattle.c_arrow.specs.Formats.{format_of}
use Rattle.c_arrow.specs.Ids.{ids_of}
use Rattle.c_arrow.specs.Kept.{id_of}
use Rattle.c_arrow.specs.Keys.{Said, said_in}
use Rattle.c_arrow.specs.Temporal.{date_tree, time_tree, timestamp_tree, or_empty}
use Rattle.c_arrow.specs.declared.fault.ArrowFault.{ArrowFault}
use Rattle.c_arrow.specs.declared.fault.Problem.{Problem}
use Rattle.c_arrow.specs.declared.fault.Problem.TheVariants as problem
use Rattle.c_arrow.specs.declared.format.Format.{Format}
use Rattle.c_arrow.specs.declared.format.Format.TheVariants as f
use Rattle.c_arrow.specs.declared.kept.Kept.{Kept}
use Rattle.c_arrow.specs.declared.kept.Kept.TheVariants as kept
use Rattle.c_arrow.specs.declared.node.ArrowNode.{ArrowNode}
use Rattle.c_arrow.specs.declared.temporal.Unit.{Unit as TimeUnit}

-- nodes and bytes that haven't been read
abbrev pub Left : Type 0
Left = List ArrowNode × List ℕ

abbrev pub Reader : Type 0 → Type 0
Reader A = Left → Result (A × Left) Fault

-- ---- fields

-- a field without its children
pub record Field : Type 0 where
  pub node : ArrowNode
  pub format : List ℕ
  pub name : List ℕ
  pub metadata : List ℕ

-- this many bytes
unfoldable pub bytes_at : ℕ → Reader (List ℕ)
bytes_at n left = if nat_lt (length left.1) n then Err out_of_range else Ok (take n left.1, (left.0, drop n left.1))

-- the field of a node, whose texts are behind one another
unfoldable pub texts_at : ArrowNode → Reader Field
texts_at node left = do
  format ← bytes_at node.format_length left
  name ← bytes_at node.name_length format.1
  metadata ← bytes_at node.metadata_length name.1
  Ok (record { node = node; format = format.0; name = name.0; metadata = metadata.0 }, metadata.1)

abbrev pub field_in : List ArrowNode → List ℕ → Result (Field × Left) Fault
field_in [] texts = Err out_of_range
field_in (n ∷ nodes) texts = if nat_le n.has_dictionary 1 then texts_at n (nodes, texts) else Err out_of_range

-- the next node with its texts
unfoldable pub field_at : Reader Field
field_at left = field_in left.0 left.1

-- the fault that a field is refused
abbrev pub refuse : {A : Type 0} → Field → Problem → Result A Fault
refuse field p = Err (refused [] field.format p)

-- a value, or the fault that a field is refused
abbrev pub or_refuse : {A : Type 0} → Field → Problem → Option A → Result A Fault
or_refuse field p = or_fault (refused [] field.format p)

-- nothing, or the fault that a field is refused
abbrev pub unless_wrong : Field → Option Problem → Result (Unit {0}) Fault
unless_wrong field None = Ok tt
unless_wrong field (Some p) = refuse field p

-- what the number of a fault in a node tells
abbrev pub told : Field → Option Problem → Result (Unit {0}) Fault
told field None = Err out_of_range
told field (Some p) = refuse field p

-- nothing, if nothing is wrong with the struct of a field
unfoldable pub sound : Field → Result (Unit {0}) Fault
sound field = if field.node.fault == 0 then Ok tt else told field (problem_of_number field.node.fault)

-- the name of a field
unfoldable pub name_of : Field → Result (List ℕ) Fault
name_of field = if is_utf8 field.name then Ok field.name else refuse field problem.Name

-- what the metadata of a field says of an extension
unfoldable pub keys_of : Field → Result Said Fault
keys_of field = or_refuse field problem.Metadata (said_in field.metadata)

-- ---- how many children a field has

abbrev pub unless : Bool → Problem → Option Problem
unless true p = None
unless false p = Some p

-- what is wrong with so many children of a field with this format
unfoldable pub wrong_count : Format → ℕ → Option Problem
wrong_count f.Struct n = None
wrong_count f.Union n = None
wrong_count f.List n = unless (n == 1) problem.OneChild
wrong_count (f.FixedSizeList size) n = unless (n == 1) problem.OneChild
wrong_count f.Map n = unless (n == 1) problem.OneChild
wrong_count f.RunEnds n = unless (n == 2) problem.TwoChildren
wrong_count _ n = unless (n == 0) problem.NoChildren

-- whether a format is that of a struct
abbrev pub is_struct : Option Format → Bool
is_struct (Some f.Struct) = true
is_struct _ = false

-- whether a field can be that of the entries of a map: a struct of two children
abbrev pub is_entries : Field → Bool
is_entries field = is_struct (format_of field.format) && (field.node.child_count == 2 && field.node.has_dictionary == 0)

-- whether a format is that of an integer, as the indices of a dictionary are
abbrev pub is_integer : PType → Bool
is_integer p.F16 = false
is_integer p.F32 = false
is_integer p.F64 = false
is_integer _ = true

abbrev pub is_index : Option Format → Bool
is_index (Some (f.Primitive p)) = is_integer p
is_index _ = false

-- ---- what the library makes

unfoldable pub decimal_of : ℕ → ℤ → Nullability → Result Tree Fault
decimal_of precision scale n =
    if precision == 0 then Err (library (error.PrecisionZero 76))
    else if nat_lt 76 precision then Err (library (error.PrecisionTooLarge precision 76))
    else if int_lt (pos 76) scale then Err (library (error.ScaleTooLarge scale (pos 76)))
    else if int_lt (pos precision) scale then Err (library (error.ScaleAbovePrecision scale precision))
    else Ok (of.decimal (a_decimal precision scale) n)

unfoldable pub map_of : Tree → Tree → Bool → Nullability → Result Tree Fault
map_of key value sorted n = if is_nonnullable (nullability key) then Ok (of.map_of key value sorted n) else Err (library error.MapKeyNullable)

-- variants with these tags
abbrev pub tagged : List (List ℕ × Tree) → List ℕ → Variants
tagged fs tags = variants (zip (map (λ f. f.0) fs) (zip (map (λ f. f.1) fs) tags))

unfoldable pub union_of : List (List ℕ × Tree) → List ℕ → Nullability → Result Tree Fault
union_of fs tags n =
    if not (length fs == length tags) then Err (library error.UnionTagsLength)
    else if is_empty fs then Err (library error.UnionEmpty)
    else if not (differ nat_eq tags) then Err (library error.UnionTagsRepeat)
    else if not (differ bytes_eq (map (λ f. f.0) fs)) then Err (library error.UnionNamesRepeat)
    else Ok (of.union (tagged fs tags) n)

-- ---- types. Each is read after the node of its field. `nullable` says whether the type is nullable, and `levels` how many
-- levels it may have.

-- a level less
abbrev pub level : ℕ → Result ℕ Fault
level zero = Err too_deep
level (suc levels) = Ok levels

-- what reads the type of a field
abbrev pub Part : Type 0
Part = Field → Bool → ℕ → Reader Tree

-- What reads the fields inside a field: nothing, if 300 fields are inside one another already, and otherwise what reads the
-- type of such a field, and what reads the fields inside that.
pub data Inside : Type 0 where
  full : Inside
  inside : Part → Inside → Inside

-- a value, with what is left of nodes and texts
abbrev pub with_left : {A : Type 0} → Left → Result A Fault → Result (A × Left) Fault
with_left left (Ok x) = Ok (x, left)
with_left left (Err e) = Err e

-- The name and the type of a field. The type is nullable if the flags of the field say so, or if `nullable` does, which is the
-- case for the values of a run-end encoded type that is nullable.
unfoldable pub named_by : Part → Field → Bool → ℕ → Reader (List ℕ × Tree)
named_by part field nullable levels left = do
  n ← name_of field
  t ← part field (nullable || is_nullable field.node.flags) levels left
  Ok ((n, t.0), t.1)

-- the next field, as its parent sees it
unfoldable pub inner_by : Part → Bool → ℕ → Reader (List ℕ × Tree)
inner_by part nullable levels left = do
  c ← field_at left
  read_within c.0.name (named_by part c.0 nullable levels c.1)

-- a child, with its name
unfoldable pub child_by : Inside → Field → Bool → ℕ → Reader (List ℕ × Tree)
child_by full parent nullable levels left = refuse parent problem.Nested
child_by (inside part more) parent nullable levels left = inner_by part nullable levels left

-- a child whose type is a part of the type, with its name
unfoldable pub part_by : Inside → Field → ℕ → Reader (List ℕ × Tree)
part_by within parent levels left = level levels >>= λ l. child_by within parent false l left

-- so many items, one after the other
abbrev pub times : {A : Type 0} → ℕ → Reader A → Reader (List A)
times zero item left = Ok ([], left)
times (suc n) item left = item left >>= λ x. times n item x.1 >>= λ xs. Ok (x.0 ∷ xs.0, xs.1)

-- The type of the values of a dictionary, whose node is the next one. The flags of the dictionary's own field say whether it is
-- nullable. Those of the values have no meaning, because a type under `dictionary` isn't a field.
unfoldable pub value_by : Part → Bool → ℕ → Reader Tree
value_by part nullable levels left = do
  v ← field_at left
  part v.0 nullable levels v.1

-- the type of the values of a dictionary
unfoldable pub values_by : Inside → Field → Bool → ℕ → Reader Tree
values_by full parent nullable levels left = refuse parent problem.Nested
values_by (inside part more) parent nullable levels left = value_by part nullable levels left

-- a dictionary whose indices have this format
unfoldable pub dictionary_by : Inside → Field → Option Format → Bool → ℕ → Reader Tree
dictionary_by within field indices nullable levels left =
    if not (is_index indices) then refuse field problem.Dictionary
    else if not (field.node.child_count == 0) then refuse field problem.NoChildren
    else values_by within field nullable levels left

unfoldable pub bytes_of : ℕ → Bool → ℕ → Result Tree Fault
bytes_of size nullable levels = level levels >>= λ l. Ok (of.fixed_size_list (of.primitive p.U8 (nullability_of false)) size (nullability_of nullable))

unfoldable pub date_of : TimeUnit → Bool → ℕ → Result Tree Fault
date_of unit nullable levels = level levels >>= λ l. Ok (date_tree unit (nullability_of nullable))

unfoldable pub time_of : TimeUnit → Bool → ℕ → Result Tree Fault
time_of unit nullable levels = level levels >>= λ l. Ok (time_tree unit (nullability_of nullable))

unfoldable pub timestamp_of : Field → TimeUnit → Bool → ℕ → Result Tree Fault
timestamp_of field unit nullable levels = level levels >>= λ l. or_refuse field problem.Zone (timestamp_tree unit (drop 4 field.format) (nullability_of nullable))

-- the storage type of what is kept: as many bytes as a value of Arrow has
unfoldable pub kept_storage : Kept → Bool → ℕ → Result Tree Fault
kept_storage kept.Duration nullable levels = Ok (of.primitive p.I64 (nullability_of nullable))
kept_storage kept.Months nullable levels = Ok (of.primitive p.I32 (nullability_of nullable))
kept_storage kept.Days nullable levels = bytes_of 8 nullable levels
kept_storage kept.Nanoseconds nullable levels = bytes_of 16 nullable levels

-- The extension that keeps the format of a field. For example, it is `arrow.duration` over `i64` with the metadata `tDs` for `tDs`.
unfoldable pub kept_type : Field → Kept → Bool → ℕ → Result Tree Fault
kept_type field it nullable levels = level levels >>= λ l. kept_storage it nullable l >>= λ t. Ok (of.extension (id_of it) field.format t)

unfoldable pub list_by : Inside → Field → Bool → ℕ → Reader Tree
list_by within field nullable levels left = do
  c ← part_by within field levels left
  Ok (of.list c.0.1 (nullability_of nullable), c.1)

unfoldable pub fixed_by : Inside → Field → ℕ → Bool → ℕ → Reader Tree
fixed_by within field size nullable levels left = do
  c ← part_by within field levels left
  Ok (of.fixed_size_list c.0.1 size (nullability_of nullable), c.1)

unfoldable pub struct_by : Inside → Field → Bool → ℕ → Reader Tree
struct_by within field nullable levels left = do
  fs ← times field.node.child_count (part_by within field levels) left
  Ok (of.struct (fields fs.0) (nullability_of nullable), fs.1)

unfoldable pub union_by : Inside → Field → Bool → ℕ → Reader Tree
union_by within field nullable levels left = do
  ids ← or_refuse field problem.Format (ids_of (drop 4 field.format))
  fs ← times field.node.child_count (part_by within field levels) left
  with_left fs.1 (union_of fs.0 ids (nullability_of nullable))

-- the key type and the value type of a map, after the node of its entries
unfoldable pub entries_by : Inside → Field → ℕ → Reader (Tree × Tree)
entries_by within entries levels left = do
  u ← sound entries
  n ← name_of entries
  key ← part_by within entries levels left
  value ← part_by within entries levels key.1
  Ok ((key.0.1, value.0.1), value.1)

-- a map of the entries that are the next field
unfoldable pub map_with : Inside → Field → Bool → ℕ → Reader Tree
map_with within field nullable levels left = do
  e ← field_at left
  if e.0.node.fault == 0 && not (is_entries e.0) then refuse field problem.Entries
      else (read_within e.0.name (entries_by within e.0 levels e.1) >>= λ kv.
      with_left kv.1 (map_of kv.0.0 kv.0.1 (has_sorted_keys field.node.flags) (nullability_of nullable)))

unfoldable pub map_by : Inside → Field → Bool → ℕ → Reader Tree
map_by full field nullable levels left = refuse field problem.Nested
map_by (inside part more) field nullable levels left = map_with more field nullable levels left

-- the type of the values of a run-end encoded type, which are its second child
unfoldable pub run_ends_by : Inside → Field → Bool → ℕ → Reader Tree
run_ends_by within field nullable levels left = do
  ends ← child_by within field false levels left
  values ← child_by within field nullable levels ends.1
  Ok (values.0.1, values.1)

-- the type of a format
unfoldable pub after_format : Inside → Field → Format → Bool → ℕ → Reader Tree
after_format within field f.Null nullable levels left = Ok (of.null, left)
after_format within field f.Bool nullable levels left = Ok (of.bool (nullability_of nullable), left)
after_format within field (f.Primitive p) nullable levels left = Ok (of.primitive p (nullability_of nullable), left)
after_format within field f.Utf8 nullable levels left = Ok (of.utf8 (nullability_of nullable), left)
after_format within field f.Binary nullable levels left = Ok (of.binary (nullability_of nullable), left)
after_format within field (f.Decimal precision scale) nullable levels left = with_left left (decimal_of precision scale (nullability_of nullable))
after_format within field (f.FixedSizeBinary size) nullable levels left = with_left left (bytes_of size nullable levels)
after_format within field (f.Date unit) nullable levels left = with_left left (date_of unit nullable levels)
after_format within field (f.Time unit) nullable levels left = with_left left (time_of unit nullable levels)
after_format within field (f.Timestamp unit) nullable levels left = with_left left (timestamp_of field unit nullable levels)
after_format within field (f.Kept it) nullable levels left = with_left left (kept_type field it nullable levels)
after_format within field f.List nullable levels left = list_by within field nullable levels left
after_format within field (f.FixedSizeList size) nullable levels left = fixed_by within field size nullable levels left
after_format within field f.Struct nullable levels left = struct_by within field nullable levels left
after_format within field f.Map nullable levels left = map_by within field nullable levels left
after_format within field f.Union nullable levels left = union_by within field nullable levels left
after_format within field f.RunEnds nullable levels left = run_ends_by within field nullable levels left

-- the same, if the field has as many children as the format needs
unfoldable pub format_by : Inside → Field → Format → Bool → ℕ → Reader Tree
format_by within field format nullable levels left = unless_wrong field (wrong_count format field.node.child_count) >>= λ u. after_format within field format nullable levels left

-- the type of a field without its extension
unfoldable pub storage_by : Inside → Field → Bool → ℕ → Reader Tree
storage_by within field nullable levels left =
    if field.node.has_dictionary == 1 then dictionary_by within field (format_of field.format) nullable levels left
    else (or_refuse field problem.Format (format_of field.format) >>= λ format. format_by within field format nullable levels left)

-- an extension with this id and this metadata
unfoldable pub extension_by : Inside → Field → List ℕ → Option (List ℕ) → Bool → ℕ → Reader Tree
extension_by within field id metadata nullable levels left =
    if is_utf8 id then (level levels >>= λ l. storage_by within field nullable l left >>= λ t. Ok (of.extension id (or_empty metadata) t.0, t.1))
    else refuse field problem.Id

-- an extension, if the metadata names one, or the type without it
abbrev pub keyed_by : Inside → Field → Option (List ℕ) → Option (List ℕ) → Bool → ℕ → Reader Tree
keyed_by within field (Some id) metadata nullable levels left = extension_by within field id metadata nullable levels left
keyed_by within field None metadata nullable levels left = storage_by within field nullable levels left

-- the type of a field
unfoldable pub type_by : Inside → Part
type_by within field nullable levels left = do
  u ← sound field
  k ← keys_of field
  keyed_by within field k.name k.metadata nullable levels left

-- what reads the fields inside a field, if so many more may be inside one another
abbrev pub inside_at : ℕ → Inside
inside_at zero = full
inside_at (suc n) = inside (type_by (inside_at n)) (inside_at n)

-- a type, if nothing is left
abbrev pub all_of : Tree × Left → Result Tree Fault
all_of (t, ([], [])) = Ok t
all_of (t, _) = Err out_of_range

-- The type of these nodes and texts. For example, it is `i32?` for one node with the flag 2 and the text `i`, and the fault
-- is `out_of_range` if a byte is left.
unfoldable pub read_flat : List ArrowNode → List ℕ → Result Tree Fault
read_flat nodes texts = do
  root ← field_at (nodes, texts)
  t ← type_by (inside_at 299) root.0 (is_nullable root.0.node.flags) 128 root.1
  all_of t

-- ---- contracts

-- what a function returned, seen by view, is what is read with what is left, unless memory ran out
abbrev pub Reads : {X Y : Type 0} → (X → Y) → Result X ArrowFault → Left → Result (Y × Left) Fault → Type 0
Reads view (Ok x) left read = read ≡ Ok (view x, left)
Reads view (Err e) left read = Stops e read
