-- SPDX-License-Identifier: Apache-2.0
-- SPDX-FileCopyrightText: Copyright the Vortex contributors

-- The type of a schema that is given as plain data, or the first fault. It is what is read of the flat form (`Read`).
use Rattle.std.specs.Prelude.{ℕ, zero, suc, drop, List, [], ◌∷◌, Option, Some, None, Result, Ok, Bool, false, if◌then◌else◌, ◌||◌, not}
use Rattle.std.specs.Str.{is_utf8}
use Rattle.dtype_base.specs.Nullability.{nullability_of}
use Rattle.dtype_types.specs.tree.Tree as of
use Rattle.dtype_types.specs.tree.Tree.{Tree, fields}
use Rattle.c_arrow.specs.Faults.{Fault, ◌>>=◌, read_within}
use Rattle.c_arrow.specs.Flags.{is_nullable, has_sorted_keys}
use Rattle.c_arrow.specs.Formats.{format_of}
use Rattle.c_arrow.specs.Ids.{ids_of}
use Rattle.c_arrow.specs.Read.{Field, bytes_of, date_of, decimal_of, is_index, is_entries, kept_type, keys_of, level, map_of, name_of, or_refuse, refuse, time_of, timestamp_of, union_of}
use Rattle.c_arrow.specs.Schema.{Schema, schema, Schemas, no_schema, more, Values, no_values, values, node}
use Rattle.c_arrow.specs.Temporal.{or_empty}
use Rattle.c_arrow.specs.declared.fault.Problem.TheVariants as problem
use Rattle.c_arrow.specs.declared.format.Format.{Format}
use Rattle.c_arrow.specs.declared.format.Format.TheVariants as f

-- a field without its children
abbrev pub own : Schema → Field
own (schema flags format name metadata children vs) = record { node = node flags format name metadata children vs; format = format; name = name; metadata = metadata }

-- what makes the type of a field: `nullable` and `levels` are those of `Read`
abbrev pub Part : Type 0
Part = Schema → Bool → ℕ → Result Tree Fault

-- What makes the types of the fields inside a field: nothing, if 300 fields are inside one another already, and otherwise what
-- makes the type of such a field, and of the fields inside that.
pub data Inner : Type 0 where
  none_inner : Inner
  inner : Part → Inner → Inner

-- a type that isn't that of a child
abbrev pub with_none : Field → Schemas → Result Tree Fault → Result Tree Fault
with_none field no_schema made = made
with_none field (more c cs) made = refuse field problem.NoChildren

-- the name and the type of a child
unfoldable pub child_from : Inner → Field → Bool → ℕ → Schema → Result (List ℕ × Tree) Fault
child_from none_inner parent nullable levels c = refuse parent problem.Nested
child_from (inner part inside) parent nullable levels c = read_within (own c).name (name_of (own c) >>= λ n. part c (nullable || is_nullable (own c).node.flags) levels >>= λ t. Ok (n, t))

-- the same of a child whose type is a part of the type
unfoldable pub part_from : Inner → Field → ℕ → Schema → Result (List ℕ × Tree) Fault
part_from w parent levels c = level levels >>= λ l. child_from w parent false l c

-- the same of each child
abbrev pub each : {A : Type 0} → (Schema → Result A Fault) → Schemas → Result (List A) Fault
each item no_schema = Ok []
each item (more s ss) = item s >>= λ x. each item ss >>= λ xs. Ok (x ∷ xs)

unfoldable pub list_from : Inner → Field → Bool → ℕ → Schemas → Result Tree Fault
list_from w field nullable levels (more c no_schema) = part_from w field levels c >>= λ e. Ok (of.list e.1 (nullability_of nullable))
list_from w field nullable levels _ = refuse field problem.OneChild

unfoldable pub fixed_from : Inner → Field → ℕ → Bool → ℕ → Schemas → Result Tree Fault
fixed_from w field size nullable levels (more c no_schema) = part_from w field levels c >>= λ e. Ok (of.fixed_size_list e.1 size (nullability_of nullable))
fixed_from w field size nullable levels _ = refuse field problem.OneChild

unfoldable pub struct_from : Inner → Field → Bool → ℕ → Schemas → Result Tree Fault
struct_from w field nullable levels cs = each (part_from w field levels) cs >>= λ fs. Ok (of.struct (fields fs) (nullability_of nullable))

unfoldable pub union_from : Inner → Field → Bool → ℕ → Schemas → Result Tree Fault
union_from w field nullable levels cs = do
  ids ← or_refuse field problem.Format (ids_of (drop 4 field.format))
  fs ← each (part_from w field levels) cs
  union_of fs ids (nullability_of nullable)

-- the key type and the value type of a map, of the entries of which these are the children
unfoldable pub entries_from : Inner → Field → ℕ → Schemas → Result (Tree × Tree) Fault
entries_from w entries levels (more k (more v no_schema)) = do
  n ← name_of entries
  key ← part_from w entries levels k
  value ← part_from w entries levels v
  Ok (key.1, value.1)
entries_from w entries levels _ = refuse entries problem.Entries

-- a map of the entries
unfoldable pub map_of_entries : Inner → Field → Bool → ℕ → Schema → Result Tree Fault
map_of_entries none_inner field nullable levels e = refuse field problem.Nested
map_of_entries (inner part inside) field nullable levels (schema flags format name metadata cs vs) =
    let entries = own (schema flags format name metadata cs vs) in
    if not (is_entries entries) then refuse field problem.Entries
    else (read_within name (entries_from inside entries levels cs) >>= λ kv. map_of kv.0 kv.1 (has_sorted_keys field.node.flags) (nullability_of nullable))

unfoldable pub map_from : Inner → Field → Bool → ℕ → Schemas → Result Tree Fault
map_from w field nullable levels (more e no_schema) = map_of_entries w field nullable levels e
map_from w field nullable levels _ = refuse field problem.OneChild

-- the type of the values of a run-end encoded type, which are its second child
unfoldable pub run_ends_from : Inner → Field → Bool → ℕ → Schemas → Result Tree Fault
run_ends_from w field nullable levels (more ends (more vs no_schema)) = child_from w field false levels ends >>= λ e. child_from w field nullable levels vs >>= λ v. Ok v.1
run_ends_from w field nullable levels _ = refuse field problem.TwoChildren

-- the type of a format: a row of the table each
unfoldable pub format_from : Inner → Field → Format → Bool → ℕ → Schemas → Result Tree Fault
format_from w field f.Null nullable levels cs = with_none field cs (Ok of.null)
format_from w field f.Bool nullable levels cs = with_none field cs (Ok (of.bool (nullability_of nullable)))
format_from w field (f.Primitive p) nullable levels cs = with_none field cs (Ok (of.primitive p (nullability_of nullable)))
format_from w field f.Utf8 nullable levels cs = with_none field cs (Ok (of.utf8 (nullability_of nullable)))
format_from w field f.Binary nullable levels cs = with_none field cs (Ok (of.binary (nullability_of nullable)))
format_from w field (f.Decimal precision scale) nullable levels cs = with_none field cs (decimal_of precision scale (nullability_of nullable))
format_from w field (f.FixedSizeBinary size) nullable levels cs = with_none field cs (bytes_of size nullable levels)
format_from w field (f.Date unit) nullable levels cs = with_none field cs (date_of unit nullable levels)
format_from w field (f.Time unit) nullable levels cs = with_none field cs (time_of unit nullable levels)
format_from w field (f.Kept it) nullable levels cs = with_none field cs (kept_type field it nullable levels)
format_from w field (f.Timestamp unit) nullable levels cs = with_none field cs (timestamp_of field unit nullable levels)
format_from w field f.List nullable levels cs = list_from w field nullable levels cs
format_from w field (f.FixedSizeList size) nullable levels cs = fixed_from w field size nullable levels cs
format_from w field f.Struct nullable levels cs = struct_from w field nullable levels cs
format_from w field f.Map nullable levels cs = map_from w field nullable levels cs
format_from w field f.Union nullable levels cs = union_from w field nullable levels cs
format_from w field f.RunEnds nullable levels cs = run_ends_from w field nullable levels cs

-- the type of the values of a dictionary
unfoldable pub values_from : Inner → Field → Bool → ℕ → Schema → Result Tree Fault
values_from none_inner parent nullable levels v = refuse parent problem.Nested
values_from (inner part inside) parent nullable levels v = part v nullable levels

-- the type of a field without its extension: that of the values, if it is a dictionary, whose indices are integers
unfoldable pub storage_from : Inner → Field → Bool → ℕ → Schemas → Values → Result Tree Fault
storage_from w field nullable levels cs no_values = or_refuse field problem.Format (format_of field.format) >>= λ format. format_from w field format nullable levels cs
storage_from w field nullable levels cs (values v) =
    if not (is_index (format_of field.format)) then refuse field problem.Dictionary
    else with_none field cs (values_from w field nullable levels v)

-- an extension, if the metadata names one, or the type without it
unfoldable pub keyed_from : Inner → Field → Option (List ℕ) → Option (List ℕ) → Bool → ℕ → Schemas → Values → Result Tree Fault
keyed_from w field (Some id) metadata nullable levels cs vs =
    if is_utf8 id then (level levels >>= λ l. storage_from w field nullable l cs vs >>= λ t. Ok (of.extension id (or_empty metadata) t))
    else refuse field problem.Id
keyed_from w field None metadata nullable levels cs vs = storage_from w field nullable levels cs vs

-- the type of a field
unfoldable pub type_from : Inner → Part
type_from w (schema flags format name metadata cs vs) nullable levels =
    let field = own (schema flags format name metadata cs vs) in
    keys_of field >>= λ k. keyed_from w field k.name k.metadata nullable levels cs vs

-- what makes the types of the fields inside a field, if so many more may be inside one another
abbrev pub inner_at : ℕ → Inner
inner_at zero = none_inner
inner_at (suc n) = inner (type_from (inner_at n)) (inner_at n)

-- The type of a schema. For example, it is `{a=i32?}` of a struct with the child `a`, which has the format `i` and the flag 2.
unfoldable pub from_arrow : Schema → Result Tree Fault
from_arrow s = type_from (inner_at 299) s (is_nullable (own s).node.flags) 128
