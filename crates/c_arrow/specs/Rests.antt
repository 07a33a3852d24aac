-- SPDX-License-Identifier: Apache-2.0
-- SPDX-FileCopyrightText: Copyright the Vortex contributors

-- What the reader hasn't read, and what it has read of a field, as plain data; and what the clauses of the reader say.
use Rattle.std.specs.Prelude.{ℕ, List, Bool, Result}
use Rattle.std.specs.Borrow.{Bor}
use Rattle.dtype_types.specs.declared.dtype.DType.{DType}
use Rattle.dtype_types.specs.tree.Tree.{Tree}
use Rattle.dtype_types.specs.tree.TreeOf.{tree}
use Rattle.c_arrow.specs.Faults.{read_within}
use Rattle.c_arrow.specs.Read.{Field, Inside, Left, Reader, Reads, entries_by, inside_at, named_by, part_by, times, type_by}
use Rattle.c_arrow.specs.declared.fault.ArrowFault.{ArrowFault}
use Rattle.c_arrow.specs.declared.place.Place.{Place}
use Rattle.c_arrow.specs.declared.rest.Field.{Field as Read}
use Rattle.c_arrow.specs.declared.rest.Rest.{Rest}

-- the nodes and the bytes
abbrev pub left : Rest → Left
left r = (r.nodes.now, r.texts.now)

-- a field without its children
abbrev pub seen : Read → Field
seen f = record { node = f.node; format = f.format.now; name = f.name.now; metadata = f.metadata.now }

-- a name and a type, which the reader returns of a child
abbrev pub child : Bor (List ℕ) × DType → List ℕ × Tree
child r = (r.0.now, tree r.1)

-- ---- readers, which take their arguments in the order of `ReadsPart`

-- the name and the type of a field, as its parent sees them
abbrev pub seen_by : Inside → Field → Bool → ℕ → Reader (List ℕ × Tree)
seen_by within field nullable levels left = read_within field.name (named_by (type_by within) field nullable levels left)

-- the key type and the value type of a map, as the map sees them
abbrev pub seen_entries_by : Inside → Field → Bool → ℕ → Reader (Tree × Tree)
seen_entries_by within entries nullable levels left = read_within entries.name (entries_by within entries levels left)

-- the names and the types of the children of a struct or of a union
abbrev pub children_by : Inside → Field → Bool → ℕ → Reader (List (List ℕ × Tree))
children_by within field nullable levels left = times field.node.child_count (part_by within field levels) left

-- ---- clauses

-- What was returned of a field at a place, seen by view, is what this reader reads of the nodes and the bytes that were left
-- before, and what is left after it is what the reader leaves. For example, `ReadsPart tree list_by result place field.now
-- rest.old rest.new` is said of a function that reads the element type of a list and returns the list type.
abbrev pub ReadsPart : {X Y : Type 0} → (X → Y) → (Inside → Field → Bool → ℕ → Reader Y) → Result X ArrowFault → Place → Read → Rest → Rest → Type 0
ReadsPart view reader result place field old new = Reads view result (left new) (reader (inside_at place.fields) (seen field) place.nullable place.levels (left old))

-- the same of a type
abbrev pub ReadsType : (Inside → Field → Bool → ℕ → Reader Tree) → Result DType ArrowFault → Place → Read → Rest → Rest → Type 0
ReadsType reader result place field old new = ReadsPart tree reader result place field old new
