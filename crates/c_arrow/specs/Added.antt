-- SPDX-License-Identifier: Apache-2.0
-- SPDX-FileCopyrightText: Copyright the Vortex contributors

-- What a function that writes a field adds to the nodes and the bytes that were written before.
use Rattle.std.specs.Prelude.{ℕ, List, [], ◌∷◌, ◌++◌, length, Result, Ok}
use Rattle.c_arrow.specs.Faults.{Fault, ◌>>=◌, Gives}
use Rattle.c_arrow.specs.Schema.{Schema, Schemas, flat_nodes, flat_texts, all_nodes, all_texts}
use Rattle.c_arrow.specs.Write.{Label}
use Rattle.c_arrow.specs.declared.fault.ArrowFault.{ArrowFault}
use Rattle.c_arrow.specs.declared.node.ArrowNode.{ArrowNode}
use Rattle.c_arrow.specs.declared.writer.Flat.{Flat}
use Rattle.c_arrow.specs.declared.writer.Label as declared

-- nodes and bytes that were written
abbrev pub Out : Type 0
Out = List ArrowNode × List ℕ

abbrev pub out : Flat → Out
out f = (f.nodes.items, f.texts.items)

-- the label of a field as plain data
abbrev pub label_of : declared.Label → Label
label_of l = record { name = l.name.now; metadata = l.metadata.now; is_storage = l.is_storage }

-- the node of a field with so many children, and its texts, behind what was written
unfoldable pub with_node : List ℕ → ℕ → Label → ℕ → Out → Out
with_node format flags label count before = (
  before.0 ++ record { flags = flags; format_length = length format; name_length = length label.name; metadata_length = length label.metadata; child_count = count; has_dictionary = 0; fault = 0 } ∷ [],
  before.1 ++ (format ++ (label.name ++ label.metadata)),
)

-- a field behind what was written, if it has a schema
unfoldable pub with_field : Result Schema Fault → Out → Result Out Fault
with_field field before = field >>= λ s. Ok (before.0 ++ flat_nodes s, before.1 ++ flat_texts s)

-- fields behind what was written, if they have schemas
unfoldable pub with_fields : Result Schemas Fault → Out → Result Out Fault
with_fields fields before = fields >>= λ ss. Ok (before.0 ++ all_nodes ss, before.1 ++ all_texts ss)

-- this is what was written in the end, or the fault why it wasn't, unless memory ran out
abbrev pub Writes : Result Unit ArrowFault → Out → Result Out Fault → Type 0
Writes result after whole = Gives (λ _. after) result whole

-- this field is behind what `old` has, or there is the fault why it has no schema, unless memory ran out
abbrev pub WritesField : Result Unit ArrowFault → Flat → Flat → Result Schema Fault → Type 0
WritesField result old new field = Writes result (out new) (with_field field (out old))

-- the same of several fields
abbrev pub WritesFields : Result Unit ArrowFault → Flat → Flat → Result Schemas Fault → Type 0
WritesFields result old new fields = Writes result (out new) (with_fields fields (out old))
