-- SPDX-License-Identifier: Apache-2.0
-- SPDX-FileCopyrightText: Copyright the Vortex contributors

-- A field of an Arrow schema as plain data, and its flat form. The fields are those of the struct of Arrow's C data
-- interface: the flags, the format, the name, the metadata, the children, and the type of a dictionary's values.
use Rattle.std.specs.Prelude.{ℕ, List, [], ◌∷◌, ◌++◌, ◌+◌, length}
use Rattle.c_arrow.specs.declared.node.ArrowNode.{ArrowNode}

mutual
  pub data Schema : Type 0 where
    -- the flags, the format, the name, the metadata, the children and the values
    schema : ℕ → List ℕ → List ℕ → List ℕ → Schemas → Values → Schema

  pub data Schemas : Type 0 where
    no_schema : Schemas
    more : Schema → Schemas → Schemas

  -- the type of the values, if the field is a dictionary
  pub data Values : Type 0 where
    no_values : Values
    values : Schema → Values

abbrev pub count : Schemas → ℕ
count no_schema = 0
count (more s ss) = 1 + count ss

abbrev pub has_values : Values → ℕ
has_values no_values = 0
has_values (values s) = 1

abbrev pub node : ℕ → List ℕ → List ℕ → List ℕ → Schemas → Values → ArrowNode
node flags format name metadata children vs = record { flags = flags; format_length = length format; name_length = length name; metadata_length = length metadata; child_count = count children; has_dictionary = has_values vs; fault = 0 }

-- The nodes of a field: its own, then those of its children, then those of its dictionary's values. For example, the struct
-- with one column has two nodes.
abbrev mutual
  pub flat_nodes : Schema → List ArrowNode
  flat_nodes (schema flags format name metadata children vs) = node flags format name metadata children vs ∷ (all_nodes children ++ value_nodes vs)

  pub all_nodes : Schemas → List ArrowNode
  all_nodes no_schema = []
  all_nodes (more s ss) = flat_nodes s ++ all_nodes ss

  pub value_nodes : Values → List ArrowNode
  value_nodes no_values = []
  value_nodes (values s) = flat_nodes s

-- the bytes of the formats, names and metadata, in the order of the nodes
abbrev mutual
  pub flat_texts : Schema → List ℕ
  flat_texts (schema flags format name metadata children vs) = format ++ (name ++ (metadata ++ (all_texts children ++ value_texts vs)))

  pub all_texts : Schemas → List ℕ
  all_texts no_schema = []
  all_texts (more s ss) = flat_texts s ++ all_texts ss

  pub value_texts : Values → List ℕ
  value_texts no_values = []
  value_texts (values s) = flat_texts s

-- the flat form of a schema
abbrev pub flat : Schema → List ArrowNode × List ℕ
flat s = (flat_nodes s, flat_texts s)
