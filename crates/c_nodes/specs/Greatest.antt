-- SPDX-License-Identifier: Apache-2.0
-- SPDX-FileCopyrightText: Copyright the Vortex contributors

-- The numbers of names, tags, types and bytes that the nodes of a message contain. Such a number has 32 bits in a node, so a
-- message has nodes only if none of them is above 2^32 - 1.
use Rattle.std.specs.Prelude.{ℕ, List, [], ◌∷◌, length, max, Option, Some, None}
use Rattle.c_nodes.specs.Flat.{count}
use Rattle.dtype_messages.specs.Message.{Message, Child, Messages, list, fixed_size_list, map_of, struct, union, extension, absent, present, no_message, more}

-- the greatest number that fits a node
abbrev pub most_in_node : ℕ
most_in_node = 4294967295

-- the number of bytes of the longest of these texts, or 0 if there is none
abbrev pub longest : List (List ℕ) → ℕ
longest [] = 0
longest (t ∷ ts) = max (length t) (longest ts)

-- the number of bytes of the metadata, or 0 if there is none
abbrev pub bytes_count : Option (List ℕ) → ℕ
bytes_count None = 0
bytes_count (Some b) = length b

-- The greatest number of names, tags, types or bytes of a text in a message. For example, of `{city=i32}` it is 4, because the name
-- has 4 bytes, and there are one name and one type.
abbrev mutual
  pub greatest : Message → ℕ
  greatest (list c f) = greatest_child c
  greatest (fixed_size_list c n f) = greatest_child c
  greatest (map_of k v o f) = max (greatest_child k) (greatest_child v)
  greatest (struct ns ms f) = max (max (length ns) (count ms)) (max (longest ns) (greatest_all ms))
  greatest (union ns ms gs f) = max (max (length ns) (max (length gs) (count ms))) (max (longest ns) (greatest_all ms))
  greatest (extension id c b) = max (max (length id) (bytes_count b)) (greatest_child c)
  greatest _ = 0

  pub greatest_child : Child → ℕ
  greatest_child absent = 0
  greatest_child (present m) = greatest m

  pub greatest_all : Messages → ℕ
  greatest_all no_message = 0
  greatest_all (more m ms) = max (greatest m) (greatest_all ms)
