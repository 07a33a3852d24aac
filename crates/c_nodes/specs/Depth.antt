-- SPDX-License-Identifier: Apache-2.0
-- SPDX-FileCopyrightText: Copyright the Vortex contributors

-- How deep messages are nested, as trees and as nodes. The limit is a choice of this port: no message of the flat form
-- is nested in more than 128 others, so that dropping a message can't exhaust the stack.
use Rattle.std.specs.Prelude.{ℕ, List, [], ◌∷◌, ◌+◌, ◌&&◌, ◌||◌, ◌==◌, nat_le, max, Bool}
use Rattle.dtype_messages.specs.Message.{Message, Child, Messages, list, fixed_size_list, map_of, struct, union, extension, absent, present, no_message, more}
use Rattle.c_nodes.specs.declared.node.Node.{Node}
use Rattle.c_nodes.specs.Flat.{bit}

-- the number of messages in which the deepest part of a message is nested, for example 0 for a message without parts
-- and 1 for a list of integers
abbrev mutual
  pub depth : Message → ℕ
  depth (list c f) = depth_child c
  depth (fixed_size_list c n f) = depth_child c
  depth (map_of k v o f) = max (depth_child k) (depth_child v)
  depth (struct ns ms f) = depth_all ms
  depth (union ns ms gs f) = depth_all ms
  depth (extension id c b) = depth_child c
  depth _ = 0

  pub depth_child : Child → ℕ
  depth_child absent = 0
  depth_child (present m) = 1 + depth m

  pub depth_all : Messages → ℕ
  depth_all no_message = 0
  depth_all (more m ms) = max (1 + depth m) (depth_all ms)

-- whether a node of this kind may have parts, which is true of lists, fixed-size lists, maps, structs, unions and
-- extensions
abbrev pub may_have_parts : ℕ → Bool
may_have_parts k = (nat_le 7 k && nat_le k 11) || (k == 13)

-- how many of these nodes may have parts; each level of nesting needs one such node, so no message that these nodes
-- describe is nested in more others than this number
unfoldable pub holders : List Node → ℕ
holders [] = 0
holders (n ∷ ns) = bit (may_have_parts n.kind) + holders ns
