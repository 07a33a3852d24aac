-- SPDX-License-Identifier: Apache-2.0
-- SPDX-FileCopyrightText: Copyright the Vortex contributors

-- Which messages nodes and texts describe.
use Rattle.std.specs.Prelude.{◌≡◌, ◌≤◌, ℕ, List, [], ◌∷◌, true}
use Rattle.std.specs.Str.{is_utf8}
use Rattle.dtype_messages.specs.Message.{Message, Child, Messages, list, fixed_size_list, map_of, struct, union, extension, absent, present, no_message, more}
use Rattle.c_nodes.specs.Depth.{depth}
use Rattle.c_nodes.specs.Flat.{flat_nodes, flat_texts}
use Rattle.c_nodes.specs.declared.node.Node.{Node}

-- each of these names is UTF-8
abbrev pub AreUtf8 : List (List ℕ) → Type 0
AreUtf8 [] = Unit {0}
AreUtf8 (n ∷ ns) = (is_utf8 n ≡ true) × AreUtf8 ns

-- the names and the ids of a message are UTF-8, at every depth
abbrev mutual
  pub HasTexts : Message → Type 0
  HasTexts (list c f) = ChildHasTexts c
  HasTexts (fixed_size_list c n f) = ChildHasTexts c
  HasTexts (map_of k v o f) = ChildHasTexts k × ChildHasTexts v
  HasTexts (struct ns ms f) = AreUtf8 ns × AllHaveTexts ms
  HasTexts (union ns ms gs f) = AreUtf8 ns × AllHaveTexts ms
  HasTexts (extension id c b) = (is_utf8 id ≡ true) × ChildHasTexts c
  HasTexts _ = Unit {0}

  pub ChildHasTexts : Child → Type 0
  ChildHasTexts absent = Unit {0}
  ChildHasTexts (present m) = HasTexts m

  pub AllHaveTexts : Messages → Type 0
  AllHaveTexts no_message = Unit {0}
  AllHaveTexts (more m ms) = HasTexts m × AllHaveTexts ms

-- The nodes and the texts are those of a message that is nested in no more than 128 others and whose names and ids are UTF-8.
-- For example, the node with kind 2 and no texts are those of the message of booleans.
pub record IsFlat (in_nodes : List Node) (in_texts : List ℕ) (m : Message) : Type 0 where
  pub nodes : flat_nodes m ≡ in_nodes
  pub texts : flat_texts m ≡ in_texts
  pub levels : depth m ≤ 128
  pub names : HasTexts m
