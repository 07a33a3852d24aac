-- SPDX-License-Identifier: Apache-2.0
-- SPDX-FileCopyrightText: Copyright the Vortex contributors

-- The flat form of a message: its nodes in order, and the bytes of its texts in the same order. The node of a message
-- comes before the nodes of its texts, of its tags and of its parts. The fields of a node and their order are a choice
-- of this port.
use Rattle.std.specs.Prelude.{◌≡◌, ℕ, ℤ, pos, List, [], ◌∷◌, ◌++◌, ◌+◌, length, map, Option, Some, None, Bool, true, false}
use Rattle.std.specs.List.{flat_map}
use Rattle.std.specs.String.{string_bytes}
use Rattle.std.specs.declared.alloc.Global.{Global}
use Rattle.std.specs.declared.boxed.Box.{Box}
use Rattle.std.specs.declared.string.String.{String}
use Rattle.std.specs.declared.vec.Vec.{Vec}
use Rattle.dtype_messages.specs.MessageOf.{message, child_message, bytes_of}
use Rattle.dtype_messages.specs.declared.pb.DType.{DType}
use Rattle.dtype_messages.specs.Message.{Message, Child, Messages, messages, missing, null, bool, primitive, decimal, utf8, binary, list, fixed_size_list, map_of, struct, union, variant, extension, absent, present, no_message, more}
use Rattle.c_nodes.specs.declared.node.Node.{Node}

-- a flag as a number
abbrev pub bit : Bool → ℕ
bit true = 1
bit false = 0

-- the node of each kind, made from the values of the fields of the message
abbrev pub plain : ℕ → Node
plain k = record { kind = k; nullable = 0; keys_sorted = 0; has_first = 0; has_second = 0; names = 0; tags = 0; types = 0; number = 0; value = pos 0 }

abbrev pub flagged : ℕ → Bool → Node
flagged k f = record { kind = k; nullable = bit f; keys_sorted = 0; has_first = 0; has_second = 0; names = 0; tags = 0; types = 0; number = 0; value = pos 0 }

abbrev pub primitive_node : ℤ → Bool → Node
primitive_node p f = record { kind = 3; nullable = bit f; keys_sorted = 0; has_first = 0; has_second = 0; names = 0; tags = 0; types = 0; number = 0; value = p }

abbrev pub decimal_node : ℕ → ℤ → Bool → Node
decimal_node p s f = record { kind = 4; nullable = bit f; keys_sorted = 0; has_first = 0; has_second = 0; names = 0; tags = 0; types = 0; number = p; value = s }

-- the node of a list, for which the size is 0, or of a fixed-size list
abbrev pub part_node : ℕ → Bool → ℕ → Bool → Node
part_node k has n f = record { kind = k; nullable = bit f; keys_sorted = 0; has_first = bit has; has_second = 0; names = 0; tags = 0; types = 0; number = n; value = pos 0 }

abbrev pub map_node : Bool → Bool → Bool → Bool → Node
map_node k v o f = record { kind = 9; nullable = bit f; keys_sorted = bit o; has_first = bit k; has_second = bit v; names = 0; tags = 0; types = 0; number = 0; value = pos 0 }

-- the node of a struct, which has no tags, or of a union
abbrev pub fields_node : ℕ → ℕ → ℕ → ℕ → Bool → Node
fields_node k ns gs ts f = record { kind = k; nullable = bit f; keys_sorted = 0; has_first = 0; has_second = 0; names = ns; tags = gs; types = ts; number = 0; value = pos 0 }

abbrev pub extension_node : Bool → Bool → Node
extension_node s b = record { kind = 13; nullable = 0; keys_sorted = 0; has_first = bit s; has_second = bit b; names = 0; tags = 0; types = 0; number = 0; value = pos 0 }

-- the node of a text of this many bytes
abbrev pub sized_node : ℕ → Node
sized_node n = record { kind = 14; nullable = 0; keys_sorted = 0; has_first = 0; has_second = 0; names = 0; tags = 0; types = 0; number = n; value = pos 0 }

abbrev pub tag_node : ℤ → Node
tag_node t = record { kind = 15; nullable = 0; keys_sorted = 0; has_first = 0; has_second = 0; names = 0; tags = 0; types = 0; number = 0; value = t }

abbrev pub text_node : List ℕ → Node
text_node t = sized_node (length t)

-- whether there is a part, and whether there is metadata
abbrev pub is_present : Child → Bool
is_present absent = false
is_present (present m) = true

abbrev pub has_bytes : Option (List ℕ) → Bool
has_bytes None = false
has_bytes (Some b) = true

abbrev pub count : Messages → ℕ
count no_message = 0
count (more m ms) = 1 + count ms

abbrev pub bytes_nodes : Option (List ℕ) → List Node
bytes_nodes None = []
bytes_nodes (Some b) = text_node b ∷ []

abbrev pub bytes_texts : Option (List ℕ) → List ℕ
bytes_texts None = []
bytes_texts (Some b) = b

-- the nodes of a message
abbrev mutual
  pub flat_nodes : Message → List Node
  flat_nodes missing = plain 0 ∷ []
  flat_nodes null = plain 1 ∷ []
  flat_nodes (bool f) = flagged 2 f ∷ []
  flat_nodes (primitive p f) = primitive_node p f ∷ []
  flat_nodes (decimal p s f) = decimal_node p s f ∷ []
  flat_nodes (utf8 f) = flagged 5 f ∷ []
  flat_nodes (binary f) = flagged 6 f ∷ []
  flat_nodes (list c f) = part_node 7 (is_present c) 0 f ∷ part_nodes c
  flat_nodes (fixed_size_list c n f) = part_node 8 (is_present c) n f ∷ part_nodes c
  flat_nodes (map_of k v o f) = map_node (is_present k) (is_present v) o f ∷ (part_nodes k ++ part_nodes v)
  flat_nodes (struct ns ms f) = fields_node 10 (length ns) 0 (count ms) f ∷ (map text_node ns ++ all_nodes ms)
  flat_nodes (union ns ms gs f) = fields_node 11 (length ns) (length gs) (count ms) f ∷ (map text_node ns ++ (map tag_node gs ++ all_nodes ms))
  flat_nodes (variant f) = flagged 12 f ∷ []
  flat_nodes (extension id c b) = extension_node (is_present c) (has_bytes b) ∷ (text_node id ∷ (bytes_nodes b ++ part_nodes c))

  pub part_nodes : Child → List Node
  part_nodes absent = []
  part_nodes (present m) = flat_nodes m

  pub all_nodes : Messages → List Node
  all_nodes no_message = []
  all_nodes (more m ms) = flat_nodes m ++ all_nodes ms

-- the bytes of the texts of a message
abbrev mutual
  pub flat_texts : Message → List ℕ
  flat_texts missing = []
  flat_texts null = []
  flat_texts (bool f) = []
  flat_texts (primitive p f) = []
  flat_texts (decimal p s f) = []
  flat_texts (utf8 f) = []
  flat_texts (binary f) = []
  flat_texts (list c f) = part_texts c
  flat_texts (fixed_size_list c n f) = part_texts c
  flat_texts (map_of k v o f) = part_texts k ++ part_texts v
  flat_texts (struct ns ms f) = flat_map (λ n. n) ns ++ all_texts ms
  flat_texts (union ns ms gs f) = flat_map (λ n. n) ns ++ all_texts ms
  flat_texts (variant f) = []
  flat_texts (extension id c b) = id ++ (bytes_texts b ++ part_texts c)

  pub part_texts : Child → List ℕ
  part_texts absent = []
  part_texts (present m) = flat_texts m

  pub all_texts : Messages → List ℕ
  all_texts no_message = []
  all_texts (more m ms) = flat_texts m ++ all_texts ms

-- the message of a map, of a struct, of a union and of an extension, made from the fields of the `pb` struct
abbrev pub map_with : Option (Box DType Global) → Option (Box DType Global) → Bool → Bool → Message
map_with key value o f = map_of (child_message key) (child_message value) o f

abbrev pub struct_of : List (String Global) → List DType → Bool → Message
struct_of names dtypes f = struct (map string_bytes names) (messages (map message dtypes)) f

abbrev pub union_of : List (String Global) → List ℤ → List DType → Bool → Message
union_of names tags dtypes f = union (map string_bytes names) (messages (map message dtypes)) tags f

abbrev pub extension_of : String Global → Option (Vec ℕ Global) → Option (Box DType Global) → Message
extension_of id metadata storage = extension (string_bytes id) (child_message storage) (bytes_of metadata)

-- the new list is the old list followed by what was added
abbrev pub GrowsBy : {X : Type 0} → List X → List X → List X → Type 0
GrowsBy added old new = new ≡ old ++ added
