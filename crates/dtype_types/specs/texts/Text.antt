-- SPDX-License-Identifier: Apache-2.0
-- SPDX-FileCopyrightText: Copyright the Vortex contributors

-- The text of a type: first its kind, then its parts in parentheses, brackets or braces, and `?` at the end if it is
-- nullable. Names are escaped, and ids are written as they are. For example, `list(utf8)?`. From the `Display` of
-- `DType`.
use Rattle.std.specs.Prelude.{ℕ, List, [], ◌∷◌, ◌++◌, codes, decimal as digits, length, Bool, true, false, if◌then◌else◌}
use Rattle.std.specs.List.{join_by}
use Rattle.dtype_base.specs.Decimals.{decimal_text}
use Rattle.dtype_base.specs.Escapes.{escaped}
use Rattle.dtype_base.specs.Nullability.{nullability_text}
use Rattle.dtype_base.specs.Primitives.{ptype_row}
use Rattle.dtype_types.specs.parts.Lookups.{variant_tags}
use Rattle.dtype_types.specs.parts.Unions.{are_consecutive}
use Rattle.dtype_types.specs.tree.Tree.{Tree, no_items, item, null, bool, primitive, decimal, utf8, binary, list, fixed_size_list, map_of, struct, union, variant, extension, triples, Items, Holder, a_struct, a_union, Tag}

-- true or false
abbrev pub bool_text : Bool → List ℕ
bool_text b = if b then codes "true" else codes "false"

-- the number of bytes of the metadata of an extension, followed by `B`
abbrev pub metadata_text : List ℕ → List ℕ
metadata_text bytes = digits (length bytes) ++ codes "B"

-- `@` and the tag, or nothing if the tags of the union are consecutive
abbrev pub tag_text : Bool → ℕ → List ℕ
tag_text true g = []
tag_text false g = codes "@" ++ digits g

-- the text of the tag of a variant, or nothing for a field
abbrev pub item_tag : (h : Holder) → Bool → Tag h → List ℕ
item_tag a_struct c g = []
item_tag a_union c g = tag_text c g

abbrev mutual
  -- the text of a type
  pub text : Tree → List ℕ
  text null = codes "null"
  text (bool n) = codes "bool" ++ nullability_text n
  text (primitive p n) = (ptype_row p).text ++ nullability_text n
  text (decimal d n) = decimal_text d ++ nullability_text n
  text (utf8 n) = codes "utf8" ++ nullability_text n
  text (binary n) = codes "binary" ++ nullability_text n
  text (list t n) = codes "list(" ++ (text t ++ (codes ")" ++ nullability_text n))
  text (fixed_size_list t k n) = codes "fixed_size_list(" ++ (text t ++ (codes ")[" ++ (digits k ++ (codes "]" ++ nullability_text n))))
  text (map_of k v s n) = codes "map(" ++ (text k ++ (codes ", " ++ (text v ++ (codes ", keys_sorted=" ++ (bool_text s ++ (codes ")" ++ nullability_text n))))))
  text (struct fs n) = codes "{" ++ (join_by (λ t. t) (codes ", ") (item_texts true fs) ++ (codes "}" ++ nullability_text n))
  text (union vs n) = codes "union(" ++ (join_by (λ t. t) (codes ", ") (item_texts (are_consecutive (variant_tags (triples vs))) vs) ++ (codes ")" ++ nullability_text n))
  text (variant n) = codes "variant" ++ nullability_text n
  text (extension id b s) = id ++ (codes "[" ++ (metadata_text b ++ (codes "](" ++ (text s ++ codes ")"))))

  -- each field as a=t, and each variant as a=t if the tags are consecutive, and otherwise as a@tag=t
  pub item_texts : {h : Holder} → Bool → Items h → List (List ℕ)
  item_texts c no_items = []
  item_texts {h} c (item n t g rest) = (escaped n ++ (item_tag h c g ++ (codes "=" ++ text t))) ∷ item_texts c rest
