-- SPDX-License-Identifier: Apache-2.0
-- SPDX-FileCopyrightText: Copyright the Vortex contributors

-- What a type writes to a hasher, as a list of writes. The first write is one byte, which contains the kind of the type
-- (or which primitive type it is) and, unless nullabilities are ignored, whether it is nullable. Then its parts are
-- written. A count is written before each list, and a mark after each text. In the mode `Whole` nullabilities are
-- written, and in the mode `Erased` they aren't. The writes are a function of the tree, so equal types write the same,
-- which the `Hash` of std requires. Which writes these are was chosen for this port.
use Rattle.std.specs.Prelude.{ℕ, suc, ◌+◌, ◌*◌, List, [], ◌∷◌, ◌++◌, drop, length}
use Rattle.std.specs.Hash as fed
use Rattle.std.specs.Hash.{HashWrites}
use Rattle.dtype_base.specs.Primitives.{ptype_row}
use Rattle.dtype_base.specs.declared.nullability.Nullability.{Nullability}
use Rattle.dtype_base.specs.declared.nullability.Nullability.TheVariants.{NonNullable, Nullable}
use Rattle.dtype_base.specs.declared.ptype.PType.{PType}
use Rattle.dtype_types.specs.tree.Kinds.{kind_number}
use Rattle.dtype_types.specs.declared.dtype.kinds.Kind.TheVariants as kind
use Rattle.dtype_types.specs.declared.dtype.hash.HashMode.{HashMode}
use Rattle.dtype_types.specs.declared.dtype.hash.HashMode.TheVariants.{Whole, Erased}
use Rattle.dtype_types.specs.tree.Tree.{Tree, no_items, item, null, bool, primitive, decimal, utf8, binary, list, fixed_size_list, map_of, struct, union, variant, extension, Items, Holder, a_struct, a_union, Tag}
use Rattle.dtype_types.specs.tree.TreeOf.{MapParts}

-- 1 for a nullable type if nullabilities aren't ignored, and otherwise 0
abbrev pub nullable_mark : HashMode → Nullability → ℕ
nullable_mark Whole Nullable = 1
nullable_mark _ _ = 0

-- a kind's number and a nullability, in one byte
abbrev pub kind_writes : HashMode → ℕ → Nullability → HashWrites
kind_writes s number n = fed.u8 (2 * number + nullable_mark s n)

-- the primitive types are numbered after the kinds
abbrev pub primitive_number : PType → ℕ
primitive_number p = suc (kind_number kind.Extension) + (ptype_row p).number

-- how many bytes there are, and then the bytes at once
abbrev pub bytes_writes : List ℕ → HashWrites
bytes_writes b = fed.usize (length b) ++ (b ∷ [])

-- the tag of a variant in a byte, or nothing for a field
abbrev pub tag_writes : (h : Holder) → Tag h → HashWrites
tag_writes a_struct g = []
tag_writes a_union g = fed.u8 g

-- how many fields, or variants, there are
abbrev pub item_count : {h : Holder} → Items h → ℕ
item_count no_items = 0
item_count (item n t g rest) = suc (item_count rest)

abbrev mutual
  -- a type: its kind and nullability, and then its parts
  pub hash_of : HashMode → Tree → HashWrites
  hash_of s null = kind_writes s (kind_number kind.Null) NonNullable
  hash_of s (bool n) = kind_writes s (kind_number kind.Bool) n
  hash_of s (primitive p n) = kind_writes s (primitive_number p) n
  hash_of s (decimal d n) = kind_writes s (kind_number kind.Decimal) n ++ (fed.u8 d.precision ++ fed.i8 d.scale)
  hash_of s (utf8 n) = kind_writes s (kind_number kind.Utf8) n
  hash_of s (binary n) = kind_writes s (kind_number kind.Binary) n
  hash_of s (list t n) = kind_writes s (kind_number kind.List) n ++ hash_of s t
  hash_of s (fixed_size_list t k n) = kind_writes s (kind_number kind.FixedSizeList) n ++ (fed.u32 k ++ hash_of s t)
  hash_of s (map_of k v o n) = kind_writes s (kind_number kind.Map) n ++ (hash_of s k ++ (hash_of s v ++ fed.bool o))
  hash_of s (struct fs n) = kind_writes s (kind_number kind.Struct) n ++ (fed.usize (item_count fs) ++ item_writes s fs)
  hash_of s (union vs n) = kind_writes s (kind_number kind.Union) n ++ (fed.usize (item_count vs) ++ item_writes s vs)
  hash_of s (variant n) = kind_writes s (kind_number kind.Variant) n
  hash_of s (extension id b t) = kind_writes s (kind_number kind.Extension) NonNullable ++ (fed.str id ++ (bytes_writes b ++ hash_of s t))

  -- each field, or variant: its name, its type and its tag
  pub item_writes : HashMode → {h : Holder} → Items h → HashWrites
  item_writes s no_items = []
  item_writes s {h} (item n t g rest) = fed.str n ++ (hash_of s t ++ (tag_writes h g ++ item_writes s rest))

-- what a type writes to a hasher by `Hash`
abbrev pub hash_writes : Tree → HashWrites
hash_writes t = hash_of Whole t

-- what a type writes to a hasher by `hash_ignore_nullability`
abbrev pub hash_writes_ignoring_nullability : Tree → HashWrites
hash_writes_ignoring_nullability t = hash_of Erased t

-- what the fields of a struct, or the variants of a union, write: how many there are, and then each
abbrev pub counted_writes : HashMode → {h : Holder} → Items h → HashWrites
counted_writes s xs = fed.usize (item_count xs) ++ item_writes s xs

-- what the key type of a map, its value type and its flag write
abbrev pub map_writes : HashMode → MapParts → HashWrites
map_writes s m = hash_of s m.0 ++ (hash_of s m.1 ++ fed.bool m.2)

-- what a type writes after the byte of its kind; for an extension, what its parts write
abbrev pub inner_writes : HashMode → Tree → HashWrites
inner_writes s t = drop 1 (hash_of s t)
