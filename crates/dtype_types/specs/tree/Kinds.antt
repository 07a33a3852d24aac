-- SPDX-License-Identifier: Apache-2.0
-- SPDX-FileCopyrightText: Copyright the Vortex contributors

-- The kind of a type, which is its outermost variant, and the parts of the types of each kind. The kind of an extension
-- is `Extension`, whatever its storage type is. From the documentation of the variants of `DType`.
use Rattle.std.specs.Prelude.{ℕ, List, Option, Some, None, Bool, true, false}
use Rattle.dtype_base.specs.Decimals.{Decimal}
use Rattle.dtype_base.specs.declared.ptype.PType.{PType}
use Rattle.dtype_types.specs.declared.dtype.kinds.Kind.{Kind}
use Rattle.dtype_types.specs.declared.dtype.kinds.Kind.TheVariants as k
use Rattle.dtype_types.specs.tree.Tree.{Tree, null, bool, primitive, decimal, utf8, binary, list, fixed_size_list, map_of, struct, union, variant, extension, pairs, triples}

-- the outermost variant
abbrev pub kind : Tree → Kind
kind null = k.Null
kind (bool n) = k.Bool
kind (primitive p n) = k.Primitive
kind (decimal d n) = k.Decimal
kind (utf8 n) = k.Utf8
kind (binary n) = k.Binary
kind (list t n) = k.List
kind (fixed_size_list t size n) = k.FixedSizeList
kind (map_of t u b n) = k.Map
kind (struct fs n) = k.Struct
kind (union vs n) = k.Union
kind (variant n) = k.Variant
kind (extension id b s) = k.Extension

-- the number of a kind
abbrev pub kind_number : Kind → ℕ
kind_number k.Null = 0
kind_number k.Bool = 1
kind_number k.Primitive = 2
kind_number k.Decimal = 3
kind_number k.Utf8 = 4
kind_number k.Binary = 5
kind_number k.List = 6
kind_number k.FixedSizeList = 7
kind_number k.Map = 8
kind_number k.Struct = 9
kind_number k.Union = 10
kind_number k.Variant = 11
kind_number k.Extension = 12

-- the primitive type of a `Primitive`, and None for a type of another kind
abbrev pub primitive_name : Tree → Option PType
primitive_name (primitive p n) = Some p
primitive_name _ = None

-- the precision and scale of a decimal
abbrev pub decimal_of : Tree → Option Decimal
decimal_of (decimal d n) = Some d
decimal_of _ = None

-- the fields of a struct
abbrev pub struct_fields : Tree → Option (List (List ℕ × Tree))
struct_fields (struct fs n) = Some (pairs fs)
struct_fields _ = None

-- the variants of a union
abbrev pub union_variants : Tree → Option (List (List ℕ × (Tree × ℕ)))
union_variants (union vs n) = Some (triples vs)
union_variants _ = None

-- the key type of a map, its value type, and whether its keys are declared to be sorted
abbrev pub map_parts : Tree → Option (Tree × Tree × Bool)
map_parts (map_of t u b n) = Some (t, u, b)
map_parts _ = None

-- the id of an extension, its metadata and its storage type
abbrev pub extension_parts : Tree → Option (List ℕ × List ℕ × Tree)
extension_parts (extension id b s) = Some (id, b, s)
extension_parts _ = None

-- the element type of a list
abbrev pub list_element : Tree → Option Tree
list_element (list t n) = Some t
list_element _ = None

-- the element type of a fixed-size list
abbrev pub fixed_size_list_element : Tree → Option Tree
fixed_size_list_element (fixed_size_list t size n) = Some t
fixed_size_list_element _ = None

-- the element type of a list or of a fixed-size list
abbrev pub any_size_list_element : Tree → Option Tree
any_size_list_element (list t n) = Some t
any_size_list_element (fixed_size_list t size n) = Some t
any_size_list_element _ = None

-- a list, a map, a struct, a union, a variant, or an extension over one of these
abbrev pub is_nested : Tree → Bool
is_nested (list t n) = true
is_nested (fixed_size_list t size n) = true
is_nested (map_of t u b n) = true
is_nested (struct fs n) = true
is_nested (union vs n) = true
is_nested (variant n) = true
is_nested (extension id b s) = is_nested s
is_nested _ = false
