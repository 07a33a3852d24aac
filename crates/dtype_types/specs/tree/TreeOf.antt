-- SPDX-License-Identifier: Apache-2.0
-- SPDX-FileCopyrightText: Copyright the Vortex contributors

-- The tree of a `DType`, and what contracts say about its parts: the fields of a struct are pairs of a name and a type,
-- and the variants of a union are triples of a name, a type and a tag. From the declaration of `DType` and its parts.
use Rattle.std.specs.Prelude.{ℕ, List, map, Option, Some, None, Bool as Flag}
use Rattle.std.specs.Borrow.{Bor}
use Rattle.dtype_types.specs.tree.Tree.{Tree, Fields, fields, Variants, variants, null, bool, primitive, decimal, utf8, binary, list, fixed_size_list, map_of, struct, union, variant, extension}
use Rattle.dtype_types.specs.declared.dtype.DType.{DType}
use Rattle.dtype_types.specs.declared.dtype.DType.TheOpen as o
use Rattle.dtype_types.specs.declared.dtype.DType.TheOpen.{DType-F, ExtDTypeRef-F, MapDType-F, StructFields-F, UnionVariants-F}
use Rattle.dtype_types.specs.declared.dtype.DType.TheFolds.{fold-DType}
use Rattle.dtype_types.specs.declared.struct_fields.StructFields.{StructFields}
use Rattle.dtype_types.specs.declared.union_variants.UnionVariants.{UnionVariants}
use Rattle.dtype_types.specs.declared.map.MapDType.{MapDType}
use Rattle.dtype_types.specs.declared.extension.ExtDTypeRef.{ExtDTypeRef}

-- the key type and the value type of a map as trees, and whether its keys are declared to be sorted
abbrev pub MapParts : Type 0
MapParts = Tree × Tree × Flag

-- the id of an extension, its metadata, and the tree of its storage type
abbrev pub ExtensionParts : Type 0
ExtensionParts = List ℕ × List ℕ × Tree

-- the tree of a type, made from the trees of the types that it contains directly
abbrev pub type_step : DType-F Tree ExtensionParts MapParts Fields Variants → Tree
type_step o.Null = null
type_step (o.Bool n) = bool n
type_step (o.Primitive p n) = primitive p n
type_step (o.Decimal d n) = decimal d n
type_step (o.Utf8 n) = utf8 n
type_step (o.Binary n) = binary n
type_step (o.List b n) = list b.value n
type_step (o.FixedSizeList b k n) = fixed_size_list b.value k n
type_step (o.Map m n) = map_of m.0 m.1 m.2 n
type_step (o.Struct fs n) = struct fs n
type_step (o.Union vs n) = union vs n
type_step (o.Variant n) = variant n
type_step (o.Extension e) = extension e.0 e.1 e.2

-- the parts of an extension, made from the tree of its storage type
abbrev pub extension_step : ExtDTypeRef-F Tree ExtensionParts MapParts Fields Variants → ExtensionParts
extension_step e = (e.parts.value.id, e.parts.value.metadata.items, e.parts.value.storage)

-- the parts of a map, made from the trees of its key type and its value type
abbrev pub map_step : MapDType-F Tree ExtensionParts MapParts Fields Variants → MapParts
map_step m = (m.shared.value.key, m.shared.value.value, m.shared.value.keys_sorted)

-- the fields of a struct, made from the trees of their types
abbrev pub struct_step : StructFields-F Tree ExtensionParts MapParts Fields Variants → Fields
struct_step s = fields s.shared.value

-- the variants of a union, made from the trees of their types
abbrev pub union_step : UnionVariants-F Tree ExtensionParts MapParts Fields Variants → Variants
union_step u = variants u.shared.value

-- the tree of a type
abbrev pub tree : DType → Tree
tree = fold-DType Tree ExtensionParts MapParts Fields Variants type_step extension_step map_step struct_step union_step

-- the fields of a struct as pairs of a name and a `DType`
abbrev pub struct_pairs : StructFields → List (List ℕ × DType)
struct_pairs s = s.shared.value

-- the same pairs, with the tree of each type in place of the type
abbrev pub with_trees : List (List ℕ × DType) → List (List ℕ × Tree)
with_trees ps = map (λ p. (p.0, tree p.1)) ps

-- the fields of a struct as pairs of a name and the tree of a type
abbrev pub children : StructFields → List (List ℕ × Tree)
children s = with_trees (struct_pairs s)

-- the variants of a union as triples of a name, a `DType` and a tag
abbrev pub union_triples : UnionVariants → List (List ℕ × (DType × ℕ))
union_triples u = u.shared.value

-- the same triples, with the tree of each type in place of the type
abbrev pub with_tagged_trees : List (List ℕ × (DType × ℕ)) → List (List ℕ × (Tree × ℕ))
with_tagged_trees ps = map (λ p. (p.0, (tree p.1.0, p.1.1))) ps

-- the variants of a union as triples of a name, the tree of a type and a tag
abbrev pub variant_list : UnionVariants → List (List ℕ × (Tree × ℕ))
variant_list u = with_tagged_trees (union_triples u)

-- an extension's id
abbrev pub extension_id : ExtDTypeRef → List ℕ
extension_id e = e.parts.value.id

-- an extension's metadata
abbrev pub extension_metadata : ExtDTypeRef → List ℕ
extension_metadata e = e.parts.value.metadata.items

-- an extension's storage
abbrev pub extension_storage : ExtDTypeRef → DType
extension_storage e = e.parts.value.storage

-- the tree of an extension's storage
abbrev pub storage_tree : ExtDTypeRef → Tree
storage_tree e = tree (extension_storage e)

-- the tree of an extension
abbrev pub extension_tree : ExtDTypeRef → Tree
extension_tree e = extension (extension_id e) (extension_metadata e) (storage_tree e)

-- `f` of what a reference refers to, or None if there is no reference; for example, `shown tree` is the tree of a
-- borrowed type
abbrev pub shown : {A B : Type 0} → (A → B) → Option (Bor A) → Option B
shown f None = None
shown f (Some r) = Some (f r.now)

-- the key type of a map, its value type, and whether its keys are declared to be sorted
abbrev pub map_shown : MapDType → MapParts
map_shown m = (tree m.shared.value.key, tree m.shared.value.value, m.shared.value.keys_sorted)

-- the fields of a struct, as they are in a tree
abbrev pub fields_of : StructFields → Fields
fields_of s = fields (children s)

-- the variants of a union, as they are in a tree
abbrev pub variants_of : UnionVariants → Variants
variants_of u = variants (variant_list u)
