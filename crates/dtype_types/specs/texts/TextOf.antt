-- SPDX-License-Identifier: Apache-2.0
-- SPDX-FileCopyrightText: Copyright the Vortex contributors

-- The texts of a type's parts: fields, variants, a map, an extension. From the `Display` of each.
use Rattle.std.specs.Prelude.{ℕ, List, codes}
use Rattle.std.specs.List.{join_by}
use Rattle.dtype_types.specs.parts.Lookups.{variant_tags}
use Rattle.dtype_base.specs.declared.nullability.Nullability.TheVariants.{NonNullable}
use Rattle.dtype_types.specs.tree.Tree.{map_of, struct, triples}
use Rattle.dtype_types.specs.parts.Unions.{are_consecutive}
use Rattle.dtype_types.specs.texts.Text.{text, item_texts}
use Rattle.dtype_types.specs.tree.TreeOf.{variants_of, fields_of, map_shown, extension_tree}
use Rattle.dtype_types.specs.declared.struct_fields.StructFields.{StructFields}
use Rattle.dtype_types.specs.declared.union_variants.UnionVariants.{UnionVariants}
use Rattle.dtype_types.specs.declared.map.MapDType.{MapDType}
use Rattle.dtype_types.specs.declared.extension.ExtDTypeRef.{ExtDTypeRef}

-- the text of a map, which is the text of the non-nullable type
unfoldable pub map_text : MapDType → List ℕ
map_text m = text (map_of (map_shown m).0 (map_shown m).1 (map_shown m).2 NonNullable)

-- the text of the fields of a struct, which is the text of the non-nullable struct type
unfoldable pub struct_text : StructFields → List ℕ
struct_text s = text (struct (fields_of s) NonNullable)

-- the variants of a union, separated by commas
unfoldable pub union_text : UnionVariants → List ℕ
union_text u = join_by (λ t. t) (codes ", ") (item_texts (are_consecutive (variant_tags (triples (variants_of u)))) (variants_of u))

-- the text of an extension, which is the text of the type
unfoldable pub extension_text : ExtDTypeRef → List ℕ
extension_text e = text (extension_tree e)
