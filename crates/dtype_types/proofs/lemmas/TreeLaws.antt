-- SPDX-License-Identifier: Apache-2.0
-- SPDX-FileCopyrightText: Copyright the Vortex contributors

-- The tree of a struct and of a union, by their fields and variants; a type of another kind has none.
use Rattle.std.specs.Prelude.{◌≡◌, ℕ, List, [], ◌∷◌, refl}
use Rattle.std.proofs.Common.{ap, rules}
use Rattle.dtype_base.specs.declared.nullability.Nullability.{Nullability}
use Rattle.dtype_types.specs.tree.Tree.{null, map_of, Tree, Fields, Variants, pairs, triples, fields, variants, struct, union}
use Rattle.dtype_types.specs.tree.TreeOf.{tree, extension_tree, children, variant_list, MapParts, ExtensionParts, type_step, extension_step, map_step, struct_step, union_step, map_shown}
use Rattle.dtype_types.specs.declared.dtype.DType.{DType, Map, Null, Struct, Union, Extension, out-DType, map-DType, fold_out-DType, fold-roll-DType, the_lemmas}
use Rattle.dtype_types.specs.declared.dtype.DType.TheFolds.{fold-ExtDTypeRef, fold-MapDType, fold-StructFields, fold-UnionVariants}
use Rattle.dtype_types.specs.declared.struct_fields.StructFields.{fold_out-StructFields, StructFields}
use Rattle.dtype_types.specs.declared.union_variants.UnionVariants.{fold_out-UnionVariants, UnionVariants}
use Rattle.dtype_types.specs.declared.extension.ExtDTypeRef.{ExtDTypeRef, fold_out-ExtDTypeRef}
use Rattle.dtype_types.specs.declared.map.MapDType.{MapDType, fold_out-MapDType}

-- a part's fields or variants, with the trees of their types
abbrev extension_held : ExtDTypeRef → ExtensionParts
extension_held = fold-ExtDTypeRef Tree ExtensionParts MapParts Fields Variants type_step extension_step map_step struct_step union_step

abbrev map_held : MapDType → MapParts
map_held = fold-MapDType Tree ExtensionParts MapParts Fields Variants type_step extension_step map_step struct_step union_step

abbrev struct_held : StructFields → Fields
struct_held = fold-StructFields Tree ExtensionParts MapParts Fields Variants type_step extension_step map_step struct_step union_step

abbrev union_held : UnionVariants → Variants
union_held = fold-UnionVariants Tree ExtensionParts MapParts Fields Variants type_step extension_step map_step struct_step union_step

-- the tree of a type is one layer over the trees of its parts
pub tree_out : (d : DType) → tree d ≡ type_step (map-DType DType ExtDTypeRef MapDType StructFields UnionVariants Tree ExtensionParts MapParts Fields Variants tree extension_held map_held struct_held union_held (out-DType d))
tree_out d = fold_out-DType Tree ExtensionParts MapParts Fields Variants type_step extension_step map_step struct_step union_step d

pub tree_null : tree Null ≡ null
tree_null = search (rules, the_lemmas, fold_out-DType, fold-roll-DType)

pub tree_map : (m : MapDType) (n : Nullability) → tree (Map m n) ≡ map_of (map_shown m).0 (map_shown m).1 (map_shown m).2 n
tree_map m n = search (rules, the_lemmas, fold_out-DType, fold-roll-DType, fold_out-MapDType)

pub tree_struct : (s : StructFields) (n : Nullability) → tree (Struct s n) ≡ struct (fields (children s)) n
tree_struct s n = search (rules, the_lemmas, fold_out-DType, fold-roll-DType, fold_out-StructFields)

pub tree_union : (u : UnionVariants) (n : Nullability) → tree (Union u n) ≡ union (variants (variant_list u)) n
tree_union u n = search (rules, the_lemmas, fold_out-DType, fold-roll-DType, fold_out-UnionVariants)

pub tree_extension : (e : ExtDTypeRef) → tree (Extension e) ≡ extension_tree e
tree_extension e = search (rules, the_lemmas, fold_out-DType, fold-roll-DType, fold_out-ExtDTypeRef)

pub pairs_of : (ps : List (List ℕ × Tree)) → pairs (fields ps) ≡ ps
pairs_of [] = refl
pairs_of (p ∷ ps) = ap (λ qs. p ∷ qs) (pairs_of ps)

pub triples_variants : (ps : List (List ℕ × (Tree × ℕ))) → triples (variants ps) ≡ ps
triples_variants [] = refl
triples_variants (p ∷ ps) = ap (λ qs. p ∷ qs) (triples_variants ps)
