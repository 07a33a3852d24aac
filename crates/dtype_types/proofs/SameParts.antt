-- SPDX-License-Identifier: Apache-2.0
-- SPDX-FileCopyrightText: Copyright the Vortex contributors

-- Types made of the same parts are the same type, also with another nullability.
use Rattle.std.proofs.Common.{◌≡◌, sym, ap, ◌∙◌, IsSome, Some, refl, subst}
use Rattle.dtype_base.specs.declared.nullability.Nullability.{Nullability}
use Rattle.dtype_base.specs.declared.nullability.Nullability.TheVariants.{NonNullable}
use Rattle.dtype_types.specs.nullability.Nullable.{nullability, set_null, CanBeNonNullable}
use Rattle.dtype_types.specs.tree.Tree.{Tree, map_of, struct, union, fields, variants}
use Rattle.dtype_types.specs.tree.TreeOf.{tree, MapParts, struct_pairs, union_triples, with_trees, with_tagged_trees, extension_tree, map_shown}
use Rattle.dtype_types.proofs.lemmas.Nullabilities.{set_own}
use Rattle.dtype_types.proofs.lemmas.TreeLaws.{tree_struct, tree_union, tree_map, tree_extension}
use Rattle.dtype_types.specs.declared.dtype.DType.{DType, Struct, Union, Map, Extension}
use Rattle.dtype_types.specs.declared.struct_fields.StructFields.{StructFields}
use Rattle.dtype_types.specs.declared.union_variants.UnionVariants.{UnionVariants}
use Rattle.dtype_types.specs.declared.map.MapDType.{MapDType}
use Rattle.dtype_types.specs.declared.extension.ExtDTypeRef.{ExtDTypeRef}

map_with : (x y : MapDType) (n : Nullability) → map_shown x ≡ map_shown y → tree (Map x n) ≡ map_of (map_shown y).0 (map_shown y).1 (map_shown y).2 n
map_with x y n p = tree_map x n ∙ ap (λ (e : MapParts). map_of e.0 e.1 e.2 n) p

pub same_structs : (x y : StructFields) (n : Nullability) (d : DType) → d ≡ Struct y n → struct_pairs x ≡ struct_pairs y → tree (Struct x n) ≡ tree d
same_structs x y n d e p = tree_struct x n ∙ ap (λ ps. struct (fields (with_trees ps)) n) p ∙ sym (tree_struct y n) ∙ ap tree (sym e)

pub same_unions : (x y : UnionVariants) (n : Nullability) (d : DType) → d ≡ Union y n → union_triples x ≡ union_triples y → tree (Union x n) ≡ tree d
same_unions x y n d e p = tree_union x n ∙ ap (λ ps. union (variants (with_tagged_trees ps)) n) p ∙ sym (tree_union y n) ∙ ap tree (sym e)

pub same_maps : (x y : MapDType) (n : Nullability) (d : DType) → d ≡ Map y n → map_shown x ≡ map_shown y → tree (Map x n) ≡ tree d
same_maps x y n d e p = map_with x y n p ∙ sym (tree_map y n) ∙ ap tree (sym e)

pub same_extensions : (x y : ExtDTypeRef) (d : DType) → d ≡ Extension y → extension_tree x ≡ extension_tree y → tree (Extension x) ≡ tree d
same_extensions x y d e p = tree_extension x ∙ p ∙ sym (tree_extension y) ∙ ap tree (sym e)

-- ---- with another nullability

pub set_struct : (x y : StructFields) (m n : Nullability) (d : DType) → d ≡ Struct y m → struct_pairs x ≡ struct_pairs y → set_null (tree d) n ≡ Some (tree (Struct x n))
set_struct x y m n d e p = ap (λ z. set_null (tree z) n) e ∙ ap (λ t. set_null t n) (tree_struct y m) ∙ ap (λ ps. Some (struct (fields (with_trees ps)) n)) (sym p) ∙ ap Some (sym (tree_struct x n))

pub set_union : (x y : UnionVariants) (m n : Nullability) (d : DType) → d ≡ Union y m → union_triples x ≡ union_triples y → set_null (tree d) n ≡ Some (tree (Union x n))
set_union x y m n d e p = ap (λ z. set_null (tree z) n) e ∙ ap (λ t. set_null t n) (tree_union y m) ∙ ap (λ ps. Some (union (variants (with_tagged_trees ps)) n)) (sym p) ∙ ap Some (sym (tree_union x n))

pub set_map : (x y : MapDType) (m n : Nullability) (d : DType) → d ≡ Map y m → map_shown x ≡ map_shown y → set_null (tree d) n ≡ Some (tree (Map x n))
set_map x y m n d e p = ap (λ z. set_null (tree z) n) e ∙ ap (λ t. set_null t n) (tree_map y m) ∙ ap Some (sym (map_with x y n p))

pub set_extension : (x y : ExtDTypeRef) (n : Nullability) (d : DType) → d ≡ Extension y → set_null (extension_tree y) n ≡ Some (extension_tree x) → set_null (tree d) n ≡ Some (tree (Extension x))
set_extension x y n d e p = ap (λ z. set_null (tree z) n) e ∙ ap (λ t. set_null t n) (tree_extension y) ∙ p ∙ ap Some (sym (tree_extension x))

-- a non-nullable type can be non-nullable
pub nonnullable_can : (t : Tree) → nullability t ≡ NonNullable → CanBeNonNullable t
nonnullable_can t e = subst (λ o. IsSome o) (sym (set_own t) ∙ ap (set_null t) e) refl

pub ruleset same_parts = (same_structs, same_unions, same_maps, same_extensions)

pub ruleset set_parts = (set_struct, set_union, set_map, set_extension)
