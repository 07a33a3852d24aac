-- SPDX-License-Identifier: Apache-2.0
-- SPDX-FileCopyrightText: Copyright the Vortex contributors

-- The bound of two types whose parts' bounds are made: types at equal positions, merged one after another, and the structs
-- and unions that are made of them.
use Rattle.std.proofs.Common.{◌≡◌, ◌⊎◌, inl, inr, ℕ, List, [], ◌∷◌, ◌++◌, length, map, refl, sym, ap, ◌∙◌, append-nil, arith}
use Rattle.std.specs.List.{zip}
use Rattle.std.specs.Map.{keys_of, values_of}
use Rattle.dtype_base.specs.declared.nullability.Nullability.{Nullability}
use Rattle.dtype_types.specs.nullability.Merged.{Rule, merge, merge_items, merge_types}
use Rattle.dtype_types.specs.parts.Lists.{types_of, tags_of}
use Rattle.dtype_types.specs.tree.Erase.{erase, erase_items}
use Rattle.dtype_types.specs.tree.Tree.{Tree, fields, variants, struct, union, rest_of}
use Rattle.dtype_types.specs.tree.TreeOf.{tree, fields_of, variants_of, with_trees, with_tagged_trees}
use Rattle.dtype_types.specs.declared.dtype.DType.{DType, Struct, Union}
use Rattle.dtype_types.specs.declared.struct_fields.StructFields.{StructFields}
use Rattle.dtype_types.specs.declared.union_variants.UnionVariants.{UnionVariants}
use Rattle.dtype_types.proofs.lemmas.TreeLaws.{tree_struct, tree_union}

-- ---- a type of two types of one kind

pub merged_structs : (r : Rule) (d e : DType) (x y z : StructFields) (m n o : Nullability) → d ≡ Struct x m → e ≡ Struct y n → o ≡ r m n → fields_of z ≡ merge_items r (fields_of x) (fields_of y)
    → tree (Struct z o) ≡ merge r (tree d) (tree e)
merged_structs r d e x y z m n o p q same made =
    tree_struct z o ∙ ap (λ fs. struct fs o) made ∙ ap (struct (merge_items r (fields_of x) (fields_of y))) same
    ∙ ap (merge r (struct (fields_of x) m)) (sym (tree_struct y n) ∙ ap tree (sym q)) ∙ ap (λ t. merge r t (tree e)) (sym (tree_struct x m) ∙ ap tree (sym p))

pub merged_unions : (r : Rule) (d e : DType) (x y z : UnionVariants) (m n o : Nullability) → d ≡ Union x m → e ≡ Union y n → o ≡ r m n → variants_of z ≡ merge_items r (variants_of x) (variants_of y)
    → tree (Union z o) ≡ merge r (tree d) (tree e)
merged_unions r d e x y z m n o p q same made =
    tree_union z o ∙ ap (λ vs. union vs o) made ∙ ap (union (merge_items r (variants_of x) (variants_of y))) same
    ∙ ap (merge r (union (variants_of x) m)) (sym (tree_union y n) ∙ ap tree (sym q)) ∙ ap (λ t. merge r t (tree e)) (sym (tree_union x m) ∙ ap tree (sym p))

pub ruleset merged_parts = (merged_structs, merged_unions)

-- ---- types at equal positions, one after another

-- where one side has nothing left, all is done
pub merged_all : (r : Rule) (ds es done : List DType) (all : List Tree) → (ds ≡ []) ⊎ (es ≡ []) → map tree done ++ merge_types r (map tree ds) (map tree es) ≡ all → map tree done ≡ all
merged_all r (d ∷ ds) (e ∷ es) done all (inl none) whole = cc
merged_all r (d ∷ ds) (e ∷ es) done all (inr none) whole = cc
merged_all r [] es done all none whole = sym (append-nil (map tree done)) ∙ whole
merged_all r (d ∷ ds) [] done all none whole = sym (append-nil (map tree done)) ∙ whole

-- as many types are made as there were
pub as_many : (r : Rule) (ts us : List Tree) → map erase ts ≡ map erase us → length (merge_types r ts us) ≡ length ts
as_many r [] us e = refl
as_many r (t ∷ ts) [] e = cc
as_many r (t ∷ ts) (u ∷ us) e = let tail : map erase ts ≡ map erase us = cc in omega (arith, as_many r ts us tail)

-- ---- structs

pub erased_fields : (ps qs : List (List ℕ × DType)) → erase_items (fields (with_trees ps)) ≡ erase_items (fields (with_trees qs)) → map erase (map tree (values_of ps)) ≡ map erase (map tree (values_of qs))
erased_fields [] [] e = refl
erased_fields (p ∷ ps) (q ∷ qs) e = cc (erased_fields ps qs (ap rest_of e))
erased_fields _ _ e = cc

pub merged_fields : (r : Rule) (ps qs : List (List ℕ × DType)) (made : List DType) → map tree made ≡ merge_types r (map tree (values_of ps)) (map tree (values_of qs))
    → fields (with_trees (zip (keys_of ps) made)) ≡ merge_items r (fields (with_trees ps)) (fields (with_trees qs))
merged_fields r (p ∷ ps) [] [] is = refl
merged_fields r (p ∷ ps) (q ∷ qs) (d ∷ made) is = cc (merged_fields r ps qs made (cc))
merged_fields r _ _ _ is = cc

-- ---- unions

pub erased_variants : (ps qs : List (List ℕ × (DType × ℕ))) → erase_items (variants (with_tagged_trees ps)) ≡ erase_items (variants (with_tagged_trees qs)) → map erase (map tree (types_of ps)) ≡ map erase (map tree (types_of qs))
erased_variants [] [] e = refl
erased_variants (p ∷ ps) (q ∷ qs) e = cc (erased_variants ps qs (ap rest_of e))
erased_variants _ _ e = cc

pub merged_variants : (r : Rule) (ps qs : List (List ℕ × (DType × ℕ))) (made : List DType) → map tree made ≡ merge_types r (map tree (types_of ps)) (map tree (types_of qs))
    → variants (with_tagged_trees (zip (keys_of ps) (zip made (tags_of ps)))) ≡ merge_items r (variants (with_tagged_trees ps)) (variants (with_tagged_trees qs))
merged_variants r (p ∷ ps) [] [] is = refl
merged_variants r (p ∷ ps) (q ∷ qs) (d ∷ made) is = cc (merged_variants r ps qs made (cc))
merged_variants r _ _ _ is = cc
