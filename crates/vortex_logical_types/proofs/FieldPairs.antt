-- SPDX-License-Identifier: Apache-2.0
-- SPDX-FileCopyrightText: Copyright the Vortex contributors

-- Fields as pairs, beside the list of their names and the list of their types.
use Rattle.std.proofs.Common.{◌≡◌, ◌∙◌, ◌⊎◌, inl, inr, ℕ, List, [], ◌∷◌, length, map, ap, refl, suc, sym}
use Rattle.std.specs.List.{zip}
use Rattle.dtype_types.specs.declared.dtype.DType.{DType}
use Rattle.dtype_types.specs.parts.Lookups.{field_names, field_types}
use Rattle.dtype_types.specs.tree.Tree.{Tree}
use Rattle.dtype_types.specs.tree.TreeOf.{tree}

-- the pairs of the names and the types of fields are the fields
both : (fs : List (List ℕ × Tree)) → zip (field_names fs) (field_types fs) ≡ fs
both [] = refl
both (f ∷ fs) = ap (λ ps. f ∷ ps) (both fs)

as_many : (fs : List (List ℕ × Tree)) → length (field_names fs) ≡ length (field_types fs)
as_many [] = refl
as_many (f ∷ fs) = ap (λ n. suc n) (as_many fs)

length_trees : (ds : List DType) → length (map tree ds) ≡ length ds
length_trees [] = refl
length_trees (d ∷ ds) = ap (λ n. suc n) (length_trees ds)

-- there are as many names as types
pub parts_fit : (fs : List (List ℕ × Tree)) (names : List (List ℕ)) (ds : List DType) → names ≡ field_names fs → map tree ds ≡ field_types fs → length names ≡ length ds
parts_fit fs names ds is are = ap length is ∙ as_many fs ∙ sym (ap length are) ∙ length_trees ds

pub pairs_back : (fs : List (List ℕ × Tree)) (names : List (List ℕ)) (ts : List Tree) → names ≡ field_names fs → ts ≡ field_types fs → zip names ts ≡ fs
pairs_back fs names ts is are = (λ i. zip (is i) (are i)) ∙ both fs

-- what is made of types that fit, or of any types if they fit
pub fitting : {A B C D : Type 0} → C → A ⊎ B → ((C × A) ⊎ D) ⊎ B
fitting fits (inl a) = inl (inl (fits, a))
fitting fits (inr b) = inr b
