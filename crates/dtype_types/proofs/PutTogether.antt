-- SPDX-License-Identifier: Apache-2.0
-- SPDX-FileCopyrightText: Copyright the Vortex contributors

-- Fields put together one after another: one more, copies of others, and all fields but one.
use Rattle.std.proofs.Common.{◌≡◌, ℕ, ◌+◌, ◌-◌, zero, suc, List, [], ◌∷◌, ◌++◌, length, map, take, drop, refl, sym, ap, ◌∙◌, arith, append_assoc}
use Rattle.std.proofs.lemmas.List.{map-append, take_rest}
use Rattle.std.proofs.lemmas.List.Elements.{All-map, All-same}
use Rattle.std.proofs.lemmas.Simd.{map-map}
use Rattle.std.specs.List.{All, zip, remove}
use Rattle.std.specs.Map.{keys_of, values_of}
use Rattle.dtype_types.proofs.Sides.{zip_sides}
use Rattle.dtype_types.specs.parts.FieldTypes.{field_tree}
use Rattle.dtype_types.specs.tree.Tree.{Tree}
use Rattle.dtype_types.specs.tree.Valid.{Valid}
use Rattle.dtype_types.specs.tree.TreeOf.{tree, with_trees}
use Rattle.dtype_types.specs.declared.dtype.DType.{DType}
use Rattle.dtype_types.specs.declared.field_dtype.FieldDType.{FieldDType}

pub zip_more : {X Y : Type 0} (xs : List X) (ys : List Y) (x : X) (y : Y) → length xs ≡ length ys → zip (xs ++ x ∷ []) (ys ++ y ∷ []) ≡ zip xs ys ++ (x, y) ∷ []
zip_more [] [] x y e = refl
zip_more (a ∷ xs) (b ∷ ys) x y e = ap (λ ps. (a, b) ∷ ps) (zip_more xs ys x y (omega arith))
zip_more _ _ x y e = absurd (omega arith)

-- one field is copied, of those that are left
pub copied_more : (done left rest more : List (List ℕ × DType)) (n : List ℕ) (d copy : DType) (all : List (List ℕ × Tree)) → with_trees done ++ with_trees left ≡ all → left ≡ (n, d) ∷ rest → tree copy ≡ tree d
    → more ≡ done ++ (n, copy) ∷ [] → with_trees more ++ with_trees rest ≡ all
copied_more done left rest more n d copy all so_far next same put =
    ap (λ ps. with_trees ps ++ with_trees rest) put ∙ ap (λ ps. ps ++ with_trees rest) (map-append _ done ((n, copy) ∷ [])) ∙ append_assoc (with_trees done) ((n, tree copy) ∷ []) (with_trees rest)
    ∙ ap (λ t. with_trees done ++ (n, t) ∷ with_trees rest) same ∙ ap (λ ps. with_trees done ++ with_trees ps) (sym next) ∙ so_far

-- the types of fields that were given
pub given_types : (ds : List DType) (given : List FieldDType) → ds ≡ map (λ f. f.dtype) given → map tree ds ≡ map field_tree given
given_types ds given e = ap (map tree) e ∙ map-map tree (λ f. f.dtype) given

pub given_valid : (ds : List DType) (given : List FieldDType) → ds ≡ map (λ f. f.dtype) given → All (λ d. Valid (field_tree d)) given → All (λ d. Valid (tree d)) ds
given_valid ds given e h = All-same (λ d. Valid (tree d)) _ _ e (All-map (λ d. Valid (tree d)) (λ f. f.dtype) given h)

pub ruleset given_fields = (given_types, given_valid)

-- the fields before a position, by a slice of the names and one of the types, and those behind it
pub all_but : (ps : List (List ℕ × DType)) (ns : List (List ℕ)) (ds : List DType) (i : ℕ) → ns ≡ keys_of ps → ds ≡ values_of ps
    → with_trees (zip (take i ns) (take i ds)) ++ with_trees (zip (take (length ns - (i + 1)) (drop (i + 1) ns)) (take (length ds - (i + 1)) (drop (i + 1) ds))) ≡ remove (with_trees ps) i
all_but ps ns ds i e f =
    let next : i + 1 ≡ suc i = omega arith in
    cc (take_rest ns (i + 1), take_rest ds (i + 1), next, two_parts ps i)
  where
    two_parts : (ps : List (List ℕ × DType)) (i : ℕ) → with_trees (zip (take i (keys_of ps)) (take i (values_of ps))) ++ with_trees (zip (drop (suc i) (keys_of ps)) (drop (suc i) (values_of ps))) ≡ remove (with_trees ps) i
    two_parts [] zero = refl
    two_parts [] (suc i) = refl
    two_parts (p ∷ ps) zero = ap with_trees (zip_sides ps _ _ refl refl)
    two_parts (p ∷ ps) (suc i) = ap (λ qs. (p.0, tree p.1) ∷ qs) (two_parts ps i)
