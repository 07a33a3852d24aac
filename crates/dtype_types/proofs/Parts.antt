-- SPDX-License-Identifier: Apache-2.0
-- SPDX-FileCopyrightText: Copyright the Vortex contributors

-- The fields of a struct and the variants of a union with their trees, by what the two hold.
use Rattle.std.proofs.Common.{◌≡◌, ℕ, List, [], ◌∷◌, map, length, Option, Some, None, slice_get, get_or, nat_lt, IfSome, Bor, refl, ap, sym, ◌∙◌, arith}
use Rattle.std.specs.Option.{is_some, option_map}
use Rattle.std.proofs.lemmas.Bool.Decides.{nat_tests}
use Rattle.std.proofs.lemmas.Option.{slice_get-map, slice_get_past, slice_get_read}
use Rattle.std.specs.List.{zip}
use Rattle.std.proofs.lemmas.List.{length-map}
use Rattle.std.proofs.lemmas.Simd.{map-map}
use Rattle.std.specs.Map.{keys_of, values_of}
use Rattle.dtype_types.specs.parts.Lists.{types_of, tags_of}
use Rattle.dtype_types.specs.parts.Lookups.{field_names, field_types, variant_names, variant_types, variant_tags}
use Rattle.dtype_types.specs.tree.TreeOf.{tree, shown, with_trees, with_tagged_trees}
use Rattle.dtype_types.specs.declared.dtype.DType.{DType}

pub names_shown : (ps : List (List ℕ × DType)) → field_names (with_trees ps) ≡ keys_of ps
names_shown ps = map-map (λ p. p.0) _ ps

pub types_shown : (ps : List (List ℕ × DType)) → field_types (with_trees ps) ≡ map tree (values_of ps)
types_shown ps = map-map (λ p. p.1) _ ps ∙ sym (map-map tree (λ p. p.1) ps)

pub fields_shown : (ps : List (List ℕ × DType)) → length (with_trees ps) ≡ length ps
fields_shown ps = length-map ps _

pub trees_zip : (ns : List (List ℕ)) (ds : List DType) → with_trees (zip ns ds) ≡ zip ns (map tree ds)
trees_zip [] ds = refl
trees_zip (n ∷ ns) [] = refl
trees_zip (n ∷ ns) (d ∷ ds) = ap (λ ps. (n, tree d) ∷ ps) (trees_zip ns ds)

pub ruleset fields = (names_shown, types_shown, fields_shown, trees_zip)

pub variant_names_shown : (ps : List (List ℕ × (DType × ℕ))) → variant_names (with_tagged_trees ps) ≡ keys_of ps
variant_names_shown ps = map-map (λ v. v.0) _ ps

pub variant_types_shown : (ps : List (List ℕ × (DType × ℕ))) → variant_types (with_tagged_trees ps) ≡ map tree (types_of ps)
variant_types_shown ps = map-map (λ v. v.1.0) _ ps ∙ sym (map-map tree (λ p. p.1.0) ps)

pub variant_tags_shown : (ps : List (List ℕ × (DType × ℕ))) → variant_tags (with_tagged_trees ps) ≡ tags_of ps
variant_tags_shown ps = map-map (λ v. v.1.1) _ ps

pub variants_shown : (ps : List (List ℕ × (DType × ℕ))) → length (with_tagged_trees ps) ≡ length ps
variants_shown ps = length-map ps _

pub trees_three : (ns : List (List ℕ)) (ds : List DType) (gs : List ℕ) → with_tagged_trees (zip ns (zip ds gs)) ≡ zip ns (zip (map tree ds) gs)
trees_three [] ds gs = refl
trees_three (n ∷ ns) [] gs = refl
trees_three (n ∷ ns) (d ∷ ds) [] = refl
trees_three (n ∷ ns) (d ∷ ds) (g ∷ gs) = ap (λ ps. (n, (tree d, g)) ∷ ps) (trees_three ns ds gs)

pub ruleset variants = (variant_names_shown, variant_types_shown, variant_tags_shown, variants_shown, trees_three)

-- the type at a position, by trees
pub get_tree : (ds : List DType) (i : ℕ) (r : Option (Bor DType)) → (is_some r ≡ nat_lt i (length ds)) × IfSome r (λ x. x.now ≡ get_or ds i x.now) → shown tree r ≡ slice_get (map tree ds) i
get_tree ds i None h = sym (slice_get-map tree ds i ∙ ap (option_map tree) (slice_get_past ds i (grind (arith, nat_tests))))
get_tree ds i (Some x) h = sym (slice_get-map tree ds i ∙ ap (option_map tree) (slice_get_read ds (length ds) i x.now refl (grind (arith, nat_tests)) h.1))
