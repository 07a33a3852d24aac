-- SPDX-License-Identifier: Apache-2.0
-- SPDX-FileCopyrightText: Copyright the Vortex contributors

-- Variants without their tags: a list of names and types, as that of fields. What is known of a lookup of a field is then known of a variant.
use Rattle.std.proofs.Common.{◌≡◌, ℕ, List, [], ◌∷◌, Some, cond, map, refl, ap}
use Rattle.std.specs.Str.{bytes_eq}
use Rattle.std.proofs.lemmas.Simd.{map-map}
use Rattle.dtype_types.specs.parts.Lookups.{first_named, field_names, field_types, variant_named, variant_names, variant_types}
use Rattle.dtype_types.specs.tree.Tree.{Tree}

abbrev pub untagged : List (List ℕ × (Tree × ℕ)) → List (List ℕ × Tree)
untagged vs = map (λ v. (v.0, v.1.0)) vs

pub untagged_names : (vs : List (List ℕ × (Tree × ℕ))) → field_names (untagged vs) ≡ variant_names vs
untagged_names vs = map-map (λ p. p.0) _ vs

pub untagged_types : (vs : List (List ℕ × (Tree × ℕ))) → field_types (untagged vs) ≡ variant_types vs
untagged_types vs = map-map (λ p. p.1) _ vs

pub untagged_named : (vs : List (List ℕ × (Tree × ℕ))) (n : List ℕ) → first_named (untagged vs) n ≡ variant_named vs n
untagged_named [] n = refl
untagged_named (v ∷ vs) n = ap (cond (bytes_eq v.0 n) (Some v.1.0)) (untagged_named vs n)
