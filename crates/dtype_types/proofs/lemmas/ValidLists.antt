-- SPDX-License-Identifier: Apache-2.0
-- SPDX-FileCopyrightText: Copyright the Vortex contributors

-- Lists of valid types make a valid struct, and with names and tags that make a union, a valid union.
use Rattle.std.proofs.Common.{◌≡◌, ◌∙◌, ℕ, suc, List, [], ◌∷◌, length, sym, subst, arith}
use Rattle.std.specs.List.{All, zip}
use Rattle.std.proofs.lemmas.List.{length-map}
use Rattle.dtype_base.specs.Bytes.{Bytes}
use Rattle.dtype_base.specs.Distinct.{Distinct}
use Rattle.dtype_types.specs.parts.Lookups.{field_types, variant_names, variant_types, variant_tags}
use Rattle.dtype_types.specs.parts.Unions.{MakesUnion, AreVariants}
use Rattle.dtype_types.specs.tree.Tree.{Tree, Variants, fields, variants, triples}
use Rattle.dtype_types.specs.tree.Valid.{Valid, ValidItems}
use Rattle.dtype_types.proofs.Sides.{names_three, types_three, tags_three}
use Rattle.dtype_types.proofs.lemmas.TreeLaws.{triples_variants}

pub valid_struct_of : (fs : List (List ℕ × Tree)) → All Valid (field_types fs) → ValidItems (fields fs)
valid_struct_of [] h = tt
valid_struct_of (f ∷ fs) h = (h 0 f.1 (omega arith), valid_struct_of fs (λ k d within. h (suc k) d (omega (arith, within))))

pub valid_variants : (vs : List (List ℕ × (Tree × ℕ))) → All Valid (variant_types vs) → ValidItems (variants vs)
valid_variants [] h = tt
valid_variants (v ∷ vs) h = (h 0 v.1.0 (omega arith), valid_variants vs (λ k d within. h (suc k) d (omega (arith, within))))

-- what the variants of a union are
pub variants_are : (vs : Variants) → AreVariants vs → MakesUnion (variant_names (triples vs)) (length (triples vs)) (variant_tags (triples vs)) × Bytes (variant_tags (triples vs))
unfolding AreVariants
variants_are vs h = h

pub are_variants : (vs : Variants) → MakesUnion (variant_names (triples vs)) (length (triples vs)) (variant_tags (triples vs)) → Bytes (variant_tags (triples vs)) → AreVariants vs
unfolding AreVariants
are_variants vs made bytes = (made, bytes)

pub listed_variants : (vs : List (List ℕ × (Tree × ℕ))) → MakesUnion (variant_names vs) (length vs) (variant_tags vs) → Bytes (variant_tags vs) → AreVariants (variants vs)
unfolding AreVariants
listed_variants vs made bytes = subst (λ ps. MakesUnion (variant_names ps) (length ps) (variant_tags ps) × Bytes (variant_tags ps)) (sym (triples_variants vs)) (made, bytes)

-- names, types and tags that make a union, side by side
pub zipped_variants : (ns : List (List ℕ)) (ts : List Tree) (gs : List ℕ) → MakesUnion ns (length ts) gs → Bytes gs → AreVariants (variants (zip ns (zip ts gs)))
zipped_variants ns ts gs made bytes =
    let vs = zip ns (zip ts gs) in
    let names : variant_names vs ≡ ns = names_three ns ts gs (sym made.0.0) (sym made.0.1) in
    let tags : variant_tags vs ≡ gs = tags_three ns ts gs (sym made.0.0) (sym made.0.1) in
    let count : length (variant_names vs) ≡ length vs = length-map vs (λ v. v.0) in
    listed_variants vs
    ((count, count ∙ sym (length-map vs (λ v. v.1.1)), λ none. made.0.2 (sym names ∙ none)), subst (λ hs. Distinct hs) (sym tags) made.1, subst (λ ms. Distinct ms) (sym names) made.2)
    (subst Bytes (sym tags) bytes)

pub valid_zipped : (ns : List (List ℕ)) (ts : List Tree) (gs : List ℕ) → MakesUnion ns (length ts) gs → All Valid ts → ValidItems (variants (zip ns (zip ts gs)))
valid_zipped ns ts gs made valid = valid_variants (zip ns (zip ts gs)) (subst (All Valid) (sym (types_three ns ts gs (sym made.0.0) (sym made.0.1))) valid)
