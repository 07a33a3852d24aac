-- SPDX-License-Identifier: Apache-2.0
-- SPDX-FileCopyrightText: Copyright the Vortex contributors

-- The variants of a valid union by recursion: each has a valid type, and a tag that none after it has.
use Rattle.std.proofs.Common.{◌≡◌, ◌≢◌, ℕ, List, suc, ◌∙◌, inl, inr, length, refl, sym, subst, arith, ap}
use Rattle.std.specs.List.{AllByRecursion}
use Rattle.std.proofs.lemmas.List.{length-map}
use Rattle.std.proofs.lemmas.List.Elements.{recursion_from_All}
use Rattle.dtype_base.specs.Bytes.{Bytes}
use Rattle.dtype_base.specs.Distinct.{Distinct}
use Rattle.dtype_base.specs.declared.nullability.Nullability.{Nullability}
use Rattle.dtype_types.specs.parts.Lookups.{variant_names, variant_tags}
use Rattle.dtype_types.specs.parts.Unions.{HasUnionLengths, AreVariants}
use Rattle.dtype_types.specs.tree.Erase.{erase_items}
use Rattle.dtype_types.specs.tree.Tree.{Tree, Variants, no_items, item, triples, union, rest_of, first_tag}
use Rattle.dtype_types.specs.tree.Valid.{Valid, ValidItems}
use Rattle.dtype_types.specs.values.Value.{Value, Of, VariantOf}
use Rattle.dtype_types.proofs.lemmas.ValidLists.{variants_are, are_variants}

-- none of these variants has the tag
abbrev pub LacksTag : ℕ → Variants → Type 0
LacksTag g vs = AllByRecursion (λ h. g ≢ h) (variant_tags (triples vs))

abbrev pub OwnTags : Variants → Type 0
OwnTags no_items = Unit {0}
OwnTags (item n t g rest) = Valid t × LacksTag g rest × OwnTags rest

each_tag : (vs : Variants) → Distinct (variant_tags (triples vs)) → ValidItems vs → OwnTags vs
each_tag no_items apart valid = tt
each_tag (item n t g rest) apart valid = (
  valid.0,
  recursion_from_All (λ h. g ≢ h) (variant_tags (triples rest)) (λ j d within. apart 0 (suc j) d (omega arith) (omega arith)),
  each_tag rest (λ i j d before within. apart (suc i) (suc j) d (omega arith) (omega arith)) valid.1,
)

pub own_tags : (vs : Variants) (n : Nullability) → Valid (union vs n) → OwnTags vs
own_tags vs n h = each_tag vs (variants_are vs h.0).0.1 h.1

-- a variant has a tag that is there
pub absent : (g : ℕ) (vs : Variants) → LacksTag g vs → (h : ℕ) (v : Value) → h ≡ g → VariantOf h v vs → ⊥
absent g no_items lacks h v is o = o
absent g (item n t i vs) lacks h v is (inl o) = lacks.0 (sym is ∙ o.0)
absent g (item n t i vs) lacks h v is (inr o) = absent g vs lacks.1 h v is o

-- the value of a tag that no other variant has
pub value_of_first : (g i : ℕ) (v : Value) (n : List ℕ) (u : Tree) (ws : Variants) → LacksTag g ws → VariantOf g v (item n u i ws) → Of v u
value_of_first g i v n u ws h (inl o) = o.1
value_of_first g i v n u ws h (inr o) = absurd (absent g ws h g v refl o)

-- the value of another tag than the first
pub later_of : (g k i : ℕ) (v : Value) (n : List ℕ) (u : Tree) (vs ws : Variants) → g ≡ i → LacksTag g vs → VariantOf k v vs → VariantOf k v (item n u i ws) → VariantOf k v ws
later_of g k i v n u vs ws same h p (inl o) = absurd (absent g vs h k v (o.0 ∙ sym same) p)
later_of g k i v n u vs ws same h p (inr o) = o

-- variants that are equal but for the nullabilities of their types have the same names and tags
same_sides : (vs ws : Variants) → erase_items vs ≡ erase_items ws → (variant_names (triples vs) ≡ variant_names (triples ws)) × (variant_tags (triples vs) ≡ variant_tags (triples ws))
same_sides no_items no_items e = (refl, refl)
same_sides (item m t g vs) (item n u h ws) e = let rest = same_sides vs ws (ap rest_of e) in (cc (rest.0), cc (ap (first_tag g) e, rest.1))
same_sides _ _ e = absurd (cc e)

pub lacks_also : (g : ℕ) (vs ws : Variants) → erase_items vs ≡ erase_items ws → LacksTag g vs → LacksTag g ws
lacks_also g vs ws e h = subst (AllByRecursion (λ h. g ≢ h)) (same_sides vs ws e).1 h

pub are_variants_also : (vs ws : Variants) → erase_items vs ≡ erase_items ws → AreVariants vs → AreVariants ws
are_variants_also vs ws e h =
    let was = variants_are vs h in
    let same = same_sides vs ws e in
    let lengths : HasUnionLengths (variant_names (triples ws)) (length (triples ws)) (variant_tags (triples ws)) = (length-map (triples ws) (λ v. v.0), length-map (triples ws) (λ v. v.0) ∙ sym (length-map (triples ws) (λ v. v.1.1)), λ none. was.0.0.2 (same.0 ∙ none)) in
    are_variants ws (lengths, subst (λ gs. Distinct gs) same.1 was.0.1, subst (λ ns. Distinct ns) same.0 was.0.2) (subst Bytes same.1 was.1)
