-- SPDX-License-Identifier: Apache-2.0
-- SPDX-FileCopyrightText: Copyright the Vortex contributors

-- Names that are among the names of fields, where a lookup says by its position or its type whether they are; what is
-- left of them where fields are joined or one is removed; and the tags that are among those of a union, and how many.
use Rattle.std.proofs.Common.{◌≡◌, ◌≢◌, ◌↔◌, ◌∙◌, ◌<◌, ◌≤◌, ℕ, zero, suc, List, [], ◌∷◌, ◌++◌, length, Some, None, Contains, true, slice_get, refl, ap, sym, subst, arith}
use Rattle.std.specs.Prelude.{remove}
use Rattle.std.specs.Option.{is_some}
use Rattle.std.proofs.lemmas.Bool.{false≢true}
use Rattle.std.proofs.lemmas.List.{length-map}
use Rattle.std.proofs.lemmas.List.Elements.{All-contains}
use Rattle.std.proofs.lemmas.List.Quantifiers.{all_pairs_remove}
use Rattle.std.proofs.lemmas.Option.{slice_get_within, get_or_from_slice_get}
use Rattle.dtype_base.specs.Distinct.{Distinct}
use Rattle.dtype_base.specs.FieldNames.{first_place}
use Rattle.dtype_paths.proofs.lemmas.DistinctLists.{distinct-below}
use Rattle.dtype_types.specs.parts.Lookups.{field_names, first_named, variant_names, variant_tags}
use Rattle.dtype_types.specs.tree.Tree.{Tree}
use Rattle.dtype_types.specs.tree.TreeOf.{variants_of, variant_list}
use Rattle.dtype_types.specs.tree.Valid.{ValidVariants}
use Rattle.dtype_types.specs.declared.union_variants.UnionVariants.{UnionVariants}
use Rattle.dtype_types.proofs.lemmas.DistinctFields.{named_alone, named_gone}
use Rattle.dtype_types.proofs.lemmas.JoinedFields.{named_before}
use Rattle.dtype_types.proofs.lemmas.Presence.{among_is_placed, placed_is_named}
use Rattle.dtype_types.proofs.lemmas.TreeLaws.{triples_variants}
use Rattle.dtype_types.proofs.lemmas.ValidLists.{variants_are}

-- a name that has no position isn't among the names
pub unplaced_not_among : (ns : List (List ℕ)) (n : List ℕ) → None ≡ first_place ns n → Contains ns n → ⊥
unplaced_not_among ns n e c = false≢true (ap is_some e ∙ among_is_placed ns n c)

-- a name that is among the names leads to a type, and one that leads to none isn't
pub among_is_named : (fs : List (List ℕ × Tree)) (n : List ℕ) → Contains (field_names fs) n → is_some (first_named fs n) ≡ true
among_is_named fs n c = placed_is_named fs n ∙ among_is_placed (field_names fs) n c

pub unnamed_not_among : (fs : List (List ℕ × Tree)) (n : List ℕ) → first_named fs n ≡ None → Contains (field_names fs) n → ⊥
unnamed_not_among fs n e c = false≢true (ap is_some (sym e) ∙ among_is_named fs n c)

-- where two lists are joined it leads where it leads in the first
pub among_before : (fs gs : List (List ℕ × Tree)) (n : List ℕ) → Contains (field_names fs) n → first_named (fs ++ gs) n ≡ first_named fs n
among_before fs gs n c = named_before fs gs n (among_is_named fs n c)

-- a field whose name no other has is removed: the name is gone
pub removed_not_among : (fs : List (List ℕ × Tree)) (n : List ℕ) (i : ℕ) → Some i ≡ first_place (field_names fs) n → Distinct (field_names fs) → Contains (field_names (remove fs i)) n → ⊥
removed_not_among fs n i e d c = unnamed_not_among (remove fs i) n (named_gone fs n i e d) c

-- and where no name of the two lists repeats, where it leads in the second
pub among_behind : (fs gs : List (List ℕ × Tree)) (n : List ℕ) → Distinct (field_names (fs ++ gs)) → Contains (field_names gs) n → first_named (fs ++ gs) n ≡ first_named gs n
among_behind fs gs n d c = named_alone fs gs n d (among_is_named gs n c)

-- names that don't repeat still don't once a field is removed
names_removed : (fs : List (List ℕ × Tree)) (i : ℕ) → field_names (remove fs i) ≡ remove (field_names fs) i
names_removed [] zero = refl
names_removed [] (suc i) = refl
names_removed (p ∷ fs) zero = refl
names_removed (p ∷ fs) (suc i) = ap (λ ns. p.0 ∷ ns) (names_removed fs i)

pub distinct_removed : (fs rest : List (List ℕ × Tree)) (i : ℕ) → rest ≡ remove fs i → i < length fs → Distinct (field_names fs) → Distinct (field_names rest)
distinct_removed fs rest i e within d = subst Distinct (sym (ap field_names e ∙ names_removed fs i)) (all_pairs_remove (λ x y. x ≢ y) (field_names fs) i (omega (arith, within, length-map fs (λ p. p.0))) d)

-- there is no field exactly where there is none at the first position
pub none_first : (fs : List (List ℕ × Tree)) → (slice_get (field_names fs) 0 ≡ None) ↔ (fs ≡ [])
none_first [] = (λ e. refl, λ e. refl)
none_first (p ∷ fs) = (λ e. cc, λ e. cc)

-- ---- a union's variants

-- the tag at a position is among the tags
pub tag_at_is_among : (gs : List ℕ) (i g : ℕ) → slice_get gs i ≡ Some g → Contains gs g
tag_at_is_among gs i g e = (i, slice_get_within gs i g e, get_or_from_slice_get gs i g g e)

-- a valid union has from 1 to 256 variants
pub some_variants : (u : UnionVariants) → ValidVariants (variants_of u) → 1 ≤ length (variant_list u)
some_variants u h = at_least_one (variant_list u) (subst (λ vs. variant_names vs ≢ []) (triples_variants (variant_list u)) (variants_are _ h.0).0.0.2)
  where
    at_least_one : (vs : List (List ℕ × (Tree × ℕ))) → variant_names vs ≢ [] → 1 ≤ length vs
    at_least_one [] h = absurd (h refl)
    at_least_one (v ∷ vs) h = omega arith

pub few_variants : (u : UnionVariants) → ValidVariants (variants_of u) → length (variant_list u) ≤ 256
few_variants u h = grind (arith, triples_variants (variant_list u), variants_are _ h.0, distinct-below (variant_tags (variant_list u)) 256, All-contains (λ g. g < 256) (variant_tags (variant_list u)), length-map (variant_list u) (λ v. v.1.1))

pub ruleset among = (unplaced_not_among, among_is_named, unnamed_not_among, among_before, removed_not_among, none_first)
