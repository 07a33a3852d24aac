-- SPDX-License-Identifier: Apache-2.0
-- SPDX-FileCopyrightText: Copyright the Vortex contributors

-- Whether a field or a variant of a name is there, however it is asked: by its position, by the type at it, or among
-- the names. `presence` names it in one line,
--     #![tactic(auto, using(dtype_types::proofs::lemmas::Presence::presence))]
use Rattle.std.proofs.Common.{◌≡◌, ℕ, List, Option, Some, None, Contains, true, slice_get, refl, ap, sym, ◌∙◌}
use Rattle.std.specs.Option.{is_some, option_map}
use Rattle.std.specs.Str.{bytes_eq}
use Rattle.std.proofs.lemmas.List.Quantifiers.{position-Some}
use Rattle.std.proofs.lemmas.Option.{slice_get-map, slice_get-get_or}
use Rattle.std.proofs.lemmas.Slice.Eq.{bytes_eq-Decides}
use Rattle.dtype_base.specs.FieldNames.{first_place}
use Rattle.dtype_base.proofs.lemmas.Lookups.{first_of_place, absent_of_place}
use Rattle.dtype_types.specs.parts.Lookups.{first_named, field_names, field_types, variant_named, variant_names}
use Rattle.dtype_types.proofs.Untagged.{untagged, untagged_named, untagged_names}
use Rattle.dtype_types.proofs.lemmas.Lookups.{field_at_place, no_field_at_place}
use Rattle.dtype_types.specs.tree.Tree.{Tree}

is_some-map : {A B : Type 0} (f : A → B) (o : Option A) → is_some (option_map f o) ≡ is_some o
is_some-map f None = refl
is_some-map f (Some x) = refl

-- a position has a name where it has a type
typed_where_named : (fs : List (List ℕ × Tree)) (i : ℕ) → is_some (slice_get (field_types fs) i) ≡ is_some (slice_get (field_names fs) i)
typed_where_named fs i =
    ap is_some (slice_get-map (λ p. p.1) fs i) ∙ is_some-map (λ p. p.1) (slice_get fs i)
    ∙ sym (ap is_some (slice_get-map (λ p. p.0) fs i) ∙ is_some-map (λ p. p.0) (slice_get fs i))

-- a name has a position where it has a type
pub placed_is_named : (fs : List (List ℕ × Tree)) (n : List ℕ) → is_some (first_named fs n) ≡ is_some (first_place (field_names fs) n)
placed_is_named fs n = go (first_place (field_names fs) n) refl
  where
    go : (o : Option ℕ) → first_place (field_names fs) n ≡ o → is_some (first_named fs n) ≡ is_some (first_place (field_names fs) n)
    go None e = ap is_some (sym (no_field_at_place fs n (sym e))) ∙ sym (ap is_some e)
    go (Some i) e =
        ap is_some (sym (field_at_place fs n i (sym e))) ∙ typed_where_named fs i
        ∙ ap is_some ((first_of_place (field_names fs) n i (sym e)).here) ∙ sym (ap is_some e)

pub placed_is_variant : (vs : List (List ℕ × (Tree × ℕ))) (n : List ℕ) → is_some (variant_named vs n) ≡ is_some (first_place (variant_names vs) n)
placed_is_variant vs n = sym (ap is_some (untagged_named vs n)) ∙ placed_is_named (untagged vs) n ∙ ap (λ ns. is_some (first_place ns n)) (untagged_names vs)

-- a name that has a position is among the names, and the other way round
pub placed_is_among : (ns : List (List ℕ)) (n : List ℕ) → is_some (first_place ns n) ≡ true → Contains ns n
placed_is_among ns n h = go (first_place ns n) refl h
  where
    go : (o : Option ℕ) → first_place ns n ≡ o → is_some o ≡ true → Contains ns n
    go None e k = cc
    go (Some i) e k = let at = position-Some (λ m. bytes_eq m n) ns i n e in (i, at.0, (bytes_eq-Decides _ n).0 at.1)

pub among_is_placed : (ns : List (List ℕ)) (n : List ℕ) → Contains ns n → is_some (first_place ns n) ≡ true
among_is_placed ns n c = go (first_place ns n) refl
  where
    go : (o : Option ℕ) → first_place ns n ≡ o → is_some (first_place ns n) ≡ true
    go None e = absurd (absent_of_place ns n (sym e) c.0 (slice_get-get_or ns c.0 n c.1 ∙ ap Some c.2))
    go (Some i) e = ap is_some e

pub ruleset presence = (placed_is_named, placed_is_variant, placed_is_among, among_is_placed)
