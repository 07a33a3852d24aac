-- SPDX-License-Identifier: Apache-2.0
-- SPDX-FileCopyrightText: Copyright the Vortex contributors

-- The type at the first position of a name, of fields and of variants.
use Rattle.std.proofs.Common.{◌≡◌, ◌≢◌, ℕ, zero, suc, ◌<◌, List, [], ◌∷◌, Some, None, cond, map, slice_get, refl, ap, sym, ◌∙◌, arith}
use Rattle.std.specs.Str.{bytes_eq}
use Rattle.std.proofs.lemmas.Bool.{false_from_ne_true}
use Rattle.std.proofs.lemmas.Option.{same_Some}
use Rattle.std.proofs.lemmas.Slice.Eq.{bytes_eq-Decides}
use Rattle.dtype_base.specs.FieldNames.{IsAbsent, first_place}
use Rattle.dtype_base.proofs.lemmas.Lookups.{first_of_place, absent_of_place}
use Rattle.dtype_types.specs.parts.Lookups.{first_named, field_names, field_types, variant_named, variant_names, variant_types}
use Rattle.dtype_types.specs.tree.Tree.{Tree}
use Rattle.dtype_types.proofs.Untagged.{untagged, untagged_names, untagged_types, untagged_named}

-- the test of a name, at a name that is equal and at one that is not
pub taken_same_name : {X : Type 0} (m n : List ℕ) (x y : X) → m ≡ n → cond (bytes_eq m n) x y ≡ x
taken_same_name m n x y e = ap (λ b. cond b x y) ((bytes_eq-Decides m n).1 e)

pub other_name : {X : Type 0} (m n : List ℕ) (x y : X) → m ≢ n → cond (bytes_eq m n) x y ≡ y
other_name m n x y ne = ap (λ b. cond b x y) (false_from_ne_true (bytes_eq m n) (λ e. ne ((bytes_eq-Decides m n).0 e)))

-- ---- fields

field_named-at : (ps : List (List ℕ × Tree)) (n : List ℕ) (i : ℕ) → slice_get (field_names ps) i ≡ Some n → ((k : ℕ) → k < i → slice_get (field_names ps) k ≢ Some n) → first_named ps n ≡ slice_get (field_types ps) i
field_named-at (p ∷ ps) n zero here first = taken_same_name p.0 n _ _ (same_Some p.0 n here)
field_named-at (p ∷ ps) n (suc i) here first =
    other_name p.0 n _ _ (λ e. first 0 (omega arith) (ap Some e)) ∙ field_named-at ps n i here (λ k h. first (suc k) (omega (arith, h)))
field_named-at _ n _ here first = cc

field_named-none : (ps : List (List ℕ × Tree)) (n : List ℕ) → IsAbsent (field_names ps) n → first_named ps n ≡ None
field_named-none [] n none = refl
field_named-none (p ∷ ps) n none = other_name p.0 n _ _ (λ e. none 0 (ap Some e)) ∙ field_named-none ps n (λ k. none (suc k))

pub field_at_place : (fs : List (List ℕ × Tree)) (n : List ℕ) (i : ℕ) → Some i ≡ first_place (field_names fs) n → slice_get (field_types fs) i ≡ first_named fs n
field_at_place fs n i e = let at = first_of_place (field_names fs) n i e in sym (field_named-at fs n i at.here at.first)

pub no_field_at_place : (fs : List (List ℕ × Tree)) (n : List ℕ) → None ≡ first_place (field_names fs) n → None ≡ first_named fs n
no_field_at_place fs n e = sym (field_named-none fs n (absent_of_place (field_names fs) n e))

-- ---- variants, by their list of names and types without tags

pub variant_at_place : (vs : List (List ℕ × (Tree × ℕ))) (n : List ℕ) (i : ℕ) → Some i ≡ first_place (variant_names vs) n → slice_get (variant_types vs) i ≡ variant_named vs n
variant_at_place vs n i e =
    sym (ap (λ ts. slice_get ts i) (untagged_types vs)) ∙ field_at_place (untagged vs) n i (e ∙ sym (ap (λ ns. first_place ns n) (untagged_names vs))) ∙ untagged_named vs n

pub no_variant_at_place : (vs : List (List ℕ × (Tree × ℕ))) (n : List ℕ) → None ≡ first_place (variant_names vs) n → None ≡ variant_named vs n
no_variant_at_place vs n e = no_field_at_place (untagged vs) n (e ∙ sym (ap (λ ns. first_place ns n) (untagged_names vs))) ∙ untagged_named vs n

pub ruleset lookups = (field_at_place, no_field_at_place, variant_at_place, no_variant_at_place)
