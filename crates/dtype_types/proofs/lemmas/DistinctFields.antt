-- SPDX-License-Identifier: Apache-2.0
-- SPDX-FileCopyrightText: Copyright the Vortex contributors

-- What a name leads to once a field is removed, and in two lists joined whose names are distinct. A caller names all in
-- one line,
--     #![tactic(auto, using(dtype_types::proofs::lemmas::DistinctFields::distinct_fields))]
use Rattle.std.proofs.Common.{◌≡◌, ◌≢◌, ℕ, zero, suc, ◌<◌, true, cond, List, [], ◌∷◌, ◌++◌, length, Some, None, refl, sym, ap, ◌∙◌, arith, slice_get, get_or, Contains, IsSome}
use Rattle.std.specs.Prelude.{nat_eq, remove}
use Rattle.std.specs.Cmp.Lexicographic.{pointwise}
use Rattle.std.specs.Option.{is_some}
use Rattle.std.proofs.lemmas.Bool.{cond_both}
use Rattle.std.proofs.lemmas.Option.{same_Some, slice_get_within, get_or_from_slice_get}
use Rattle.dtype_base.specs.Distinct.{Distinct}
use Rattle.dtype_base.specs.FieldNames.{first_place}
use Rattle.dtype_base.proofs.lemmas.Lookups.{first_of_place, no_place}
use Rattle.dtype_types.proofs.lemmas.JoinedFields.{named_behind}
use Rattle.dtype_types.proofs.lemmas.Lookups.{no_field_at_place, other_name}
use Rattle.dtype_types.proofs.lemmas.Presence.{placed_is_among, placed_is_named}
use Rattle.dtype_types.specs.parts.Lookups.{field_names, first_named}
use Rattle.dtype_types.specs.tree.Tree.{Tree}

-- ---- a field is removed

-- another name leads where it led
left-at : (fs : List (List ℕ × Tree)) (name n : List ℕ) (i : ℕ) → slice_get (field_names fs) i ≡ Some name → n ≢ name → first_named (remove fs i) n ≡ first_named fs n
left-at [] name n i e ne = cc
left-at (p ∷ fs) name n zero e ne = sym (other_name p.0 n (Some p.1) (first_named fs n) (λ same. ne (sym same ∙ same_Some p.0 name e)))
left-at (p ∷ fs) name n (suc i) e ne = ap (λ r. cond (pointwise nat_eq p.0 n) (Some p.1) r) (left-at fs name n i e ne)

pub named_left : (fs : List (List ℕ × Tree)) (name n : List ℕ) (i : ℕ) → Some i ≡ first_place (field_names fs) name → n ≢ name → first_named (remove fs i) n ≡ first_named fs n
named_left fs name n i e ne = left-at fs name n i (first_of_place (field_names fs) name i e).here ne

-- its name leads nowhere, where no other field has it
nowhere : (fs : List (List ℕ × Tree)) (n : List ℕ) → ((k : ℕ) → k < length (field_names fs) → get_or (field_names fs) k n ≢ n) → first_named fs n ≡ None
nowhere fs n none =
    let names = field_names fs in
    sym (no_field_at_place fs n (sym (no_place names n (λ k e. none k (slice_get_within names k n e) (get_or_from_slice_get names k n n e)))))

gone-at : (fs : List (List ℕ × Tree)) (name : List ℕ) (i : ℕ) → slice_get (field_names fs) i ≡ Some name → Distinct (field_names fs) → first_named (remove fs i) name ≡ None
gone-at [] name i e d = cc
gone-at (p ∷ fs) name zero e d = nowhere fs name (λ k within same. d 0 (suc k) name (omega arith) (omega (arith, within)) (same_Some p.0 name e ∙ sym same))
gone-at (p ∷ fs) name (suc i) e d =
    let here = get_or_from_slice_get (field_names fs) i name name e in
    let within = slice_get_within (field_names fs) i name e in
    other_name p.0 name (Some p.1) (first_named (remove fs i) name) (λ same. d 0 (suc i) name (omega arith) (omega (arith, within)) (same ∙ sym here))
    ∙ gone-at fs name i e (λ j k x before inside. d (suc j) (suc k) x (omega (arith, before)) (omega (arith, inside)))

pub named_gone : (fs : List (List ℕ × Tree)) (name : List ℕ) (i : ℕ) → Some i ≡ first_place (field_names fs) name → Distinct (field_names fs) → first_named (remove fs i) name ≡ None
named_gone fs name i e d = gone-at fs name i (first_of_place (field_names fs) name i e).here d

-- ---- two lists are joined

-- a name that leads somewhere is among the names
among : (fs : List (List ℕ × Tree)) (n : List ℕ) → is_some (first_named fs n) ≡ true → Contains (field_names fs) n
among fs n h = placed_is_among (field_names fs) n (sym (placed_is_named fs n) ∙ h)

further : (fs gs : List (List ℕ × Tree)) (n : List ℕ) → is_some (first_named gs n) ≡ true → is_some (first_named (fs ++ gs) n) ≡ true
further [] gs n h = h
further (p ∷ fs) gs n h = cond_both (pointwise nat_eq p.0 n) (Some p.1) (first_named (fs ++ gs) n) (λ o. is_some o ≡ true) (λ _. refl) (λ _. further fs gs n h)

-- what the second has, the first hasn't, so the name leads where it leads in the second
apart : (fs gs : List (List ℕ × Tree)) (n : List ℕ) → Distinct (field_names (fs ++ gs)) → IsSome (first_named gs n) → first_named fs n ≡ None
apart [] gs n d h = refl
apart (p ∷ fs) gs n d h =
    let m = among (fs ++ gs) n (further fs gs n h) in
    other_name p.0 n (Some p.1) (first_named fs n) (λ same. d 0 (suc m.0) n (omega arith) (omega (arith, m.1)) (same ∙ sym m.2))
    ∙ apart fs gs n (λ j k x before inside. d (suc j) (suc k) x (omega (arith, before)) (omega (arith, inside))) h

pub named_alone : (fs gs : List (List ℕ × Tree)) (n : List ℕ) → Distinct (field_names (fs ++ gs)) → IsSome (first_named gs n) → first_named (fs ++ gs) n ≡ first_named gs n
named_alone fs gs n d h = named_behind fs gs n (apart fs gs n d h)

pub ruleset distinct_fields = (named_left, named_gone, named_alone)
