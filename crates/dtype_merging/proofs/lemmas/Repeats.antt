-- SPDX-License-Identifier: Apache-2.0
-- SPDX-FileCopyrightText: Copyright the Vortex contributors

-- The test whether a name repeats, and that it is decided.
use Rattle.std.proofs.Common.{arith, ◌≡◌, ◌≢◌, ◌⊎◌, ◌<◌, ◌≤◌, ◌+◌, ℕ, suc, List, [], ◌∷◌, ◌&&◌, length, true, false, Some, None, slice_get, get_or, refl, sym, ap, ◌∙◌, inl, inr}
use Rattle.std.specs.Option.{is_none, is_some}
use Rattle.std.proofs.lemmas.Bool.{cases_lt, false≢true}
use Rattle.std.proofs.lemmas.List.Kept.{AllPairs-cons}
use Rattle.std.proofs.lemmas.Option.{same_Some, slice_get-get_or, slice_get_within, get_or_from_slice_get}
use Rattle.dtype_base.specs.Distinct.{Distinct}
use Rattle.dtype_base.specs.FieldNames.{first_place}
use Rattle.dtype_base.proofs.lemmas.Lookups.{absent_of_place, place_of_first}
use Rattle.dtype_types.specs.parts.Lookups.{first_named, field_names}
use Rattle.dtype_types.specs.tree.Tree.{Tree, Fields, pairs}
use Rattle.dtype_types.proofs.lemmas.Presence.{placed_is_among, placed_is_named}
use Rattle.dtype_merging.specs.ReadsAs.{NoRepeats}
use Rattle.dtype_merging.specs.MergedColumns.{no_repeats}
use Rattle.dtype_merging.proofs.lemmas.Finding.{Pairs, by_bool, by_option, no_repeats_rest, true_both}

-- a name that finds nothing has no place
no_place_of : (ps : Pairs) (n : List ℕ) → first_named ps n ≡ None → None ≡ first_place (field_names ps) n
no_place_of ps n e = by_option (first_place (field_names ps) n) (λ none. sym none) (λ i some. absurd (false≢true (sym (ap is_some e) ∙ placed_is_named ps n ∙ ap is_some some)))

-- no name repeats where the test says so
pub distinct_tested : (ps : Pairs) → no_repeats ps ≡ true → Distinct (field_names ps)
distinct_tested [] e = λ i j d before within. absurd (omega arith)
distinct_tested (p ∷ ps) e =
    let r = no_repeats_rest p ps e in
    AllPairs-cons (λ x y. x ≢ y) p.0 (field_names ps)
    (λ k d within same. absent_of_place (field_names ps) p.0 (no_place_of ps p.0 r.0) k (slice_get-get_or (field_names ps) k d within ∙ ap Some (sym same)))
    (distinct_tested ps r.1)

first_alone : (p : List ℕ × Tree) (ps : Pairs) → Distinct (field_names (p ∷ ps)) → first_named ps p.0 ≡ None
first_alone p ps d = by_option (first_named ps p.0) (λ e. e)
    (λ u e.
    let m = placed_is_among (field_names ps) p.0 (sym (placed_is_named ps p.0) ∙ ap is_some e) in
    absurd (d 0 (suc m.0) p.0 (omega arith) (omega (arith, m.1)) (sym m.2)))

-- and the test says so where no name repeats
pub tested_distinct : (ps : Pairs) → Distinct (field_names ps) → no_repeats ps ≡ true
tested_distinct [] d = refl
tested_distinct (p ∷ ps) d =
    true_both (is_none (first_named ps p.0)) (no_repeats ps) (ap is_none (first_alone p ps d)) (tested_distinct ps (λ i j x before within. d (suc i) (suc j) x (omega (arith, before)) (omega (arith, within))))

-- of two structs
pub repeats_tested : (fs gs : Fields) → (no_repeats (pairs fs) && no_repeats (pairs gs)) ≡ false → ¬ NoRepeats fs gs
repeats_tested fs gs e d = false≢true (sym e ∙ true_both (no_repeats (pairs fs)) (no_repeats (pairs gs)) (tested_distinct (pairs fs) d.0) (tested_distinct (pairs gs) d.1))

pub repeat_or_not : (fs gs : Fields) → NoRepeats fs gs ⊎ (¬ NoRepeats fs gs)
repeat_or_not fs gs =
    by_bool (no_repeats (pairs fs))
    (λ e. by_bool (no_repeats (pairs gs))
    (λ f. inl (distinct_tested (pairs fs) e, distinct_tested (pairs gs) f))
    (λ f. inr (λ d. false≢true (sym f ∙ tested_distinct (pairs gs) d.1))))
    (λ e. inr (λ d. false≢true (sym e ∙ tested_distinct (pairs fs) d.0)))

-- no name repeats where each field is the first of its name
pub all_first : (ps : Pairs) → ((k : ℕ) (n : List ℕ) → slice_get (field_names ps) k ≡ Some n → first_place (field_names ps) n ≡ Some k) → no_repeats ps ≡ true
all_first ps h =
    let ns = field_names ps in
    tested_distinct ps (λ i j d before within same.
    let at_i : slice_get ns i ≡ Some (get_or ns j d) = slice_get-get_or ns i d (omega (arith, before, within)) ∙ ap Some same in
    let at_j : slice_get ns j ≡ Some (get_or ns j d) = slice_get-get_or ns j d within in
    let one : i ≡ j = same_Some i j (sym (h i (get_or ns j d) at_i) ∙ h j (get_or ns j d) at_j) in omega (arith, before, one))

-- and one repeats where a field isn't the first of its name
pub not_first : (ps : Pairs) (k : ℕ) (n : List ℕ) → slice_get (field_names ps) k ≡ Some n → first_place (field_names ps) n ≢ Some k → no_repeats ps ≡ false
not_first ps k n is other = by_bool (no_repeats ps)
    (λ e.
    let ns = field_names ps in
    let d = distinct_tested ps e in
    absurd (other (place_of_first ns n k record {
      here = is;
      first = λ j before same. d j k n before (slice_get_within ns k n is) (get_or_from_slice_get ns j n n same ∙ sym (get_or_from_slice_get ns k n n is));
    })))
    (λ e. e)

-- a loop over the names: one more is the first of its name
pub first_more : (ns : List (List ℕ)) (i : ℕ) (n : List ℕ) → ((k : ℕ) (m : List ℕ) → k < i → slice_get ns k ≡ Some m → first_place ns m ≡ Some k) → slice_get ns i ≡ Some n → first_place ns n ≡ Some i
    → (k : ℕ) (m : List ℕ) → k < i + 1 → slice_get ns k ≡ Some m → first_place ns m ≡ Some k
first_more ns i n h at first k m before is = elim (cases_lt k i) [
  | inl b ↦ h k m b is
  | inr past ↦ let e : k ≡ i = omega (arith, before, past) in let same : m ≡ n = same_Some m n (sym is ∙ ap (slice_get ns) e ∙ at) in ap (first_place ns) same ∙ first ∙ ap Some (sym e)
]

pub all_are_first : (ps : Pairs) (i : ℕ) → ((k : ℕ) (m : List ℕ) → k < i → slice_get (field_names ps) k ≡ Some m → first_place (field_names ps) m ≡ Some k) → length (field_names ps) ≤ i → no_repeats ps ≡ true
all_are_first ps i h all = all_first ps (λ k n is. let within = slice_get_within (field_names ps) k n is in h k n (omega (arith, within, all)) is)
