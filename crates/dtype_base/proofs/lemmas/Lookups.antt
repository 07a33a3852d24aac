-- SPDX-License-Identifier: Apache-2.0
-- SPDX-FileCopyrightText: Copyright the Vortex contributors

-- Lemmas about lookups. A caller names all of them in one line,
--     #![tactic(auto, using(dtype_base::proofs::lemmas::Lookups::lookups))]
use Rattle.std.proofs.Common.{◌≡◌, ℕ, zero, suc, ◌<◌, ◌≤◌, ◌==◌, ◌^◌, List, [], get_or, length, Option, Some, None, IfSome, IfNone, IsSome, ◌+◌, cond, ◌⊎◌, refl, ap, sym, ◌∙◌, inl, inr, arith, slice_get}
use Rattle.std.specs.List.{position_or_len}
use Rattle.std.specs.Str.{bytes_eq}
use Rattle.std.proofs.lemmas.Bool.{cond-true, eq-eqb, lt-ltb, le-ltb, false≢true, cases_lt}
use Rattle.std.proofs.lemmas.List.Recursion.{max_bounds, max_least}
use Rattle.std.proofs.lemmas.List.Sums.{count_by-le-length, fails_before_first, passes_at_first, sum_by_more_le}
use Rattle.std.proofs.lemmas.Option.{none-some, slice_get_within, get_or_from_slice_get, slice_get-get_or}
use Rattle.std.proofs.lemmas.Slice.Eq.{bytes_eq-Decides}
use Rattle.dtype_base.specs.BinaryDigits.{binary_digits}
use Rattle.dtype_base.proofs.lemmas.BinaryDigits.{digits_reach, digits_fewest}
use Rattle.dtype_base.specs.FieldNames.{FirstAt, IsAbsent, first_place}
use Rattle.dtype_base.specs.Comparisons.{bucket_len, comparisons, longest_bucket, most_sharing}
use Rattle.dtype_base.specs.NameHashes.{bucket_of}

-- ---- `first_place` is the first position of the name, or none where the name is absent

place_tells : (names : List (List ℕ)) (n : List ℕ) → ((i : ℕ) × (first_place names n ≡ Some i) × FirstAt names n i) ⊎ ((first_place names n ≡ None) × IsAbsent names n)
place_tells names n =
    let is = λ (m : List ℕ). bytes_eq m n in
    let first = position_or_len is names in
    let not_before = λ (k : ℕ) (before : k < first) (same : slice_get names k ≡ Some n).
    false≢true (sym (fails_before_first is names k n before) ∙ (bytes_eq-Decides _ n).1 (get_or_from_slice_get names k n n same)) in
    elim (cases_lt first (length names)) [
      | inl within ↦ inl (
        first,
        ap (λ b. cond b (Some first) None) (lt-ltb first (length names) within),
        record {
          here = slice_get-get_or names first n within ∙ ap Some ((bytes_eq-Decides _ n).0 (passes_at_first is names n within));
          first = not_before;
        },
      )
      | inr past ↦ inr (ap (λ b. cond b (Some first) None) (le-ltb first (length names) past), λ k same. not_before k (omega (arith, past, slice_get_within names k n same)) same)
    ]

pub first_of_place : (names : List (List ℕ)) (n : List ℕ) (i : ℕ) → Some i ≡ first_place names n → FirstAt names n i
first_of_place names n i e = grind (arith, place_tells)

pub absent_of_place : (names : List (List ℕ)) (n : List ℕ) → None ≡ first_place names n → IsAbsent names n
absent_of_place names n e = elim (place_tells names n) [ inl s ↦ absurd (none-some _ (e ∙ s.1)) | inr none ↦ none.1 ]

pub place_of_first : (names : List (List ℕ)) (n : List ℕ) (i : ℕ) → FirstAt names n i → first_place names n ≡ Some i
place_of_first names n i f = grind (arith, place_tells)

pub no_place : (names : List (List ℕ)) (n : List ℕ) → IsAbsent names n → first_place names n ≡ None
no_place names n none = elim (place_tells names n) [ inl s ↦ absurd (none s.0 s.2.here) | inr at ↦ at.0 ]

-- the same of a result
pub place_found : (names : List (List ℕ)) (n : List ℕ) (r : Option ℕ) → IfSome r (FirstAt names n) → IfNone r (IsAbsent names n) → r ≡ first_place names n
place_found names n None some none = sym (no_place names n none)
place_found names n (Some i) some none = sym (place_of_first names n i some)

pub found_first : (names : List (List ℕ)) (n : List ℕ) (r : Option ℕ) → r ≡ first_place names n → IfSome r (FirstAt names n)
found_first names n None e = tt
found_first names n (Some i) e = first_of_place names n i e

pub none_absent : (names : List (List ℕ)) (n : List ℕ) (r : Option ℕ) → r ≡ first_place names n → IfNone r (IsAbsent names n)
none_absent names n None e = absent_of_place names n e
none_absent names n (Some i) e = tt

-- ---- the number of comparisons

-- a bucket has no more names than there are
bucket_within : (names : List (List ℕ)) (n : List ℕ) → bucket_len names n ≤ length names
unfolding bucket_len
bucket_within names n = count_by-le-length _ names

-- the bucket of a name that occurs has some
bucket_some : (names : List (List ℕ)) (n : List ℕ) (i : ℕ) → slice_get names i ≡ Some n → 0 < bucket_len names n
unfolding bucket_len
bucket_some names n i e =
    let bucket = bucket_of (length names) in
    let test = λ (m : List ℕ). bucket m == bucket n in
    let passes : cond {A = ℕ} (test (get_or names i [])) 1 0 ≡ 1 = cond-true _ 1 0 (eq-eqb _ _ (ap bucket (get_or_from_slice_get names i n [] e))) in
    omega (arith, sum_by_more_le (λ m. cond (test m) 1 0) names i [] (slice_get_within names i n e), passes)

-- the longest bucket has no fewer names than any, and no more than all do
bucket_at_most : (names : List (List ℕ)) (i : ℕ) → i < length names → bucket_len names (get_or names i []) ≤ longest_bucket names
unfolding longest_bucket most_sharing
bucket_at_most names i within = max_bounds (most_sharing names) (bucket_len names) refl (λ n ns. refl) names i [] within

longest_at_most : (names : List (List ℕ)) (most : ℕ) → ((n : List ℕ) (i : ℕ) → slice_get names i ≡ Some n → bucket_len names n ≤ most) → longest_bucket names ≤ most
unfolding longest_bucket most_sharing
longest_at_most names most each = max_least (most_sharing names) (bucket_len names) refl (λ n ns. refl) names [] most (λ i within. each (get_or names i []) i (slice_get-get_or names i [] within))

pub longest_bucket_is : (names : List (List ℕ)) (longest : ℕ) → ((n : List ℕ) (i : ℕ) → slice_get names i ≡ Some n → bucket_len names n ≤ longest)
    → (0 < longest → (i : ℕ) × (i < length names) × (bucket_len names (get_or names i []) ≡ longest)) → longest ≡ longest_bucket names
longest_bucket_is names longest each reached = grind (arith, longest_at_most, bucket_at_most)

pub longest_within : (names : List (List ℕ)) → longest_bucket names ≤ length names
longest_within names = longest_at_most names (length names) (λ n i e. bucket_within names n)

-- among no names nothing is compared
pub none_compared : (names : List (List ℕ)) → length names ≡ 0 → comparisons (longest_bucket names) ≡ 0
none_compared names none = let no_bucket : longest_bucket names ≡ 0 = omega (arith, none, longest_within names) in ap comparisons no_bucket

-- the longest bucket has some name, where there are names
pub longest_some : (names : List (List ℕ)) → 0 < length names → 0 < longest_bucket names
longest_some names some = omega (arith, bucket_at_most names 0 some, bucket_some names (get_or names 0 []) 0 (slice_get-get_or names 0 [] some))

of_few : (n count digits : ℕ) → count ≡ comparisons n → n ≤ 2 ^ digits → count ≤ suc digits
of_few zero count digits e fits = omega (arith, e)
of_few (suc n) count digits e fits = let few = digits_fewest n digits (omega (arith, fits)) in omega (arith, e, few)

of_some : (n count : ℕ) → count ≡ comparisons n → 0 < n → 0 < count
of_some zero count e a = absurd (omega arith)
of_some (suc n) count e a = omega (arith, e)

-- at most one more than any number of digits to whose power of two there are at most so many names
pub few_compared : (names : List (List ℕ)) (count digits : ℕ) → count ≡ comparisons (longest_bucket names) → length names ≤ 2 ^ digits → count ≤ suc digits
few_compared names count digits e fits = of_few (longest_bucket names) count digits e (omega (arith, longest_within names, fits))

-- at most one more than the binary digits of the number of names
pub most_compared : (names : List (List ℕ)) (count : ℕ) → count ≡ comparisons (longest_bucket names) → count ≤ binary_digits (length names) + 1
most_compared names count e = let few = few_compared names count (binary_digits (length names)) e (omega (arith, digits_reach (length names))) in omega (arith, few)

-- at least one where a position is found
pub found_compared : (names : List (List ℕ)) (n : List ℕ) (r : Option ℕ) (count : ℕ) → r ≡ first_place names n → count ≡ comparisons (longest_bucket names) → IsSome r → 1 ≤ count
found_compared names n None count e counted found = absurd (false≢true found)
found_compared names n (Some i) count e counted found =
    of_some (longest_bucket names) count counted (longest_some names (omega (arith, slice_get_within names i n (first_of_place names n i e).here)))

pub ruleset lookups = (place_of_first, no_place, place_found, first_of_place, absent_of_place, found_first, none_absent, few_compared, most_compared, found_compared, digits_reach, digits_fewest)
