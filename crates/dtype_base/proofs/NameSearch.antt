-- SPDX-License-Identifier: Apache-2.0
-- SPDX-FileCopyrightText: Copyright the Vortex contributors

-- The order of positions: that a binary search in it is right, and that equal names are neighbours.
use Rattle.std.proofs.Common.{◌≡◌, ℕ, zero, Bool, suc, ◌+◌, ◌-◌, ◌*◌, ◌/◌, ◌<◌, ◌≤◌, ◌^◌, List, [], ◌∷◌, ◌++◌, true, false, Option, Some, None, length, get_or, if◌then◌else◌, refl, sym, ap, subst, ◌∙◌, inl, inr, arith, pow-suc}
use Rattle.std.specs.Prelude.{◌≢◌, slice_get}
use Rattle.std.specs.List.{range_with_len, AllAdjacentBelow}
use Rattle.std.specs.List.Sorted.{IsNonDecreasingBy, IsPermutation, IsSorted}
use Rattle.std.specs.Bool.{then_some}
use Rattle.std.specs.Int.Bits.{bit_and, and_zero_r}
use Rattle.std.proofs.lemmas.Nat.{and_mask}
use Rattle.std.proofs.Math.Nat.{mod-eq_of_lt}
use Rattle.std.specs.declared.cmp.Ordering.{Ordering}
use Rattle.std.specs.declared.cmp.Ordering.TheVariants.{Less, Equal}
use Rattle.std.specs.Ordering.{is_lt, is_eq, ordering_index, ordering_then, nat_cmp}
use Rattle.std.specs.Cmp.{IsTotalOrder, then_total, on_total, nat_cmp_total, nat_eq_equiv}
use Rattle.std.specs.Cmp.Lexicographic.{options_total, nat_list_cmp_total, texts_ties, bytes_decides}
use Rattle.std.proofs.lemmas.Cmp.{tied_itself}
use Rattle.std.proofs.lemmas.Bool.{false≢true, cases_lt, cases_order}
use Rattle.std.proofs.lemmas.Bool.Decides.{Decides-eqb}
use Rattle.std.proofs.lemmas.Map.Keys.{ge_from_not_lt, IsDistinct-IsPermutation}
use Rattle.std.proofs.lemmas.Map.Made.{AllPairs-from_IsDistinct, IsDistinct-from_AllPairs}
use Rattle.std.proofs.lemmas.List.{get_or_default, get_or-map, length-map, map-id}
use Rattle.std.proofs.lemmas.List.Elements.{All-from_get_or}
use Rattle.std.proofs.lemmas.List.FromFn.{length-range_with_len, get_or-range_with_len, map-range_with_len_more}
use Rattle.std.proofs.lemmas.List.Sorted.{ranks_by, sorted_far, searchable_from_sorted, length_permutation, Contains-permutation, All-permutation}
use Rattle.std.proofs.lemmas.Option.{slice_get_within, slice_get-get_or, get_or_from_slice_get}
use Rattle.dtype_base.specs.Distinct.{Distinct}
use Rattle.dtype_base.specs.FieldNames.{FirstAt, first_place}
use Rattle.dtype_base.proofs.lemmas.Lookups.{first_of_place, absent_of_place}
use Rattle.dtype_base.specs.BinaryDigits.{binary_digits}
use Rattle.dtype_base.proofs.lemmas.BinaryDigits.{digits_before, digits_more}
use Rattle.dtype_base.specs.Comparisons.{comparisons}
use Rattle.dtype_base.specs.private.NameOrder.{bytes_cmp, key_or, keyed_cmp, keyed_position_cmp, name_cmp, position_cmp, position_in, positions, mask}

bytes_total : IsTotalOrder bytes_cmp
bytes_total = options_total nat_list_cmp_total

pub position_total : (names : List (List ℕ)) → IsTotalOrder (position_cmp names)
position_total names = then_total (on_total (slice_get names) bytes_total) nat_cmp_total

keyed_total : (bits : ℕ) → IsTotalOrder (keyed_cmp bits)
keyed_total bits = then_total (on_total (key_or bits) nat_cmp_total) bytes_total

keyed_position_total : (bits : ℕ) (names : List (List ℕ)) → IsTotalOrder (keyed_position_cmp bits names)
keyed_position_total bits names = then_total (on_total (slice_get names) (keyed_total bits)) nat_cmp_total

pub second_equal : (r s : Ordering) → ordering_then r s ≡ Equal → s ≡ Equal
second_equal Equal s e = e
second_equal _ s e = absurd (false≢true (ap is_eq e))

not_less : (r o : Ordering) → is_lt (ordering_then r o) ≡ false → is_lt r ≡ false
not_less Less o e = e
not_less _ o e = refl

-- one number more
pub counted_more : (n : ℕ) → range_with_len 0 (n + 1) ≡ range_with_len 0 n ++ n ∷ []
counted_more n = sym (map-id _) ∙ map-range_with_len_more (λ i. i) 0 n n (omega arith) ∙ ap (λ is. is ++ n ∷ []) (map-id (range_with_len 0 n))

-- each item of a permutation of the numbers below n is below n
pub position_within : (n : ℕ) (order : List ℕ) → IsPermutation (range_with_len 0 n) order → (k : ℕ) → k < length order → get_or order k 0 < n
position_within n order moved k b =
    All-permutation (λ i. i < n) _ order moved (All-from_get_or (λ i. i < n) (range_with_len 0 n) 0 (λ i l. omega (arith, l, length-range_with_len 0 n, get_or-range_with_len 0 n i 0 (omega (arith, l, length-range_with_len 0 n))))) k 0 b

-- ---- from a test of an ordering to the ordering

is_less : (r : Ordering) → is_lt r ≡ true → r ≡ Less
is_less Less e = refl
is_less _ e = absurd (false≢true e)

pub at_most_equal : (r s : Ordering) → ordering_index r ≤ ordering_index s → s ≡ Equal → r ≢ Equal → r ≡ Less
at_most_equal Less s le e differ = refl
at_most_equal _ s le e differ = grind arith

between : (r s t : Ordering) → ordering_index r ≤ ordering_index s → ordering_index s ≤ ordering_index t → r ≡ Equal → t ≡ Equal → s ≡ Equal
between r Equal t le ge e f = refl
between r _ t le ge e f = grind arith

one_left : {size : ℕ} → 0 < size → size ≤ 1 → binary_digits (size - 1) ≡ 0
unfolding binary_digits
one_left {size} a b = let none : size - 1 ≡ 0 = omega (arith, a, b) in ap binary_digits none

count_of : (n compared : ℕ) → 0 < n → compared ≡ binary_digits (n - 1) → compared + 1 ≡ comparisons n
count_of zero compared a e = absurd (omega arith)
count_of (suc n) compared a e = let less : suc n - 1 ≡ n = omega arith in ap (λ k. k + 1) (e ∙ ap binary_digits less)

-- the name occurs
abbrev pub Occurs : List (List ℕ) → List ℕ → Type 0
Occurs names n = (i : ℕ) × (slice_get names i ≡ Some n)

-- The invariant of the binary search, with `size` entries left from `low` on. If the name occurs, the entry of its first
-- position is among them. The comparisons so far and the binary digits of what is left are as many as the binary digits
-- of the whole.
pub record Searching (names : List (List ℕ)) (order n : List ℕ) (low size compared : ℕ) : Type 0 where
  pub some : 0 < size
  pub within : low + size ≤ length order
  pub holds : (q : ℕ) → q < length order → FirstAt names n (get_or order q 0) → (low ≤ q) × (q < low + size)
  pub count : compared + binary_digits (size - 1) ≡ binary_digits (length order - 1)

-- The invariant of the steps that halve: what is left is a power of two, of which the next step takes this half.
pub record Halving (names : List (List ℕ)) (order n : List ℕ) (low half compared : ℕ) : Type 0 where
  pub steps : ℕ
  pub is : half ≡ 2 ^ steps / 2
  pub left : Searching names order n low (2 ^ steps) compared

-- a number and a mask of all ones or none
masked : (b : Bool) (number below : ℕ) → number < 2 ^ 64 → below ≡ mask b → bit_and number below ≡ (if b then number else 0)
masked true number below fits e = ap (bit_and number) e ∙ and_mask number 64 ∙ mod-eq_of_lt fits
masked false number below fits e = ap (bit_and number) e ∙ and_zero_r number

bytes_equal_is : (n : List ℕ) (o : Option (List ℕ)) → bytes_cmp o (Some n) ≡ Equal → o ≡ Some n
bytes_equal_is n None e = absurd (false≢true (ap is_eq e))
bytes_equal_is n (Some x) e = ap Some ((bytes_decides x n).0 (texts_ties x n ∙ ap is_eq e))

-- each position of the name is in the order
abbrev pub Holds : List (List ℕ) → List ℕ → List ℕ → Type 0
Holds names order n = (i : ℕ) → slice_get names i ≡ Some n → (q : ℕ) × (q < length order) × (get_or order q 0 ≡ i)

-- an order of all positions has as many, holds each, and none twice
pub all_positions : (names : List (List ℕ)) (order : List ℕ) → IsPermutation (range_with_len 0 (length names)) order → length order ≡ length names
all_positions names order each = length_permutation _ _ each ∙ length-range_with_len 0 (length names)

pub all_apart : (names : List (List ℕ)) (order : List ℕ) → IsPermutation (range_with_len 0 (length names)) order → Distinct order
all_apart names order each = AllPairs-from_IsDistinct Decides-eqb order (IsDistinct-IsPermutation _ nat_eq_equiv.symm _ order each (IsDistinct-from_AllPairs Decides-eqb (range_with_len 0 (length names)) (λ i j d l b e.
    omega (arith, l, b, e, length-range_with_len 0 (length names), get_or-range_with_len 0 (length names) i d (omega (arith, l, b, length-range_with_len 0 (length names))), get_or-range_with_len 0 (length names) j d (omega (arith, b, length-range_with_len 0 (length names)))))))

pub placed : (names : List (List ℕ)) (order n : List ℕ) → IsPermutation (range_with_len 0 (length names)) order → Holds names order n
placed names order n each i e =
    let within = slice_get_within names i n e in
    let s = Contains-permutation _ _ i each (i, omega (arith, within, length-range_with_len 0 (length names)), omega (arith, get_or-range_with_len 0 (length names) i i within)) in
    (s.0, s.1, get_or_default order s.0 0 i s.1 ∙ s.2)

module _ (bits : ℕ) (names : List (List ℕ)) (order : List ℕ) (up : IsSorted (keyed_position_cmp bits names) order) (apart : Distinct order) where
  pub names_ranked : (n : List ℕ) → IsNonDecreasingBy (λ i. ordering_index (name_cmp bits names n i)) order
  names_ranked n = searchable_from_sorted (keyed_total bits) (slice_get names) order (Some n) (λ k d low high. not_less _ _ (up k d low high))

  module _ (n : List ℕ) where
    -- a position of the name compares as equal, and no other does
    pub itself : (i : ℕ) → slice_get names i ≡ Some n → name_cmp bits names n i ≡ Equal
    itself i e = ap (λ o. keyed_cmp bits o (Some n)) e ∙ tied_itself (keyed_total bits) (Some n)

    pub equal_is : (o : Option (List ℕ)) → keyed_cmp bits o (Some n) ≡ Equal → o ≡ Some n
    equal_is o e = bytes_equal_is n o (second_equal _ _ e)

    -- all names before the entry of its first position are below the name
    before_first : (k q : ℕ) → k < q → q < length order → FirstAt names n (get_or order q 0) → name_cmp bits names n (get_or order k 0) ≡ Less
    before_first k q l b first = at_most_equal _ _ (names_ranked n k q 0 (omega (arith, l)) b) (itself _ first.here) (λ same.
        let i = get_or order k 0 in
        let j = get_or order q 0 in
        let there = equal_is (slice_get names i) same in
        let by_position : keyed_position_cmp bits names j i ≡ nat_cmp j i =
        ap (λ r. ordering_then r (nat_cmp j i)) (ap (λ o. keyed_cmp bits o (slice_get names i)) first.here ∙ ap (keyed_cmp bits (Some n)) there ∙ tied_itself (keyed_total bits) (Some n)) in
        let far = sorted_far (λ x y. is_lt (keyed_position_cmp bits names x y)) (ranks_by (keyed_position_total bits names) (λ x. x)) order up k q 0 (omega (arith, l)) b in
        elim (cases_lt i j) [
          | inl sooner ↦ first.first i sooner there
          | inr later ↦ apart k q 0 l b (omega (arith, later, ge_from_not_lt j i (sym (ap is_lt by_position) ∙ far)))
        ])

    -- before the first step
    pub starts : (low size compared : ℕ) → 0 < size → size ≡ length order → low ≡ 0 → compared ≡ 0 → Searching names order n low size compared
    starts low size compared some all first none = record {
      some = some;
      within = omega (arith, all, first);
      holds = λ q b at. (omega (arith, first), omega (arith, b, all, first));
      count = omega (arith, none, ap (λ s. binary_digits (s - 1)) all);
    }

    -- one step: a comparison with the last name of what may be left out decides which part is left
    pub steps : (low size compared half m below : ℕ) (b : Bool) (next_low left counted : ℕ) → Searching names order n low size compared → 0 < half → half + half ≤ size → left + half ≡ size
        → binary_digits (size - 1) ≡ binary_digits (left - 1) + 1 → m ≡ low + half - 1 → half < 2 ^ 64 → (Occurs names n → is_lt (name_cmp bits names n (get_or order m 0)) ≡ b) → below ≡ mask b
        → next_low ≡ low + bit_and half below → counted ≡ compared + 1 → Searching names order n next_low left counted
    steps low size compared half m below true next_low left counted inv some less rest digits at fits distinguished e next one =
        let moved : bit_and half below ≡ half = masked true half below fits e in record {
          some = omega (arith, some, less, rest);
          within = omega (arith, next, moved, inv.within, rest);
          holds = λ q b first.
              let lower = is_less _ (distinguished (get_or order q 0, first.here)) in
              let after : m < q = elim (cases_lt m q) [
                | inl after ↦ after
                | inr before ↦ absurd (omega (arith, names_ranked n q m 0 before (omega (arith, at, some, less, inv.within)), ap ordering_index lower, ap ordering_index (itself _ first.here)))
              ] in
              (omega (arith, next, moved, at, after, some), omega (arith, next, moved, rest, (inv.holds q b first).1));
          count = omega (arith, inv.count, digits, one);
        }
    steps low size compared half m below false next_low left counted inv some less rest digits at fits distinguished e next one =
        let stayed : bit_and half below ≡ 0 = masked false half below fits e in record {
          some = omega (arith, some, less, rest);
          within = omega (arith, next, stayed, inv.within, rest);
          holds = λ q b first.
              let upto : q ≤ m = elim (cases_lt m q) [
                | inl after ↦ absurd (false≢true (sym (distinguished (get_or order q 0, first.here)) ∙ ap is_lt (before_first m q after b first)))
                | inr before ↦ before
              ] in
              (omega (arith, next, stayed, (inv.holds q b first).0), omega (arith, next, stayed, at, some, less, rest, upto));
          count = omega (arith, inv.count, digits, one);
        }

    -- the first step, after which a power of two is left
    pub leaves_power : (k low compared half m below : ℕ) (b : Bool) → 2 ^ k < length order → length order < 2 * 2 ^ k → half ≡ length order - 2 ^ k → m ≡ half - 1 → half < 2 ^ 64
        → (Occurs names n → is_lt (name_cmp bits names n (get_or order m 0)) ≡ b) → below ≡ mask b → low ≡ bit_and half below → compared ≡ 1 → Searching names order n low (2 ^ k) compared
    leaves_power k low compared half m below b more fewer is at fits distinguished e moved one =
        steps 0 (length order) 0 half m below b low (2 ^ k) compared (starts 0 (length order) 0 (omega (arith, more)) refl refl refl) (omega (arith, more, is)) (omega (arith, more, fewer, is)) (omega (arith, more, is))
        (digits_more (length order) k more (omega (arith, fewer))) (omega (arith, at)) fits distinguished e (omega (arith, moved)) (omega (arith, one))

    -- a step of halves
    pub halves : (low compared half m below : ℕ) (b : Bool) (counted : ℕ) → Halving names order n low half compared → 0 < half → m ≡ low + half - 1 → half < 2 ^ 64 → (Occurs names n → is_lt (name_cmp bits names n (get_or order m 0)) ≡ b)
        → below ≡ mask b → counted ≡ compared + 1 → Halving names order n (low + bit_and half below) (half / 2) counted
    halves low compared half m below b counted inv some at fits distinguished e one = go inv.steps inv.is inv.left
      where
        go : (k : ℕ) → half ≡ 2 ^ k / 2 → Searching names order n low (2 ^ k) compared → Halving names order n (low + bit_and half below) (half / 2) counted
        go zero is left = absurd (omega (arith, some, is))
        go (suc k) is left =
            let twice = pow-suc 2 k in record {
              steps = k;
              is = omega (arith, is, twice);
              left = steps low (2 ^ suc k) compared half m below b (low + bit_and half below) (2 ^ k) counted left some (omega (arith, is, twice)) (omega (arith, is, twice)) (omega (arith, digits_before (suc k), digits_before k)) at fits distinguished e refl one;
            }

    -- the last comparison decides whether the entry that is left has the name
    pub ends : (low size compared : ℕ) (same : Bool) → Holds names order n → Searching names order n low size compared → size ≤ 1 → (same ≡ true → name_cmp bits names n (get_or order low 0) ≡ Equal)
        → (same ≡ false → name_cmp bits names n (get_or order low 0) ≢ Equal) → then_some same (get_or order low 0) ≡ first_place names n
    ends low size compared same holds inv last is isnt = go same (first_place names n) refl refl
      where
        low_is : (i : ℕ) → FirstAt names n i → get_or order low 0 ≡ i
        low_is i first =
            let s = holds i first.here in
            let range = inv.holds s.0 s.1 (subst (FirstAt names n) (sym s.2) first) in
            ap (λ k. get_or order k 0) (omega (arith, range.0, range.1, last)) ∙ s.2

        go : (b : Bool) (o : Option ℕ) → same ≡ b → first_place names n ≡ o → then_some b (get_or order low 0) ≡ o
        go true None e f = absurd (absent_of_place names n (sym f) _ (equal_is _ (is e)))
        go false None e f = refl
        go true (Some i) e f = ap Some (low_is i (first_of_place names n i (sym f)))
        go false (Some i) e f = let first = first_of_place names n i (sym f) in absurd (isnt e (ap (name_cmp bits names n) (low_is i first) ∙ itself i first.here))

    pub counts : (low size compared : ℕ) → Searching names order n low size compared → size ≤ 1 → compared + 1 ≡ comparisons (length order)
    counts low size compared inv last = count_of (length order) compared (omega (arith, inv.within, inv.some)) (omega (arith, inv.count, one_left inv.some last))

    -- where two entries have one name, two neighbours have
    same_next : (p q : ℕ) → p < q → q < length order → slice_get names (get_or order p 0) ≡ Some n → slice_get names (get_or order q 0) ≡ Some n
        → slice_get names (get_or order p 0) ≡ slice_get names (get_or order (p + 1) 0)
    same_next p q l b here there =
        here ∙ sym (equal_is _ (between _ _ _ (names_ranked n p (p + 1) 0 (omega arith) (omega (arith, l, b))) (names_ranked n (p + 1) q 0 (omega (arith, l)) b) (itself _ here) (itself _ there)))

  -- where no two neighbours have one name, no two positions have
  pub all_differ : IsPermutation (range_with_len 0 (length names)) order → AllAdjacentBelow (λ i j. slice_get names i ≢ slice_get names j) order (length order) → Distinct names
  all_differ each differ i j d l b same =
      let n = get_or names j d in
      let at_i : slice_get names i ≡ Some n = slice_get-get_or names i d (omega (arith, l, b)) ∙ ap Some same in
      let at_j : slice_get names j ≡ Some n = slice_get-get_or names j d b in
      let p = placed names order n each i at_i in
      let q = placed names order n each j at_j in
      let there_i : slice_get names (get_or order p.0 0) ≡ Some n = ap (slice_get names) p.2 ∙ at_i in
      let there_j : slice_get names (get_or order q.0 0) ≡ Some n = ap (slice_get names) q.2 ∙ at_j in
      elim (cases_order p.0 q.0) [
        | inl e ↦ omega (arith, l, ap (λ k. get_or order k 0) e, p.2, q.2)
        | inr (inl before) ↦ differ p.0 0 (omega (arith, before, q.1)) (same_next n p.0 q.0 before q.1 there_i there_j)
        | inr (inr after) ↦ differ q.0 0 (omega (arith, after, p.1)) (same_next n q.0 p.0 after p.1 there_j there_i)
      ]

  pub same_neighbours : (p q : ℕ) (n : List ℕ) → p + 1 ≡ q → q < length order → slice_get names (get_or order p 0) ≡ Some n → slice_get names (get_or order q 0) ≡ Some n → Distinct names → ⊥
  same_neighbours p q n after b here next distinct = grind (arith, slice_get_within, get_or_from_slice_get)

-- ---- the positions of entries

pub as_many_positions : (bits : ℕ) (entries : List ℕ) → length (positions bits entries) ≡ length entries
as_many_positions bits entries = length-map entries (position_in bits)

pub position_at : (bits : ℕ) (entries : List ℕ) (k d : ℕ) → k < length entries → get_or (positions bits entries) k 0 ≡ position_in bits (get_or entries k d)
position_at bits entries k d within = get_or-map (position_in bits) entries k d 0 within

pub position_is_within : (bits : ℕ) (names : List (List ℕ)) (entries : List ℕ) → IsPermutation (range_with_len 0 (length names)) (positions bits entries) → (k d : ℕ) → k < length entries
    → position_in bits (get_or entries k d) < length names
position_is_within bits names entries each k d within =
    omega (arith, position_at bits entries k d within, position_within (length names) (positions bits entries) each k (omega (arith, within, as_many_positions bits entries)))
