-- SPDX-License-Identifier: Apache-2.0
-- SPDX-FileCopyrightText: Copyright the Vortex contributors

-- Where the entries of each bucket begin, that the entries of a bucket are those of its names, and how many the longest
-- has.
use Rattle.std.proofs.Common.{◌≡◌, ℕ, suc, ◌+◌, ◌-◌, ◌<◌, ◌≤◌, ◌==◌, List, [], ◌∷◌, Bool, true, false, cond, length, get_or, map, take, drop, ◌↔◌, refl, sym, ap, subst, ◌∙◌, inl, inr, arith}
use Rattle.std.specs.Prelude.{slice_get, slice_index}
use Rattle.std.specs.List.{count_by}
use Rattle.std.specs.List.Sorted.{IsNonDecreasingBy, IsPermutation}
use Rattle.std.specs.Ordering.{is_lt}
use Rattle.std.proofs.lemmas.Bool.{cases_lt, cond-false, cond-true, eq-eqb, eqb-true, false≢true}
use Rattle.std.proofs.lemmas.List.{get_or-drop, get_or-map, get_or-take, length-drop, length-map, length-take-le}
use Rattle.std.proofs.lemmas.List.FromFn.{fill_by_all}
use Rattle.std.proofs.lemmas.List.Sorted.{IsPermutation-map, sum_by-IsPermutation}
use Rattle.std.proofs.lemmas.List.Sums.{sum_by-cons}
use Rattle.std.proofs.lemmas.Option.{get_or_from_slice_get, slice_get_within}
use Rattle.dtype_base.specs.BinaryDigits.{binary_digits}
use Rattle.dtype_base.specs.Comparisons.{bucket_len, longest_bucket}
use Rattle.dtype_base.specs.NameHashes.{bucket_of, bucket_of_key, key_of}
use Rattle.dtype_base.specs.private.NameOrder.{AreDistinguishedBy, AreStarts, IsBucketFor, IsIndexBy, IsIndexOf, IsKeyed, key_in, keyed_position_cmp, position_in, positions}
use Rattle.dtype_base.specs.declared.name_order.Discriminator.{Discriminator}
use Rattle.dtype_base.specs.declared.name_order.Discriminator.TheVariants.{Key, Text}
use Rattle.dtype_base.specs.declared.name_order.NameIndex.{NameIndex}
use Rattle.dtype_base.proofs.lemmas.Lookups.{longest_bucket_is}
use Rattle.dtype_base.proofs.NameHashes.{bucket_below, bucket_rises, key_fits}
use Rattle.dtype_base.proofs.NameSearch.{all_apart, all_positions, as_many_positions, placed, position_at}

-- the bucket of the entry at q
abbrev bucket_at : ℕ → ℕ → List ℕ → ℕ → ℕ
bucket_at count bits entries q = bucket_of_key count (key_in bits (get_or entries q 0))

-- The starts so far, where the entries before i are looked at.
pub record Starting (count bits : ℕ) (entries : List ℕ) (i : ℕ) (starts : List ℕ) : Type 0 where
  pub most : length starts ≤ count
  pub within : (b : ℕ) → b < length starts → get_or starts b 0 ≤ i
  pub first : (b q : ℕ) → b < length starts → q < length entries → (q < get_or starts b 0) ↔ (bucket_at count bits entries q < b)
  pub before : (q : ℕ) → q < i → bucket_at count bits entries q < length starts

module _ (count bits : ℕ) (entries : List ℕ) (rising : IsNonDecreasingBy (key_in bits) entries) where
  rises : (q r : ℕ) → q ≤ r → r < length entries → bucket_at count bits entries q ≤ bucket_at count bits entries r
  rises q r le within = bucket_rises count _ _ (rising q r 0 le within)

  -- the starts filled up with i, to a bucket behind which no entry from i on is
  filled : (i buckets : ℕ) (starts next : List ℕ) → Starting count bits entries i starts → ((b : ℕ) → b < length starts → get_or next b 0 ≡ get_or starts b 0)
      → ((b : ℕ) → length starts ≤ b → b < buckets → get_or next b 0 ≡ i) → ((q : ℕ) → i ≤ q → q < length entries → buckets ≤ bucket_at count bits entries q + 1)
      → (b q : ℕ) → b < buckets → q < length entries → (q < get_or next b 0) ↔ (bucket_at count bits entries q < b)
  filled i buckets starts next inv kept added later b q below within = grind arith

  -- at the beginning
  pub starts_none : (starts : List ℕ) → length starts ≡ 0 → Starting count bits entries 0 starts
  starts_none starts none = grind arith

  -- an entry whose bucket isn't reached
  pub starts_more : (i bucket : ℕ) (starts next : List ℕ) → Starting count bits entries i starts → i < length entries → bucket ≡ bucket_at count bits entries i → bucket < count → length starts ≤ bucket
      → length next ≡ bucket + 1 → ((b : ℕ) → b < length starts → get_or next b 0 ≡ get_or starts b 0) → ((b : ℕ) → length starts ≤ b → b < bucket + 1 → get_or next b 0 ≡ i) → Starting count bits entries (i + 1) next
  starts_more i bucket starts next inv here is last new len kept added = grind (arith, rises, filled)

  -- an entry whose bucket is reached
  pub starts_same : (i bucket : ℕ) (starts : List ℕ) → Starting count bits entries i starts → i < length entries → bucket ≡ bucket_at count bits entries i → bucket < length starts
      → Starting count bits entries (i + 1) starts
  starts_same i bucket starts inv here is old = grind (arith, rises)

  -- at the end
  pub starts_all : (i : ℕ) (starts next : List ℕ) → Starting count bits entries i starts → count ≡ length entries → i ≡ count → length next ≡ count + 1
      → ((b : ℕ) → b < length starts → get_or next b 0 ≡ get_or starts b 0) → ((b : ℕ) → length starts ≤ b → b < count + 1 → get_or next b 0 ≡ i) → AreStarts count bits entries next
  starts_all i starts next inv all last len kept added = grind (arith, filled)

-- ---- the entries of a bucket

abbrev pub part : List ℕ → ℕ → ℕ → List ℕ
part entries low high = take (high - low) (drop low entries)

module _ (entries : List ℕ) (low high : ℕ) (upto : high ≤ length entries) where
  part_at : (k d : ℕ) → k < high - low → get_or (part entries low high) k d ≡ get_or entries (low + k) d
  part_at k d within = get_or-take (high - low) (drop low entries) k d within ∙ get_or-drop low entries k d

  pub part_len : length (part entries low high) ≡ high - low
  part_len = length-take-le (high - low) (drop low entries) (omega (arith, length-drop low entries, upto))

  part_position : (bits k d : ℕ) → k < high - low → get_or (positions bits (part entries low high)) k d ≡ get_or (positions bits entries) (low + k) d
  part_position bits k d within =
      get_or-map (position_in bits) (part entries low high) k 0 d (omega (arith, within, part_len))
      ∙ ap (position_in bits) (part_at k 0 within)
      ∙ sym (get_or-map (position_in bits) entries (low + k) 0 d (omega (arith, within, upto)))

-- how many items pass a test that those from one place to another pass
count_between : {X : Type 0} (p : X → Bool) (xs : List X) (d : X) (low high : ℕ) → high ≤ length xs → ((q : ℕ) → q < length xs → (p (get_or xs q d) ≡ true) ↔ ((low ≤ q) × (q < high))) → count_by p xs ≡ high - low
count_between p [] d low high upto is = omega (arith, upto)
count_between p (x ∷ xs) d low high upto is =
    let rest = count_between p xs d (low - 1) (high - 1) (omega (arith, upto)) (λ q within. let at = is (suc q) (omega (arith, within)) in (
      λ t. let both = at.0 t in (omega (arith, both.0), omega (arith, both.1)),
      λ both. at.1 (omega (arith, both.0), omega (arith, both.1)),
    )) in
    go (p x) refl rest
  where
    go : (b : Bool) → p x ≡ b → count_by p xs ≡ high - 1 - (low - 1) → count_by p (x ∷ xs) ≡ high - low
    go true e rest = let both = (is 0 (omega arith)).0 e in let one : cond {A = ℕ} (p x) 1 0 ≡ 1 = cond-true (p x) 1 0 e in omega (arith, sum_by-cons (λ y. cond (p y) 1 0) x xs, one, rest, both.0, both.1)
    go false e rest = let none : cond {A = ℕ} (p x) 1 0 ≡ 0 = cond-false (p x) 1 0 e in elim (cases_lt 0 low) [
      | inl after ↦ omega (arith, sum_by-cons (λ y. cond (p y) 1 0) x xs, none, rest, after)
      | inr first ↦ elim (cases_lt 0 high) [
        | inl some ↦ absurd (false≢true (sym e ∙ (is 0 (omega arith)).1 (omega (arith, first), some)))
        | inr past ↦ omega (arith, sum_by-cons (λ y. cond (p y) 1 0) x xs, none, rest, past)
      ]
    ]

module _ (names : List (List ℕ)) (bits : ℕ) (by : Discriminator) (entries starts n : List ℕ) (h : IsIndexBy names bits by entries) (s : AreStarts (length names) bits entries starts) where
  abbrev pub count : ℕ
  count = length names

  as_many : length entries ≡ count
  as_many = sym (as_many_positions bits entries) ∙ all_positions names (positions bits entries) h.order.each

  module _ (bucket : ℕ) (is : bucket ≡ bucket_of_key count (key_of bits n)) (below : bucket < count) where
    abbrev pub low : ℕ
    low = slice_index starts bucket

    abbrev pub high : ℕ
    high = slice_index starts (bucket + 1)

    pub upto : high ≤ length entries
    upto = s.within (bucket + 1) (omega (arith, below))

    -- the entries of the bucket are those from its start to the next
    inside : (q : ℕ) → q < length entries → (bucket_at count bits entries q ≡ bucket) ↔ ((low ≤ q) × (q < high))
    inside q within = grind arith

    -- how many entries the bucket has
    pub bucket_counts : bits ≡ binary_digits count → bucket_len names n ≡ high - low
    unfolding bucket_len
    bucket_counts digits =
        let nth = λ (i : ℕ). get_or names i [] in
        let test = λ (m : List ℕ). bucket_of count m == bucket_of count n in
        let order = positions bits entries in
        let sorted = map nth order in
        let moved : IsPermutation names sorted = subst (λ ns. IsPermutation ns sorted) (sym (fill_by_all nth names count [] refl (λ k b. refl))) (IsPermutation-map nth _ order h.order.each) in
        let len : length sorted ≡ length entries = length-map order nth ∙ as_many_positions bits entries in
        let at = λ (q : ℕ) (within : q < length entries). get_or-map nth order q 0 [] (omega (arith, within, as_many_positions bits entries)) ∙ ap nth (position_at bits entries q 0 within) in
        let same_bucket = λ (m : List ℕ). ap (λ b. bucket_of_key count (key_of b m)) digits in
        sym (sum_by-IsPermutation (λ m. cond (test m) 1 0) names sorted moved)
        ∙ count_between test sorted [] low high (omega (arith, len, upto)) (λ q inside_q.
        let within : q < length entries = omega (arith, inside_q, len) in
        let keyed = h.keyed q 0 within in
        let of_q : bucket_of count (get_or sorted q []) ≡ bucket_at count bits entries q = ap (bucket_of count) (at q within) ∙ sym (same_bucket _) ∙ ap (bucket_of_key count) (sym keyed.key) in
        let of_n : bucket_of count n ≡ bucket = sym (same_bucket n) ∙ sym is in (
          λ t. (inside q within).0 (sym of_q ∙ eqb-true _ _ t ∙ of_n),
          λ both. eq-eqb _ _ (of_q ∙ (inside q within).1 both ∙ sym of_n),
        ))

    -- entries next to one another, among which are those of the bucket
    module _ (first last : ℕ) (whole : last ≤ length entries) (before : first ≤ low) (after : high ≤ last) where
      distinguished : (by : Discriminator) → AreDistinguishedBy bits by entries → AreDistinguishedBy bits by (part entries first last)
      distinguished Key increase = λ k d within.
          let len = part_len entries first last whole in
          rw (part_at entries first last whole (k + 1) d (omega (arith, within, len)), part_at entries first last whole k d (omega (arith, within, len)))
          (subst (λ j. key_in bits (get_or entries (first + k) d) < key_in bits (get_or entries j d)) (omega arith) (increase (first + k) d (omega (arith, within, len, whole))))
      distinguished Text all = tt

      pub bucket_holds : IsBucketFor names bits by n (part entries first last)
      bucket_holds = let len = part_len entries first last whole in record {
        keyed = λ k d within. subst (IsKeyed names bits) (sym (part_at entries first last whole k d (omega (arith, within, len)))) (h.keyed (first + k) d (omega (arith, within, len, whole)));
        rising = λ k d l within.
            let inner : k + 1 < last - first = omega (arith, within, len, as_many_positions bits (part entries first last)) in
            rw (part_position entries first last whole bits (k + 1) d inner, part_position entries first last whole bits k d (omega (arith, inner)))
            (subst (λ j. is_lt (keyed_position_cmp bits names (get_or (positions bits entries) j d) (get_or (positions bits entries) (first + k) d)) ≡ false) (omega arith) (h.order.rising (first + k) d (omega arith) (omega (arith, inner, whole, as_many_positions bits entries))));
        apart = λ i j d l within same.
            let inner : j < last - first = omega (arith, within, len, as_many_positions bits (part entries first last)) in
            all_apart names (positions bits entries) h.order.each (first + i) (first + j) d (omega (arith, l)) (omega (arith, inner, whole, as_many_positions bits entries))
            (sym (part_position entries first last whole bits i d (omega (arith, l, inner))) ∙ same ∙ part_position entries first last whole bits j d inner);
        holds = λ i e.
            let q = placed names (positions bits entries) n h.order.each i e in
            let within : q.0 < length entries = omega (arith, q.1, as_many_positions bits entries) in
            let here : position_in bits (get_or entries q.0 0) ≡ i = sym (position_at bits entries q.0 0 within) ∙ q.2 in
            let keyed = h.keyed q.0 0 within in
            let name : get_or names (position_in bits (get_or entries q.0 0)) [] ≡ n = get_or_from_slice_get names _ n [] (ap (slice_get names) here ∙ e) in
            let both = (inside q.0 within).0 (ap (bucket_of_key count) (keyed.key ∙ ap (key_of bits) name) ∙ sym is) in
            (q.0 - first, omega (arith, both.0, both.1, before, after, len), ap (position_in bits) (part_at entries first last whole (q.0 - first) 0 (omega (arith, both.0, both.1, before, after)) ∙ ap (λ k. get_or entries k 0) (omega (arith, both.0, before))) ∙ here);
        distinguished = distinguished by h.distinguished;
      }

-- ---- the longest bucket

module _ (names : List (List ℕ)) (index : NameIndex) (h : IsIndexOf names index) where
  abbrev longest_at : List ℕ → ℕ
  longest_at n = bucket_of_key (length names) (key_of index.bits n)

  pub longest_fits : index.longest ≤ length index.entries.items
  longest_fits = grind arith

  -- each bucket has at most as many
  each : 0 < length names → (n : List ℕ) → bucket_len names n ≤ index.longest
  each some n =
      let below = bucket_below (length names) (key_of index.bits n) some (key_fits index.bits n) in
      omega (arith, bucket_counts names index.bits index.discriminator index.entries.items index.starts.items n h.entries h.starts (longest_at n) refl below h.bits, h.longest.most (longest_at n) (omega (arith, below, h.starts.len)))

  -- a bucket has as many, that of the name of the entry at its start
  some_name : (some : 0 < index.longest) → (i : ℕ) × (i < length names) × (bucket_len names (get_or names i []) ≡ index.longest)
  some_name some =
      let b = h.longest.reached some in
      let entries = index.entries.items in
      let q = slice_index index.starts.items b.0 in
      let below : b.0 < length names = omega (arith, b.1, h.starts.len) in
      let within : q < length entries = omega (arith, some, b.2, h.starts.within (b.0 + 1) (omega (arith, below))) in
      let keyed = h.entries.keyed q 0 within in
      let i = position_in index.bits (get_or entries q 0) in
      let n = get_or names i [] in
      let here : bucket_at (length names) index.bits entries q ≡ longest_at n = ap (bucket_of_key (length names)) keyed.key in
      let not_before = (h.starts.first b.0 q (omega (arith, below)) within).1 in
      let upto = (h.starts.first (b.0 + 1) q (omega (arith, below)) within).0 (omega (arith, some, b.2)) in
      let is : b.0 ≡ longest_at n = elim (cases_lt (longest_at n) b.0) [ inl sooner ↦ absurd (omega (arith, not_before (omega (arith, here, sooner)))) | inr after ↦ omega (arith, after, upto, here) ] in
      (i, keyed.within, omega (arith, bucket_counts names index.bits index.discriminator entries index.starts.items n h.entries h.starts b.0 is below h.bits, b.2))

  pub longest_is : index.longest ≡ longest_bucket names
  longest_is = longest_bucket_is names index.longest (λ n i e. each (omega (arith, slice_get_within names i n e)) n) (λ some. let i = some_name some in (i.0, i.1, i.2))
