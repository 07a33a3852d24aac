-- SPDX-License-Identifier: Apache-2.0
-- SPDX-FileCopyrightText: Copyright the Vortex contributors

-- Entries of an index: how they compare, and that a search among them compares names.
use Rattle.std.proofs.Common.{◌≡◌, ◌≢◌, ℕ, ◌+◌, ◌<◌, ◌≤◌, List, [], ◌∷◌, ◌++◌, length, get_or, Some, Bool, true, false, IsTrue, ◌↔◌, refl, sym, ap, subst, ◌∙◌, inl, inr, arith}
use Rattle.std.specs.Prelude.{slice_get}
use Rattle.std.specs.List.{All, range_with_len}
use Rattle.std.specs.List.Sorted.{IsNonDecreasingBy, IsPermutation, IsSorted}
use Rattle.std.specs.declared.cmp.Ordering.TheVariants.{Less, Equal, Greater}
use Rattle.std.specs.declared.cmp.Ordering.{Ordering}
use Rattle.std.specs.Ordering.{is_lt, ordering_then, nat_cmp}
use Rattle.std.specs.FinMap.{nat_cmp-IsAntisymmetric}
use Rattle.std.specs.Cmp.{IsTotalOrder, then_total, on_total, nat_cmp_is, nat_cmp_total}
use Rattle.std.proofs.lemmas.Bool.{cases_order, false≢true}
use Rattle.std.proofs.lemmas.List.{get_or-map, get_or_default, map-append}
use Rattle.std.proofs.lemmas.List.Sorted.{All-permutation, IsPermutation-map, IsPermutation-trans, IsNonDecreasingBy-from_all_adjacent}
use Rattle.std.proofs.lemmas.Option.{slice_get-get_or, get_or_from_slice_get}
use Rattle.dtype_base.specs.NameHashes.{key_of}
use Rattle.dtype_base.specs.private.NameOrder.{AreDistinguishedBy, IsBucketFor, IsIndexBy, IsKeyed, KeysIncrease, bytes_cmp, key_in, key_or, keyed_position_cmp, name_cmp, position_cmp, position_in, entry_cmp, entry_name_cmp, positions}
use Rattle.dtype_base.specs.declared.name_order.Discriminator.{Discriminator}
use Rattle.dtype_base.specs.declared.name_order.Discriminator.TheVariants.{Key, Text}
use Rattle.dtype_base.proofs.NameSearch.{Holds, Occurs, as_many_positions, second_equal, position_at, counted_more, equal_is, itself, position_total}

then_again : (r s t : Ordering) → ordering_then r (ordering_then s t) ≡ ordering_then (ordering_then r s) t
then_again Less s t = refl
then_again _ s t = refl

-- an ordering decides alone where its ties are ties
tied_then : (r s : Ordering) → (r ≡ Equal → s ≡ Equal) → r ≡ ordering_then r s
tied_then Equal s tie = sym (tie refl)
tied_then _ s tie = refl

-- ---- numbers by how they compare

-- a number isn't above one that doesn't come before it, however ties are decided
at_most_unless_before : (a b : ℕ) (o : Ordering) → is_lt (ordering_then (nat_cmp b a) o) ≡ false → a ≤ b
at_most_unless_before a b o e = grind arith

pub ruleset permutations = (IsPermutation-trans)

-- ---- entries

module _ (bits : ℕ) (names : List (List ℕ)) where
  -- the order of entries is total
  pub entry_total : IsTotalOrder (entry_cmp bits names)
  entry_total = then_total (on_total (key_in bits) nat_cmp_total) (on_total (position_in bits) (position_total names))

  -- an entry has the key of the name at its position
  entry_key : (e : ℕ) → IsKeyed names bits e → key_in bits e ≡ key_or bits (slice_get names (position_in bits e))
  entry_key e h = h.key ∙ ap (key_or bits) (sym (slice_get-get_or names (position_in bits e) [] h.within))

  -- an entry's name compares to a name by their keys, then by their bytes
  name_by_keys : (e : ℕ) (n : List ℕ) (key : ℕ) → IsKeyed names bits e → key ≡ key_of bits n
      → ordering_then (nat_cmp (key_in bits e) key) (bytes_cmp (slice_get names (position_in bits e)) (Some n)) ≡ name_cmp bits names n (position_in bits e)
  name_by_keys e n key h is = λ i. ordering_then (nat_cmp (entry_key e h i) (is i)) (bytes_cmp (slice_get names (position_in bits e)) (Some n))

  -- entries compare as their positions do
  as_positions : (e f : ℕ) → IsKeyed names bits e → IsKeyed names bits f → entry_cmp bits names e f ≡ keyed_position_cmp bits names (position_in bits e) (position_in bits f)
  as_positions e f a b =
      let texts = bytes_cmp (slice_get names (position_in bits e)) (slice_get names (position_in bits f)) in
      let places = nat_cmp (position_in bits e) (position_in bits f) in
      then_again (nat_cmp (key_in bits e) (key_in bits f)) texts places ∙ (λ i. ordering_then (ordering_then (nat_cmp (entry_key e a i) (entry_key f b i)) texts) places)

  -- the index of sorted entries
  pub index_of : (by : Discriminator) (made sorted : List ℕ) → positions bits made ≡ range_with_len 0 (length names) → All (IsKeyed names bits) made → IsPermutation made sorted
      → IsSorted (entry_cmp bits names) sorted → AreDistinguishedBy bits by sorted → IsIndexBy names bits by sorted
  index_of by made sorted each keyed moved up distinguished =
      let of = All-permutation (IsKeyed names bits) made sorted moved keyed in record {
        keyed = of;
        order = record {
          each = subst (λ is. IsPermutation is (positions bits sorted)) each (IsPermutation-map (position_in bits) made sorted moved);
          rising = λ k d low high.
              let next : k + 1 < length sorted = omega (arith, high, as_many_positions bits sorted) in
              let here : k < length sorted = omega (arith, next) in
              rw (get_or-map (position_in bits) sorted (k + 1) 0 d next, get_or-map (position_in bits) sorted k 0 d here)
              (ap is_lt (sym (as_positions (get_or sorted (k + 1) 0) (get_or sorted k 0) (of (k + 1) 0 next) (of k 0 here))) ∙ up k 0 low next);
        };
        distinguished = distinguished;
      }

  -- entries whose keys increase are sorted
  pub sorted_by_keys : (entries : List ℕ) → KeysIncrease bits entries → IsSorted (entry_cmp bits names) entries
  sorted_by_keys entries increase = λ k d low high.
      let e = get_or entries k d in
      let f = get_or entries (k + 1) d in
      let higher : key_in bits e < key_in bits f = increase k d high in
      ap (λ r. is_lt (ordering_then r (position_cmp names (position_in bits f) (position_in bits e)))) (sym (nat_cmp_is (key_in bits f) (key_in bits e) Greater higher))

  -- the keys of sorted entries don't fall
  pub keys_rise : (entries : List ℕ) → IsSorted (entry_cmp bits names) entries → IsNonDecreasingBy (key_in bits) entries
  keys_rise entries up = IsNonDecreasingBy-from_all_adjacent (key_in bits) entries (λ k d high. at_most_unless_before _ _ _ (up k d (omega arith) high))

  -- one entry more
  pub positions_push : (entries : List ℕ) (e n : ℕ) → position_in bits e ≡ n → positions bits entries ≡ range_with_len 0 n → positions bits (entries ++ e ∷ []) ≡ range_with_len 0 (n + 1)
  positions_push entries e n is so_far = map-append (position_in bits) entries _ ∙ ap (λ p. positions bits entries ++ p ∷ []) is ∙ ap (λ ps. ps ++ n ∷ []) so_far ∙ sym (counted_more n)

  -- ---- what a search compares

  -- of keys of which each is below the next, each is below all after it
  far : (entries : List ℕ) → KeysIncrease bits entries → (j k d : ℕ) → j < k → k < length entries → key_in bits (get_or entries j d) < key_in bits (get_or entries k d)
  far entries increase j k d l within =
      omega (arith, increase j d (omega (arith, l, within)), IsNonDecreasingBy-from_all_adjacent (key_in bits) entries (λ i e b. omega (arith, increase i e b)) (j + 1) k d (omega (arith, l)) within)

  module _ (by : Discriminator) (n entries : List ℕ) (h : IsBucketFor names bits by n entries) where
    pub holds : Holds names (positions bits entries) n
    holds i e = let s = h.holds i e in (s.0, omega (arith, s.1, as_many_positions bits entries), position_at bits entries s.0 0 s.1 ∙ s.2)

    -- Keys that increase along the entries compare an entry with a name that occurs as the names do: where the keys are
    -- equal the entry is the name's.
    keys_decide : KeysIncrease bits entries → (key k d : ℕ) → key ≡ key_of bits n → k < length entries → Occurs names n
        → nat_cmp (key_in bits (get_or entries k d)) key ≡ name_cmp bits names n (position_in bits (get_or entries k d))
    keys_decide increase key k d is within t =
        let s = h.holds t.0 t.1 in
        let e = get_or entries k d in
        let there : slice_get names (position_in bits (get_or entries s.0 0)) ≡ Some n = ap (slice_get names) s.2 ∙ t.1 in
        let key_s : key_in bits (get_or entries s.0 0) ≡ key = entry_key (get_or entries s.0 0) (h.keyed s.0 0 s.1) ∙ ap (key_or bits) there ∙ sym is in
        let names_tie : nat_cmp (key_in bits e) key ≡ Equal → bytes_cmp (slice_get names (position_in bits e)) (Some n) ≡ Equal = λ same. let key_e = nat_cmp-IsAntisymmetric (key_in bits e) key same in elim (cases_order k s.0) [
          | inl at ↦ second_equal _ _ (ap (λ f. name_cmp bits names n (position_in bits f)) (get_or_default entries k d 0 within ∙ ap (λ j. get_or entries j 0) at) ∙ itself bits names _ h.rising h.apart n _ there)
          | inr (inl before) ↦ absurd (omega (arith, far entries increase k s.0 0 before s.1, key_s, key_e, ap (key_in bits) (get_or_default entries k d 0 within)))
          | inr (inr after) ↦ absurd (omega (arith, far entries increase s.0 k 0 after within, key_s, key_e, ap (key_in bits) (get_or_default entries k d 0 within)))
        ] in
        tied_then _ _ names_tie ∙ name_by_keys e n key (h.keyed k d within) is

  -- what the index's discriminator names compares an entry with a name that occurs
  pub decided : (by : Discriminator) (n entries : List ℕ) → IsBucketFor names bits by n entries → (key k d : ℕ) → key ≡ key_of bits n → k < length entries → Occurs names n
      → entry_name_cmp bits names n key by (get_or entries k d) ≡ name_cmp bits names n (position_in bits (get_or entries k d))
  decided Key n entries h key k d is within t = keys_decide Key n entries h h.distinguished key k d is within t
  decided Text n entries h key k d is within t = name_by_keys (get_or entries k d) n key (h.keyed k d within) is

  -- the last comparison decides
  pub same_decided : (by : Discriminator) (n entries : List ℕ) → IsBucketFor names bits by n entries → (key k d : ℕ) (same : Bool) → key ≡ key_of bits n → k < length entries
      → IsTrue same ↔ ((key_in bits (get_or entries k d) ≡ key) × (get_or names (position_in bits (get_or entries k d)) [] ≡ n))
      → (same ≡ true → name_cmp bits names n (position_in bits (get_or entries k d)) ≡ Equal) × (same ≡ false → name_cmp bits names n (position_in bits (get_or entries k d)) ≢ Equal)
  same_decided by n entries h key k d same is within compared =
      let i = position_in bits (get_or entries k d) in
      let keyed = h.keyed k d within in (
        λ t. itself bits names _ h.rising h.apart n i (slice_get-get_or names i [] keyed.within ∙ ap Some (compared.0 t).1),
        λ f here.
            let name = get_or_from_slice_get names i n [] (equal_is bits names _ h.rising h.apart n (slice_get names i) here) in
            false≢true (sym f ∙ compared.1 (keyed.key ∙ ap (key_of bits) name ∙ sym is, name)),
      )
