-- SPDX-License-Identifier: Apache-2.0
-- SPDX-FileCopyrightText: Copyright the Vortex contributors

-- The index of a name list: an entry for each position, with the key of the name there, in the order of the keys, then of
-- the names' bytes, then of the positions. Only private contracts cite it.
use Rattle.std.specs.Prelude.{◌≡◌, ℕ, ◌+◌, ◌-◌, ◌<◌, ◌≤◌, ◌^◌, ◌%◌, ◌↔◌, List, Option, Some, None, Bool, ⊤, length, map, slice_get, slice_index, slice_index_or, [], if◌then◌else◌}
use Rattle.std.specs.List.{All, AllAdjacentBelow, range_with_len}
use Rattle.std.specs.List.Sorted.{IsPermutation, IsSorted}
use Rattle.std.specs.Option.{option_cmp}
use Rattle.std.specs.Ordering.{ordering_then, nat_cmp}
use Rattle.std.specs.declared.cmp.Ordering.{Ordering}
use Rattle.std.specs.Cmp.Lexicographic.{slice_cmp}
use Rattle.dtype_base.specs.BinaryDigits.{binary_digits}
use Rattle.dtype_base.specs.Distinct.{Distinct}
use Rattle.dtype_base.specs.NameHashes.{bucket_of_key, key_of, without_bits}
use Rattle.dtype_base.specs.declared.name_order.NameIndex.{NameIndex}
use Rattle.dtype_base.specs.declared.name_order.Discriminator.{Discriminator}
use Rattle.dtype_base.specs.declared.name_order.Discriminator.TheVariants.{Key, Text}

-- how two names compare, by their bytes; no name is less than any
abbrev pub bytes_cmp : Option (List ℕ) → Option (List ℕ) → Ordering
bytes_cmp = option_cmp (slice_cmp nat_cmp)

-- how two positions compare: by the bytes of their names, then by themselves
abbrev pub position_cmp : List (List ℕ) → ℕ → ℕ → Ordering
position_cmp names i j = ordering_then (bytes_cmp (slice_get names i) (slice_get names j)) (nat_cmp i j)

-- the key of a name; of no name, 0
abbrev pub key_or : ℕ → Option (List ℕ) → ℕ
key_or bits None = 0
key_or bits (Some n) = key_of bits n

-- how two names compare, by their keys, then by their bytes
abbrev pub keyed_cmp : ℕ → Option (List ℕ) → Option (List ℕ) → Ordering
keyed_cmp bits a b = ordering_then (nat_cmp (key_or bits a) (key_or bits b)) (bytes_cmp a b)

-- how the name at a position compares to a name, by their keys, then by their bytes
abbrev pub name_cmp : ℕ → List (List ℕ) → List ℕ → ℕ → Ordering
name_cmp bits names n i = keyed_cmp bits (slice_get names i) (Some n)

-- how two positions compare: by the keys of their names, then by the bytes of these, then by themselves
abbrev pub keyed_position_cmp : ℕ → List (List ℕ) → ℕ → ℕ → Ordering
keyed_position_cmp bits names i j = ordering_then (keyed_cmp bits (slice_get names i) (slice_get names j)) (nat_cmp i j)

-- every position of the names once, sorted
pub record IsOrderOf (bits : ℕ) (names : List (List ℕ)) (order : List ℕ) : Type 0 where
  pub each : IsPermutation (range_with_len 0 (length names)) order
  pub rising : IsSorted (keyed_position_cmp bits names) order

-- ---- entries: the key of a name, and in its last bits, of which there are so many, the position

abbrev pub position_in : ℕ → ℕ → ℕ
position_in bits e = e % 2 ^ bits

abbrev pub key_in : ℕ → ℕ → ℕ
key_in = without_bits

-- how two entries compare: by their keys, then as their positions do
abbrev pub entry_cmp : ℕ → List (List ℕ) → ℕ → ℕ → Ordering
entry_cmp bits names e f = ordering_then (nat_cmp (key_in bits e) (key_in bits f)) (position_cmp names (position_in bits e) (position_in bits f))

-- the entry's position has a name, and its key is that name's
pub record IsKeyed (names : List (List ℕ)) (bits e : ℕ) : Type 0 where
  pub within : position_in bits e < length names
  pub key : key_in bits e ≡ key_of bits (slice_index_or names (position_in bits e) [])

-- the positions of the entries
abbrev pub positions : ℕ → List ℕ → List ℕ
positions bits = map (position_in bits)

-- the keys are strictly increasing, so they distinguish the entries
abbrev pub KeysIncrease : ℕ → List ℕ → Type 0
KeysIncrease bits entries = AllAdjacentBelow (λ e f. key_in bits e < key_in bits f) entries (length entries)

-- what the discriminator of an index promises of its entries
abbrev pub AreDistinguishedBy : ℕ → Discriminator → List ℕ → Type 0
AreDistinguishedBy bits Key = KeysIncrease bits
AreDistinguishedBy bits Text = λ entries. ⊤

-- the entries are those of these names, in order, distinguished so
pub record IsIndexBy (names : List (List ℕ)) (bits : ℕ) (discriminator : Discriminator) (entries : List ℕ) : Type 0 where
  pub keyed : All (IsKeyed names bits) entries
  pub order : IsOrderOf bits names (positions bits entries)
  pub distinguished : AreDistinguishedBy bits discriminator entries

-- For each bucket, of which there are so many, and for the end of the last one, how many entries are in the buckets
-- before it: those entries and no others are before that place.
pub record AreStarts (count bits : ℕ) (entries starts : List ℕ) : Type 0 where
  pub len : length starts ≡ count + 1
  pub within : (b : ℕ) → b ≤ count → slice_index starts b ≤ length entries
  pub first : (b q : ℕ) → b ≤ count → q < length entries → (q < slice_index starts b) ↔ (bucket_of_key count (key_in bits (slice_index entries q)) < b)

-- the greatest number of entries from one start to the next
pub record IsLongest (starts : List ℕ) (longest : ℕ) : Type 0 where
  pub most : (b : ℕ) → b + 1 < length starts → slice_index starts (b + 1) ≤ slice_index starts b + longest
  pub reached : 0 < longest → (b : ℕ) × (b + 1 < length starts) × (slice_index starts (b + 1) ≡ slice_index starts b + longest)

-- the index of these names
pub record IsIndexOf (names : List (List ℕ)) (index : NameIndex) : Type 0 where
  pub bits : index.bits ≡ binary_digits (length names)
  pub few : index.bits < 64
  pub len : length index.entries.items ≡ length names
  pub entries : IsIndexBy names index.bits index.discriminator index.entries.items
  pub starts : AreStarts (length names) index.bits index.entries.items index.starts.items
  pub longest : IsLongest index.starts.items index.longest

-- Entries among which a name n is searched: sorted, no position twice, and all positions of the name among them.
pub record IsBucketFor (names : List (List ℕ)) (bits : ℕ) (discriminator : Discriminator) (n entries : List ℕ) : Type 0 where
  pub keyed : All (IsKeyed names bits) entries
  pub rising : IsSorted (keyed_position_cmp bits names) (positions bits entries)
  pub apart : Distinct (positions bits entries)
  pub holds : (i : ℕ) → slice_get names i ≡ Some n → (q : ℕ) × (q < length entries) × (position_in bits (slice_index entries q) ≡ i)
  pub distinguished : AreDistinguishedBy bits discriminator entries

-- how an entry compares to a name n with this key, by as much of them as the discriminator names
abbrev pub entry_name_cmp : ℕ → List (List ℕ) → List ℕ → ℕ → Discriminator → ℕ → Ordering
entry_name_cmp bits names n key Key e = nat_cmp (key_in bits e) key
entry_name_cmp bits names n key Text e = ordering_then (nat_cmp (key_in bits e) key) (bytes_cmp (slice_get names (position_in bits e)) (Some n))

-- an entry with this key, of the position of a name n
abbrev pub IsEntryOf : ℕ → List (List ℕ) → List ℕ → ℕ → ℕ → Type 0
IsEntryOf bits names n key e = (key_in bits e ≡ key) × (slice_index_or names (position_in bits e) [] ≡ n)

-- 64 ones for true, 0 for false
abbrev pub mask : Bool → ℕ
mask b = if b then 2 ^ 64 - 1 else 0
