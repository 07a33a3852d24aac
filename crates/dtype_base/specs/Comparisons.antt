-- SPDX-License-Identifier: Apache-2.0
-- SPDX-FileCopyrightText: Copyright the Vortex contributors

-- How many names a lookup compares. From arithmetic.
use Rattle.std.specs.Prelude.{ℕ, zero, suc, ◌+◌, ◌==◌, List, [], ◌∷◌, length, max}
use Rattle.std.specs.List.{count_by}
use Rattle.dtype_base.specs.BinaryDigits.{binary_digits}
use Rattle.dtype_base.specs.NameHashes.{bucket_of}

-- How many names a binary search among this many names compares with the name that it looks for. Among n + 1 names it
-- makes one comparison for each binary digit of n, until one name is left, and then one comparison with that name.
abbrev pub comparisons : ℕ → ℕ
comparisons zero = 0
comparisons (suc n) = binary_digits n + 1

-- how many of the names are in the bucket of this name
unfoldable pub bucket_len : List (List ℕ) → List ℕ → ℕ
bucket_len names n = count_by (λ m. bucket_of (length names) m == bucket_of (length names) n) names

-- the greatest number of names that are in one bucket with one of these
unfoldable pub most_sharing : List (List ℕ) → List (List ℕ) → ℕ
most_sharing names [] = 0
most_sharing names (n ∷ ns) = max (bucket_len names n) (most_sharing names ns)

-- How many names are in the longest bucket. Every lookup searches among as many names, whichever name it looks for.
unfoldable pub longest_bucket : List (List ℕ) → ℕ
longest_bucket names = most_sharing names names
