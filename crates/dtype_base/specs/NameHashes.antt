-- SPDX-License-Identifier: Apache-2.0
-- SPDX-FileCopyrightText: Copyright the Vortex contributors

-- Hashes of names, and the buckets into which an index puts names by their hashes. The hash is a choice of this
-- project: lookups would be correct with any function of a name, because the last comparison of a lookup compares
-- texts.
use Rattle.std.specs.Prelude.{ℕ, zero, suc, ◌+◌, ◌-◌, ◌*◌, ◌/◌, ◌%◌, ◌^◌, List, length, drop, slice_index}
use Rattle.dtype_base.specs.BinaryDigits.{binary_digits}

-- the first k bytes of a text as one big-endian number, padded with zeros after its end
unfoldable pub big_endian : ℕ → List ℕ → ℕ
big_endian zero bs = 0
big_endian (suc k) bs = big_endian k bs * 256 + slice_index bs k

-- One word more in a hash: the halves of a product, added modulo 2 ^ 64. The number is 2 ^ 64 divided by the golden ratio.
unfoldable pub mixed : ℕ → ℕ → ℕ
mixed hash word =
    let product = (hash + word) % 2 ^ 64 * 11400714819323198485 in
    (product / 2 ^ 64 + product % 2 ^ 64) % 2 ^ 64

-- the length of a text and its first k words of eight bytes, hashed
unfoldable pub words_hash : ℕ → List ℕ → ℕ
words_hash zero n = length n
words_hash (suc k) n = mixed (words_hash k n) (big_endian 8 (drop (8 * k) n))

-- The hash of a name: of its length, of the words of eight bytes before its last byte, and of its last eight bytes.
unfoldable pub hash_of : List ℕ → ℕ
hash_of n = mixed (words_hash ((length n - 1) / 8) n) (big_endian 8 (drop (length n - 8) n))

-- the number n with its last `bits` bits set to 0
abbrev pub without_bits : ℕ → ℕ → ℕ
without_bits bits n = n - n % 2 ^ bits

-- The key of a name: its hash with the last `bits` bits set to 0. An entry of an index contains a position in these
-- bits.
unfoldable pub key_of : ℕ → List ℕ → ℕ
key_of bits n = without_bits bits (hash_of n)

-- the bucket of a key if the 64-bit numbers are divided evenly among `count` buckets
abbrev pub bucket_of_key : ℕ → ℕ → ℕ
bucket_of_key count key = key * count / 2 ^ 64

-- The bucket of the name n in an index of `count` names. The index has `count` buckets, and in its keys as many of the
-- last bits are 0 as `count` has binary digits.
abbrev pub bucket_of : ℕ → List ℕ → ℕ
bucket_of count n = bucket_of_key count (key_of (binary_digits count) n)
