-- SPDX-License-Identifier: Apache-2.0
-- SPDX-FileCopyrightText: Copyright the Vortex contributors

-- Hashes of names, how the bytes of a name are read, and the buckets of keys.
use Rattle.std.proofs.Common.{◌≡◌, ℕ, zero, suc, ◌+◌, ◌-◌, ◌*◌, ◌/◌, ◌%◌, ◌<◌, ◌≤◌, ◌^◌, List, [], ◌∷◌, length, length-drop, get_or, drop, refl, sym, ap, ◌∙◌, arith, add-mul, pow-suc}
use Rattle.std.specs.Int.{w64, from_be_bytes}
use Rattle.std.proofs.Math.Nat.{div-lt_iff_lt-mul, mul-le-mul_right, mul-lt-mul_of_pos_right, mod-eq-sub-div-mul, div-mul-le_self}
use Rattle.std.proofs.lemmas.Nat.{mod_low, pow-add}
use Rattle.std.proofs.lemmas.List.{drop-drop, get_or_past, take_rest}
use Rattle.dtype_base.specs.BinaryDigits.{binary_digits}
use Rattle.dtype_base.specs.NameHashes.{big_endian, bucket_of_key, hash_of, key_of, mixed, without_bits, words_hash}
use Rattle.dtype_base.proofs.lemmas.BinaryDigits.{digits_between, digits_fewest}

-- no byte, no number
pub of_none : (k : ℕ) (bs : List ℕ) → length bs ≡ 0 → big_endian k bs ≡ 0
unfolding big_endian
of_none zero bs e = refl
of_none (suc k) bs e = omega (arith, of_none k bs e, get_or_past bs k 0 (omega (arith, e)))

-- the first eight bytes, read one by one
pub first_eight : (bs : List ℕ) → big_endian 8 bs ≡ from_be_bytes w64 (get_or bs 0 0 ∷ get_or bs 1 0 ∷ get_or bs 2 0 ∷ get_or bs 3 0 ∷ get_or bs 4 0 ∷ get_or bs 5 0 ∷ get_or bs 6 0 ∷ get_or bs 7 0 ∷ [])
unfolding big_endian
first_eight bs = omega arith

-- one word more in a hash
pub words_more : (k : ℕ) (n : List ℕ) → mixed (words_hash k n) (big_endian 8 (drop (8 * k) n)) ≡ words_hash (k + 1) n
unfolding words_hash
words_more k n = let one : suc k ≡ k + 1 = omega arith in ap (λ j. words_hash j n) one

-- the hash of a text of less than a word
pub short_hash : (n : List ℕ) → length n < 8 → mixed (length n) (big_endian 8 n) ≡ hash_of n
unfolding hash_of words_hash
short_hash n short =
    let none : 0 ≡ (length n - 1) / 8 = omega (arith, short) in
    let all : 0 ≡ length n - 8 = omega (arith, short) in
    λ i. mixed (words_hash (none i) n) (big_endian 8 (drop (all i) n))

-- the hash of a text, from that of its first words
pub whole_hash : (k : ℕ) (n : List ℕ) → k ≡ (length n - 1) / 8 → mixed (words_hash k n) (big_endian 8 (drop (length n - 8) n)) ≡ hash_of n
unfolding hash_of
whole_hash k n is = ap (λ j. mixed (words_hash j n) (big_endian 8 (drop (length n - 8) n))) is

-- The first words of the text n have the hash h, and the rest is left, of which there is some.
pub record AreHashed (h : ℕ) (rest n : List ℕ) : Type 0 where
  pub words : ℕ
  pub hash : h ≡ words_hash words n
  pub left : rest ≡ drop (8 * words) n
  pub some : 8 * words < length n

pub none_hashed : (h : ℕ) (n : List ℕ) → h ≡ length n → 8 ≤ length n → AreHashed h n n
unfolding words_hash
none_hashed h n is long = record { words = 0; hash = is; left = refl; some = omega (arith, long) }

pub one_hashed : (h j : ℕ) (rest next n : List ℕ) → AreHashed h rest n → 8 < length rest → j ≡ mixed h (big_endian 8 rest) → next ≡ drop 8 rest → AreHashed j next n
one_hashed h j rest next n a more is by_word =
    let long : length rest ≡ length n - 8 * a.words = ap length a.left ∙ length-drop (8 * a.words) n in record {
      words = a.words + 1;
      hash = is ∙ ap (λ g. mixed g (big_endian 8 rest)) a.hash ∙ ap (λ (r : List ℕ). mixed (words_hash a.words n) (big_endian 8 r)) a.left ∙ words_more a.words n;
      left = by_word ∙ ap (drop 8) a.left ∙ drop-drop 8 (8 * a.words) n ∙ (let sum : 8 * a.words + 8 ≡ 8 * (a.words + 1) = omega arith in ap (λ (k : ℕ). drop k n) sum);
      some = omega (arith, long, more);
    }

pub all_hashed : (h : ℕ) (rest n : List ℕ) → AreHashed h rest n → length rest ≤ 8 → mixed h (big_endian 8 (drop (length n - 8) n)) ≡ hash_of n
all_hashed h rest n a few =
    let long : length rest ≡ length n - 8 * a.words = ap length a.left ∙ length-drop (8 * a.words) n in
    ap (λ g. mixed g (big_endian 8 (drop (length n - 8) n))) a.hash ∙ whole_hash a.words n (omega (arith, long, few, a.some))

pub ruleset hash_steps = (short_hash, none_hashed, one_hashed, all_hashed, take_rest)

-- ---- keys and buckets

-- the binary digits of a number between two powers of two
pub digits_of_log : (n k : ℕ) → 2 ^ k ≤ n → n < 2 * 2 ^ k → k + 1 ≡ binary_digits n
digits_of_log n k low high = omega (arith, digits_between n k low (omega (arith, high, pow-suc 2 k)))

-- positions of so few names take fewer than 64 bits
pub few_bits : (bits count : ℕ) → bits ≡ binary_digits count → count < 2 ^ 63 → bits < 64
few_bits bits count is fits = let few = digits_fewest count 63 fits in omega (arith, is, few)

-- a key has a bucket
pub bucket_below : (count key : ℕ) → 0 < count → key < 2 ^ 64 → key * count / 2 ^ 64 < count
bucket_below count key some fits = (div-lt_iff_lt-mul (omega arith)).1 (omega (arith, mul-lt-mul_of_pos_right fits some))

-- a greater key isn't in a bucket before
pub bucket_rises : (count a b : ℕ) → a ≤ b → bucket_of_key count a ≤ bucket_of_key count b
bucket_rises count a b le = let more = mul-le-mul_right count le in omega (arith, more)

-- a key is a multiple of the room that its last bits give
key_is : (bits h : ℕ) → without_bits bits h ≡ h / 2 ^ bits * 2 ^ bits
key_is bits h = omega (arith, mod-eq-sub-div-mul h (2 ^ bits), div-mul-le_self h (2 ^ bits))

-- a key and a position fit into 64 bits
pub entry_fits : (bits h p : ℕ) → bits < 64 → h < 2 ^ 64 → p < 2 ^ bits → without_bits bits h + p < 2 ^ 64
entry_fits bits h p few fits room =
    let all : 64 - bits + bits ≡ 64 = omega (arith, few) in
    let powers : 2 ^ (64 - bits) * 2 ^ bits ≡ 2 ^ 64 = sym (pow-add 2 (64 - bits) bits) ∙ ap (λ k. 2 ^ k) all in
    let below : h / 2 ^ bits < 2 ^ (64 - bits) = (div-lt_iff_lt-mul (omega (arith, room))).1 (omega (arith, fits, powers)) in
    let most = mul-le-mul_right (2 ^ bits) below in
    omega (arith, key_is bits h, most, powers, room, add-mul (h / 2 ^ bits) 1 (2 ^ bits))

-- what an entry's parts are
pub position_of_entry : (bits h p : ℕ) → p < 2 ^ bits → (without_bits bits h + p) % 2 ^ bits ≡ p
position_of_entry bits h p room = ap (λ (k : ℕ). (k + p) % 2 ^ bits) (key_is bits h) ∙ mod_low (h / 2 ^ bits) bits p room

pub key_of_entry : (bits h p : ℕ) → p < 2 ^ bits → without_bits bits (without_bits bits h + p) ≡ without_bits bits h
key_of_entry bits h p room = omega (arith, position_of_entry bits h p room)

-- a hash has 64 bits
pub hash_fits : (n : List ℕ) → hash_of n < 2 ^ 64
unfolding hash_of mixed
hash_fits n = omega arith

pub key_fits : (bits : ℕ) (n : List ℕ) → key_of bits n < 2 ^ 64
unfolding key_of
key_fits bits n = omega (arith, hash_fits n)
