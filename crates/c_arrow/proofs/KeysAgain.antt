-- SPDX-License-Identifier: Apache-2.0
-- SPDX-FileCopyrightText: Copyright the Vortex contributors

-- What is written as the metadata of an extension is read again.
use Rattle.std.proofs.Common.{◌≡◌, ℕ, suc, ◌+◌, ◌/◌, ◌%◌, ◌^◌, ◌<◌, Bool, true, false, List, [], ◌++◌, length, take, drop, Option, Some, None, refl, sym, ap, ◌∙◌, append-nil, arith}
use Rattle.std.specs.Prelude.{nat_lt, if◌then◌else◌}
use Rattle.std.specs.Int.{from_le_bytes, to_le_bytes, w32}
use Rattle.std.proofs.Math.Seq.{take-append_seam, drop-append_seam}
use Rattle.std.proofs.lemmas.Bool.Decides.{nat_tests}
use Rattle.std.proofs.lemmas.List.{length-append}
use Rattle.std.proofs.lemmas.Nat.{from_le_bytes-to_le_bytes_4}
use Rattle.std.proofs.lemmas.Option.{same_Some}
use Rattle.dtype_text.specs.Read.{◌>>=◌}
use Rattle.c_arrow.specs.Again.{both_said}
use Rattle.c_arrow.specs.Keys.{Said, nothing_said, name_key, metadata_key, count_at, text_at, with_pair, said_with, said_in, sized, short_text, extension_metadata}

count_again : (n : ℕ) (rest : List ℕ) → n < 2 ^ 31 → count_at (to_le_bytes w32 n ++ rest) ≡ Some (n, rest)
unfolding count_at
count_again n rest lt =
    let low : n / 16777216 % 256 < 128 = omega (arith, lt) in
    let test : nat_lt (n / 16777216 % 256) 128 ≡ true = grind (arith, nat_tests) in
    let back : from_le_bytes w32 (to_le_bytes w32 n) ≡ n = from_le_bytes-to_le_bytes_4 n (omega (arith, lt)) in
    rw test (ap (λ (m : ℕ). Some (m, rest)) back)

abbrev cut : ℕ → List ℕ → Option (List ℕ × List ℕ)
cut n bytes = if nat_lt (length bytes) n then None else Some (take n bytes, drop n bytes)

cut_again : (text rest : List ℕ) → cut (length text) (text ++ rest) ≡ Some (text, rest)
cut_again text rest =
    let more : length (text ++ rest) ≡ length text + length rest = length-append text rest in
    let test : nat_lt (length (text ++ rest)) (length text) ≡ false = grind (arith, nat_tests) in
    rw (test, take-append_seam text rest, drop-append_seam text rest) refl

text_again : (text rest : List ℕ) → length text < 2 ^ 31 → text_at (sized text ++ rest) ≡ Some (text, rest)
unfolding text_at
text_again text rest lt = ap (λ (o : Option (ℕ × List ℕ)). o >>= λ n. cut n.0 n.1) (count_again (length text) (text ++ rest) lt) ∙ cut_again text rest

abbrev after_key : Said → ℕ → Option (List ℕ × List ℕ) → Option Said
after_key said n o = o >>= λ key. text_at key.1 >>= λ value. with_pair said key.0 value.0 >>= λ more. said_with more n value.1

abbrev after_value : Said → ℕ → List ℕ → Option (List ℕ × List ℕ) → Option Said
after_value said n key o = o >>= λ value. with_pair said key value.0 >>= λ more. said_with more n value.1

pair_again : (said more : Said) (n : ℕ) (key value rest : List ℕ) → length key < 2 ^ 31 → length value < 2 ^ 31 → with_pair said key value ≡ Some more → said_with said (suc n) (sized key ++ (sized value ++ rest)) ≡ said_with more n rest
pair_again said more n key value rest k v is =
    ap (after_key said n) (text_again key (sized value ++ rest) k) ∙ ap (after_value said n key) (text_again value rest v) ∙ ap (λ (o : Option Said). o >>= λ m. said_with m n rest) is

whole : (id bytes : List ℕ) → length id < 2 ^ 31 → length bytes < 2 ^ 31 → said_in (to_le_bytes w32 2 ++ (sized name_key ++ (sized id ++ (sized metadata_key ++ sized bytes)))) ≡ Some (both_said id bytes)
unfolding said_in with_pair
whole id bytes i b =
    let rest = sized name_key ++ (sized id ++ (sized metadata_key ++ sized bytes)) in
    let last : sized metadata_key ++ sized bytes ≡ sized metadata_key ++ (sized bytes ++ []) = ap (λ x. sized metadata_key ++ x) (sym (append-nil (sized bytes))) in
    let first : Said = record { name = Some id; metadata = None } in
    ap (λ (o : Option (ℕ × List ℕ)). o >>= λ n. said_with nothing_said n.0 n.1) (count_again 2 rest (omega arith))
    ∙ pair_again nothing_said first 1 name_key id (sized metadata_key ++ sized bytes) (omega arith) i refl
    ∙ ap (said_with first 1) last
    ∙ pair_again first (both_said id bytes) 0 metadata_key bytes [] (omega arith) b refl

abbrev wrap : List ℕ → Option (List ℕ)
wrap x = Some x

pub keys_again : (id bytes metadata : List ℕ) → extension_metadata id bytes ≡ Some metadata → said_in metadata ≡ Some (both_said id bytes)
unfolding extension_metadata short_text
keys_again id bytes metadata is = split (nat_lt (length id) (2 ^ 31)) (nat_lt (length bytes) (2 ^ 31)) refl refl where
  split : (c d : Bool) → nat_lt (length id) (2 ^ 31) ≡ c → nat_lt (length bytes) (2 ^ 31) ≡ d → said_in metadata ≡ Some (both_said id bytes)
  split false d i b = absurd (let e = rw i at is in cc)
  split true false i b = absurd (let e = rw (i, b) at is in cc)
  split true true i b =
      let e : wrap (to_le_bytes w32 2 ++ (sized name_key ++ (sized id ++ (sized metadata_key ++ sized bytes)))) ≡ wrap metadata = rw (i, b) at is in
      ap said_in (sym (same_Some _ _ e)) ∙ whole id bytes (grind (arith, nat_tests)) (grind (arith, nat_tests))
