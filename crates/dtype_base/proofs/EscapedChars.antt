-- SPDX-License-Identifier: Apache-2.0
-- SPDX-FileCopyrightText: Copyright the Vortex contributors

-- How the characters of a name are printed, and runs of characters that are printed unchanged.
use Rattle.std.proofs.Common.{◌≡◌, ◌≢◌, ℕ, ◌+◌, ◌<◌, ◌≤◌, ◌-◌, ◌/◌, ◌%◌, ◌^◌, false, true, List, [], ◌∷◌, ◌++◌, Some, refl, ap, sym, append-nil, append_assoc, length, take, drop, get_or, ◌∙◌, arith, length-drop}
use Rattle.std.proofs.lemmas.List.{take_more, get_or-drop}
use Rattle.std.specs.Char.{is_ascii_control}
use Rattle.std.specs.Option.{option_map}
use Rattle.std.specs.Fmt.{digits, digits_output, styled_digits_output, padded_integral, format_spec, ◌++?◌}
use Rattle.std.proofs.lemmas.Bool.Decides.{nat_tests}
use Rattle.std.proofs.lemmas.Bool.{cond_both}
use Rattle.std.proofs.Math.Dec.{ltb}
use lib.Utf8.{encode}
use Rattle.std.proofs.lemmas.Str.{encode_ascii}
use Rattle.std.proofs.lemmas.List.Concat.{flat_map-append}
use Rattle.std.proofs.lemmas.Fmt.{hex_byte}
use Rattle.dtype_base.specs.Escapes.{escaped_byte, escaped, hex_digit}

escaped_byte_control : (b : ℕ) → b ≢ 9 → b ≢ 10 → b ≢ 13 → is_ascii_control b ≡ true → escaped_byte b ≡ 92 ∷ 120 ∷ hex_digit (b / 16) ∷ hex_digit (b % 16) ∷ []
unfolding escaped_byte
escaped_byte_control b tab newline return e = grind (arith, nat_tests)

-- a byte that is no quote, no backslash and no control character is printed unchanged
pub escaped_byte_printed : (b : ℕ) → b ≢ 34 → b ≢ 92 → is_ascii_control b ≡ false → escaped_byte b ≡ b ∷ []
unfolding escaped_byte
escaped_byte_printed b quote backslash printed = grind (arith, nat_tests)

escaped_byte_high : (b : ℕ) → 128 ≤ b → escaped_byte b ≡ b ∷ []
unfolding escaped_byte
escaped_byte_high b h = grind (arith, nat_tests)

below_128 : (c : ℕ) → is_ascii_control c ≡ true → c < 128
below_128 c e = grind (arith, nat_tests)

abbrev pub IsUnchanged : List ℕ → Type 0
IsUnchanged bs = escaped bs ≡ bs

unchanged_cons : (b : ℕ) (bs : List ℕ) → escaped_byte b ≡ b ∷ [] → IsUnchanged bs → IsUnchanged (b ∷ bs)
unfolding escaped
unchanged_cons b bs e h = λ i. e i ++ h i

unchanged_high : (b : ℕ) (bs : List ℕ) → 128 ≤ b → IsUnchanged bs → IsUnchanged (b ∷ bs)
unchanged_high b bs h = unchanged_cons b bs (escaped_byte_high b h)

pub unchanged_none : IsUnchanged []
unfolding escaped
unchanged_none = refl

-- the bytes of a character past ASCII are all past it
escaped_encode_plain : (c : ℕ) → escaped_byte c ≡ c ∷ [] → IsUnchanged (encode c)
unfolding encode
escaped_encode_plain c e =
    cond_both (ltb c 128) _ _ IsUnchanged (λ _. unchanged_cons c [] e unchanged_none) (λ _.
    cond_both (ltb c 2048) _ _ IsUnchanged (λ _. unchanged_high _ _ (omega arith) (unchanged_high _ _ (omega arith) unchanged_none)) (λ _.
    cond_both (ltb c 65536) _ _ IsUnchanged
    (λ _. unchanged_high _ _ (omega arith) (unchanged_high _ _ (omega arith) (unchanged_high _ _ (omega arith) unchanged_none)))
    (λ _. unchanged_high _ _ (omega arith) (unchanged_high _ _ (omega arith) (unchanged_high _ _ (omega arith) (unchanged_high _ _ (omega arith) unchanged_none))))))

pub escaped_encode_ascii : (c : ℕ) → c < 128 → escaped (encode c) ≡ escaped_byte c
unfolding escaped
escaped_encode_ascii c small = ap escaped (encode_ascii c small) ∙ append-nil (escaped_byte c)

-- what `\\x{:02x}` writes of a control character is the character escaped
pub escaped_control : (d : _) (s : _) (c : ℕ) → c ≢ 9 → c ≢ 10 → c ≢ 13 → is_ascii_control c ≡ true → digits_output d ≡ Some (digits 16 false c) → s ≡ format_spec 32 0 4 2 (2 ^ 64 - 1)
    → (Some (92 ∷ 120 ∷ []) ++? styled_digits_output d s) ≡ Some (escaped (encode c))
escaped_control d s c tab newline return e shown spec =
    let small = below_128 c e in
    ap (λ t. Some (92 ∷ 120 ∷ []) ++? styled_digits_output d t) spec
    ∙ ap (λ o. Some (92 ∷ 120 ∷ []) ++? option_map (padded_integral (format_spec 32 0 4 2 (2 ^ 64 - 1)) false []) o) shown
    ∙ ap (λ bs. Some (92 ∷ 120 ∷ bs)) (hex_byte false c (omega arith))
    ∙ ap (λ bs. Some bs) (sym (escaped_encode_ascii c small ∙ escaped_byte_control c tab newline return e))

-- every other character is printed unchanged
pub escaped_plain : (c : ℕ) → c ≢ 34 → c ≢ 92 → is_ascii_control c ≡ false → encode c ≡ escaped (encode c)
escaped_plain c quote backslash e = sym (escaped_encode_plain c (escaped_byte_printed c quote backslash e))

-- ---- runs that are printed unchanged

escaped_more : (bs : List ℕ) (i : ℕ) → i < length bs → escaped (take (i + 1) bs) ≡ escaped (take i bs) ++ escaped_byte (get_or bs i 0)
unfolding escaped
escaped_more bs i within =
    ap escaped (take_more bs i 0 within) ∙ flat_map-append escaped_byte (take i bs) (get_or bs i 0 ∷ [])
    ∙ ap (λ xs. escaped (take i bs) ++ xs) (append-nil (escaped_byte (get_or bs i 0)))

-- the bytes from `start` to `i` are printed unchanged
abbrev pub IsRun : (bs : List ℕ) (start i : ℕ) → Type 0
IsRun bs start i = escaped (take i bs) ≡ escaped (take start bs) ++ take (i - start) (drop start bs)

pub run_none : (bs : List ℕ) (i : ℕ) → IsRun bs i i
run_none bs i = let none : 0 ≡ i - i = omega arith in sym (ap (λ n. escaped (take i bs) ++ take n (drop i bs)) (sym none) ∙ append-nil (escaped (take i bs)))

module _ (bs : List ℕ) (start i : ℕ) (within : i < length bs) (run : IsRun bs start i) where
  -- one more byte that is printed unchanged
  pub run_more : start ≤ i → escaped_byte (get_or bs i 0) ≡ get_or bs i 0 ∷ [] → IsRun bs start (i + 1)
  run_more begun plain =
      let front = escaped (take start bs) in
      let rest = drop start bs in
      let next : i - start + 1 ≡ i + 1 - start = omega arith in
      let place : start + (i - start) ≡ i = omega arith in
      let byte = get_or-drop start bs (i - start) 0 ∙ ap (λ n. get_or bs n 0) place in
      escaped_more bs i within ∙ (λ j. run j ++ plain j) ∙ append_assoc front (take (i - start) rest) (get_or bs i 0 ∷ [])
      ∙ ap (λ xs. front ++ xs) (ap (λ b. take (i - start) rest ++ b ∷ []) (sym byte) ∙ sym (take_more rest (i - start) 0 (omega (arith, length-drop start bs))) ∙ ap (λ n. take n rest) next)

  -- the run, and the escape of the byte after it, are appended to the output
  pub run_written : (piece : List ℕ) → piece ≡ escaped_byte (get_or bs i 0) → escaped (take start bs) ++ (take (i - start) (drop start bs) ++ piece) ≡ escaped (take (i + 1) bs)
  run_written piece is = sym (escaped_more bs i within ∙ (λ j. run j ++ sym is j) ∙ append_assoc (escaped (take start bs)) (take (i - start) (drop start bs)) piece)
