-- SPDX-License-Identifier: Apache-2.0
-- SPDX-FileCopyrightText: Copyright the Vortex contributors

-- What is written as a format is read again.
use Rattle.std.proofs.Common.{◌≡◌, ℕ, zero, suc, ◌+◌, ◌-◌, ◌*◌, ◌^◌, ◌<◌, ◌≤◌, Bool, true, false, ◌==◌, List, [], ◌∷◌, ◌++◌, length, take, drop, Option, Some, None, Result, Ok, Err, refl, sym, ap, ◌∙◌, arith}
use Rattle.std.specs.Prelude.{codes, slice_index, nat_lt, nat_le, ℤ, pos, negsuc, neg_ℤ, ◌≤ℤ◌, if◌then◌else◌}
use Rattle.std.specs.Char.{is_ascii_digit, digit_value}
use Rattle.std.specs.Fmt.{decimal, signed_decimal}
use Rattle.std.specs.List.{list_all, prefix_len}
use Rattle.std.specs.Str.{is_utf8, IsAscii}
use Rattle.std.proofs.lemmas.Str.{is_utf8-from_IsUtf8, IsUtf8-from_ascii}
use Rattle.std.proofs.lemmas.Str.Ascii.{IsAscii-nil}
use Rattle.std.specs.Str.Parse.{digits_value, digits_value_after, AllDigits}
use Rattle.std.proofs.Math.Seq.{take-append_seam, drop-append_seam}
use Rattle.std.proofs.lemmas.Bool.Decides.{nat_tests}
use Rattle.std.proofs.lemmas.Fmt.{decimal_is_IsNumeral}
use Rattle.dtype_base.specs.Decimals.{IsDecimalWithin}
use Rattle.dtype_base.specs.declared.ptype.PType.{PType}
use Rattle.dtype_base.specs.declared.ptype.PType.TheVariants as p
use Rattle.dtype_text.specs.Leaves.{front, past}
use Rattle.dtype_text.specs.Read.{◌>>=◌, byte_at}
use Rattle.c_arrow.specs.Faults.{Fault}
use Rattle.c_arrow.specs.Formats.{format_of, word_of, word_in, nested_word_of, time_of, parametric_of, nested_of, union_of, or_else}
use Rattle.c_arrow.specs.FormatsWritten.{letter_of, bytes_format, decimal_format, fixed_size_format, union_format, width_of, joined, is_id}
use Rattle.c_arrow.specs.Kept.{kept_of}
use Rattle.c_arrow.specs.Ids.{ids_of, ids_after, ended, id_with}
use Rattle.c_arrow.specs.Ids.{digits_value as value_of}
use Rattle.c_arrow.specs.Numbers.{number_of, number_after, digit_after, size_of, small_of, signed_of, not_comma, is_width, decimal_parts}
use Rattle.c_arrow.specs.declared.format.Format.{Format}
use Rattle.c_arrow.specs.declared.format.Format.TheVariants as f
use Rattle.c_arrow.proofs.Leaves.{both}

-- ---- words

no_text : (bytes : List ℕ) → word_of bytes ≡ None → word_in bytes ≡ None
no_text bytes e = split (is_utf8 bytes) refl where
  split : (c : Bool) → is_utf8 bytes ≡ c → word_in bytes ≡ None
  split true u = rw u e
  split false u = rw u refl

-- bytes that are no word are a format with parameters
pub with_parameters : (bytes : List ℕ) → word_of bytes ≡ None → format_of bytes ≡ parametric_of bytes
unfolding format_of
with_parameters bytes e = ap (λ o. or_else o (parametric_of bytes)) (no_text bytes e)

abbrev are_ascii : List ℕ → Bool
are_ascii bytes = list_all (λ b. nat_lt b 128) bytes

ascii_at : (b : ℕ) (bytes : List ℕ) → nat_lt b 128 ≡ true → IsAscii bytes → (i : ℕ) → slice_index (b ∷ bytes) i < 128
ascii_at b bytes test rest zero = grind (arith, nat_tests)
ascii_at b bytes test rest (suc i) = rest i

ascii : (bytes : List ℕ) → are_ascii bytes ≡ true → IsAscii bytes
ascii [] e = IsAscii-nil
ascii (b ∷ bytes) e = let h = both (nat_lt b 128) (are_ascii bytes) e in ascii_at b bytes h.0 (ascii bytes h.1)

pub ascii_utf8 : (bytes : List ℕ) → are_ascii bytes ≡ true → is_utf8 bytes ≡ true
ascii_utf8 bytes e = is_utf8-from_IsUtf8 bytes (IsUtf8-from_ascii bytes (ascii bytes e))

pub word_again : (bytes : List ℕ) (format : Format) → are_ascii bytes ≡ true → word_of bytes ≡ Some format → format_of bytes ≡ Some format
unfolding format_of
word_again bytes format e is =
    let found : word_in bytes ≡ Some format = rw (ascii_utf8 bytes e) is in
    ap (λ o. or_else o (parametric_of bytes)) found

pub words_again : (format_of (codes "n") ≡ Some f.Null) × (format_of (codes "b") ≡ Some f.Bool) × (format_of (codes "u") ≡ Some f.Utf8) × (format_of (codes "z") ≡ Some f.Binary) × (format_of (codes "+l") ≡ Some f.List) × (format_of (codes "+s") ≡ Some f.Struct) × (format_of (codes "+m") ≡ Some f.Map)
unfolding word_of nested_word_of
words_again = (
  word_again (codes "n") f.Null refl refl,
  word_again (codes "b") f.Bool refl refl,
  word_again (codes "u") f.Utf8 refl refl,
  word_again (codes "z") f.Binary refl refl,
  word_again (codes "+l") f.List refl refl,
  word_again (codes "+s") f.Struct refl refl,
  word_again (codes "+m") f.Map refl refl,
)

pub letter_again : (t : PType) → format_of (letter_of t) ≡ Some (f.Primitive t)
unfolding word_of letter_of
letter_again p.U8 = word_again (codes "C") (f.Primitive p.U8) refl refl
letter_again p.U16 = word_again (codes "S") (f.Primitive p.U16) refl refl
letter_again p.U32 = word_again (codes "I") (f.Primitive p.U32) refl refl
letter_again p.U64 = word_again (codes "L") (f.Primitive p.U64) refl refl
letter_again p.I8 = word_again (codes "c") (f.Primitive p.I8) refl refl
letter_again p.I16 = word_again (codes "s") (f.Primitive p.I16) refl refl
letter_again p.I32 = word_again (codes "i") (f.Primitive p.I32) refl refl
letter_again p.I64 = word_again (codes "l") (f.Primitive p.I64) refl refl
letter_again p.F16 = word_again (codes "e") (f.Primitive p.F16) refl refl
letter_again p.F32 = word_again (codes "f") (f.Primitive p.F32) refl refl
letter_again p.F64 = word_again (codes "g") (f.Primitive p.F64) refl refl

-- ---- numbers

digit_ascii : (c : ℕ) → digit_value c < 10 → is_ascii_digit c ≡ true
digit_ascii c lt = grind (arith, nat_tests)

digit_is : (c : ℕ) → is_ascii_digit c ≡ true → digit_value c ≡ c - 48
digit_is c e = grind (arith, nat_tests)

grows : (n : ℕ) (cs : List ℕ) → n ≤ digits_value_after 10 n cs
grows n [] = omega arith
grows n (c ∷ cs) = omega (arith, grows (n * 10 + digit_value c) cs)

digits_again : (n : ℕ) (cs : List ℕ) → AllDigits 10 cs → digits_value_after 10 n cs < 2 ^ 32 → number_after n cs ≡ Some (digits_value_after 10 n cs)
digits_again n [] all fits = refl
digits_again n (c ∷ cs) all fits =
    let digit = digit_ascii c all.0 in
    let is : n * 10 + (c - 48) ≡ n * 10 + digit_value c = ap (λ d. n * 10 + d) (sym (digit_is c digit)) in
    let lt : n * 10 + (c - 48) < 2 ^ 32 = omega (arith, is, grows (n * 10 + digit_value c) cs) in
    let test : nat_lt (n * 10 + (c - 48)) (2 ^ 32) ≡ true = grind (arith, nat_tests) in
    let one : digit_after n c ≡ Some (n * 10 + digit_value c) = rw (digit, test) (ap (λ d. Some d) is) in
    rw one (digits_again (n * 10 + digit_value c) cs all.1 fits)

numeral_again : (n : ℕ) (cs : List ℕ) → 0 < length cs → AllDigits 10 cs → digits_value 10 cs ≡ n → n < 2 ^ 32 → number_of cs ≡ Some n
unfolding number_of
numeral_again n [] some all is lt = absurd (omega (arith, some))
numeral_again n (c ∷ cs) some all is lt = digits_again 0 (c ∷ cs) all (omega (arith, is)) ∙ ap (λ d. Some d) is

pub number_again : (n : ℕ) → n < 2 ^ 32 → number_of (decimal n) ≡ Some n
number_again n lt =
    let d = decimal_is_IsNumeral n (omega (arith, lt)) in
    numeral_again n (decimal n) d.0.0 d.0.1 d.1 lt

-- ---- fixed-size lists

abbrev made : List ℕ → Result (List ℕ) Fault
made format = Ok format

format_in : List ℕ → Result (List ℕ) Fault → List ℕ
format_in format (Ok x) = x
format_in format (Err e) = format

same_made : (x y : List ℕ) → made x ≡ made y → x ≡ y
unfolding format_in
same_made x y e = ap (format_in x) e

pub fixed_again : (size : ℕ) (format : List ℕ) → fixed_size_format size ≡ Ok format → format_of format ≡ Some (f.FixedSizeList size)
unfolding fixed_size_format size_of word_of nested_word_of time_of kept_of parametric_of nested_of
fixed_again size format is = split (nat_le size 2147483647) refl where
  split : (c : Bool) → nat_le size 2147483647 ≡ c → format_of format ≡ Some (f.FixedSizeList size)
  split false test = absurd (let e = rw test at is in cc)
  split true test =
      let e : made (codes "+w:" ++ decimal size) ≡ made format = rw test at is in
      let lt : size < 2 ^ 32 = grind (arith, nat_tests) in
      let again = number_again size lt in
      ap format_of (sym (same_made (codes "+w:" ++ decimal size) format e)) ∙ with_parameters (codes "+w:" ++ decimal size) refl ∙ rw (again, test) refl

pub bytes_again : (size : ℕ) (format : List ℕ) → bytes_format size ≡ Ok format → format_of format ≡ Some (f.FixedSizeBinary size)
unfolding bytes_format size_of word_of nested_word_of time_of kept_of parametric_of
bytes_again size format is = split (nat_le size 2147483647) refl where
  split : (c : Bool) → nat_le size 2147483647 ≡ c → format_of format ≡ Some (f.FixedSizeBinary size)
  split false test = absurd (let e = rw test at is in cc)
  split true test =
      let e : made (codes "w:" ++ decimal size) ≡ made format = rw test at is in
      let lt : size < 2 ^ 32 = grind (arith, nat_tests) in
      let again = number_again size lt in
      ap format_of (sym (same_made (codes "w:" ++ decimal size) format e)) ∙ with_parameters (codes "w:" ++ decimal size) refl ∙ rw (again, test) refl

-- ---- decimals

abbrev begins : (ℕ → Bool) → List ℕ → Bool
begins p [] = false
begins p (b ∷ bytes) = p b

word_len : (p : ℕ → Bool) (w rest : List ℕ) → list_all p w ≡ true → begins p rest ≡ false → prefix_len p (w ++ rest) ≡ length w
word_len p [] [] all none = refl
word_len p [] (b ∷ rest) all none = rw none refl
word_len p (b ∷ w) rest all none =
    let h = both (p b) (list_all p w) all in
    let more : prefix_len p (w ++ rest) ≡ length w = word_len p w rest h.1 none in
    rw h.0 (omega (arith, more))

word_front : (p : ℕ → Bool) (w rest : List ℕ) → list_all p w ≡ true → begins p rest ≡ false → front p (w ++ rest) ≡ w
word_front p w rest all none = ap (λ (k : ℕ). take k (w ++ rest)) (word_len p w rest all none) ∙ take-append_seam w rest

word_past : (p : ℕ → Bool) (w rest : List ℕ) → list_all p w ≡ true → begins p rest ≡ false → past p (w ++ rest) ≡ rest
word_past p w rest all none = ap (λ (k : ℕ). drop k (w ++ rest)) (word_len p w rest all none) ∙ drop-append_seam w rest

digit_no_comma : (c : ℕ) → digit_value c < 10 → not_comma c ≡ true
digit_no_comma c lt = grind (arith, nat_tests)

no_comma : (cs : List ℕ) → AllDigits 10 cs → list_all not_comma cs ≡ true
no_comma [] all = refl
no_comma (c ∷ cs) all = rw (digit_no_comma c all.0, no_comma cs all.1) refl

digit_no_sign : (c : ℕ) → digit_value c < 10 → (c == 45) ≡ false
digit_no_sign c lt = grind (arith, nat_tests)

unsigned_again : (n : ℕ) (cs : List ℕ) → 0 < length cs → AllDigits 10 cs → number_of cs ≡ Some n → n ≤ 127 → signed_of cs ≡ Some (pos n)
unfolding signed_of
unsigned_again n [] some all is le = absurd (omega (arith, some))
unsigned_again n (c ∷ cs) some all is le =
    let test : nat_le n 127 ≡ true = grind (arith, nat_tests) in
    rw (digit_no_sign c all.0, is, test) refl

signed_again : (z : ℤ) → neg_ℤ (pos 128) ≤ℤ z → z ≤ℤ pos 76 → (signed_of (signed_decimal z) ≡ Some z) × (list_all not_comma (signed_decimal z) ≡ true)
unfolding signed_of
signed_again (pos n) low high =
    let le : n ≤ 127 = grind (arith, high) in
    let d = decimal_is_IsNumeral n (omega (arith, le)) in
    (unsigned_again n (decimal n) d.0.0 d.0.1 (number_again n (omega (arith, le))) le, no_comma (decimal n) d.0.1)
signed_again (negsuc n) low high =
    let le : suc n ≤ 128 = grind (arith, low) in
    let d = decimal_is_IsNumeral (suc n) (omega (arith, le)) in
    let test : nat_le (suc n) 128 ≡ true = grind (arith, nat_tests) in
    (rw (number_again (suc n) (omega (arith, le)), test) refl, no_comma (decimal (suc n)) d.0.1)

abbrev behind_comma : List ℕ → List ℕ → List ℕ → Option (ℕ × ℤ)
behind_comma first second rest = if is_width rest then (small_of first >>= λ n. signed_of second >>= λ z. Some (n, z)) else None

abbrev parts_of : List ℕ → List ℕ → Option (ℕ × ℤ)
parts_of first rest = byte_at 44 rest >>= λ behind. behind_comma first (front not_comma behind) (past not_comma behind)

width_again : (precision : ℕ) → (is_width (width_of precision) ≡ true) × (begins not_comma (width_of precision) ≡ false)
unfolding number_of
width_again precision = split (nat_lt 38 precision) refl where
  split : (c : Bool) → nat_lt 38 precision ≡ c → (is_width (width_of precision) ≡ true) × (begins not_comma (width_of precision) ≡ false)
  split true test = rw test (refl, refl)
  split false test = rw test (refl, refl)

small_again : (n : ℕ) → n ≤ 255 → small_of (decimal n) ≡ Some n
unfolding small_of
small_again n le =
    let test : nat_le n 255 ≡ true = grind (arith, nat_tests) in
    rw (number_again n (omega (arith, le)), test) refl

pub decimal_again : (precision : ℕ) (scale : ℤ) → IsDecimalWithin 76 precision scale → format_of (decimal_format precision scale) ≡ Some (f.Decimal precision scale)
unfolding decimal_format decimal_parts word_of nested_word_of time_of kept_of parametric_of
decimal_again precision scale h =
    let le : precision ≤ 76 = h.precision_at_most in
    let d = decimal_is_IsNumeral precision (omega (arith, le)) in
    let high : scale ≤ℤ pos 76 = grind (arith, h.scale_at_most, h.precision_at_most) in
    let z = signed_again scale h.scale_at_least high in
    let w = width_again precision in
    let rest = signed_decimal scale ++ width_of precision in
    let bytes = decimal precision ++ (44 ∷ rest) in
    let first : front not_comma bytes ≡ decimal precision = word_front not_comma (decimal precision) (44 ∷ rest) (no_comma (decimal precision) d.0.1) refl in
    let second : past not_comma bytes ≡ 44 ∷ rest = word_past not_comma (decimal precision) (44 ∷ rest) (no_comma (decimal precision) d.0.1) refl in
    let third : front not_comma rest ≡ signed_decimal scale = word_front not_comma (signed_decimal scale) (width_of precision) z.1 w.1 in
    let fourth : past not_comma rest ≡ width_of precision = word_past not_comma (signed_decimal scale) (width_of precision) z.1 w.1 in
    let last : behind_comma (decimal precision) (signed_decimal scale) (width_of precision) ≡ Some (precision, scale) = rw (w.0, small_again precision (omega (arith, le)), z.0) refl in
    let all : decimal_parts bytes ≡ Some (precision, scale) =
    ap (λ x. parts_of x (past not_comma bytes)) first ∙ ap (parts_of (decimal precision)) second
    ∙ ap (λ x. behind_comma (decimal precision) x (past not_comma rest)) third ∙ ap (behind_comma (decimal precision) (signed_decimal scale)) fourth ∙ last in
    with_parameters (codes "d:" ++ bytes) refl ∙ ap (λ (o : Option (ℕ × ℤ)). o >>= λ q. Some (f.Decimal q.0 q.1)) all

-- ---- unions

digit_no_end : (c : ℕ) → digit_value c < 10 → (c == 44) ≡ false
digit_no_end c lt = grind (arith, nat_tests)

id_step : (id : Option ℕ) (c : ℕ) (more : List ℕ) → digit_value c < 10 → value_of id * 10 + digit_value c ≤ 127 → ids_after id (c ∷ more) ≡ ids_after (Some (value_of id * 10 + digit_value c)) more
id_step id c more digit le =
    let ascii = digit_ascii c digit in
    let is : 10 * value_of id + (c - 48) ≡ value_of id * 10 + digit_value c = omega (arith, digit_is c ascii) in
    let test : nat_le (10 * value_of id + (c - 48)) 127 ≡ true = grind (arith, nat_tests) in
    let one : id_with id c ≡ Some (value_of id * 10 + digit_value c) = rw (ascii, test) (ap (λ d. Some d) is) in
    rw (digit_no_end c digit, one) refl

digits_ids : (id : Option ℕ) (c : ℕ) (cs rest : List ℕ) → AllDigits 10 (c ∷ cs) → digits_value_after 10 (value_of id) (c ∷ cs) ≤ 127 → ids_after id (c ∷ (cs ++ rest)) ≡ ids_after (Some (digits_value_after 10 (value_of id) (c ∷ cs))) rest
digits_ids id c [] rest all le = id_step id c rest all.0 le
digits_ids id c (d ∷ cs) rest all le =
    id_step id c (d ∷ (cs ++ rest)) all.0 (omega (arith, le, grows (value_of id * 10 + digit_value c) (d ∷ cs)))
    ∙ digits_ids (Some (value_of id * 10 + digit_value c)) d cs rest all.1 le

numeral_ids : (n : ℕ) (cs rest : List ℕ) → 0 < length cs → AllDigits 10 cs → digits_value 10 cs ≡ n → n ≤ 127 → (ids_after None (cs ++ rest) ≡ ids_after (Some n) rest) × (ids_of (cs ++ rest) ≡ ids_after None (cs ++ rest))
unfolding ids_of
numeral_ids n [] rest some all is le = absurd (omega (arith, some))
numeral_ids n (c ∷ cs) rest some all is le = (digits_ids None c cs rest all (omega (arith, is)) ∙ ap (λ (m : ℕ). ids_after (Some m) rest) is, refl)

more_ids : (n : ℕ) (ns : List ℕ) → n ≤ 127 → list_all is_id ns ≡ true → ids_after None (decimal n ++ joined (codes ",") ns) ≡ Some (n ∷ ns)
more_ids n [] le all =
    let d = decimal_is_IsNumeral n (omega (arith, le)) in
    (numeral_ids n (decimal n) [] d.0.0 d.0.1 d.1 le).0
more_ids n (m ∷ ms) le all =
    let d = decimal_is_IsNumeral n (omega (arith, le)) in
    let h = both (is_id m) (list_all is_id ms) all in
    let small : m ≤ 127 = grind (arith, nat_tests) in
    (numeral_ids n (decimal n) (joined (codes ",") (m ∷ ms)) d.0.0 d.0.1 d.1 le).0 ∙ ap (ended (Some n)) (more_ids m ms small h.1)

ids_again : (tags : List ℕ) → list_all is_id tags ≡ true → ids_of (joined [] tags) ≡ Some tags
unfolding ids_of
ids_again [] all = refl
ids_again (n ∷ ns) all =
    let h = both (is_id n) (list_all is_id ns) all in
    let le : n ≤ 127 = grind (arith, nat_tests) in
    let d = decimal_is_IsNumeral n (omega (arith, le)) in
    (numeral_ids n (decimal n) (joined (codes ",") ns) d.0.0 d.0.1 d.1 le).1 ∙ more_ids n ns le h.1

pub union_again : (tags format : List ℕ) → union_format tags ≡ Ok format → (format_of format ≡ Some f.Union) × (ids_of (drop 4 format) ≡ Some tags)
unfolding union_format word_of nested_word_of time_of kept_of parametric_of nested_of union_of
union_again tags format is = split (list_all is_id tags) refl where
  split : (c : Bool) → list_all is_id tags ≡ c → (format_of format ≡ Some f.Union) × (ids_of (drop 4 format) ≡ Some tags)
  split false test = absurd (let e = rw test at is in cc)
  split true test =
      let e : made (codes "+us:" ++ joined [] tags) ≡ made format = rw test at is in
      let same = sym (same_made (codes "+us:" ++ joined [] tags) format e) in
      (ap format_of same ∙ with_parameters (codes "+us:" ++ joined [] tags) refl, ap (λ x. ids_of (drop 4 x)) same ∙ ids_again tags test)
