-- SPDX-License-Identifier: Apache-2.0
-- SPDX-FileCopyrightText: Copyright the Vortex contributors

-- What is read at the front of bytes: blanks, marks, numbers, names.
use Rattle.std.specs.Prelude.{ℕ, ◌+◌, ◌-◌, ◌*◌, ◌^◌, List, [], ◌∷◌, ◌==◌, Bool, true, false, nat_le, nat_lt, ◌&&◌, ◌||◌, not, Option, Some, None, if◌then◌else◌, take, drop, length, codes, is_some, ℤ, pos, neg_ℤ}
use Rattle.std.specs.List.{prefix_len}
use Rattle.std.specs.Str.{is_utf8, bytes_eq}
use Rattle.std.specs.Char.{is_ascii_digit}
use Rattle.dtype_base.specs.declared.nullability.Nullability.{Nullability}
use Rattle.dtype_base.specs.declared.nullability.Nullability.TheVariants.{Nullable, NonNullable}
use Rattle.dtype_text.specs.Bare.{is_bare_byte, is_id_byte, has_special, is_some_text}
use Rattle.dtype_text.specs.Read.{◌>>=◌, byte_at, until}

-- a space, a tab or the end of a line
abbrev pub is_blank : ℕ → Bool
is_blank b = b == 32 || (b == 9 || (b == 10 || b == 13))

-- a byte within a line
abbrev pub is_in_line : ℕ → Bool
is_in_line b = not (b == 10)

-- a blank, or the byte with which a comment begins
abbrev pub opens_gap : ℕ → Bool
opens_gap b = is_blank b || b == 35

abbrev pub is_number_byte : ℕ → Bool
is_number_byte b = b == 45 || is_bare_byte b

-- the bytes that pass a test, and those after them
abbrev pub front : (ℕ → Bool) → List ℕ → List ℕ
front p bytes = take (prefix_len p bytes) bytes

abbrev pub past : (ℕ → Bool) → List ℕ → List ℕ
past p bytes = drop (prefix_len p bytes) bytes

-- Without the blanks and the comments at the front. A comment ends with its line; one that doesn't end stays. The first
-- argument is None, or what begins with the comment in which the bytes are.
abbrev pub skipped_from : Option (List ℕ) → List ℕ → List ℕ
skipped_from None [] = []
skipped_from None (b ∷ bytes) =
    if is_blank b then skipped_from None bytes
    else if b == 35 then skipped_from (Some (b ∷ bytes)) bytes
    else b ∷ bytes
skipped_from (Some comment) [] = comment
skipped_from (Some comment) (b ∷ bytes) = if b == 10 then skipped_from None bytes else skipped_from (Some comment) bytes

unfoldable pub skipped : List ℕ → List ℕ
skipped bytes = skipped_from None bytes

-- what is behind the comment with which the bytes begin, if it ends
abbrev pub behind_comment : List ℕ → Option (List ℕ)
behind_comment [] = None
behind_comment (b ∷ bytes) = if b == 35 then byte_at 10 (past is_in_line bytes) else None

-- a mark of nullability
abbrev pub nullability_at : List ℕ → Nullability × List ℕ
nullability_at [] = (NonNullable, [])
nullability_at (b ∷ bytes) = if b == 63 then (Nullable, bytes) else (NonNullable, b ∷ bytes)

-- a number and one more digit, and a number whose digits come after those of n
abbrev pub digit_after : ℕ → ℕ → Option ℕ
digit_after n c = if is_ascii_digit c && nat_lt (n * 10 + (c - 48)) (2 ^ 64) then Some (n * 10 + (c - 48)) else None

abbrev pub number_after : ℕ → List ℕ → Option ℕ
number_after n [] = Some n
number_after n (c ∷ cs) = digit_after n c >>= λ m. number_after m cs

unfoldable pub number_of : List ℕ → Option ℕ
number_of [] = None
number_of (c ∷ cs) = number_after 0 (c ∷ cs)

-- a number up to most
unfoldable pub number_at : ℕ → List ℕ → Option (ℕ × List ℕ)
number_at most bytes = do
  n ← number_of (front is_number_byte bytes)
  if nat_le n most then Some (n, past is_number_byte bytes) else None

-- the bytes, if they are UTF-8
abbrev pub text_at : List ℕ → Option (List ℕ)
text_at bytes = if is_utf8 bytes then Some bytes else None

-- a bare name
unfoldable pub bare_at : List ℕ → Option (List ℕ × List ℕ)
bare_at bytes =
    let n = front is_bare_byte bytes in
    if is_utf8 n && (is_some_text n && not (has_special n)) then Some (n, past is_bare_byte bytes) else None

-- a hexadecimal digit
abbrev pub hex_at : ℕ → Option ℕ
hex_at b = if nat_le 48 b && nat_le b 57 then Some (b - 48) else if nat_le 97 b && nat_le b 102 then Some (b - 87) else if nat_le 65 b && nat_le b 70 then Some (b - 55) else None

-- two hexadecimal digits
unfoldable pub hex_byte_at : List ℕ → Option (ℕ × List ℕ)
hex_byte_at [] = None
hex_byte_at (h ∷ []) = None
hex_byte_at (h ∷ l ∷ bytes) = do
  high ← hex_at h
  low ← hex_at l
  Some (16 * high + low, bytes)

-- the byte that a letter means behind a backslash
unfoldable pub meaning : ℕ → Option ℕ
meaning b =
    if b == 92 then Some 92
    else if b == 34 then Some 34
    else if b == 39 then Some 39
    else if b == 116 then Some 9
    else if b == 110 then Some 10
    else if b == 114 then Some 13
    else None

-- an escape, after its backslash
unfoldable pub escape_at : List ℕ → Option (ℕ × List ℕ)
escape_at [] = None
escape_at (b ∷ bytes) = if b == 120 then hex_byte_at bytes else (meaning b >>= λ m. Some (m, bytes))

-- a byte in quotes, which may be an escape
unfoldable pub unit_at : List ℕ → Option (ℕ × List ℕ)
unit_at [] = None
unit_at (b ∷ bytes) = if b == 92 then escape_at bytes else Some (b, bytes)

-- a text in quotes, after the opening quote
unfoldable pub quoted_at : List ℕ → Option (List ℕ × List ℕ)
quoted_at bytes = do
  us ← until (byte_at 34) unit_at (length bytes) bytes
  if is_utf8 us.0 then Some us else None

-- a name
unfoldable pub name_at : List ℕ → Option (List ℕ × List ℕ)
name_at [] = bare_at []
name_at (b ∷ bytes) = if b == 34 then quoted_at bytes else bare_at (b ∷ bytes)

-- an equals sign with blanks around it
unfoldable pub equals_at : List ℕ → Option (List ℕ)
equals_at bytes = do
  rest ← byte_at 61 (skipped bytes)
  Some (skipped rest)

-- a comma with blanks around it
unfoldable pub comma_at : List ℕ → Option (List ℕ)
comma_at bytes = do
  rest ← byte_at 44 (skipped bytes)
  Some (skipped rest)

-- the tag of a variant, if it is written
abbrev pub tag_in : Option (List ℕ) → List ℕ → Option (Option ℕ × List ℕ)
tag_in None bytes = Some (None, bytes)
tag_in (Some behind) bytes = number_at 255 behind >>= λ g. Some (Some g.0, g.1)

unfoldable pub tag_at : List ℕ → Option (Option ℕ × List ℕ)
tag_at bytes = tag_in (byte_at 64 bytes) bytes

-- a number that may be negative, from -128 to 127
unfoldable pub signed_at : List ℕ → Option (ℤ × List ℕ)
signed_at [] = None
signed_at (b ∷ bytes) = if b == 45 then (number_at 128 bytes >>= λ n. Some (neg_ℤ (pos n.0), n.1)) else (number_at 127 (b ∷ bytes) >>= λ n. Some (pos n.0, n.1))

-- a word that is this text
unfoldable pub word_is : List ℕ → List ℕ → Option (List ℕ)
word_is t bytes = if bytes_eq (front is_id_byte bytes) t then Some (past is_id_byte bytes) else None

-- true or false
unfoldable pub bool_at : List ℕ → Option (Bool × List ℕ)
bool_at bytes =
    if bytes_eq (front is_id_byte bytes) (codes "true") then Some (true, past is_id_byte bytes)
    else if bytes_eq (front is_id_byte bytes) (codes "false") then Some (false, past is_id_byte bytes)
    else None

-- where no hexadecimal digit comes
abbrev pub no_hex : List ℕ → Option (List ℕ)
no_hex [] = Some []
no_hex (b ∷ bytes) = if is_some (hex_at b) then None else Some (b ∷ bytes)

-- the metadata of an extension
unfoldable pub metadata_at : List ℕ → Option (List ℕ × List ℕ)
metadata_at bytes = do
  inner ← byte_at 91 bytes
  zero_ ← byte_at 48 (skipped inner)
  digits ← byte_at 120 zero_
  m ← until no_hex hex_byte_at (length bytes) digits
  rest ← byte_at 93 (skipped m.1)
  Some (m.0, rest)
