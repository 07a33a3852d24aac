-- SPDX-License-Identifier: Apache-2.0
-- SPDX-FileCopyrightText: Copyright the Vortex contributors

-- Where a text can't be read on: at the first token with which no text of a language goes on.
use Rattle.std.specs.Prelude.{◌≡◌, ℕ, suc, List, [], ◌∷◌, ◌++◌, ◌==◌, if◌then◌else◌, Bool, true, false, codes, length, take}
use Rattle.std.specs.List.{prefix_len}
use Rattle.dtype_paths.specs.declared.field.Field.{Field}
use Rattle.dtype_text.specs.Bare.{is_bare_byte}
use Rattle.dtype_text.specs.Fronts.{begins}
use Rattle.dtype_text.specs.Grammar.{Lang, named, units}
use Rattle.dtype_text.specs.Leaves.{front, is_in_line}
use Rattle.dtype_text.specs.PathGrammar.{StandsForPath}
use Rattle.dtype_text.specs.declared.text_error.Expected.{Expected}
use Rattle.dtype_text.specs.declared.text_error.Expected.TheVariants.{ClosingQuote, End, EndOfName, Escape, HexDigits, Name, Utf8}
use Rattle.dtype_text.specs.declared.text_error.TextError.{TextError}
use Rattle.dtype_text.specs.declared.text_error.TextError.TheVariants.{OutOfMemory, Refused, TooDeep, Misread}

-- The first token of bytes: a comment with the end of its line, `[` with the byte behind it, which may be `]`, the bytes of a
-- name without quotes, or one other byte. For example, of `ab.c` it is `ab`. Of no bytes it is no token.
abbrev pub token_behind : ℕ → List ℕ → List ℕ
token_behind b bytes =
    if b == 35 then take (suc (prefix_len is_in_line bytes)) bytes
    else if b == 91 then take 1 bytes
    else if is_bare_byte b then front is_bare_byte bytes
    else []

abbrev pub token : List ℕ → List ℕ
token [] = []
token (b ∷ bytes) = b ∷ token_behind b bytes

-- Both go on with the same bytes up to a closing quote.
abbrev pub SameQuoted : List ℕ → List ℕ → Type 0
SameQuoted a c = (n x y z : List ℕ) × units n x × (a ≡ x ++ (34 ∷ y)) × (c ≡ x ++ (34 ∷ z))

-- Both go on with the same token where this is expected: with two bytes where a byte is expected as two digits, with one byte
-- where a name has to end, and with the whole text in quotes where that has to be UTF-8.
abbrev pub SameToken : Expected → List ℕ → List ℕ → Type 0
SameToken HexDigits a c = take 2 a ≡ take 2 c
SameToken EndOfName a c = take 1 a ≡ take 1 c
SameToken Utf8 a c = SameQuoted a c
SameToken _ a c = token a ≡ token c

-- a place within a text in quotes
abbrev pub is_in_quotes : Expected → Bool
is_in_quotes Escape = true
is_in_quotes HexDigits = true
is_in_quotes ClosingQuote = true
is_in_quotes Utf8 = true
is_in_quotes _ = false

-- the beginning of an escape, of which this is expected next
abbrev pub escape_front : Expected → List ℕ
escape_front Escape = codes "\\"
escape_front HexDigits = codes "\\x"
escape_front _ = []

-- the bytes begin with a name, or are what may follow a name or a path
abbrev pub Meets : Expected → List ℕ → Type 0
Meets Name c = (n x y : List ℕ) × named n x × (c ≡ x ++ y)
Meets EndOfName c = begins is_bare_byte c ≡ false
Meets End c = c ≡ []
Meets _ c = ⊥

-- Some text of the language goes on behind these bytes with what is expected there. Whether a text in quotes is UTF-8 is seen
-- only at its end. So of a place within quotes it is said that some text of the language has a text in quotes there, and that
-- bytes of such a text are behind the opening quote, with the beginning of an escape if the rest of one is expected.
abbrev pub GoesOnAt : (quotes : Bool) → Lang → Expected → List ℕ → Type 0
GoesOnAt true L expected front =
    (before inside n : List ℕ) × (front ≡ before ++ (34 ∷ (inside ++ escape_front expected))) × units n inside × L (before ++ codes "\"\"")
GoesOnAt false L expected front = (c : List ℕ) × Meets expected c × L (front ++ c)

abbrev pub GoesOn : Lang → Expected → List ℕ → Type 0
GoesOn L expected front = GoesOnAt (is_in_quotes expected) L expected front

-- This position of the text, which counts bytes from 1, is that of the first token with which no text of the language goes on:
-- some text of the language goes on behind what stands in front of the position, with what is expected there, and none goes on
-- there with the token of this text. For example, a text of a path may go on behind `a.` with a name, but not with `-`. So of
-- `a.-b` this is the position 3, where a name is expected. If a name without quotes has a character that no such name may have,
-- this is true of the positions of all characters of the name up to that one.
pub record StopsAt (L : Lang) (position : ℕ) (expected : Expected) (text : List ℕ) : Type 0 where
  pub front : List ℕ
  pub rest : List ℕ
  pub all : text ≡ front ++ rest
  pub place : position ≡ suc (length front)
  pub goes_on : GoesOn L expected front
  pub stops : (c : List ℕ) → SameToken expected rest c → L (front ++ c) → ⊥

-- the texts of paths
abbrev pub IsPathText : Lang
IsPathText text = (p : List Field) × StandsForPath p text

-- the position of the error, if it has one, is where no text of the language goes on
abbrev pub IsStopOf : Lang → List ℕ → TextError → Type 0
IsStopOf L text (Misread position expected found) = StopsAt L position expected text
IsStopOf L text OutOfMemory = Unit {0}
IsStopOf L text (Refused e) = Unit {0}
IsStopOf L text (TooDeep position) = Unit {0}
