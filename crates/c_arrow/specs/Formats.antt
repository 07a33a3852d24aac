-- SPDX-License-Identifier: Apache-2.0
-- SPDX-FileCopyrightText: Copyright the Vortex contributors

-- What formats say: the table of Arrow's formats.
use Rattle.std.specs.Prelude.{ℕ, List, [], ◌∷◌, ◌==◌, ◌||◌, Option, Some, None, if◌then◌else◌, codes}
use Rattle.dtype_base.specs.declared.ptype.PType.TheVariants as p
use Rattle.dtype_text.specs.Leaves.{text_at}
use Rattle.dtype_text.specs.Read.{◌>>=◌, byte_at}
use Rattle.dtype_text.specs.TypeParts.{is_text}
use Rattle.c_arrow.specs.Kept.{kept_of}
use Rattle.c_arrow.specs.Numbers.{size_of, decimal_parts}
use Rattle.c_arrow.specs.declared.format.Format.{Format}
use Rattle.c_arrow.specs.declared.format.Format.TheVariants as f
use Rattle.c_arrow.specs.declared.temporal.Unit.{Unit}
use Rattle.c_arrow.specs.declared.temporal.Unit.TheVariants as unit

-- the formats of dates, times, durations and intervals
unfoldable pub time_of : List ℕ → Option Format
time_of w =
    if is_text w (codes "tdD") then Some (f.Date unit.Days)
    else if is_text w (codes "tdm") then Some (f.Date unit.Milliseconds)
    else if is_text w (codes "tts") then Some (f.Time unit.Seconds)
    else if is_text w (codes "ttm") then Some (f.Time unit.Milliseconds)
    else if is_text w (codes "ttu") then Some (f.Time unit.Microseconds)
    else if is_text w (codes "ttn") then Some (f.Time unit.Nanoseconds)
    else (kept_of w >>= λ kept. Some (f.Kept kept))

-- the formats of binary strings, texts, lists, structs, maps and run-end encoded types
unfoldable pub nested_word_of : List ℕ → Option Format
nested_word_of w =
    if is_text w (codes "u") then Some f.Utf8
    else if is_text w (codes "U") then Some f.Utf8
    else if is_text w (codes "vu") then Some f.Utf8
    else if is_text w (codes "z") then Some f.Binary
    else if is_text w (codes "Z") then Some f.Binary
    else if is_text w (codes "vz") then Some f.Binary
    else if is_text w (codes "+l") then Some f.List
    else if is_text w (codes "+L") then Some f.List
    else if is_text w (codes "+vl") then Some f.List
    else if is_text w (codes "+vL") then Some f.List
    else if is_text w (codes "+s") then Some f.Struct
    else if is_text w (codes "+m") then Some f.Map
    else if is_text w (codes "+r") then Some f.RunEnds
    else time_of w

-- the formats that are words
unfoldable pub word_of : List ℕ → Option Format
word_of w =
    if is_text w (codes "n") then Some f.Null
    else if is_text w (codes "b") then Some f.Bool
    else if is_text w (codes "c") then Some (f.Primitive p.I8)
    else if is_text w (codes "C") then Some (f.Primitive p.U8)
    else if is_text w (codes "s") then Some (f.Primitive p.I16)
    else if is_text w (codes "S") then Some (f.Primitive p.U16)
    else if is_text w (codes "i") then Some (f.Primitive p.I32)
    else if is_text w (codes "I") then Some (f.Primitive p.U32)
    else if is_text w (codes "l") then Some (f.Primitive p.I64)
    else if is_text w (codes "L") then Some (f.Primitive p.U64)
    else if is_text w (codes "e") then Some (f.Primitive p.F16)
    else if is_text w (codes "f") then Some (f.Primitive p.F32)
    else if is_text w (codes "g") then Some (f.Primitive p.F64)
    else nested_word_of w

-- the same of bytes, which have to be UTF-8
abbrev pub word_in : List ℕ → Option Format
word_in bytes = text_at bytes >>= word_of

-- the unit of a timestamp with this letter: s, m, u or n
unfoldable pub unit_of_letter : ℕ → Option Unit
unit_of_letter b =
    if b == 115 then Some unit.Seconds
    else if b == 109 then Some unit.Milliseconds
    else if b == 117 then Some unit.Microseconds
    else if b == 110 then Some unit.Nanoseconds
    else None

-- behind `ts` a letter and a colon; the time zone is behind them
unfoldable pub timestamp_of : List ℕ → Option Format
timestamp_of [] = None
timestamp_of (b ∷ bytes) = do
  zone ← byte_at 58 bytes
  u ← unit_of_letter b
  Some (f.Timestamp u)

-- behind `+u` a d or an s, and a colon; the type ids are behind them
unfoldable pub union_of : List ℕ → Option Format
union_of [] = None
union_of (b ∷ bytes) = if b == 100 || b == 115 then (byte_at 58 bytes >>= λ ids. Some f.Union) else None

-- behind a + a `w:` and a size, or a union
unfoldable pub nested_of : List ℕ → Option Format
nested_of [] = None
nested_of (b ∷ bytes) =
    if b == 119 then (byte_at 58 bytes >>= λ w. size_of w >>= λ n. Some (f.FixedSizeList n))
    else if b == 117 then union_of bytes
    else None

-- the formats with parameters: `w:N`, `d:P,S` or `d:P,S,W`, `+w:N`, `+ud:I,J,..` or `+us:I,J,..`, and timestamps
unfoldable pub parametric_of : List ℕ → Option Format
parametric_of [] = None
parametric_of (b ∷ bytes) =
    if b == 119 then (byte_at 58 bytes >>= λ w. size_of w >>= λ n. Some (f.FixedSizeBinary n))
    else if b == 100 then (byte_at 58 bytes >>= λ w. decimal_parts w >>= λ d. Some (f.Decimal d.0 d.1))
    else if b == 43 then nested_of bytes
    else if b == 116 then (byte_at 115 bytes >>= timestamp_of)
    else None

abbrev pub or_else : {A : Type 0} → Option A → Option A → Option A
or_else (Some x) y = Some x
or_else None y = y

-- What a format says. For example, `+w:3` is `FixedSizeList` with the size 3, and `tDX` has no type here.
unfoldable pub format_of : List ℕ → Option Format
format_of bytes = or_else (word_in bytes) (parametric_of bytes)
