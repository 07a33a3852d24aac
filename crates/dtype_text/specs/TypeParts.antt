-- SPDX-License-Identifier: Apache-2.0
-- SPDX-FileCopyrightText: Copyright the Vortex contributors

-- What is read of the parts of types that contain no type: keywords, sizes, the numbers of a decimal, the end of items.
use Rattle.std.specs.Prelude.{ℕ, List, [], ◌∷◌, ◌==◌, Bool, true, false, nat_eq, ◌&&◌, Option, Some, None, if◌then◌else◌, codes, ℤ, pos, neg_ℤ, int_le, int_lt, nat_le, nat_lt}
use Rattle.std.specs.Cmp.Lexicographic.{pointwise}
use Rattle.dtype_base.specs.declared.nullability.Nullability.{Nullability}
use Rattle.dtype_base.specs.declared.nullability.Nullability.TheVariants.{Nullable, NonNullable}
use Rattle.dtype_base.specs.Decimals.{Decimal}
use Rattle.dtype_base.specs.declared.ptype.PType.TheVariants as p
use Rattle.dtype_base.specs.declared.vortex_error.VortexError.{VortexError}
use Rattle.dtype_base.specs.declared.vortex_error.VortexError.TheVariants.{PrecisionZero, PrecisionTooLarge, ScaleTooLarge, ScaleAbovePrecision}
use Rattle.dtype_text.specs.declared.keyword.Keyword.{Keyword}
use Rattle.dtype_text.specs.declared.keyword.Keyword.TheVariants as k
use Rattle.dtype_text.specs.Bare.{is_id_byte}
use Rattle.dtype_text.specs.Read.{◌>>=◌, byte_at}
use Rattle.dtype_text.specs.Leaves.{front, past, skipped, text_at, number_at, equals_at, comma_at, signed_at, word_is, bool_at}

-- what reads a part
abbrev pub PartReader : Type 0 → Type 0
PartReader A = List ℕ → Option (A × List ℕ)

-- a word is this text
abbrev pub is_text : List ℕ → List ℕ → Bool
is_text word t = pointwise nat_eq word t

unfoldable pub keyword_of : List ℕ → Option Keyword
keyword_of w =
    if is_text w (codes "null") then Some k.Null
    else if is_text w (codes "bool") then Some k.Bool
    else if is_text w (codes "utf8") then Some k.Utf8
    else if is_text w (codes "binary") then Some k.Binary
    else if is_text w (codes "variant") then Some k.Variant
    else if is_text w (codes "list") then Some k.List
    else if is_text w (codes "fixed_size_list") then Some k.FixedSizeList
    else if is_text w (codes "decimal") then Some k.Decimal
    else if is_text w (codes "map") then Some k.Map
    else if is_text w (codes "union") then Some k.Union
    else if is_text w (codes "u8") then Some (k.Primitive p.U8)
    else if is_text w (codes "u16") then Some (k.Primitive p.U16)
    else if is_text w (codes "u32") then Some (k.Primitive p.U32)
    else if is_text w (codes "u64") then Some (k.Primitive p.U64)
    else if is_text w (codes "i8") then Some (k.Primitive p.I8)
    else if is_text w (codes "i16") then Some (k.Primitive p.I16)
    else if is_text w (codes "i32") then Some (k.Primitive p.I32)
    else if is_text w (codes "i64") then Some (k.Primitive p.I64)
    else if is_text w (codes "f16") then Some (k.Primitive p.F16)
    else if is_text w (codes "f32") then Some (k.Primitive p.F32)
    else if is_text w (codes "f64") then Some (k.Primitive p.F64)
    else None

abbrev pub keyword_of_bytes : List ℕ → Option Keyword
keyword_of_bytes w = text_at w >>= λ t. keyword_of t

unfoldable pub keyword_at : PartReader Keyword
keyword_at bytes = do
  k ← keyword_of_bytes (front is_id_byte bytes)
  Some (k, past is_id_byte bytes)

-- the size of a fixed-size list, in brackets
unfoldable pub size_at : PartReader ℕ
size_at bytes = do
  inner ← byte_at 91 bytes
  n ← number_at 4294967295 (skipped inner)
  rest ← byte_at 93 (skipped n.1)
  Some (n.0, rest)

-- a closing byte, or a comma, behind blanks: whether it was the closing byte
abbrev pub ending : ℕ → Bool → ℕ → List ℕ → Option (Bool × List ℕ)
ending close true b bytes = Some (true, bytes)
ending close false b bytes = if b == 44 then Some (false, skipped bytes) else None

abbrev pub end_in : ℕ → PartReader Bool
end_in close [] = None
end_in close (b ∷ bytes) = ending close (b == close) b bytes

unfoldable pub end_at : ℕ → PartReader Bool
end_at close bytes = end_in close (skipped bytes)

-- the precision and the scale of a decimal, in parentheses
unfoldable pub decimal_parts : PartReader (ℕ × ℤ)
decimal_parts bytes = do
  inner ← byte_at 40 bytes
  p ← number_at 255 (skipped inner)
  behind ← comma_at p.1
  s ← signed_at behind
  rest ← byte_at 41 (skipped s.1)
  Some ((p.0, s.0), rest)

-- whether the library makes such a decimal
abbrev pub is_decimal : ℕ → ℤ → Bool
is_decimal p s = nat_le 1 p && (nat_le p 76 && (int_le (neg_ℤ (pos 128)) s && int_le s (pos p)))

-- the error of a decimal that the library doesn't make
unfoldable pub decimal_error : ℕ → ℤ → VortexError
decimal_error p s =
    if p == 0 then PrecisionZero 76
    else if nat_lt 76 p then PrecisionTooLarge p 76
    else if int_lt (pos 76) s then ScaleTooLarge s (pos 76)
    else ScaleAbovePrecision s p

abbrev pub a_decimal : ℕ → ℤ → Decimal
a_decimal p s = record { precision = p; scale = s }

abbrev pub is_nonnullable : Nullability → Bool
is_nonnullable NonNullable = true
is_nonnullable Nullable = false

-- what is behind the type of a map's values
unfoldable pub keys_sorted_at : PartReader Bool
keys_sorted_at bytes = do
  word ← comma_at bytes
  equals ← word_is (codes "keys_sorted") word
  value ← equals_at equals
  b ← bool_at value
  rest ← byte_at 41 (skipped b.1)
  Some (b.0, rest)

-- nothing, or a comment
abbrev pub is_end : List ℕ → Bool
is_end [] = true
is_end (b ∷ bytes) = b == 35
