-- SPDX-License-Identifier: Apache-2.0
-- SPDX-FileCopyrightText: Copyright the Vortex contributors

-- The extensions of dates, times and timestamps, and how Arrow writes these and what is kept.
use Rattle.std.specs.Prelude.{ℕ, ◌^◌, List, [], ◌∷◌, ◌++◌, ◌==◌, nat_lt, Bool, false, not, ◌&&◌, Option, Some, None, if◌then◌else◌, is_some, length, codes}
use Rattle.std.specs.Int.{from_le_bytes, to_le_bytes, w16}
use Rattle.std.specs.Str.{is_utf8}
use Rattle.dtype_base.specs.declared.nullability.Nullability.{Nullability}
use Rattle.dtype_base.specs.declared.ptype.PType.{PType}
use Rattle.dtype_base.specs.declared.ptype.PType.TheVariants as p
use Rattle.dtype_types.specs.tree.Tree.{Tree, primitive, extension}
use Rattle.dtype_text.specs.Read.{◌>>=◌}
use Rattle.dtype_text.specs.TypeParts.{is_text}
use Rattle.c_arrow.specs.Kept.{id_of, is_list, kept_in, nullability_in}
use Rattle.c_arrow.specs.declared.kept.Kept.{Kept}
use Rattle.c_arrow.specs.declared.temporal.Unit.{Unit}
use Rattle.c_arrow.specs.declared.temporal.Unit.TheVariants as unit

-- the byte that stands for a unit in the metadata, for example 4 for days
unfoldable pub byte_of : Unit → ℕ
byte_of unit.Nanoseconds = 0
byte_of unit.Microseconds = 1
byte_of unit.Milliseconds = 2
byte_of unit.Seconds = 3
byte_of unit.Days = 4

-- the unit for which a byte stands
unfoldable pub unit_of_byte : ℕ → Option Unit
unit_of_byte b =
    if b == 0 then Some unit.Nanoseconds
    else if b == 1 then Some unit.Microseconds
    else if b == 2 then Some unit.Milliseconds
    else if b == 3 then Some unit.Seconds
    else if b == 4 then Some unit.Days
    else None

-- the storage type of dates: i32 for days and i64 for milliseconds. Arrow has no dates of other units.
unfoldable pub date_ptype : Unit → PType
date_ptype unit.Days = p.I32
date_ptype unit.Milliseconds = p.I64
date_ptype unit.Seconds = p.I64
date_ptype unit.Microseconds = p.I64
date_ptype unit.Nanoseconds = p.I64

-- The storage type of times: i32 for seconds and milliseconds, i64 for microseconds and nanoseconds. Arrow has no times in days.
unfoldable pub time_ptype : Unit → PType
time_ptype unit.Seconds = p.I32
time_ptype unit.Milliseconds = p.I32
time_ptype unit.Microseconds = p.I64
time_ptype unit.Nanoseconds = p.I64
time_ptype unit.Days = p.I64

-- ---- types of formats

-- A date. For example, that of days is `vortex.date` over i32 with the metadata 4.
unfoldable pub date_tree : Unit → Nullability → Tree
date_tree u n = extension (codes "vortex.date") (byte_of u ∷ []) (primitive (date_ptype u) n)

-- A time. For example, that of seconds is `vortex.time` over i32 with the metadata 3.
unfoldable pub time_tree : Unit → Nullability → Tree
time_tree u n = extension (codes "vortex.time") (byte_of u ∷ []) (primitive (time_ptype u) n)

-- the metadata of a timestamp: the unit, the length of the time zone as two bytes, the lower first, and the time zone
abbrev pub zoned : Unit → List ℕ → List ℕ
zoned u zone = byte_of u ∷ (to_le_bytes w16 (length zone) ++ zone)

-- A timestamp with this time zone, if that is UTF-8 and at most 65535 bytes long. For example, that of milliseconds and `UTC` is
-- `vortex.timestamp` over i64 with the metadata 2, 3, 0 and `UTC`.
unfoldable pub timestamp_tree : Unit → List ℕ → Nullability → Option Tree
timestamp_tree u zone n =
    if nat_lt (length zone) (2 ^ 16) && is_utf8 zone then Some (extension (codes "vortex.timestamp") (zoned u zone) (primitive p.I64 n)) else None

-- ---- formats of types

-- the format of a date with this unit and this storage type, for example `tdD` of days over i32
unfoldable pub date_letters : Unit → PType → Option (List ℕ)
date_letters unit.Days p.I32 = Some (codes "tdD")
date_letters unit.Milliseconds p.I64 = Some (codes "tdm")
date_letters _ _ = None

-- the format of a time
unfoldable pub time_letters : Unit → PType → Option (List ℕ)
time_letters unit.Seconds p.I32 = Some (codes "tts")
time_letters unit.Milliseconds p.I32 = Some (codes "ttm")
time_letters unit.Microseconds p.I64 = Some (codes "ttu")
time_letters unit.Nanoseconds p.I64 = Some (codes "ttn")
time_letters _ _ = None

-- the format of a timestamp, without the time zone
unfoldable pub timestamp_letters : Unit → PType → Option (List ℕ)
timestamp_letters unit.Seconds p.I64 = Some (codes "tss:")
timestamp_letters unit.Milliseconds p.I64 = Some (codes "tsm:")
timestamp_letters unit.Microseconds p.I64 = Some (codes "tsu:")
timestamp_letters unit.Nanoseconds p.I64 = Some (codes "tsn:")
timestamp_letters _ _ = None

-- a time zone with this length before it
abbrev pub is_zone : ℕ → ℕ → List ℕ → Bool
is_zone low high zone = from_le_bytes w16 (low ∷ high ∷ []) == length zone && is_utf8 zone

-- The unit in the metadata, and the time zone, if there is one. For example, the bytes 3, 3, 0 and `UTC` are seconds and `UTC`, and
-- the byte 4 alone is days without a time zone.
unfoldable pub unit_and_zone : List ℕ → Option (Unit × Option (List ℕ))
unit_and_zone (u ∷ []) = unit_of_byte u >>= λ it. Some (it, None)
unit_and_zone (u ∷ low ∷ high ∷ zone) = if is_zone low high zone then (unit_of_byte u >>= λ it. Some (it, Some zone)) else None
unit_and_zone _ = None

-- The format, without the time zone, of an extension with this id, unit and storage type, and with a time zone or without. For
-- example, it is `tts` of `vortex.time` with seconds over i32 and without a time zone.
unfoldable pub letters_of : List ℕ → Unit → PType → Bool → Option (List ℕ)
letters_of id u ptype has_zone =
    if is_text id (codes "vortex.date") && not has_zone then date_letters u ptype
    else if is_text id (codes "vortex.time") && not has_zone then time_letters u ptype
    else if is_text id (codes "vortex.timestamp") && has_zone then timestamp_letters u ptype
    else None

-- How Arrow writes a temporal extension: the format without the time zone, the time zone, whether it is nullable, and whether
-- its storage type is a list, which takes a level.
pub record Written : Type 0 where
  pub letters : List ℕ
  pub zone : List ℕ
  pub nullability : Nullability
  pub is_list : Bool

-- the time zone, which is no bytes if there is none
abbrev pub or_empty : Option (List ℕ) → List ℕ
or_empty None = []
or_empty (Some bytes) = bytes

-- How Arrow writes the extension with this id, metadata and storage type, if it is one of the three in the form of Arrow's types.
-- For example, it is `tdD` of `vortex.date` over i32 with the metadata 4.
unfoldable pub temporal_of : List ℕ → List ℕ → Tree → Option Written
temporal_of id metadata (primitive ptype n) = do
  u ← unit_and_zone metadata
  letters ← letters_of id u.0 ptype (is_some u.1)
  Some (record { letters = letters; zone = or_empty u.1; nullability = n; is_list = false })
temporal_of id metadata _ = None

-- the same of an extension with this id, if it keeps a format and has its storage type
unfoldable pub kept_with : Kept → List ℕ → List ℕ → Tree → Option Written
kept_with it id metadata storage = do
  n ← nullability_in it storage
  if is_text id (id_of it) then Some (record { letters = metadata; zone = []; nullability = n; is_list = is_list it }) else None

-- How Arrow writes the extension with this id, metadata and storage type, if it keeps a format, which is the metadata. For example,
-- it is `tDs` of `arrow.duration` over i64 with the metadata `tDs`.
unfoldable pub kept_written : List ℕ → List ℕ → Tree → Option Written
kept_written id metadata storage = kept_in metadata >>= λ it. kept_with it id metadata storage

abbrev pub first_of : {A : Type 0} → Option A → Option A → Option A
first_of (Some x) y = Some x
first_of None y = y

-- how Arrow writes a date, a time, a timestamp, a duration or an interval
unfoldable pub written_of : List ℕ → List ℕ → Tree → Option Written
written_of id metadata storage = first_of (temporal_of id metadata storage) (kept_written id metadata storage)

-- the same of a type
unfoldable pub temporal_in : Tree → Option Written
temporal_in (extension id metadata storage) = written_of id metadata storage
temporal_in _ = None
