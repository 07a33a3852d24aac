-- SPDX-License-Identifier: Apache-2.0
-- SPDX-FileCopyrightText: Copyright the Vortex contributors

-- The formats of Arrow without a type of their own here: durations and intervals. They are kept as extensions, whose metadata is
-- Arrow's format, so that they can be written back.
use Rattle.std.specs.Prelude.{ℕ, List, ◌==◌, Bool, true, false, ◌&&◌, Option, Some, None, if◌then◌else◌, codes}
use Rattle.dtype_base.specs.declared.nullability.Nullability.{Nullability}
use Rattle.dtype_base.specs.declared.nullability.Nullability.TheVariants.{NonNullable}
use Rattle.dtype_base.specs.declared.ptype.PType.{PType}
use Rattle.dtype_base.specs.declared.ptype.PType.TheVariants as p
use Rattle.dtype_types.specs.tree.Tree.{Tree, primitive, fixed_size_list}
use Rattle.dtype_text.specs.Leaves.{text_at}
use Rattle.dtype_text.specs.Read.{◌>>=◌}
use Rattle.dtype_text.specs.TypeParts.{is_text}
use Rattle.c_arrow.specs.declared.kept.Kept.{Kept}
use Rattle.c_arrow.specs.declared.kept.Kept.TheVariants as kept

-- what a format says that is kept
unfoldable pub kept_of : List ℕ → Option Kept
kept_of w =
    if is_text w (codes "tDs") then Some kept.Duration
    else if is_text w (codes "tDm") then Some kept.Duration
    else if is_text w (codes "tDu") then Some kept.Duration
    else if is_text w (codes "tDn") then Some kept.Duration
    else if is_text w (codes "tiM") then Some kept.Months
    else if is_text w (codes "tiD") then Some kept.Days
    else if is_text w (codes "tin") then Some kept.Nanoseconds
    else None

-- the same of bytes, which have to be UTF-8
abbrev pub kept_in : List ℕ → Option Kept
kept_in bytes = text_at bytes >>= kept_of

-- the id of the extension
unfoldable pub id_of : Kept → List ℕ
id_of kept.Duration = codes "arrow.duration"
id_of kept.Months = codes "arrow.interval"
id_of kept.Days = codes "arrow.interval"
id_of kept.Nanoseconds = codes "arrow.interval"

-- The storage type, whose values have as many bytes as those of Arrow. For example, it is `i64` for durations.
unfoldable pub storage_of : Kept → Nullability → Tree
storage_of kept.Duration n = primitive p.I64 n
storage_of kept.Months n = primitive p.I32 n
storage_of kept.Days n = fixed_size_list (primitive p.U8 NonNullable) 8 n
storage_of kept.Nanoseconds n = fixed_size_list (primitive p.U8 NonNullable) 16 n

-- whether the storage type is a list, which takes a level
unfoldable pub is_list : Kept → Bool
is_list kept.Duration = false
is_list kept.Months = false
is_list kept.Days = true
is_list kept.Nanoseconds = true

-- ---- tests of a storage type

-- bytes that can't be null
unfoldable pub byte_is : PType → Nullability → Bool
byte_is p.U8 NonNullable = true
byte_is _ _ = false

unfoldable pub is_byte : Tree → Bool
is_byte (primitive ptype n) = byte_is ptype n
is_byte _ = false

-- whether values of a primitive type are those of durations and of months
unfoldable pub is_kept_as : Kept → PType → Bool
is_kept_as kept.Duration p.I64 = true
is_kept_as kept.Months p.I32 = true
is_kept_as _ _ = false

-- whether so many bytes are those of the other intervals
unfoldable pub has_bytes : Kept → ℕ → Bool
has_bytes kept.Days size = size == 8
has_bytes kept.Nanoseconds size = size == 16
has_bytes kept.Duration size = false
has_bytes kept.Months size = false

abbrev pub only_if : Bool → Nullability → Option Nullability
only_if true n = Some n
only_if false n = None

-- The nullability of a type, if it is the storage type. For example, it is that of `i64?` for durations, and there is none of `i32`.
unfoldable pub nullability_in : Kept → Tree → Option Nullability
nullability_in it (primitive ptype n) = only_if (is_kept_as it ptype) n
nullability_in it (fixed_size_list element size n) = only_if (has_bytes it size && is_byte element) n
nullability_in it _ = None
