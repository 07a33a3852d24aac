-- SPDX-License-Identifier: Apache-2.0
-- SPDX-FileCopyrightText: Copyright the Vortex contributors

-- The formats that are written of types.
use Rattle.std.specs.Prelude.{ℕ, List, [], ◌∷◌, ◌++◌, ◌==◌, nat_le, nat_lt, Bool, if◌then◌else◌, Result, Ok, Err, codes, ℤ}
use Rattle.std.specs.Fmt.{decimal, signed_decimal}
use Rattle.std.specs.List.{list_any, list_all}
use Rattle.dtype_base.specs.declared.ptype.PType.{PType}
use Rattle.dtype_base.specs.declared.ptype.PType.TheVariants as p
use Rattle.c_arrow.specs.Faults.{Fault, refused}
use Rattle.c_arrow.specs.declared.fault.Problem.{Problem}
use Rattle.c_arrow.specs.declared.fault.Problem.TheVariants as problem

-- the format of a primitive type, for example `i` of i32
unfoldable pub letter_of : PType → List ℕ
letter_of p.U8 = codes "C"
letter_of p.U16 = codes "S"
letter_of p.U32 = codes "I"
letter_of p.U64 = codes "L"
letter_of p.I8 = codes "c"
letter_of p.I16 = codes "s"
letter_of p.I32 = codes "i"
letter_of p.I64 = codes "l"
letter_of p.F16 = codes "e"
letter_of p.F32 = codes "f"
letter_of p.F64 = codes "g"

-- the width of the values, in bits, which is written of a decimal with more than 38 digits
abbrev pub width_of : ℕ → List ℕ
width_of precision = if nat_lt 38 precision then codes ",256" else []

-- The format of a decimal with this precision and this scale. For example, it is `d:10,-2`, and `d:40,2,256`.
unfoldable pub decimal_format : ℕ → ℤ → List ℕ
decimal_format precision scale = codes "d:" ++ (decimal precision ++ (codes "," ++ (signed_decimal scale ++ width_of precision)))

-- a part without a schema, which is refused without a format
abbrev pub no_schema : {Y : Type 0} → Problem → Result Y Fault
no_schema what = Err (refused [] [] what)

-- The format of a fixed-size list. For example, it is `+w:3` of lists of 3 elements. The size is at most 2^31 - 1.
unfoldable pub fixed_size_format : ℕ → Result (List ℕ) Fault
fixed_size_format size = if nat_le size 2147483647 then Ok (codes "+w:" ++ decimal size) else no_schema problem.Size

-- The format of byte strings of one length. For example, it is `w:16` of strings of 16 bytes. The length is at most 2^31 - 1.
unfoldable pub bytes_format : ℕ → Result (List ℕ) Fault
bytes_format size = if nat_le size 2147483647 then Ok (codes "w:" ++ decimal size) else no_schema problem.Size

-- Numbers with commas between them, the first behind this text. For example, they are `0,5` of 0 and 5 behind no text.
abbrev pub joined : List ℕ → List ℕ → List ℕ
joined before [] = []
joined before (n ∷ ns) = before ++ (decimal n ++ joined (codes ",") ns)

-- whether a tag is a type id of Arrow
abbrev pub is_id : ℕ → Bool
is_id tag = nat_le tag 127

-- The format of a union with these tags. For example, it is `+us:0,5`. The tags are at most 127.
unfoldable pub union_format : List ℕ → Result (List ℕ) Fault
union_format tags = if list_all is_id tags then Ok (codes "+us:" ++ joined [] tags) else no_schema problem.Tag

abbrev pub is_nul : ℕ → Bool
is_nul b = b == 0

-- a text that can be written: one without a NUL byte
unfoldable pub checked_nul : List ℕ → Result Unit Fault
checked_nul text = if list_any is_nul text then no_schema problem.Nul else Ok tt
