-- SPDX-License-Identifier: Apache-2.0
-- SPDX-FileCopyrightText: Copyright the Vortex contributors

-- The flags of a field.
use Rattle.std.specs.Prelude.{ℕ, ◌+◌, ◌==◌, Bool, true, false}
use Rattle.std.specs.Int.{bit_at}

-- flag 2: the field is nullable. For example, it is with the flags 3.
abbrev pub is_nullable : ℕ → Bool
is_nullable flags = bit_at flags 1 == 1

-- flag 4: the keys of the map are sorted. For example, they are with the flags 6.
abbrev pub has_sorted_keys : ℕ → Bool
has_sorted_keys flags = bit_at flags 2 == 1

-- the flag with this number, if it is set
abbrev pub flag_if : Bool → ℕ → ℕ
flag_if true flag = flag
flag_if false flag = 0

-- The flags of a field. For example, they are 6 of a nullable map whose keys are sorted.
abbrev pub flags_of : Bool → Bool → ℕ
flags_of nullable sorted = flag_if nullable 2 + flag_if sorted 4
