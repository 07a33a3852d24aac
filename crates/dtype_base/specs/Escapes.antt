-- SPDX-License-Identifier: Apache-2.0
-- SPDX-FileCopyrightText: Copyright the Vortex contributors

-- The text of a name: its bytes, with backslashes, double quotes and control characters escaped. A rule of this project.
use Rattle.std.specs.Prelude.{ℕ, ◌+◌, ◌/◌, ◌%◌, ◌==◌, List, [], ◌∷◌, nat_lt, if◌then◌else◌}
use Rattle.std.specs.Char.{is_ascii_control}
use Rattle.std.specs.List.{flat_map}

-- a lower-case hexadecimal digit
abbrev pub hex_digit : ℕ → ℕ
hex_digit n = if nat_lt n 10 then 48 + n else 87 + n

-- backslash, double quote, tab, newline and carriage return as \\ \" \t \n \r; any other ASCII control
-- character, which is a byte below 0x20 or 0x7F, as \x and two digits; every other byte as it is
unfoldable pub escaped_byte : ℕ → List ℕ
escaped_byte b =
    if b == 92 then 92 ∷ 92 ∷ []
    else if b == 34 then 92 ∷ 34 ∷ []
    else if b == 9 then 92 ∷ 116 ∷ []
    else if b == 10 then 92 ∷ 110 ∷ []
    else if b == 13 then 92 ∷ 114 ∷ []
    else if is_ascii_control b then 92 ∷ 120 ∷ hex_digit (b / 16) ∷ hex_digit (b % 16) ∷ []
    else b ∷ []

-- the bytes of a text, each escaped
unfoldable pub escaped : List ℕ → List ℕ
escaped = flat_map escaped_byte
