-- SPDX-License-Identifier: Apache-2.0
-- SPDX-FileCopyrightText: Copyright the Vortex contributors

-- What the program's input means: lines, and each line as a path. From the documentation of the program
-- (`src/main.rt`); lines are split as by `str::lines` of std, except that a carriage return is kept.
use Rattle.std.specs.Prelude.{ℕ, ◌==◌, List, [], ◌∷◌, codes, length, map, if◌then◌else◌}
use Rattle.std.specs.List.{slice_split}
use Rattle.std.specs.Str.{bytes_eq}
use Rattle.vortex_dtype.specs.Types.Field.{Field}
use Rattle.vortex_dtype.specs.Types.Field.TheVariants.{Name, ElementType}

-- an empty last piece is no line
abbrev pub without_empty_end : List (List ℕ) → List (List ℕ)
without_empty_end [] = []
without_empty_end (x ∷ []) = if length x == 0 then [] else x ∷ []
without_empty_end (x ∷ y ∷ more) = x ∷ without_empty_end (y ∷ more)

-- the pieces between newlines (byte 10)
abbrev pub lines_of : List ℕ → List (List ℕ)
lines_of bytes = without_empty_end (slice_split (λ b. b == 10) bytes)

-- `[]` is the element, every other part a name
abbrev pub part_of : List ℕ → Field
part_of part = if bytes_eq part (codes "[]") then ElementType else Name part

-- the empty line is the root; any other is split at its dots (byte 46)
abbrev pub parts_of : List ℕ → List Field
parts_of line = if length line == 0 then [] else map part_of (slice_split (λ c. c == 46) line)
