-- SPDX-License-Identifier: Apache-2.0
-- SPDX-FileCopyrightText: Copyright the Vortex contributors

-- What the type of a table promises for its files, whose types are `ts`. No number is read as a wider one
-- (`Widening::None`), so that a scan needs no conversion.
use Rattle.std.specs.Prelude.{ℕ, List, [], ◌∷◌, Option, None, IsSomeAnd, take}
use Rattle.std.specs.List.{AllByRecursion, slice_get}
use Rattle.vortex_dtype.specs.At.{ExistsIn}
use Rattle.vortex_dtype.specs.Conflicts.{ConflictsAt}
use Rattle.vortex_dtype.specs.AllMerged.{FilledIn, all_columns_merged}
use Rattle.vortex_dtype.specs.ReadsAs.{ReadsAs}
use Rattle.vortex_dtype.specs.Tree.{Tree}
use Rattle.vortex_dtype.specs.Types.Field.{Field}
use Rattle.vortex_dtype.specs.Types.Widening.TheVariants as widening
use Rattle.vortex_dtype.specs.Valid.{Valid}

-- what the types of the files are merged to, or None if two of them can't be merged, or if there is no file
abbrev pub table_of : List Tree → Option Tree
table_of [] = None
table_of (t ∷ ts) = all_columns_merged widening.None t ts

-- each of the files can be read as `t`
abbrev pub ReadsAll : List Tree → Tree → Type 0
ReadsAll ts t = AllByRecursion (λ u. ReadsAs widening.None u t) ts

-- `t` can be read as each valid type as which all of the files can be read
abbrev pub IsLeast : List Tree → Tree → Type 0
IsLeast ts t = (d : Tree) → Valid d → ReadsAll ts d → ReadsAs widening.None t d

-- The file at the position n, counted from 0, is the first that can't be merged with those before it: these are merged to a
-- type, and the path p leads in it to `x`, and in the file to `y`, and `x` and `y` can't be merged. This is no
-- abbreviation, so that a caller's search takes it as one word.
unfoldable pub ConflictsFirst : List Tree → ℕ → List Field → Tree → Tree → Type 0
ConflictsFirst ts n p x y = IsSomeAnd (table_of (take n ts)) (λ t. IsSomeAnd (slice_get ts n) (λ u. ConflictsAt widening.None t u p x y))

-- Each of the types lacks the path. This is no abbreviation, so that a caller's search takes it as one word.
unfoldable pub AllLackPath : List Tree → List Field → Type 0
AllLackPath ts p = AllByRecursion (λ u. ExistsIn u p → ⊥) ts

-- each value of each file, with nulls for the columns that the file lacks, is a value of `t`
abbrev pub FillsAll : List Tree → Tree → Type 0
FillsAll ts t = AllByRecursion (λ u. FilledIn u t) ts
