-- SPDX-License-Identifier: Apache-2.0
-- SPDX-FileCopyrightText: Copyright the Vortex contributors

-- Lists of names. A name is the list of the bytes of its text. From the documentation of `FieldNames`.
use Rattle.std.specs.Prelude.{◌≡◌, ◌≢◌, ℕ, ◌<◌, List, ◌++◌, Option, Some, None, slice_get, codes}
use Rattle.std.specs.List.{join_by, position}
use Rattle.std.specs.Str.{bytes_eq}
use Rattle.dtype_base.specs.Escapes.{escaped}
use Rattle.dtype_base.specs.declared.vortex_error.VortexError.{VortexError}
use Rattle.dtype_base.specs.declared.vortex_error.VortexError.TheVariants.{FieldNotFound}

-- i is the first position of the name n
pub record FirstAt (names : List (List ℕ)) (n : List ℕ) (i : ℕ) : Type 0 where
  pub here : slice_get names i ≡ Some n
  pub first : (k : ℕ) → k < i → slice_get names k ≢ Some n

-- the name n is absent: no position has it
abbrev pub IsAbsent : List (List ℕ) → List ℕ → Type 0
IsAbsent names n = (k : ℕ) → slice_get names k ≢ Some n

-- the first position of the name n, or `None` if n isn't in the list
abbrev pub first_place : List (List ℕ) → List ℕ → Option ℕ
first_place names n = position (λ m. bytes_eq m n) names

-- `position` is the first position in `asked` whose name isn't in `names`
pub record IsFirstAbsent (names asked : List (List ℕ)) (position : ℕ) : Type 0 where
  pub absent : (n : List ℕ) × (slice_get asked position ≡ Some n) × (first_place names n ≡ None)
  pub there : (k : ℕ) (n : List ℕ) → k < position → slice_get asked k ≡ Some n → first_place names n ≢ None

-- the error of selecting the names `asked`: `FieldNotFound` with the position of the first that isn't in `names`
abbrev pub SelectionError : List (List ℕ) → List (List ℕ) → VortexError → Type 0
SelectionError names asked (FieldNotFound position) = IsFirstAbsent names asked position
SelectionError names asked _ = ⊥

-- a name in double quotes
abbrev pub quoted : List ℕ → List ℕ
quoted n = codes "\"" ++ (escaped n ++ codes "\"")

-- the names in quotes, joined by commas, for example `["a", "b"]`
abbrev pub names_text : List (List ℕ) → List ℕ
names_text names = codes "[" ++ (join_by quoted (codes ", ") names ++ codes "]")
