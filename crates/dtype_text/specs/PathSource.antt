-- SPDX-License-Identifier: Apache-2.0
-- SPDX-FileCopyrightText: Copyright the Vortex contributors

-- The one text that is written for a path, for example `a.[].b`. It is the text that CONSOLE describes, and not that of
-- `Display`, in which names are escaped without quotes and from which a path can't be read back.
use Rattle.std.specs.Prelude.{◌≡◌, ℕ, List, [], ◌∷◌, ◌++◌, codes, true, ⊤}
use Rattle.std.specs.List.{flat_map, AllByRecursion}
use Rattle.std.specs.Str.{is_utf8}
use Rattle.dtype_paths.specs.declared.field.Field.{Field}
use Rattle.dtype_paths.specs.declared.field.Field.TheVariants.{Name, ElementType}
use Rattle.dtype_text.specs.Source.{name_source}

-- a name, in quotes unless it can stand without them; or `[]` for the step to the element
abbrev pub step_source : Field → List ℕ
step_source (Name n) = name_source n
step_source ElementType = codes "[]"

-- a dot and a step
abbrev pub dotted_source : Field → List ℕ
dotted_source f = codes "." ++ step_source f

-- the steps, joined by dots, or a dot alone for the root
abbrev pub path_source : List Field → List ℕ
path_source [] = codes "."
path_source (f ∷ p) = step_source f ++ flat_map dotted_source p

-- the name of a step is UTF-8
abbrev pub IsTextStep : Field → Type 0
IsTextStep (Name n) = is_utf8 n ≡ true
IsTextStep ElementType = ⊤

-- the names of all steps are UTF-8
abbrev pub HasTextSteps : List Field → Type 0
HasTextSteps p = AllByRecursion IsTextStep p
