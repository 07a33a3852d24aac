-- SPDX-License-Identifier: Apache-2.0
-- SPDX-FileCopyrightText: Copyright the Vortex contributors

-- What the loops to copy work out, by the callers' own choice.
use Rattle.std.specs.Prelude.{ℕ, List, if◌then◌else◌, map, nat_eq}
use Rattle.std.specs.Cmp.Lexicographic.{pointwise}
use Rattle.vortex_dtype.specs.FieldTypes.{field_tree}
use Rattle.vortex_dtype.specs.Tree.{Tree, fixed_size_list, list}
use Rattle.dtype_types.specs.declared.field_dtype.FieldDType.{FieldDType}

-- a name, changed if it is the one
abbrev pub renaming : List ℕ → List ℕ → List ℕ → List ℕ
renaming from to n = if pointwise nat_eq n from then to else n

-- fields, of which each name is changed if it is the one
abbrev pub renamed_fields : List ℕ → List ℕ → List (List ℕ × Tree) → List (List ℕ × Tree)
renamed_fields from to fs = map (λ f. (renaming from to f.0, f.1)) fs

-- names and types that a loop has collected, as the fields that they become
abbrev pub collected_fields : List (List ℕ × FieldDType) → List (List ℕ × Tree)
collected_fields fs = map (λ f. (f.0, field_tree f.1)) fs

-- the element type of the innermost list, or the type itself if it is no list
abbrev pub innermost_type : Tree → Tree
innermost_type (list t n) = innermost_type t
innermost_type (fixed_size_list t k n) = innermost_type t
innermost_type t = t
