-- SPDX-License-Identifier: Apache-2.0
-- SPDX-FileCopyrightText: Copyright the Vortex contributors

-- The indented text of fields: one line for each field, indented by two spaces more than the braces around it. A struct
-- is written in this way, also if it is the element type of a list, and every other type is written on one line. From
-- the alternate `Display` of `StructFields`.
use Rattle.std.specs.Prelude.{ℕ, List, [], ◌∷◌, ◌++◌, codes, decimal as digits}
use Rattle.std.specs.List.{join_by}
use Rattle.dtype_base.specs.Escapes.{escaped}
use Rattle.dtype_base.specs.Nullability.{nullability_text}
use Rattle.dtype_types.specs.texts.Text.{text}
use Rattle.dtype_types.specs.tree.Tree.{Tree, Fields, no_items, list, fixed_size_list, struct, item}

-- the line break after the last field, or nothing if there are no fields
abbrev pub last_line : Fields → List ℕ
last_line no_items = []
last_line (item n t _ rest) = codes "\n"

-- the texts of the fields in braces, one on each line; `indent` is the text before the closing brace
abbrev pub braces : List ℕ → List (List ℕ) → Fields → List ℕ
braces indent parts fs = codes "{\n" ++ (join_by (λ t. t) (codes ",\n") parts ++ (last_line fs ++ (indent ++ codes "}")))

-- the indented text of a type; each field is indented by two spaces more than the braces
abbrev mutual
  pub indented : List ℕ → Tree → List ℕ
  indented indent (list t n) = codes "list(" ++ (indented indent t ++ (codes ")" ++ nullability_text n))
  indented indent (fixed_size_list t k n) = codes "fixed_size_list(" ++ (indented indent t ++ (codes ")[" ++ (digits k ++ (codes "]" ++ nullability_text n))))
  indented indent (struct fs n) = braces indent (indented_fields (indent ++ codes "  ") fs) fs ++ nullability_text n
  indented indent t = text t

  -- the line of each field
  pub indented_fields : List ℕ → Fields → List (List ℕ)
  indented_fields indent no_items = []
  indented_fields indent (item n t _ rest) = (indent ++ (escaped n ++ (codes "=" ++ indented indent t))) ∷ indented_fields indent rest

-- the indented text of fields
unfoldable pub indented_braces : List ℕ → Fields → List ℕ
indented_braces indent fs = braces indent (indented_fields (indent ++ codes "  ") fs) fs

-- the indented text of fields, with the braces at the left margin
abbrev pub indented_text : Fields → List ℕ
indented_text fs = indented_braces [] fs
