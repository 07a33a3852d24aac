-- SPDX-License-Identifier: Apache-2.0
-- SPDX-FileCopyrightText: Copyright the Vortex contributors

-- The type of a field before the field is added to a struct. From the documentation of `FieldDType` and
-- `StructFields::from_iter`.
use Rattle.std.specs.Prelude.{◌≡◌, ℕ, All, List, map}
use Rattle.dtype_base.specs.declared.nullability.Nullability.{Nullability}
use Rattle.dtype_types.specs.declared.dtype.DType.{DType}
use Rattle.dtype_types.specs.declared.field_dtype.FieldDType.{FieldDType}
use Rattle.dtype_types.specs.tree.Valid.{Valid}
use Rattle.dtype_types.specs.tree.TreeOf.{tree}
use Rattle.dtype_types.specs.tree.Tree.{Tree, Fields, fields, struct}

-- the tree of a field's type
abbrev pub field_tree : FieldDType → Tree
field_tree f = tree f.dtype

-- the fields that are made from these pairs of a name and a field type
abbrev pub given_fields : List (List ℕ × FieldDType) → Fields
given_fields given = fields (map (λ p. (p.0, field_tree p.1)) given)

-- each field's type is valid
abbrev pub AreValidFields : List (List ℕ × FieldDType) → Type 0
AreValidFields given = All (λ p. Valid (field_tree p.1)) given

-- the type is the struct of these fields with the outer nullability `n`, and it is valid if the types of the fields are
abbrev pub IsStructOf : Nullability → DType → List (List ℕ × FieldDType) → Type 0
IsStructOf n d given = (tree d ≡ struct (given_fields given) n) × (AreValidFields given → Valid (tree d))
