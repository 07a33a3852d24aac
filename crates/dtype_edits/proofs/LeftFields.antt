-- SPDX-License-Identifier: Apache-2.0
-- SPDX-FileCopyrightText: Copyright the Vortex contributors

-- The struct that is made of the fields that are left.
use Rattle.std.proofs.Common.{◌≡◌, ◌∙◌, ℕ, List, [], ◌++◌, map, sym, ap, append-nil}
use Rattle.dtype_types.specs.declared.dtype.DType.{DType}
use Rattle.dtype_types.specs.declared.field_dtype.FieldDType.{FieldDType}
use Rattle.dtype_types.specs.declared.struct_fields.StructFields.{StructFields}
use Rattle.dtype_types.specs.parts.FieldTypes.{field_tree}
use Rattle.dtype_types.specs.tree.Tree.{Tree, Fields, fields, pairs}
use Rattle.dtype_types.specs.tree.TreeOf.{children, fields_of, with_trees}
use Rattle.dtype_types.proofs.lemmas.ValidParts.{fields_of_pairs}
use Rattle.dtype_paths.specs.PathPredicates.{PathPredicate}
use Rattle.dtype_edits.specs.Without.{fields_without}

-- the fields that are collected
abbrev pub collected : List (List ℕ × FieldDType) → List (List ℕ × Tree)
collected cs = map (λ p. (p.0, field_tree p.1)) cs

-- with no field to come, the struct that is made has the fields that are left
pub all_left : (s : StructFields) (done : List (List ℕ × FieldDType)) (left : List (List ℕ × DType)) (w : PathPredicate) (fs : Fields) → left ≡ [] → children s ≡ collected done
    → collected done ++ pairs (fields_without (fields (with_trees left)) w) ≡ pairs fs → fields_of s ≡ fs
all_left s done left w fs none made so_far =
    ap fields (made ∙ sym (append-nil (collected done))
    ∙ ap (λ z. collected done ++ pairs (fields_without (fields (with_trees z)) w)) (sym none)
    ∙ so_far) ∙ fields_of_pairs fs
