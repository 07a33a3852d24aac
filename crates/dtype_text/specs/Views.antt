-- SPDX-License-Identifier: Apache-2.0
-- SPDX-FileCopyrightText: Copyright the Vortex contributors

-- Types that were read, by their trees.
use Rattle.std.specs.Prelude.{ℕ, List, map, Option}
use Rattle.std.specs.Borrow.{Bor}
use Rattle.dtype_types.specs.declared.dtype.DType.{DType}
use Rattle.dtype_types.specs.declared.field_dtype.FieldDType.{FieldDType}
use Rattle.dtype_types.specs.parts.FieldTypes.{field_tree}
use Rattle.dtype_types.specs.tree.Tree.{Tree}
use Rattle.dtype_types.specs.tree.TreeOf.{tree}
use Rattle.dtype_text.specs.declared.unions.Variant.{Variant}

-- a type and the bytes after it
abbrev pub typed : DType × Bor (List ℕ) → Tree × List ℕ
typed x = (tree x.0, x.1.now)

-- fields as pairs of a name and a tree
abbrev pub field_pairs : List (List ℕ × FieldDType) → List (List ℕ × Tree)
field_pairs fs = map (λ p. (p.0, field_tree p.1)) fs

-- a variant as its name, its tree and its tag, if that was written
abbrev pub read_variant : Variant → List ℕ × (Tree × Option ℕ)
read_variant v = (v.name, (tree v.dtype, v.tag))

abbrev pub read_variants : List Variant → List (List ℕ × (Tree × Option ℕ))
read_variants vs = map read_variant vs
