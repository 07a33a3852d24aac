-- SPDX-License-Identifier: Apache-2.0
-- SPDX-FileCopyrightText: Copyright the Vortex contributors

use Rattle.std.proofs.Common.{◌+◌, sym, ap, subst, ◌∙◌, arith}
use Rattle.dtype_types.proofs.lemmas.TreeLaws.{tree_struct}
use Rattle.dtype_types.specs.tree.TreeOf.{children, tree}
use Rattle.dtype_types.specs.tree.Width.{Measures}
use Rattle.dtype_types.proofs.Widths.{next_measured, variable_beginning}
use Rattle.dtype_types.proofs.+width.Goals as goal

pub struct_fields::StructFields::width-returns-in-Variable : goal.struct_fields::StructFields::width-returns-in-Variable
struct_fields::StructFields::width-returns-in-Variable t c n =
    let so_far = next_measured c.args.self.now _ _ c.dtype-item.result _ _ _ c.dtypes-dtype-items.ensures (omega arith) c.dtype-item.is c.width.ensures c.plus-total.ensures c.loop-dtype.invariant n in
    variable_beginning (children c.args.self.now) (c.loop-dtype.dtype-index + 1) (rw c.in-Variable.is at so_far)

pub struct_fields::StructFields::width-loop-dtype-preserved : goal.struct_fields::StructFields::width-loop-dtype-preserved
struct_fields::StructFields::width-loop-dtype-preserved t c =
    next_measured c.args.self.now _ _ c.dtype-item.result _ _ _ c.dtypes-dtype-items.ensures (omega arith) c.dtype-item.is c.width.ensures c.plus-total.ensures c.loop-dtype.invariant

pub dtype::DType::width-returns-in-Struct : goal.dtype::DType::width-returns-in-Struct
dtype::DType::width-returns-in-Struct t c =
    let s = c.in-Struct.fields in
    let n = c.in-Struct.field-1 in
    subst (Measures c.width-in-Struct.result) (sym (ap tree c.in-Struct.is ∙ tree_struct s n)) (c.width-in-Struct.ensures n)
