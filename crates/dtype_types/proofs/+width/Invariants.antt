-- SPDX-License-Identifier: Apache-2.0
-- SPDX-FileCopyrightText: Copyright the Vortex contributors

use Rattle.std.proofs.Common.{take}
use Rattle.dtype_types.specs.tree.TreeOf.{children}
use Rattle.dtype_types.specs.tree.Width.{MeasuresFields}
use Rattle.dtype_types.proofs.+width.Given as goal

abbrev pub invariant-struct_fields::StructFields::width-loop-dtype : goal.invariant-struct_fields::StructFields::width-loop-dtype
invariant-struct_fields::StructFields::width-loop-dtype l = MeasuresFields l.total (take l.dtype-index (children l.self))
