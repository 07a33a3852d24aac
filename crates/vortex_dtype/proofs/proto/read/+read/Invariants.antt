-- SPDX-License-Identifier: Apache-2.0
-- SPDX-FileCopyrightText: Copyright the Vortex contributors

use Rattle.std.proofs.Common.{take, All}
use Rattle.dtype_types.specs.tree.Valid.{Valid}
use Rattle.dtype_types.specs.tree.TreeOf.{tree}
use Rattle.vortex_dtype.specs.Session.{meaning}
use Rattle.vortex_dtype.proofs.ReadInTurn.{AreRead}
use Rattle.vortex_dtype.proofs.proto.read.+read.Given as goal

abbrev pub invariant-loop-field : goal.invariant-loop-field
invariant-loop-field g l = record {
  read : AreRead (meaning (λ b. (g.dyn-1.0.entry b.vtable).1.rewrites b.value) l.session) (take l.field-index l.field-items) l.dtypes.items;
  valid : All (λ d. Valid (tree d)) l.dtypes.items;
}

abbrev pub invariant-loop-variant : goal.invariant-loop-variant
invariant-loop-variant g l = record {
  read : AreRead (meaning (λ b. (g.dyn-1.0.entry b.vtable).1.rewrites b.value) l.session) (take l.variant-index l.variant-items) l.dtypes.items;
  valid : All (λ d. Valid (tree d)) l.dtypes.items;
}
