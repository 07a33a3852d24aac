-- SPDX-License-Identifier: Apache-2.0
-- SPDX-FileCopyrightText: Copyright the Vortex contributors

use Rattle.std.proofs.Common.{refl, rules, lit<}
use Rattle.dtype_base.specs.declared.ptype.PType.TheVariants.{U32}
use Rattle.dtype_native.proofs.ptype_visitor.match_smallest_offset_type.Goals as goal

pub returns-then-n : goal.returns-then-n
returns-then-n g c =
    (U32, record { among = (2, lit< tt, refl); fits = search rules; least = search rules }, c.visit_u32.ensures)
