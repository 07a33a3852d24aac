-- SPDX-License-Identifier: Apache-2.0
-- SPDX-FileCopyrightText: Copyright the Vortex contributors

use Rattle.std.proofs.Common.{subst}
use Rattle.std.specs.Bool.{⊤}
use Rattle.std.specs.Iterator.{DrainsIf}
use Rattle.std.specs.Iterator.Runs.{YieldsRun}
use Rattle.dtype_types.proofs.struct_fields.StructFieldsFromIteratorTuple2FieldNameFieldDType.from_iter.Goals as goal

-- the run that the call of the same name speaks of
pub returns-in-Ok : goal.returns-in-Ok
unfolding YieldsRun
returns-in-Ok g c =
    let made = c.in-Ok.ensures in
    let run = made.2 in
    let ran = run.0.gave.0 in
    record { ran = (made.0, run.0.items, made.1, subst (λ s. DrainsIf g.I.IntoIter.Iterator.next_gives ⊤ s run.0.items) run.1 (ran.0, ran.1, λ _. ran.2 run.2), run.3) }
