-- SPDX-License-Identifier: Apache-2.0
-- SPDX-FileCopyrightText: Copyright the Vortex contributors

use Rattle.std.proofs.Common.{subst}
use Rattle.dtype_types.specs.tree.Tree as t
use Rattle.vortex_logical_types.specs.Slots.{type_in}
use Rattle.vortex_logical_types.specs.Vocabulary.{Puts, gives, unless_memory}
use Rattle.vortex_logical_types.proofs.FieldPairs.{fitting, pairs_back}
use Rattle.vortex_logical_types.proofs.holders.make_struct.Goals as goal

pub returns-in-Ok : goal.returns-in-Ok
returns-in-Ok c =
    fitting c.in-Ok.ensures.fits
    (subst (λ fs. Puts type_in (unless_memory (gives (t.struct (t.fields fs) c.args.n))) c.put_struct.result c.args.out.now.value c.put_struct.new.out.value)
    (pairs_back _ _ _ c.in-Ok.ensures.names c.in-Ok.ensures.dtypes) c.put_struct.ensures)
