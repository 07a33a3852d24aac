-- SPDX-License-Identifier: Apache-2.0
-- SPDX-FileCopyrightText: Copyright the Vortex contributors

use Rattle.std.proofs.Common.{ℕ, List, subst}
use Rattle.dtype_types.specs.tree.Tree.{Tree}
use Rattle.vortex_logical_types.specs.Slots.{type_in}
use Rattle.vortex_logical_types.specs.Types.{makes_consecutive}
use Rattle.vortex_logical_types.specs.Vocabulary.{PutsOr, unless_memory}
use Rattle.vortex_logical_types.proofs.FieldPairs.{fitting}
use Rattle.vortex_logical_types.proofs.holders.make_consecutive.Goals as goal

pub returns-in-Ok : goal.returns-in-Ok
returns-in-Ok c =
    fitting c.in-Ok.ensures.fits
    (subst
    (λ (x : List (List ℕ) × List Tree). PutsOr type_in (unless_memory (makes_consecutive c.args.n x.0 x.1)) c.put_consecutive.result c.args.out.now.value c.put_consecutive.new.out.value c.args.error.now.value
    c.put_consecutive.new.error.value)
    (λ i. (c.in-Ok.ensures.names i, c.in-Ok.ensures.dtypes i)) c.put_consecutive.ensures)
