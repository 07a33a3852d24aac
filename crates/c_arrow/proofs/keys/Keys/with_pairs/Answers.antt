-- SPDX-License-Identifier: Apache-2.0
-- SPDX-FileCopyrightText: Copyright the Vortex contributors

use Rattle.std.proofs.Common.{sym}
use Rattle.c_arrow.specs.Views.{said}
use Rattle.c_arrow.proofs.Pairs.{one_more}
use Rattle.c_arrow.proofs.keys.Keys.with_pairs.Goals as goal

pub loop-at-preserved : goal.loop-at-preserved
loop-at-preserved c =
    one_more (said c.loop-at.keys) c.args.count c.loop-at._at c.loop-at.rest.now _ _ _ _ _ _
    c.loop-at-test.true (sym c.in_ok-key.ensures) (sym c.in_ok-value.ensures) (sym c.in_ok-keys.ensures) c.loop-at.invariant
