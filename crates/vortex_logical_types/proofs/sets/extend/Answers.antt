-- SPDX-License-Identifier: Apache-2.0
-- SPDX-FileCopyrightText: Copyright the Vortex contributors

use Rattle.std.proofs.Common.{sym, arith}
use Rattle.dtype_paths.proofs.lemmas.SetMembers.{union_none}
use Rattle.vortex_logical_types.proofs.Extended.{list_step}
use Rattle.vortex_logical_types.proofs.sets.extend.Goals as goal

pub loop-path-init : goal.loop-path-init
loop-path-init c = sym (union_none c.args.paths.now)

pub loop-path-preserved : goal.loop-path-preserved
loop-path-preserved c =
    list_step c.args.paths.now c.loop-path.paths _ c.args.list.now c.loop-path.path-index c.insert-answer.result c.path-item.result
    (omega (arith, c.loop-path-test.true)) c.path-item.is c.loop-path.invariant c.insert-answer.ensures (omega (arith, c.if-answer-ne-OK.false))
