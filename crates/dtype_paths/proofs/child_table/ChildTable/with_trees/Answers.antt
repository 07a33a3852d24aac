-- SPDX-License-Identifier: Apache-2.0
-- SPDX-FileCopyrightText: Copyright the Vortex contributors

use Rattle.std.proofs.Common.{◌∷◌, [], ap, arith, length, length-append}
use Rattle.dtype_paths.proofs.ChildTables.{empty_table, one_empty_more}
use Rattle.dtype_paths.proofs.child_table.ChildTable.with_trees.Goals as goal

pub loop-preserved : goal.loop-preserved
loop-preserved c =
    let items = c.in_ok-push.ensures.items in
    (omega (arith, ap length items, length-append c.loop.trees.items (c.new.result ∷ []), c.loop.invariant.0), one_empty_more c.loop.trees.items c.push.new.self.items c.new.result items c.new.ensures c.loop.invariant.1)

pub invariant_of-result : goal.invariant_of-result
invariant_of-result c =
    empty_table c.loop.trees.items c.loop.invariant.1 (omega (arith, c.loop.invariant.0, c.loop-test.false, c.requires))
