-- SPDX-License-Identifier: Apache-2.0
-- SPDX-FileCopyrightText: Copyright the Vortex contributors

use Rattle.std.proofs.Common.{◌<◌, sym, ◌∙◌, arith, length}
use Rattle.dtype_paths.proofs.NodeTests.{count-more, count-same}
use Rattle.dtype_paths.proofs.nodes.Nodes.count_terminals.Goals as goal
use Rattle.dtype_paths.proofs.nodes.Nodes.count_terminals.Goals.{then-is_terminal, else-is_terminal}

pub loop-node_index-preserved : goal.loop-node_index-preserved
loop-node_index-preserved c =
    let n = c.loop-node_index.node_index in let i = c.loop-node_index.invariant in let nodes = c.args.self.now in
    let within : n < length nodes = omega (arith, c.loop-node_index-test.true, c.len-node_index-end.ensures) in
    elim c.if-is_terminal.branch [
      | then-is_terminal w ↦ record {
        within = omega (arith, within);
        counted = rw w.count-is (count-more nodes n c.loop-node_index.count within i.counted (sym c.is_terminal.ensures ∙ w.if-is_terminal.true));
        fits = omega (arith, w.count-is, i.fits);
      }
      | else-is_terminal w ↦ record {
        within = omega (arith, within);
        counted = rw w.count-is (count-same nodes n c.loop-node_index.count within i.counted (sym c.is_terminal.ensures ∙ w.if-is_terminal.false));
        fits = omega (arith, w.count-is, i.fits);
      }
    ]
