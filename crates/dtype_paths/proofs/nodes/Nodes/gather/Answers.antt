-- SPDX-License-Identifier: Apache-2.0
-- SPDX-FileCopyrightText: Copyright the Vortex contributors

use Rattle.std.proofs.Common.{◌∙◌, ◌∷◌, ◌+◌, List, ap, sym, take, arith}
use Rattle.std.specs.Option.{option_copied}
use Rattle.dtype_paths.specs.declared.node.Node.{Node}
use Rattle.dtype_paths.proofs.NodeGrowth.{take-after}
use Rattle.dtype_paths.proofs.NodeIndices.{gathered, passed}
use Rattle.dtype_paths.proofs.nodes.Nodes.gather.Goals as goal
use Rattle.dtype_paths.proofs.nodes.Nodes.gather.Goals.{in-Some-terminal+in_ok-push-2, in_default-terminal}

pub loop-node-preserved : goal.loop-node-preserved
loop-node-preserved c =
    let n = c.node-item.result in let i = c.loop-node.node-index in let root = c.self.inside.root in let items = c.deref-node-items.result.now in let ns = take (i + 1) c.args.self.now in
    let step = take-after root items c.args.self.now i n (ap (λ (xs : List Node). root ∷ xs) c.deref-node-items.ensures.value ∙ c.self.view_is) (omega (arith, c.loop-node-test.true)) c.node-item.is in
    elim c.match-terminal-2.branch [
      | in-Some-terminal+in_ok-push-2 w ↦ rw (w.found-is, w.in_ok-push-2.ensures.items, step) (gathered (λ x. x.now) c.loop-node.found.items ns n c.loop-node.invariant _ (sym c.terminal-in-loop-node.ensures ∙ ap option_copied w.in-Some-terminal.is))
      | in_default-terminal w ↦ rw (w.found-is, step) (passed (λ x. x.now) c.loop-node.found.items ns n c.loop-node.invariant (sym c.terminal-in-loop-node.ensures ∙ ap option_copied w.in_default-terminal.is))
    ]
