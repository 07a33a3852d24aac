-- SPDX-License-Identifier: Apache-2.0
-- SPDX-FileCopyrightText: Copyright the Vortex contributors

use Rattle.std.proofs.Common.{◌∙◌, ◌∷◌, ◌++◌, ◌+◌, [], List, ap, sym, take, arith}
use Rattle.std.proofs.lemmas.List.{map-append}
use Rattle.dtype_paths.specs.declared.node.Node.{Node}
use Rattle.dtype_paths.specs.private.Trie.{reading}
use Rattle.dtype_paths.proofs.NodeGrowth.{take-after}
use Rattle.dtype_paths.proofs.nodes.Nodes.try_clone.Goals as goal

pub loop-node-init : goal.loop-node-init
loop-node-init c = rw (← c.self.view_is, c.in_ok-rest.ensures.items) (λ j. (c.in_ok-root.ensures.ok j, λ f. c.in_ok-root.ensures.steps f j) ∷ [])

pub loop-node-preserved : goal.loop-node-preserved
loop-node-preserved c =
    let n = c.node-item.result in let i = c.loop-node.node-index in let root = c.self.inside.root in let items = c.deref-node-items.result.now in
    let step = take-after root items c.args.self.now i n (ap (λ (xs : List Node). root ∷ xs) c.deref-node-items.ensures.value ∙ c.self.view_is) (omega (arith, c.loop-node-test.true)) c.node-item.is in
    let copy = c.in_ok-try_clone.field-0 in let e = c.in_ok-try_clone.ensures in
    rw (c.in_ok-push.ensures.items, step)
    (map-append reading (c.in_ok-root.root ∷ c.loop-node.rest.items) (copy ∷ [])
    ∙ (λ j. c.loop-node.invariant j ++ (e.ok j, λ f. e.steps f j) ∷ [])
    ∙ sym (map-append reading (take (i + 1) c.args.self.now) (n ∷ [])))
