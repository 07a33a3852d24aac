-- SPDX-License-Identifier: Apache-2.0
-- SPDX-FileCopyrightText: Copyright the Vortex contributors

use Rattle.std.proofs.Common.{◌∙◌, ◌+◌, ap, drop, length, take}
use Rattle.std.proofs.Math.Seq.{take-append_seam}
use Rattle.std.proofs.lemmas.Result.{on_err_weaker, on_ok_weaker}
use Rattle.dtype_paths.specs.private.Children.{child}
use Rattle.dtype_paths.specs.private.Trie.{chain}
use Rattle.dtype_paths.proofs.NodeIndices.{next-step, read-left}
use Rattle.dtype_paths.proofs.nodes.Nodes.append_branch.Goals as goal

pub add_child-requires-clause-none : goal.add_child-requires-clause-none
add_child-requires-clause-none c =
    let old = c.args.self.now in let path = c.args.path in let m = c.args.prefix in
    let next = next-step old path m c.requires c.index-parts-prefix.result c.in_ok-step.step (rw c.parts.ensures at c.index-parts-prefix.is) c.in_ok-step.ensures in
    rw c.in_ok-push_chain.ensures.chain
    (read-left (λ n. child n.children c.in_ok-step.step) old (chain path (length old) (drop (m.len + 1) path)) m.here c.requires.inside ∙ (rw next.1 at c.requires.none))

pub returns-clause-branch : goal.returns-clause-branch
returns-clause-branch c =
    let e = c.add_child.ensures in let mid = c.in_ok-push_chain.ensures.chain in
    let next = next-step c.args.self.now c.args.path c.args.prefix c.requires c.index-parts-prefix.result c.in_ok-step.step
    (rw c.parts.ensures at c.index-parts-prefix.is) c.in_ok-step.ensures in
    on_ok_weaker c.add_child.result
    (λ steps. record { step = c.in_ok-step.step; first = next.0; long = e.long ∙ ap length mid; terminals = rw mid at e.terminals; steps = rw (mid, c.len-first.ensures) at steps })
    e.added

pub returns-clause-err : goal.returns-clause-err
returns-clause-err c =
    let old = c.args.self.now in let path = c.args.path in
    on_err_weaker c.add_child.result (λ same. ap (take (length old)) (same ∙ c.in_ok-push_chain.ensures.chain) ∙ take-append_seam old
    (chain path (length old) (drop (c.args.prefix.len + 1) path))) c.add_child.ensures.err
