-- SPDX-License-Identifier: Apache-2.0
-- SPDX-FileCopyrightText: Copyright the Vortex contributors

use Rattle.std.proofs.Common.{[], take, arith, length, refl, subst, sym, Some, ◌≡◌, ◌+◌}
use Rattle.std.proofs.lemmas.Option.{slice_get_read}
use Rattle.dtype_paths.specs.private.Trie.{child_at, walk, IsPrefixMatch}
use Rattle.dtype_paths.proofs.NodeGrowth.{take-step}
use Rattle.dtype_paths.proofs.TrieGrowth.{walk-snoc}
use Rattle.dtype_paths.proofs.trie.Trie.longest_match.Goals as goal

pub loop-step-init : goal.loop-step-init
loop-step-init c = record { same = refl; inside = c.self.invariant.inside [] 0 refl; walked = refl }

pub loop-step-preserved : goal.loop-step-preserved
loop-step-preserved c =
    let i = c.loop-step.invariant in let n = c.loop-step.step-index in let path = c.args.path.now in let x = c.step-item.result in let nodes = c.self.inside.nodes in
    let next : child_at nodes c.loop-step.here x ≡ Some c.in-Some.node_index = rw c.at.ensures (sym c.in-Some.ensures) in
    let more : walk (child_at nodes) 0 (take (n + 1) path) ≡ Some c.in-Some.node_index =
    rw (take-step path n x (omega arith) c.step-item.is) (walk-snoc (child_at nodes) c.loop-step.here c.in-Some.node_index (take n path) x i.walked next) in
    record {
      same = omega (arith, i.same);
      inside = c.self.invariant.inside (take (n + 1) path) c.in-Some.node_index more;
      walked = more;
    }

pub returns-in-None : goal.returns-in-None
returns-in-None c =
    let i = c.loop-step.invariant in let path = c.args.path.now in let x = c.step-item.result in let nodes = c.self.inside.nodes in
    let there : c.loop-step.step-index ≡ c.loop-step.len = sym i.same in
    subst (λ ns. IsPrefixMatch ns path (record { here = c.loop-step.here; len = c.loop-step.len })) c.self.view_is
    (record {
      inside = i.inside;
      walked = rw there at i.walked;
      step = x;
      next = slice_get_read path (length path) c.loop-step.len x refl (omega (arith, i.same)) (rw there at c.step-item.is);
      none = rw c.at.ensures (sym c.in-None.ensures);
    })
