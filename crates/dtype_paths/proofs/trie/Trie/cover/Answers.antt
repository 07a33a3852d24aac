-- SPDX-License-Identifier: Apache-2.0
-- SPDX-FileCopyrightText: Copyright the Vortex contributors

use Rattle.std.proofs.Common.{[], ◌∷◌, ◌+◌, ◌-◌, ◌<◌, ◌++◌, ◌≡◌, ◌∙◌, arith, length, sym, subst}
use Rattle.std.proofs.lemmas.List.{nil_from_length}
use Rattle.std.proofs.lemmas.Option.{MatchOption-at_none}
use Rattle.dtype_paths.specs.private.Children.{nodes_by_step}
use Rattle.dtype_paths.specs.PathOrder.{set_of}
use Rattle.dtype_paths.specs.private.Trie.{terminals, IsTrie}
use Rattle.dtype_paths.proofs.BegunBounds.{begun_some, begun_none, begun_at_most}
use Rattle.dtype_paths.proofs.Visiting.{Visits, visits-start, visits-counts, visits-within, visited-terminal, visited-children, visited-count, found-least, found-once, found-set}
use Rattle.dtype_paths.proofs.trie.Trie.cover.Goals as goal
use Rattle.dtype_paths.proofs.trie.Trie.cover.Goals.{After-open-terminal, In_default}

pub loop-node_index-init : goal.loop-node_index-init
loop-node_index-init c =
    rw (c.self.view_is, c.new-found.ensures.items, c.in_ok-node_indices.ensures.items) (visits-start c.args.self (subst IsTrie c.self.view_is c.self.invariant))

pub open-terminal-requires : goal.open-terminal-requires
open-terminal-requires c = visits-within c.pop.new.self.items c.in-Some.node_index (rw c.in-Some.ensures.items at c.loop-node_index.invariant)

-- the loop's invariant with the node index that was taken
popped : (c : After-open-terminal)
    → Visits c.args.self c.loop-node_index.nodes c.loop-node_index.found.items c.loop-node_index.visits (c.pop.new.self.items ++ c.in-Some.node_index ∷ [])
popped c = rw c.in-Some.ensures.items at c.loop-node_index.invariant

-- the visit is counted
counted : (c : After-open-terminal)
    → (c.open-terminal.new.visits ≡ c.loop-node_index.visits + 1) × (length c.args.self - c.open-terminal.new.visits < length c.args.self - c.loop-node_index.visits)
counted c = visits-counts c.pop.new.self.items c.in-Some.node_index (popped c) c.open-terminal.ensures.visited c.open-terminal.ensures.fits

pub loop-node_index-smaller-in-Continue-branch-2 : goal.loop-node_index-smaller-in-Continue-branch-2
loop-node_index-smaller-in-Continue-branch-2 c = (counted (goal.at.loop-node_index-smaller-in-Continue-branch-2 c).After-open-terminal).1

pub loop-node_index-preserved-in-Continue-branch-2 : goal.loop-node_index-preserved-in-Continue-branch-2
loop-node_index-preserved-in-Continue-branch-2 c =
    let p = (goal.at.loop-node_index-preserved-in-Continue-branch-2 c).After-open-terminal in let e = c.open-terminal.ensures in
    rw (c.in_ok-push-in-Some-terminal.ensures.items, (counted p).0)
    (visited-terminal c.pop.new.self.items c.in-Some.node_index (popped p) e.long e.others c.in-Some-terminal.path (sym e.terminal ∙ c.in-Some-terminal.is))

pub loop-node_index-smaller : goal.loop-node_index-smaller
loop-node_index-smaller c = (counted (goal.at.loop-node_index-smaller c).After-open-terminal).1

pub loop-node_index-preserved : goal.loop-node_index-preserved
loop-node_index-preserved c =
    let p = (goal.at.loop-node_index-preserved c).After-open-terminal in
    let e = c.open-terminal.ensures in let g = c.in_ok-into_node_indices-in-None.ensures in
    rw (g.pushed, (counted p).0)
    (visited-children c.pop.new.self.items c.in-Some.node_index (popped p) e.long e.others (nodes_by_step c.open-terminal.result.1) g.once e.steps (sym e.terminal ∙ c.in-None.is))

-- the loop's invariant with no node index left
ended : (c : In_default) → Visits c.args.self c.loop-node_index.nodes c.loop-node_index.found.items c.loop-node_index.visits []
ended c =
    let h = MatchOption-at_none _ _ c.in_default.is c.pop.ensures.cases in let z : c.loop-node_index.node_indices.len ≡ 0 = h.0 in
    let nil : c.loop-node_index.node_indices.items ≡ [] = nil_from_length c.loop-node_index.node_indices.items (omega arith) in
    rw nil at c.loop-node_index.invariant

pub returns : goal.returns
returns c =
    let o = ended (goal.at.returns c).In_default in
    let paths = set_of (terminals c.args.self) in let n = c.loop-node_index.visits in let count = visited-count o in
    record {
      ok = found-set o;
      once = found-once o;
      visits = count;
      some = begun_some paths n count;
      root_alone = λ none. begun_none paths n none count;
      at_most = begun_at_most paths c.loop-node_index.found.items n count (λ p. (found-least o p).1);
    }
