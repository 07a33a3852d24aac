-- SPDX-License-Identifier: Apache-2.0
-- SPDX-FileCopyrightText: Copyright the Vortex contributors

use Rattle.std.proofs.Common.{◌∙◌, ℕ, List, ◌∷◌, length, ap, arith, subst, sym}
use Rattle.std.specs.List.{Contains}
use Rattle.dtype_paths.specs.Cursors.{names_left}
use Rattle.dtype_paths.specs.private.Children.{borrowed_name}
use Rattle.dtype_paths.specs.private.Reached.{named_paths}
use Rattle.dtype_paths.proofs.lemmas.ListMembers.{contains-head}
use Rattle.dtype_paths.proofs.NamesBelow.{paths_counted, still-left}
use Rattle.dtype_paths.proofs.cursor_names.CursorNamesIterator.next.Goals as goal

pub invariant_of-self : goal.invariant_of-self
invariant_of-self c = record {
  reached = λ e h. c.args.self.now.reached e (still-left borrowed_name c.next.result c.args.self.now.children c.next.new.self c.next.ensures e h);
}

pub returns-in_err-name-clause-steps : goal.returns-in_err-name-clause-steps
unfolding names_left
returns-in_err-name-clause-steps c =
    let below = named_paths c.args.self.now.trie.now in
    rw c.from_residual.ensures (ap below c.in_err-name.ensures.0, ap below c.in_err-name.ensures.1)

pub at-requires : goal.at-requires
at-requires c =
    let e : List ℕ × ℕ = (c.in_ok-name.name.now, c.in_ok-name.node_index) in
    c.args.self.now.reached e (subst (λ ns. Contains ns e) (sym c.in_ok-name.ensures) (contains-head e c.next.new.self))

pub returns-clause-steps : goal.returns-clause-steps
unfolding names_left
returns-clause-steps c =
    let below = named_paths c.args.self.now.trie.now in
    ap below c.in_ok-name.ensures ∙ (λ k. (c.in_ok-name.name.now, sym c.at.ensures k) ∷ below c.next.new.self)

pub returns-clause-goes : goal.returns-clause-goes
unfolding names_left
returns-clause-goes c =
    let t = c.args.self.now.trie.now in
    let shorter = ap length c.in_ok-name.ensures in
    let old = paths_counted t c.args.self.now.children in
    let new = paths_counted t c.next.new.self in
    record { on = λ _. (tt, tt, omega (arith, shorter, old, new)); keeps = tt; rests = λ _. tt }
