-- SPDX-License-Identifier: Apache-2.0
-- SPDX-FileCopyrightText: Copyright the Vortex contributors

use Rattle.std.proofs.Common.{◌<◌, ap, sym, ◌∙◌, arith, length}
use Rattle.std.specs.FinSet as set
use Rattle.std.specs.Option.{option_copied}
use Rattle.dtype_paths.specs.PathOrder.{set_of}
use Rattle.dtype_paths.specs.private.Trie.{terminal_at, terminals}
use Rattle.dtype_paths.proofs.NodeTests.{join-more, join-same}
use Rattle.dtype_paths.proofs.lemmas.SetMembers.{union_none}
use Rattle.dtype_paths.proofs.trie.Trie.insert_all.Goals as goal
use Rattle.dtype_paths.proofs.trie.Trie.insert_all.Goals.{in-Some+in_ok-try_clone+in_ok-insert, in_default}

pub loop-node_index-init : goal.loop-node_index-init
loop-node_index-init c = record { within = omega arith; joined = sym (union_none (set_of (terminals c.args.self.now))) }

pub loop-node_index-preserved : goal.loop-node_index-preserved
loop-node_index-preserved c =
    let n = c.loop-node_index.node_index in let i = c.loop-node_index.invariant in let nodes = c.args.other.now in
    let within : n < length nodes = omega (arith, c.loop-node_index-test.true, c.len-node_index-end.ensures, ap length c.other.view_is) in
    let old = set_of (terminals c.args.self.now) in let now = set_of (terminals c.loop-node_index.self) in
    let read = ap (λ ns. terminal_at ns n) (sym c.other.view_is) ∙ sym c.terminal.ensures in
    record {
      within = omega (arith, within);
      joined = elim c.match-terminal.branch [
        | in-Some+in_ok-try_clone+in_ok-insert w ↦
            rw w.self-is (join-more nodes n old now within i.joined w.in-Some.path.now (set_of (terminals w.insert.new.self)) (read ∙ ap option_copied w.in-Some.is) (w.in_ok-insert.ensures.inserted ∙ ap (set.insert now) w.in_ok-try_clone.ensures))
        | in_default w ↦ rw w.self-is (join-same nodes n old now within i.joined (read ∙ ap option_copied w.in_default.is))
      ];
    }
