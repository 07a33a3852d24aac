-- SPDX-License-Identifier: Apache-2.0
-- SPDX-FileCopyrightText: Copyright the Vortex contributors

use Rattle.std.proofs.Common.{refl, sym, ap, ◌∙◌, arith, length}
use Rattle.std.specs.Option.{option_copied}
use Rattle.std.proofs.lemmas.Bool.{false≢true}
use Rattle.dtype_paths.specs.private.Trie.{terminal_at, terminals}
use Rattle.dtype_paths.proofs.NodeTests.{in-all, in-refused}
use Rattle.dtype_paths.proofs.trie.Trie.all_in.Goals as goal

pub returns-then-contains-wanted : goal.returns-then-contains-wanted
returns-then-contains-wanted c =
    let n = c.loop-node_index.node_index in
    let at = ap (λ ns. terminal_at ns n) (sym c.self.view_is) ∙ sym c.terminal.ensures ∙ ap option_copied c.in-Some.is in (
      λ no. absurd (false≢true no),
      λ each. absurd (in-refused c.args.self.now (terminals c.args.other.now) c.args.wanted n c.in-Some.path.now c.contains.result at (rw c.parts.ensures at c.contains.ensures) c.if-contains-wanted.true each),
    )

pub returns : goal.returns
returns c =
    let i = c.loop-node_index.invariant in
    (λ done. in-all c.args.self.now (terminals c.args.other.now) c.args.wanted c.loop-node_index.node_index (omega (arith, i.0, c.loop-node_index-test.false, ap length c.self.view_is, c.len-node_index-end.ensures)) i.1, λ each. refl)
