-- SPDX-License-Identifier: Apache-2.0
-- SPDX-FileCopyrightText: Copyright the Vortex contributors

use Rattle.std.proofs.Common.{◌∙◌, is_some, ap, subst}
use Rattle.dtype_paths.specs.private.Trie.{terminal_at, IsTrie}
use Rattle.dtype_paths.proofs.NodeIndices.{contains-whole, contains-no_more}
use Rattle.dtype_paths.proofs.trie.Trie.contains.Goals as goal

pub returns-in-Whole : goal.returns-in-Whole
returns-in-Whole c =
    let here = c.in-Whole.node_index in
    contains-whole c.args.self.now c.args.path.now (subst IsTrie c.self.view_is c.self.invariant) here c.in-Whole.ensures.1 c.is_terminal.result
    (c.is_terminal.ensures ∙ ap (λ ns. is_some (terminal_at ns here)) c.self.view_is)

pub returns-in-Prefix : goal.returns-in-Prefix
returns-in-Prefix c =
    (λ y. cc, λ m. absurd (contains-no_more c.args.self.now c.args.path.now (subst IsTrie c.self.view_is c.self.invariant) c.in-Prefix.field-0 c.in-Prefix.ensures m))
