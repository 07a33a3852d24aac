-- SPDX-License-Identifier: Apache-2.0
-- SPDX-FileCopyrightText: Copyright the Vortex contributors

use Rattle.std.proofs.Common.{subst}
use Rattle.dtype_paths.specs.private.Trie.{IsTrie}
use Rattle.dtype_paths.proofs.NamesBelow.{names-below, names-reached}
use Rattle.dtype_paths.proofs.trie.Trie.names.Goals as goal

pub returns : goal.returns
returns c =
    let trie = subst IsTrie c.self.view_is c.self.invariant in let at = rw c.self.view_is at c.at.ensures in
    let i = c.args.node_index in let n = c.at.result.now in let e = c.names.ensures in
    record {
      reached = λ m h. names-reached c.args.self.now trie i n c.requires at e.once m (rw e.names at h);
      names = rw e.names (names-below c.args.self.now trie i n c.requires at e.once);
      fits = e.fits;
    }
