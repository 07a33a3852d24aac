-- SPDX-License-Identifier: Apache-2.0
-- SPDX-FileCopyrightText: Copyright the Vortex contributors

use Rattle.dtype_paths.proofs.Reaching.{child_asks, reached_child}
use Rattle.dtype_paths.proofs.trie.Trie.child.Goals as goal

pub returns : goal.returns
returns c =
    let nodes = c.self.inside.nodes in let now = c.args.self.now in let i = c.args.node_index in let f = c.args.step.now in let n = c.at.result.now in
    let e = c.child.ensures in
    record {
      node = rw (← c.self.view_is, c.at.ensures) e;
      reached = reached_child nodes now i f n c.child.result c.self.invariant c.self.view_is c.requires c.at.ensures e;
      some = child_asks nodes now i f n c.child.result c.self.invariant c.self.view_is c.requires c.at.ensures e;
    }
