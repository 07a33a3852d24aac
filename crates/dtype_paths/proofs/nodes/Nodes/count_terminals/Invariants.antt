-- SPDX-License-Identifier: Apache-2.0
-- SPDX-FileCopyrightText: Copyright the Vortex contributors

use Rattle.std.proofs.Common.{◌≡◌, ◌≤◌, length, take}
use Rattle.dtype_paths.specs.private.Trie.{terminals}
use Rattle.dtype_paths.proofs.nodes.Nodes.count_terminals.Given as goal

abbrev pub invariant-loop-node_index : goal.invariant-loop-node_index
invariant-loop-node_index l = record {
  within : l.node_index ≤ length l.self;
  counted : l.count ≡ length (terminals (take l.node_index l.self));
  fits : l.count ≤ l.node_index;
}
