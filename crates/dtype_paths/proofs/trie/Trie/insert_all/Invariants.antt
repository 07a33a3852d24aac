-- SPDX-License-Identifier: Apache-2.0
-- SPDX-FileCopyrightText: Copyright the Vortex contributors

use Rattle.std.proofs.Common.{◌≡◌, ◌≤◌, length, take}
use Rattle.std.specs.FinSet as set
use Rattle.dtype_paths.specs.PathOrder.{set_of}
use Rattle.dtype_paths.specs.private.Trie.{terminals}
use Rattle.dtype_paths.proofs.trie.Trie.insert_all.Given as goal

-- the paths of the nodes so far besides
abbrev pub invariant-loop-node_index : goal.invariant-loop-node_index
invariant-loop-node_index l = record {
  within : l.node_index ≤ length l.other;
  joined : set_of (terminals l.self) ≡ set.union (set_of (terminals l.fn.self)) (set_of (terminals (take l.node_index l.other)));
}
