-- SPDX-License-Identifier: Apache-2.0
-- SPDX-FileCopyrightText: Copyright the Vortex contributors

use Rattle.std.proofs.Common.{◌≤◌, length}
use Rattle.dtype_paths.specs.private.Trie.{terminals}
use Rattle.dtype_paths.proofs.NodeTests.{EndIn}
use Rattle.dtype_paths.proofs.trie.Trie.all_in.Given as goal

abbrev pub invariant-loop-node_index : goal.invariant-loop-node_index
invariant-loop-node_index l = (l.node_index ≤ length l.self) × EndIn l.self l.node_index (terminals l.other) l.wanted
