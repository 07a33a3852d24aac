-- SPDX-License-Identifier: Apache-2.0
-- SPDX-FileCopyrightText: Copyright the Vortex contributors

use Rattle.std.proofs.Common.{◌+◌, ◌∷◌, take}
use Rattle.dtype_paths.specs.private.Trie.{IsAlike}
use Rattle.dtype_paths.proofs.nodes.Nodes.try_clone.Given as goal

abbrev pub invariant-loop-node : goal.invariant-loop-node
invariant-loop-node l = IsAlike (take (l.node-index + 1) l.self) (l.root ∷ l.rest.items)
