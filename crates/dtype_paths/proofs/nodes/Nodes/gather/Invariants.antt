-- SPDX-License-Identifier: Apache-2.0
-- SPDX-FileCopyrightText: Copyright the Vortex contributors

use Rattle.std.proofs.Common.{◌≡◌, ◌+◌, map, take}
use Rattle.dtype_paths.specs.private.Trie.{terminals}
use Rattle.dtype_paths.proofs.nodes.Nodes.gather.Given as goal

abbrev pub invariant-loop-node : goal.invariant-loop-node
invariant-loop-node l = map (λ x. x.now) l.found.items ≡ terminals (take (l.node-index + 1) l.self)
