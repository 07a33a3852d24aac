-- SPDX-License-Identifier: Apache-2.0
-- SPDX-FileCopyrightText: Copyright the Vortex contributors

-- A node that is borrowed to be changed.
use Rattle.std.specs.Prelude.{ℕ, List, slice_set}
use Rattle.std.specs.Borrow.{Lends, MutBor, Fml}
use Rattle.dtype_paths.specs.declared.node.Node.{Node}
use Rattle.dtype_paths.specs.contracts.node.Node.{the_row as node_row}
use Rattle.dtype_paths.specs.contracts.nodes.Nodes.{the_row as nodes_row}

-- when the borrow ends, the node at i is the last value behind r, and the others are unchanged
abbrev pub LendsNode : MutBor (List Node) → ℕ → MutBor Node → Fml
LendsNode s i r = Lends nodes_row node_row s r (slice_set s.now i)
