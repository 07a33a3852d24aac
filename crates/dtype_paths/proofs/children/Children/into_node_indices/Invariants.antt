-- SPDX-License-Identifier: Apache-2.0
-- SPDX-FileCopyrightText: Copyright the Vortex contributors

use Rattle.std.proofs.Common.{◌≡◌, ◌++◌, length}
use Rattle.std.specs.Map.{values_of}
use Rattle.dtype_paths.specs.private.ChildIters.{entries_left}
use Rattle.dtype_paths.specs.private.Children.{nodes_by_step}
use Rattle.dtype_paths.proofs.children.Children.into_node_indices.Given as goal

abbrev pub invariant-loop-node_index : goal.invariant-loop-node_index
invariant-loop-node_index l = l.node_indices.items ++ values_of (entries_left l.left) ≡ l.fn.node_indices.items ++ values_of (nodes_by_step l.fn.self)

abbrev pub decreases-loop-node_index : goal.decreases-loop-node_index
decreases-loop-node_index l = length (entries_left l.left)
