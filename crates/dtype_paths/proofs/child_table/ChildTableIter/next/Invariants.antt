-- SPDX-License-Identifier: Apache-2.0
-- SPDX-FileCopyrightText: Copyright the Vortex contributors

use Rattle.std.proofs.Common.{◌≡◌, ◌++◌, length}
use Rattle.std.specs.Slice.Iter.{iter_rest}
use Rattle.dtype_paths.specs.private.ChildTables.{steps_of}
use Rattle.dtype_paths.proofs.child_table.ChildTableIter.next.Given as goal

abbrev pub invariant-loop-found : goal.invariant-loop-found
invariant-loop-found l = l.self-inside.tree ++ steps_of (iter_rest l.self-inside.trees) ≡ l.fn.self

abbrev pub decreases-loop-found : goal.decreases-loop-found
decreases-loop-found l = length (iter_rest l.self-inside.trees)
