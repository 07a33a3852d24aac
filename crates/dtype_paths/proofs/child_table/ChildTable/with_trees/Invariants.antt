-- SPDX-License-Identifier: Apache-2.0
-- SPDX-FileCopyrightText: Copyright the Vortex contributors

use Rattle.std.proofs.Common.{◌≡◌, length}
use Rattle.dtype_paths.proofs.ChildTables.{AreEmpty}
use Rattle.dtype_paths.proofs.child_table.ChildTable.with_trees.Given as goal

abbrev pub invariant-loop : goal.invariant-loop
invariant-loop l = (length l.trees.items ≡ l.counter) × AreEmpty l.trees.items
