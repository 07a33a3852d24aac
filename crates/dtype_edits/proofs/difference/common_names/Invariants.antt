-- SPDX-License-Identifier: Apache-2.0
-- SPDX-FileCopyrightText: Copyright the Vortex contributors

use Rattle.std.proofs.Common.{◌≡◌, ◌++◌}
use Rattle.dtype_types.specs.tree.TreeOf.{children, with_trees}
use Rattle.dtype_edits.specs.Differences.{common_names}
use Rattle.dtype_edits.proofs.difference.common_names.Given as goal

-- the names so far, followed by those of the fields that are left, are all
abbrev pub invariant-loop-name : goal.invariant-loop-name
invariant-loop-name l = l.common.items ++ common_names (with_trees l.name-iterator) (children l.others) ≡ common_names (children l.fields) (children l.others)
