-- SPDX-License-Identifier: Apache-2.0
-- SPDX-FileCopyrightText: Copyright the Vortex contributors

use Rattle.std.proofs.Common.{◌≡◌, ◌++◌}
use Rattle.dtype_types.specs.tree.TreeOf.{with_trees}
use Rattle.dtype_types.proofs.field_list.FieldList.with_copies.Given as goal

-- the fields so far, followed by those that are left, are all
abbrev pub invariant-loop-name : goal.invariant-loop-name
invariant-loop-name l = with_trees l.fields ++ with_trees l.name-iterator ≡ with_trees l.fn.self ++ with_trees l.fn.more
