-- SPDX-License-Identifier: Apache-2.0
-- SPDX-FileCopyrightText: Copyright the Vortex contributors

use Rattle.std.proofs.Common.{◌≡◌, ◌++◌}
use Rattle.vortex_dtype.specs.TreeOf.{children, with_trees}
use Rattle.uses.specs.Loops.{collected_fields, renamed_fields}
use Rattle.uses.proofs.loops.rename_column.Given as goal

-- those so far, and then those that are left, are all
abbrev pub invariant-loop-name : goal.invariant-loop-name
invariant-loop-name l = collected_fields l.fields.items ++ renamed_fields l.from l.to (with_trees l.name-iterator) ≡ renamed_fields l.from l.to (children l.table)
