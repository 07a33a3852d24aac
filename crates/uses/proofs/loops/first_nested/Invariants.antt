-- SPDX-License-Identifier: Apache-2.0
-- SPDX-FileCopyrightText: Copyright the Vortex contributors

use Rattle.std.proofs.Common.{◌≡◌, find, map}
use Rattle.dtype_types.specs.parts.Lookups.{field_types}
use Rattle.dtype_types.specs.tree.Kinds.{is_nested}
use Rattle.dtype_types.specs.tree.TreeOf.{children, tree}
use Rattle.uses.proofs.loops.first_nested.Given as goal

-- the first of those that are left is the first of all
abbrev pub invariant-loop-dtype : goal.invariant-loop-dtype
invariant-loop-dtype l = find is_nested (map tree l.dtype-iterator) ≡ find is_nested (field_types (children l.table))
