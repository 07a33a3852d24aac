-- SPDX-License-Identifier: Apache-2.0
-- SPDX-FileCopyrightText: Copyright the Vortex contributors

use Rattle.std.proofs.Common.{◌≡◌, ◌+◌, ◌<◌, ◌^◌, count_by, length, map}
use Rattle.dtype_types.specs.tree.Kinds.{is_nested}
use Rattle.dtype_types.specs.parts.Lookups.{field_types}
use Rattle.dtype_types.specs.tree.TreeOf.{children, tree}
use Rattle.uses.proofs.over_fields.count_nested_by_loop.Given as goal

-- those so far and those that are left are all
abbrev pub invariant-loop-dtype : goal.invariant-loop-dtype
invariant-loop-dtype l = record {
  all : l.count + count_by is_nested (map tree l.dtype-iterator) ≡ count_by is_nested (field_types (children l.table));
  fits : l.count + length (map tree l.dtype-iterator) < 2 ^ 64;
}
