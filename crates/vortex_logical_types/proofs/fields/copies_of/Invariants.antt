-- SPDX-License-Identifier: Apache-2.0
-- SPDX-FileCopyrightText: Copyright the Vortex contributors

use Rattle.std.proofs.Common.{◌≡◌, ◌++◌, drop, map}
use Rattle.dtype_types.specs.parts.Lookups.{field_names, field_types}
use Rattle.dtype_types.specs.tree.TreeOf.{tree}
use Rattle.vortex_logical_types.specs.Slots.{pairs_of}
use Rattle.vortex_logical_types.proofs.fields.copies_of.Given as goal

-- the names and the types so far, before those of the fields that are left, are all names and types
abbrev pub invariant-loop-name : goal.invariant-loop-name
invariant-loop-name l = record {
  names : l.names.items ++ field_names (pairs_of (drop l.name-index l.fields.items)) ≡ field_names (pairs_of l.fn.fields.items);
  dtypes : map tree l.dtypes.items ++ field_types (pairs_of (drop l.name-index l.fields.items)) ≡ field_types (pairs_of l.fn.fields.items);
}
