-- SPDX-License-Identifier: Apache-2.0
-- SPDX-FileCopyrightText: Copyright the Vortex contributors

use Rattle.std.proofs.Common.{◌≡◌, ◌≤◌, Some, length, map, take, vec_len, vec_capacity}
use Rattle.std.specs.Prelude.{slice_get}
use Rattle.std.specs.Map.{values_of}
use Rattle.dtype_types.specs.tree.TreeOf.{struct_pairs, tree}
use Rattle.dtype_types.proofs.struct_fields.StructFields.copies_at.Given as goal

-- copies of the types at the positions before this one, in a list with room for all
abbrev pub invariant-loop-position : goal.invariant-loop-position
invariant-loop-position l = record {
  each : map Some (map tree l.copies.items) ≡ map (slice_get (map tree (values_of (struct_pairs l.self)))) (take l.position-index l.positions);
  len : vec_len l.copies ≡ l.position-index;
  room : length l.positions ≤ vec_capacity l.copies;
}
