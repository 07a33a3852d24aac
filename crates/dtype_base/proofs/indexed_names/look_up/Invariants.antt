-- SPDX-License-Identifier: Apache-2.0
-- SPDX-FileCopyrightText: Copyright the Vortex contributors

use Rattle.std.proofs.Common.{◌≡◌, ◌≤◌, Some, length, map, take, vec_len, vec_capacity}
use Rattle.dtype_base.specs.FieldNames.{first_place}
use Rattle.dtype_base.proofs.indexed_names.look_up.Given as goal

-- the names so far are looked up, in a list with room for all
abbrev pub invariant-loop-position : goal.invariant-loop-position
invariant-loop-position l = record {
  found : map Some l.found.items ≡ map (first_place l.names) (take l.position l.asked);
  len : vec_len l.found ≡ l.position;
  room : length l.asked ≤ vec_capacity l.found;
}
