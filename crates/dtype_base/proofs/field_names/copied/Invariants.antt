-- SPDX-License-Identifier: Apache-2.0
-- SPDX-FileCopyrightText: Copyright the Vortex contributors

use Rattle.std.proofs.Common.{◌≡◌, ◌≤◌, length, take, vec_len, vec_capacity}
use Rattle.dtype_base.proofs.field_names.copied.Given as goal

-- the names so far, in a list with room for all
abbrev pub invariant-loop-name : goal.invariant-loop-name
invariant-loop-name l = record {
  each : l.items.items ≡ take l.name-index l.names;
  len : vec_len l.items ≡ l.name-index;
  room : length l.names ≤ vec_capacity l.items;
}
