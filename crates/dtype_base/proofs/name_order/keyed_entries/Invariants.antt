-- SPDX-License-Identifier: Apache-2.0
-- SPDX-FileCopyrightText: Copyright the Vortex contributors

use Rattle.std.proofs.Common.{◌≡◌, ◌≤◌, length, vec_len, vec_capacity}
use Rattle.std.specs.List.{All, range_with_len}
use Rattle.dtype_base.specs.private.NameOrder.{IsKeyed, positions}
use Rattle.dtype_base.proofs.name_order.keyed_entries.Given as goal

-- an entry for each position so far, in a list with room for all
abbrev pub invariant-loop-position : goal.invariant-loop-position
invariant-loop-position l = record {
  in_order : positions l.bits l.entries.items ≡ range_with_len 0 l.position;
  keyed : All (IsKeyed l.names l.bits) l.entries.items;
  len : vec_len l.entries ≡ l.position;
  room : length l.names ≤ vec_capacity l.entries;
}
