-- SPDX-License-Identifier: Apache-2.0
-- SPDX-FileCopyrightText: Copyright the Vortex contributors

use Rattle.std.proofs.Common.{◌≡◌, ◌++◌, drop, length, map, take}
use Rattle.std.specs.Vec.Iter.{into_iter_items, into_iter_len}
use Rattle.vortex_logical_types.specs.AtOnce.{boxed}
use Rattle.vortex_logical_types.specs.Several.{objects_in}
use Rattle.vortex_logical_types.proofs.at_once.put_each.Given as goal

-- the slots so far have the first objects; the others have what they had
abbrev pub invariant-loop-slot : goal.invariant-loop-slot
invariant-loop-slot l = record {
  put : take l.slot-index (objects_in l.slots) ++ map boxed (into_iter_items l.left) ≡ map boxed l.fn.objects.items;
  rest : drop l.slot-index (objects_in l.slots) ≡ drop l.slot-index (objects_in l.fn.slots);
  count : into_iter_len l.left ≡ length (into_iter_items l.left);
  size : length l.slots ≡ length l.fn.slots;
}
