-- SPDX-License-Identifier: Apache-2.0
-- SPDX-FileCopyrightText: Copyright the Vortex contributors

use Rattle.std.proofs.Common.{◌≡◌, take}
use Rattle.vortex_logical_types.specs.Slots.{path_in}
use Rattle.vortex_logical_types.specs.Several.{GainsFirst, each_in, objects_in}
use Rattle.vortex_logical_types.proofs.sets.insert_all.Given as goal

-- the set has the paths of the slots so far besides; and every slot keeps its object
abbrev pub invariant-loop-slot : goal.invariant-loop-slot
invariant-loop-slot l = record {
  gains : GainsFirst (each_in path_in (take l.slot-index (objects_in l.fn.paths))) l.fn.members l.members;
  count : l.inserted ≡ l.slot-index;
  kept : objects_in l.paths ≡ objects_in l.fn.paths;
}
