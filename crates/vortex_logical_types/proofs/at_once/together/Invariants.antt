-- SPDX-License-Identifier: Apache-2.0
-- SPDX-FileCopyrightText: Copyright the Vortex contributors

use Rattle.std.proofs.Common.{◌≡◌, length, map, take}
use Rattle.std.specs.List.{flat_map}
use Rattle.vortex_logical_types.proofs.at_once.together.Given as goal

-- the bytes and the lengths of the names so far
abbrev pub invariant-loop-name : goal.invariant-loop-name
invariant-loop-name l = record {
  bytes : l.bytes.items ≡ flat_map (λ n. n) (take l.name-index l.wanted);
  lengths : l.lengths.items ≡ map length (take l.name-index l.wanted);
}
