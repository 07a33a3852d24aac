-- SPDX-License-Identifier: Apache-2.0
-- SPDX-FileCopyrightText: Copyright the Vortex contributors

use Rattle.std.proofs.Common.{◌≡◌, ◌-◌, map, string_bytes}
use Rattle.c_nodes.specs.Read.{name_at, times}
use Rattle.c_nodes.specs.Rests.{left}
use Rattle.c_nodes.proofs.Reading.{behind}
use Rattle.c_nodes.proofs.reader.Rest.names.Given as goal

-- the names so far, and those that are still read, are all that is read
abbrev pub invariant-loop-at : goal.invariant-loop-at
invariant-loop-at l = behind (map string_bytes l.names.items) (times (l.wanted - l._at) name_at (left l.self)) ≡ times l.wanted name_at (left l.fn.self)
