-- SPDX-License-Identifier: Apache-2.0
-- SPDX-FileCopyrightText: Copyright the Vortex contributors

use Rattle.std.proofs.Common.{◌≡◌, ◌-◌}
use Rattle.c_nodes.specs.Read.{tag_at, times}
use Rattle.c_nodes.specs.Rests.{left}
use Rattle.c_nodes.proofs.Reading.{behind}
use Rattle.c_nodes.proofs.reader.Rest.tags.Given as goal

-- the tags so far, and those that are still read, are all that is read
abbrev pub invariant-loop-at : goal.invariant-loop-at
invariant-loop-at l = behind l.tags.items (times (l.wanted - l._at) tag_at (left l.self)) ≡ times l.wanted tag_at (left l.fn.self)
