-- SPDX-License-Identifier: Apache-2.0
-- SPDX-FileCopyrightText: Copyright the Vortex contributors

use Rattle.std.proofs.Common.{◌≡◌, ◌+◌, ◌*◌, ◌-◌, map}
use Rattle.dtype_messages.specs.MessageOf.{message}
use Rattle.c_nodes.specs.Read.{part_at, times}
use Rattle.c_nodes.specs.Rests.{left}
use Rattle.c_nodes.proofs.Reading.{behind}
use Rattle.c_nodes.proofs.reader.+reading.Given as goal

abbrev pub decreases-read : goal.decreases-read
decreases-read l = l.levels * 6 + 4

abbrev pub decreases-read_kind : goal.decreases-read_kind
decreases-read_kind l = l.levels * 6 + 3

abbrev pub decreases-read_list : goal.decreases-read_list
decreases-read_list l = l.levels * 6 + 2

abbrev pub decreases-read_fixed : goal.decreases-read_fixed
decreases-read_fixed l = l.levels * 6 + 2

abbrev pub decreases-read_map : goal.decreases-read_map
decreases-read_map l = l.levels * 6 + 2

abbrev pub decreases-read_struct : goal.decreases-read_struct
decreases-read_struct l = l.levels * 6 + 2

abbrev pub decreases-read_union : goal.decreases-read_union
decreases-read_union l = l.levels * 6 + 2

abbrev pub decreases-read_extension : goal.decreases-read_extension
decreases-read_extension l = l.levels * 6 + 2

abbrev pub decreases-read_child : goal.decreases-read_child
decreases-read_child l = l.levels * 6 + 1

abbrev pub decreases-read_part : goal.decreases-read_part
decreases-read_part l = l.levels * 6

abbrev pub decreases-read_all : goal.decreases-read_all
decreases-read_all l = l.levels * 6 + 1

-- the messages so far, and those that are still read, are all that is read
abbrev pub invariant-read_all-loop-at : goal.invariant-read_all-loop-at
invariant-read_all-loop-at l = behind (map message l.protos.items) (times (l.wanted - l._at) (part_at l.levels) (left l.rest)) ≡ times l.wanted (part_at l.levels) (left l.fn.rest)
