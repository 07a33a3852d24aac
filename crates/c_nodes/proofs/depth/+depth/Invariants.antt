-- SPDX-License-Identifier: Apache-2.0
-- SPDX-FileCopyrightText: Copyright the Vortex contributors

use Rattle.std.proofs.Common.{◌≡◌, ◌+◌, ◌*◌, drop, map, nat_le}
use Rattle.dtype_messages.specs.Message.{messages}
use Rattle.dtype_messages.specs.MessageOf.{message}
use Rattle.c_nodes.specs.Depth.{depth_all}
use Rattle.c_nodes.proofs.depth.+depth.Given as goal

abbrev pub decreases-fits : goal.decreases-fits
decreases-fits l = l.levels * 4 + 3

abbrev pub decreases-kind_fits : goal.decreases-kind_fits
decreases-kind_fits l = l.levels * 4 + 2

abbrev pub decreases-child_fits : goal.decreases-child_fits
decreases-child_fits l = l.levels * 4 + 1

abbrev pub decreases-all_fit : goal.decreases-all_fit
decreases-all_fit l = l.levels * 4 + 1

abbrev pub decreases-part_fits : goal.decreases-part_fits
decreases-part_fits l = l.levels * 4

-- all messages fit exactly if those that are left do
abbrev pub invariant-all_fit-loop-proto : goal.invariant-all_fit-loop-proto
invariant-all_fit-loop-proto l =
    nat_le (depth_all (messages (map message (drop l.proto-index l.protos)))) l.levels ≡ nat_le (depth_all (messages (map message l.fn.protos))) l.levels
