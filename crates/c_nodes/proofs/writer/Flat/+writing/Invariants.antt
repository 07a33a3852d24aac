-- SPDX-License-Identifier: Apache-2.0
-- SPDX-FileCopyrightText: Copyright the Vortex contributors

use Rattle.std.proofs.Common.{◌≡◌, ◌≤◌, ◌+◌, ◌*◌, ◌++◌, map, take}
use Rattle.std.specs.List.{flat_map}
use Rattle.dtype_messages.specs.Message.{messages}
use Rattle.dtype_messages.specs.MessageOf.{message}
use Rattle.c_nodes.specs.Depth.{depth_all}
use Rattle.c_nodes.specs.Flat.{flat_nodes, flat_texts}
use Rattle.c_nodes.specs.Greatest.{greatest_all, most_in_node}
use Rattle.c_nodes.proofs.writer.Flat.+writing.Given as goal

abbrev pub decreases-message : goal.decreases-message
decreases-message l = l.levels * 5 + 4

abbrev pub decreases-kind : goal.decreases-kind
decreases-kind l = l.levels * 5 + 3

abbrev pub decreases-map : goal.decreases-map
decreases-map l = l.levels * 5 + 2

abbrev pub decreases-fields : goal.decreases-fields
decreases-fields l = l.levels * 5 + 2

abbrev pub decreases-variants : goal.decreases-variants
decreases-variants l = l.levels * 5 + 2

abbrev pub decreases-extension : goal.decreases-extension
decreases-extension l = l.levels * 5 + 2

abbrev pub decreases-child : goal.decreases-child
decreases-child l = l.levels * 5 + 1

abbrev pub decreases-part : goal.decreases-part
decreases-part l = l.levels * 5

abbrev pub decreases-all : goal.decreases-all
decreases-all l = l.levels * 5 + 1

-- what is written is what was, and that of the messages so far, none of which is too deep or has too great a number
abbrev pub invariant-all-loop-proto : goal.invariant-all-loop-proto
invariant-all-loop-proto l = record {
  nodes : l.self.nodes.items ≡ l.fn.self.nodes.items ++ flat_map flat_nodes (map message (take l.proto-index l.protos));
  texts : l.self.texts.items ≡ l.fn.self.texts.items ++ flat_map flat_texts (map message (take l.proto-index l.protos));
  depth : depth_all (messages (map message (take l.proto-index l.protos))) ≤ l.levels;
  fits : greatest_all (messages (map message (take l.proto-index l.protos))) ≤ most_in_node;
}
