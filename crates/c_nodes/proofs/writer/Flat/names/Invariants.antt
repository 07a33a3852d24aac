-- SPDX-License-Identifier: Apache-2.0
-- SPDX-FileCopyrightText: Copyright the Vortex contributors

use Rattle.std.proofs.Common.{◌≡◌, ◌≤◌, ◌++◌, map, take, string_bytes}
use Rattle.std.specs.List.{flat_map}
use Rattle.c_nodes.specs.Flat.{text_node}
use Rattle.c_nodes.specs.Greatest.{longest, most_in_node}
use Rattle.c_nodes.proofs.writer.Flat.names.Given as goal

abbrev pub invariant-loop-name : goal.invariant-loop-name
invariant-loop-name l = record {
  nodes : l.self.nodes.items ≡ l.fn.self.nodes.items ++ map text_node (map string_bytes (take l.name-index l.names));
  fits : longest (map string_bytes (take l.name-index l.names)) ≤ most_in_node;
  texts : l.self.texts.items ≡ l.fn.self.texts.items ++ flat_map (λ n. n) (map string_bytes (take l.name-index l.names));
}
