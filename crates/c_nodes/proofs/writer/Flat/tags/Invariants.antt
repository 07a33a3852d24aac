-- SPDX-License-Identifier: Apache-2.0
-- SPDX-FileCopyrightText: Copyright the Vortex contributors

use Rattle.std.proofs.Common.{◌≡◌, ◌++◌, map, take}
use Rattle.c_nodes.specs.Flat.{tag_node}
use Rattle.c_nodes.proofs.writer.Flat.tags.Given as goal

abbrev pub invariant-loop-tag : goal.invariant-loop-tag
invariant-loop-tag l = record {
  nodes : l.self.nodes.items ≡ l.fn.self.nodes.items ++ map tag_node (take l.tag-index l.tags);
  texts : l.self.texts.items ≡ l.fn.self.texts.items;
}
