-- SPDX-License-Identifier: Apache-2.0
-- SPDX-FileCopyrightText: Copyright the Vortex contributors

-- What a function that writes a message adds to the lists of nodes and of bytes that it is given.
use Rattle.std.specs.Prelude.{ℕ, List, IfOk, Result}
use Rattle.c_nodes.specs.Flat.{GrowsBy, flat_nodes, flat_texts}
use Rattle.c_nodes.specs.declared.node.Node.{Node}
use Rattle.c_nodes.specs.declared.write_fault.WriteFault.{WriteFault}
use Rattle.dtype_messages.specs.Message.{Message}

-- Unless the function fails, the nodes of the message are added. For example, the message of i32 adds one node.
abbrev pub WritesNodes : Result Unit WriteFault → Message → List Node → List Node → Type 0
WritesNodes result m old new = IfOk result (λ _. GrowsBy (flat_nodes m) old new)

-- Unless the function fails, the texts of the message are added. For example, the message of i32 adds none.
abbrev pub WritesTexts : Result Unit WriteFault → Message → List ℕ → List ℕ → Type 0
WritesTexts result m old new = IfOk result (λ _. GrowsBy (flat_texts m) old new)
