-- SPDX-License-Identifier: Apache-2.0
-- SPDX-FileCopyrightText: Copyright the Vortex contributors

-- What single calls for messages do.
use Rattle.std.specs.Prelude.{◌≡◌, ◌⊎◌, ◌<◌, ◌≤◌, ℕ, Bool, true, false, List, Result, Ok, Err}
use Rattle.c_nodes.specs.Depth.{depth}
use Rattle.c_nodes.specs.Flat.{flat_nodes, flat_texts}
use Rattle.c_nodes.specs.Greatest.{greatest, most_in_node}
use Rattle.c_nodes.specs.Read.{read_flat}
use Rattle.c_nodes.specs.declared.fault.NodeFault.{NodeFault}
use Rattle.c_nodes.specs.declared.fault.NodeFault.TheVariants.{NotUtf8, OutOfMemory, OutOfRange, TooDeep}
use Rattle.c_nodes.specs.declared.node.Node.{Node}
use Rattle.dtype_base.specs.declared.vortex_error.VortexError.{VortexError}
use Rattle.dtype_messages.specs.Message.{Message}
use Rattle.dtype_types.specs.tree.Tree.{Tree}
use Rattle.vortex_dtype.specs.Meaning.{Meaning, allow_unknown_in, empty_meaning}
use Rattle.vortex_dtype.specs.ReadInOrder.{read}
use Rattle.vortex_dtype.specs.Written.{written}
use Rattle.vortex_logical_types.specs.Vocabulary.{Outcome, gives, refuses, unless_deep}

-- the session with which an export reads a message: no plugin is registered, and unknown ids are kept if the flag is
-- true
abbrev pub session_of : Bool → Meaning
session_of true = allow_unknown_in empty_meaning
session_of false = empty_meaning

-- the type that a message describes with this session, or the first fault of the message
abbrev pub type_of_message : Bool → Message → Result Tree VortexError
type_of_message unknown m = read (session_of unknown) m

-- the message of the type that was read, or the fault
abbrev pub written_of : Result Tree VortexError → Result Message VortexError
written_of (Ok t) = Ok (written t)
written_of (Err e) = Err e

-- the normal form of a message, or the first fault of the message
abbrev pub normal_of : Bool → Message → Result Message VortexError
normal_of unknown m = written_of (type_of_message unknown m)

-- the number that is returned for each reason why nodes and texts aren't those of a message
abbrev pub node_code : NodeFault → ℕ
node_code OutOfMemory = 100
node_code NotUtf8 = 3
node_code TooDeep = 6
node_code OutOfRange = 9

-- the message that was read, or the number of the fault
abbrev pub message_or_code : Result Message NodeFault → Outcome Message
message_or_code (Ok m) = gives m
message_or_code (Err e) = refuses (node_code e)

-- The message of nodes and texts, or the number of the first fault: 3 if a name or an id isn't UTF-8, 6 if a message is nested
-- in more than 128 others, and 9 if a node isn't one that a message has at its place, if nodes or bytes end too early, or if
-- some are left. There is a fault only if no message that is nested in at most 128 others, and whose names and ids are UTF-8,
-- has these nodes and texts.
abbrev pub reads_nodes : List Node → List ℕ → Outcome Message
reads_nodes nodes texts = message_or_code (read_flat nodes texts)

-- The outcome if the number fits a node, which has 32 bits for it, and 9 otherwise.
abbrev pub if_in_node : {X : Type 0} → ℕ → Outcome X → Outcome X
if_in_node n o No Why Yes = ((n ≤ most_in_node) × o No Why Yes) ⊎ ((most_in_node < n) × refuses 9 No Why Yes)

-- The nodes and the texts of a message: 6 if a message is nested in more than 128 others, and otherwise 9 if a number of names,
-- tags, types or bytes of a text is above 2^32 - 1. For example, of the message of `i32` it is one node and no bytes.
abbrev pub flattens : Message → Outcome (List Node × List ℕ)
flattens m = unless_deep (depth m) (if_in_node (greatest m) (gives (flat_nodes m, flat_texts m)))
