-- SPDX-License-Identifier: Apache-2.0
-- SPDX-FileCopyrightText: Copyright the Vortex contributors

-- What the calls for Arrow's schemas do. `code` is the number that the export returns; `old` and `new` are what buffers contain
-- before and after the call; and `was` and `is` are what the slot `error` contains before and after it.
use Rattle.std.specs.Prelude.{◌≡◌, ◌⊎◌, ◌≤◌, ℕ, List, Option, Result, Ok, Err, codes, string_bytes}
use Rattle.c_arrow.specs.Faults.{Fault, deep_in, library_in, names_in, out_of_range, refused}
use Rattle.c_arrow.specs.Messages.{message_about, message_from, message_of}
use Rattle.c_arrow.specs.Read.{read_flat}
use Rattle.c_arrow.specs.Write.{nodes_and_texts}
use Rattle.c_arrow.specs.declared.fault.ArrowFault.{ArrowFault}
use Rattle.c_arrow.specs.declared.fault.ArrowFault.TheVariants.{OutOfMemory, OutOfRange, TooDeep, Refused}
use Rattle.c_arrow.specs.declared.fault.ArrowFault.TheVariants as fault
use Rattle.c_arrow.specs.declared.node.ArrowNode.{ArrowNode}
use Rattle.c_objects.specs.declared.failure.ArrowReason.{ArrowReason}
use Rattle.c_objects.specs.declared.failure.ArrowReason.TheVariants as arrow
use Rattle.c_objects.specs.declared.failure.Failure.{Failure}
use Rattle.c_objects.specs.declared.failure.Failure.TheVariants.{Library, Text, Deep, Arrow}
use Rattle.c_objects.specs.declared.object.Object.{Object}
use Rattle.dtype_text.specs.Grammar.{levels}
use Rattle.dtype_types.specs.tree.Tree.{Tree}
use Rattle.dtype_types.specs.tree.Valid.{Valid}
use Rattle.vortex_logical_types.specs.AtOnce.{Buffers, FillsWithBoth, SameBuffers}
use Rattle.vortex_logical_types.specs.Vocabulary.{Failed, Outcome, gives, gives_some, refuses, unless_memory}

-- this reason of Arrow's, with a message of which P is true
abbrev pub IsArrow : ArrowReason → (List ℕ → Type 0) → Failure → Type 0
IsArrow why P (Library e) = ⊥
IsArrow why P (Text at message) = ⊥
IsArrow why P (Deep at) = ⊥
IsArrow why P (Arrow reason message) = (reason ≡ why) × P (string_bytes message)

-- A reason of Arrow's is stored, with a message that says which field it is about, and why. For example, the message is
-- `column "item": a variant has no Arrow type` of a list of variants.
abbrev pub refuses_field : {X : Type 0} → ArrowReason → (List ℕ → Type 0) → Outcome X
refuses_field why P No Why Yes = Why (IsArrow why P)

-- the message that the type of the field with these names is nested too deeply
abbrev pub deep_message : List (List ℕ) → List ℕ
deep_message names = message_about names (codes "nested more than 128 levels deep")

-- The message names this field, and then says some text: what the `Display` of the library's error prints, which isn't specified.
abbrev pub IsAbout : List (List ℕ) → List ℕ → Type 0
IsAbout names message = (text : List ℕ) × (message ≡ message_about names text)

-- What a fault returns: 9 if nodes and texts are those of no schema, or else a reason with a message about a field. For example,
-- the reason is `TooDeep` for a schema of 129 lists inside one another, and the message names the list inside 127 others.
abbrev pub faulty : {X : Type 0} → Fault → Outcome X
faulty out_of_range = refuses 9
faulty (deep_in names) = refuses_field arrow.TooDeep (λ m. m ≡ deep_message names)
faulty (library_in names e) = refuses_field (arrow.Library e) (IsAbout names)
faulty (refused names format problem) = refuses_field arrow.Refused (λ m. m ≡ message_from names format problem)

-- the type that was read, which is valid and has at most 128 levels, or the fault
abbrev pub is_read : Result Tree Fault → Outcome Tree
is_read (Ok t) = gives_some (λ u. (u ≡ t) × (Valid u × (levels u ≤ 128)))
is_read (Err f) = faulty f

-- The type that nodes and texts describe. For example, it is `i32?` of one node with the flag 2 and the text `i`.
abbrev pub reads_arrow : List ArrowNode → List ℕ → Outcome Tree
reads_arrow nodes texts = unless_memory (is_read (read_flat nodes texts))

-- the nodes of a schema, and the bytes of its texts
abbrev pub FlatSchema : Type 0
FlatSchema = List ArrowNode × List ℕ

-- the schema that was written, or the fault
abbrev pub is_written : Result FlatSchema Fault → Outcome FlatSchema
is_written (Ok f) = gives f
is_written (Err f) = faulty f

-- The nodes and texts of a type's schema. For example, they are one node with the flag 2 and the text `i` of `i32?`.
abbrev pub writes_arrow : Tree → Outcome FlatSchema
writes_arrow t = unless_memory (is_written (nodes_and_texts t))

-- the result is a schema, whose nodes and texts are written, or a reason is stored in the slot `error`
abbrev pub FillsArrowOr : Outcome FlatSchema → ℕ → Buffers ArrowNode ℕ → Buffers ArrowNode ℕ → Option Object → Option Object → Type 0
FillsArrowOr o code old new was is =
    o (λ P. P code × SameBuffers old new × (is ≡ was)) (λ P. Failed P code is × SameBuffers old new)
    (λ P. (f : FlatSchema) × P f × FillsWithBoth f code old new × (is ≡ was))

-- This reason of Arrow's is stored, with a message of which P is true, unless memory is short.
abbrev pub StoresArrow : ArrowReason → (List ℕ → Type 0) → ℕ → Option Object → Option Object → Type 0
StoresArrow why P code was is = Failed (IsArrow why P) code is ⊎ ((code ≡ 100) × (is ≡ was))

-- The reason for a fault is stored, or its number is returned: 9 for nodes and texts of no schema, and 100 if memory is short.
abbrev pub StoresFault : ArrowFault → ℕ → Option Object → Option Object → Type 0
StoresFault OutOfMemory code was is = (code ≡ 100) × (is ≡ was)
StoresFault OutOfRange code was is = (code ≡ 9) × (is ≡ was)
StoresFault (TooDeep c) code was is = StoresArrow arrow.TooDeep (λ m. m ≡ deep_message (names_in c)) code was is
StoresFault (fault.Library c e) code was is = StoresArrow (arrow.Library e) (IsAbout (names_in c)) code was is
StoresFault (Refused r) code was is = StoresArrow arrow.Refused (λ m. m ≡ message_of r) code was is
