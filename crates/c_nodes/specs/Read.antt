-- SPDX-License-Identifier: Apache-2.0
-- SPDX-FileCopyrightText: Copyright the Vortex contributors

-- What is read of nodes and texts: a message, or the first fault. A reader takes what it reads from the front of both lists
-- and returns it with what is left of them.
use Rattle.std.specs.Prelude.{◌≡◌, ℕ, ℤ, zero, suc, List, [], ◌∷◌, Option, Some, None, Result, Ok, Err, Bool, true, false, if◌then◌else◌, length, take, drop, nat_lt}
use Rattle.std.specs.Str.{is_utf8}
use Rattle.dtype_messages.specs.Message.{Message, Child, messages, missing, null, bool, primitive, decimal, utf8, binary, list, fixed_size_list, map_of, struct, union, variant, extension, absent, present}
use Rattle.c_nodes.specs.Kinds.{kind_of}
use Rattle.c_nodes.specs.declared.fault.NodeFault.{NodeFault}
use Rattle.c_nodes.specs.declared.fault.NodeFault.TheVariants.{OutOfMemory, NotUtf8, TooDeep, OutOfRange}
use Rattle.c_nodes.specs.declared.kind.NodeKind.{NodeKind}
use Rattle.c_nodes.specs.declared.kind.NodeKind.TheVariants as k
use Rattle.c_nodes.specs.declared.node.Node.{Node}

-- nodes and bytes that haven't been read
abbrev pub Left : Type 0
Left = List Node × List ℕ

abbrev pub Reader : Type 0 → Type 0
Reader A = Left → Result (A × Left) NodeFault

-- what follows a value that was read
infixl 10 ◌>>=◌
abbrev pub ◌>>=◌ : {A B : Type 0} → Result A NodeFault → (A → Result B NodeFault) → Result B NodeFault
(Ok x) >>= f = f x
(Err e) >>= f = Err e

-- ---- nodes and texts

abbrev pub kind_or_fault : Option NodeKind → Left → Result (NodeKind × Left) NodeFault
kind_or_fault (Some k) left = Ok (k, left)
kind_or_fault None left = Err OutOfRange

-- the kind of the next node
abbrev pub kind_in : List Node → List ℕ → Result (NodeKind × Left) NodeFault
kind_in [] texts = Err OutOfRange
kind_in (n ∷ nodes) texts = kind_or_fault (kind_of n) (nodes, texts)

unfoldable pub kind_at : Reader NodeKind
kind_at left = kind_in left.0 left.1

-- this many bytes
unfoldable pub bytes_at : ℕ → Reader (List ℕ)
bytes_at n left = if nat_lt (length left.1) n then Err OutOfRange else Ok (take n left.1, (left.0, drop n left.1))

-- the bytes of a text, after its node
abbrev pub text_of : NodeKind → Reader (List ℕ)
text_of (k.Text n) left = bytes_at n left
text_of _ left = Err OutOfRange

-- a text
unfoldable pub text_at : Reader (List ℕ)
text_at left = do
  k ← kind_at left
  text_of k.0 k.1

-- a name or an id
unfoldable pub name_at : Reader (List ℕ)
name_at left = do
  t ← text_at left
  if is_utf8 t.0 then Ok t else Err NotUtf8

abbrev pub tag_of : NodeKind → Reader ℤ
tag_of (k.Tag t) left = Ok (t, left)
tag_of _ left = Err OutOfRange

-- a tag
unfoldable pub tag_at : Reader ℤ
tag_at left = do
  k ← kind_at left
  tag_of k.0 k.1

-- the metadata of an extension, if it has some
unfoldable pub metadata_at : Bool → Reader (Option (List ℕ))
metadata_at false left = Ok (None, left)
metadata_at true left = do
  t ← text_at left
  Ok (Some t.0, t.1)

-- so many items, one after the other
abbrev pub times : {A : Type 0} → ℕ → Reader A → Reader (List A)
times zero item left = Ok ([], left)
times (suc n) item left = item left >>= λ x. times n item x.1 >>= λ xs. Ok (x.0 ∷ xs.0, xs.1)

-- ---- messages. `part` reads a message within another.

-- a part, if there is one
unfoldable pub child_by : Reader Message → Bool → Reader Child
child_by part false left = Ok (absent, left)
child_by part true left = do
  m ← part left
  Ok (present m.0, m.1)

unfoldable pub list_by : Reader Message → Bool → Bool → Reader Message
list_by part e f left = do
  c ← child_by part e left
  Ok (list c.0 f, c.1)

unfoldable pub fixed_by : Reader Message → Bool → ℕ → Bool → Reader Message
fixed_by part e n f left = do
  c ← child_by part e left
  Ok (fixed_size_list c.0 n f, c.1)

unfoldable pub map_by : Reader Message → Bool → Bool → Bool → Bool → Reader Message
map_by part has_key has_value sorted f left = do
  key ← child_by part has_key left
  value ← child_by part has_value key.1
  Ok (map_of key.0 value.0 sorted f, value.1)

unfoldable pub struct_by : Reader Message → ℕ → ℕ → Bool → Reader Message
struct_by part names types f left = do
  ns ← times names name_at left
  ms ← times types part ns.1
  Ok (struct ns.0 (messages ms.0) f, ms.1)

unfoldable pub union_by : Reader Message → ℕ → ℕ → ℕ → Bool → Reader Message
union_by part names tags types f left = do
  ns ← times names name_at left
  gs ← times tags tag_at ns.1
  ms ← times types part gs.1
  Ok (union ns.0 (messages ms.0) gs.0 f, ms.1)

unfoldable pub extension_by : Reader Message → Bool → Bool → Reader Message
extension_by part has_storage has_metadata left = do
  id ← name_at left
  metadata ← metadata_at has_metadata id.1
  storage ← child_by part has_storage metadata.1
  Ok (extension id.0 storage.0 metadata.0, storage.1)

-- what is behind the first node of a message
unfoldable pub after_kind : Reader Message → NodeKind → Reader Message
after_kind part k.Missing left = Ok (missing, left)
after_kind part k.Null left = Ok (null, left)
after_kind part (k.Bool f) left = Ok (bool f, left)
after_kind part (k.Primitive p f) left = Ok (primitive p f, left)
after_kind part (k.Decimal p s f) left = Ok (decimal p s f, left)
after_kind part (k.Utf8 f) left = Ok (utf8 f, left)
after_kind part (k.Binary f) left = Ok (binary f, left)
after_kind part (k.List e f) left = list_by part e f left
after_kind part (k.FixedSizeList e n f) left = fixed_by part e n f left
after_kind part (k.Map a b o f) left = map_by part a b o f left
after_kind part (k.Struct ns ts f) left = struct_by part ns ts f left
after_kind part (k.Union ns gs ts f) left = union_by part ns gs ts f left
after_kind part (k.Variant f) left = Ok (variant f, left)
after_kind part (k.Extension s b) left = extension_by part s b left
after_kind part (k.Text n) left = Err OutOfRange
after_kind part (k.Tag t) left = Err OutOfRange

unfoldable pub message_by : Reader Message → Reader Message
message_by part left = do
  k ← kind_at left
  after_kind part k.0 k.1

-- a message within so many others
abbrev pub part_at : ℕ → Reader Message
part_at zero left = Err TooDeep
part_at (suc levels) left = message_by (part_at levels) left

-- a message, if nothing is left
abbrev pub all_of : Message × Left → Result Message NodeFault
all_of (m, ([], [])) = Ok m
all_of (m, _) = Err OutOfRange

-- The message of these nodes and texts. For example, it is that of i32 for the node of a primitive type with the value 6 and no
-- texts, and the fault is `OutOfRange` if a byte is left.
unfoldable pub read_flat : List Node → List ℕ → Result Message NodeFault
read_flat nodes texts = message_by (part_at 128) (nodes, texts) >>= all_of

-- ---- contracts

-- the fault is what is read, unless memory ran out
abbrev pub Stops : {Y : Type 0} → NodeFault → Result Y NodeFault → Type 0
Stops OutOfMemory read = Unit {0}
Stops NotUtf8 read = read ≡ Err NotUtf8
Stops TooDeep read = read ≡ Err TooDeep
Stops OutOfRange read = read ≡ Err OutOfRange

-- what a function returned, seen by view, is what is read with what is left, unless memory ran out
abbrev pub Reads : {X Y : Type 0} → (X → Y) → Result X NodeFault → Left → Result (Y × Left) NodeFault → Type 0
Reads view (Ok x) left read = read ≡ Ok (view x, left)
Reads view (Err e) left read = Stops e read

-- the same, of a function that reads everything
abbrev pub ReadsAll : {X Y : Type 0} → (X → Y) → Result X NodeFault → Result Y NodeFault → Type 0
ReadsAll view (Ok x) read = read ≡ Ok (view x)
ReadsAll view (Err e) read = Stops e read
