-- SPDX-License-Identifier: Apache-2.0
-- SPDX-FileCopyrightText: Copyright the Vortex contributors

-- What a slot contains. For example, `type_in` of a slot with the type i32 is `Some (primitive I32 NonNullable)`, and of a slot
-- with a path, or of an empty slot, it is `None`.
use Rattle.std.specs.Prelude.{ℕ, List, Option, Some, None, map}
use Rattle.c_objects.specs.declared.failure.Failure.{Failure}
use Rattle.c_objects.specs.declared.object.Object.{Object}
use Rattle.c_objects.specs.declared.object.Object.TheVariants.{DType, Path, Set, Paths, Mask, Message, Fields, Error}
use Rattle.dtype_messages.specs.Message.{Message as MessageTree}
use Rattle.dtype_messages.specs.MessageOf.{message}
use Rattle.dtype_paths.specs.PathOrder.{PathSet}
use Rattle.dtype_paths.specs.declared.field.Field.{Field}
use Rattle.dtype_paths.specs.declared.field_mask.FieldMask.{FieldMask}
use Rattle.dtype_types.specs.declared.dtype.DType.{DType as Logical}
use Rattle.dtype_types.specs.tree.Tree.{Tree}
use Rattle.dtype_types.specs.tree.TreeOf.{tree}

-- the kind of the object in a slot
abbrev pub object_kind : Option Object → ℕ
object_kind None = 0
object_kind (Some (DType d)) = 1
object_kind (Some (Path p)) = 2
object_kind (Some (Set s)) = 3
object_kind (Some (Paths ps)) = 4
object_kind (Some (Mask m)) = 5
object_kind (Some (Message m)) = 6
object_kind (Some (Fields fs)) = 7
object_kind (Some (Error e)) = 8

-- the object in a slot, or None if it isn't of this kind
abbrev pub type_in : Option Object → Option Tree
type_in (Some (DType d)) = Some (tree d)
type_in _ = None

abbrev pub path_in : Option Object → Option (List Field)
path_in (Some (Path p)) = Some p
path_in _ = None

abbrev pub set_in : Option Object → Option PathSet
set_in (Some (Set s)) = Some s
set_in _ = None

abbrev pub paths_in : Option Object → Option (List (List Field))
paths_in (Some (Paths ps)) = Some ps.items
paths_in _ = None

abbrev pub mask_in : Option Object → Option FieldMask
mask_in (Some (Mask m)) = Some m
mask_in _ = None

abbrev pub message_in : Option Object → Option MessageTree
message_in (Some (Message m)) = Some (message m)
message_in _ = None

-- Fields in the form in which contracts see them: each is the pair of its name and of the tree of its type. For example, the
-- field `id` of the type u64 is the pair of `id` and `primitive U64 NonNullable`.
abbrev pub pairs_of : List (List ℕ × Logical) → List (List ℕ × Tree)
pairs_of fs = map (λ f. (f.0, tree f.1)) fs

abbrev pub fields_in : Option Object → Option (List (List ℕ × Tree))
fields_in (Some (Fields fs)) = Some (pairs_of fs.items)
fields_in _ = None

abbrev pub error_in : Option Object → Option Failure
error_in (Some (Error e)) = Some e
error_in _ = None
