-- SPDX-License-Identifier: Apache-2.0
-- SPDX-FileCopyrightText: Copyright the Vortex contributors

-- The message of a type, with every child, flag and metadata, from the documentation of `to_proto`. Also the normal
-- form of a message, in which each extension has the metadata that the session keeps.
use Rattle.std.specs.Prelude.{◌≡◌, ℕ, ℤ, pos, List, map, Some, Bool, true, false}
use Rattle.dtype_base.specs.declared.nullability.Nullability.{Nullability}
use Rattle.dtype_base.specs.declared.nullability.Nullability.TheVariants.{NonNullable, Nullable}
use Rattle.dtype_base.specs.Primitives.{ptype_row}
use Rattle.dtype_types.specs.declared.extension.ExtDTypeRef.{ExtDTypeRef}
use Rattle.dtype_types.specs.parts.Lookups.{field_names, variant_names, variant_tags}
use Rattle.dtype_types.specs.tree.Tree as of
use Rattle.dtype_types.specs.tree.Tree.{Tree, Fields, no_items, pairs, Variants, item, triples, Holder, Items}
use Rattle.dtype_types.specs.tree.TreeOf.{extension_id, extension_metadata}
use Rattle.dtype_messages.specs.Message.{Message, Child, Messages, missing, null, bool, primitive, decimal, utf8, binary, list, fixed_size_list, map_of, struct, union, variant, extension, absent, present, no_message, more}
use Rattle.vortex_dtype.specs.Meaning.{Meaning, keeps}
use Rattle.vortex_dtype.specs.ReadInOrder.{or_empty}
use Rattle.vortex_dtype.specs.Reads.{ReadsChild}

-- the flag that a message has for a nullability
abbrev pub is_nullable : Nullability → Bool
is_nullable Nullable = true
is_nullable NonNullable = false

-- the names of fields and of variants, and the tags of variants
abbrev pub written_names : Fields → List (List ℕ)
written_names fs = field_names (pairs fs)

abbrev pub written_variant_names : Variants → List (List ℕ)
written_variant_names vs = variant_names (triples vs)

abbrev pub written_tags : Variants → List ℤ
written_tags vs = map pos (variant_tags (triples vs))

-- the message of a type: every child, flag and number, and the metadata, even if it is empty
abbrev mutual
  pub written : Tree → Message
  written of.null = null
  written (of.bool n) = bool (is_nullable n)
  written (of.primitive p n) = primitive (pos (ptype_row p).number) (is_nullable n)
  written (of.decimal d n) = decimal d.precision d.scale (is_nullable n)
  written (of.utf8 n) = utf8 (is_nullable n)
  written (of.binary n) = binary (is_nullable n)
  written (of.list x n) = list (present (written x)) (is_nullable n)
  written (of.fixed_size_list x k n) = fixed_size_list (present (written x)) k (is_nullable n)
  written (of.map_of x y o n) = map_of (present (written x)) (present (written y)) o (is_nullable n)
  written (of.struct fs n) = struct (written_names fs) (written_items fs) (is_nullable n)
  written (of.union vs n) = union (written_variant_names vs) (written_items vs) (written_tags vs) (is_nullable n)
  written (of.variant n) = variant (is_nullable n)
  written (of.extension id b x) = extension id (present (written x)) (Some b)

  -- each type of the fields, or of the variants
  pub written_items : {h : Holder} → Items h → Messages
  written_items no_items = no_message
  written_items (item n x g rest) = more (written x) (written_items rest)

-- the message of an extension over a storage with this message: its id, and its metadata, even if that is empty
abbrev pub extension_message : ExtDTypeRef → Message → Message
extension_message e storage = extension (extension_id e) (present storage) (Some (extension_metadata e))

-- The message with the metadata of each extension replaced by the bytes that the session keeps, from the innermost
-- storage outwards.
abbrev mutual
  pub Normal : Meaning → Message → Message → Type 0
  Normal s missing r = ⊥
  Normal s null r = r ≡ null
  Normal s (bool f) r = r ≡ bool f
  Normal s (primitive p f) r = r ≡ primitive p f
  Normal s (decimal p k f) r = r ≡ decimal p k f
  Normal s (utf8 f) r = r ≡ utf8 f
  Normal s (binary f) r = r ≡ binary f
  Normal s (list c f) r = (d : Child) × NormalChild s c d × (r ≡ list d f)
  Normal s (fixed_size_list c k f) r = (d : Child) × NormalChild s c d × (r ≡ fixed_size_list d k f)
  Normal s (map_of c v o f) r = (d : Child) × (w : Child) × NormalChild s c d × NormalChild s v w × (r ≡ map_of d w o f)
  Normal s (struct ns ms f) r = (qs : Messages) × NormalAll s ms qs × (r ≡ struct ns qs f)
  Normal s (union ns ms gs f) r = (qs : Messages) × NormalAll s ms qs × (r ≡ union ns qs gs f)
  Normal s (variant f) r = r ≡ variant f
  Normal s (extension id c b) r =
      (d : Child) × (x : Tree) × (kept : List ℕ) × NormalChild s c d × ReadsChild s c x × (keeps s id (or_empty b) x ≡ Some kept) × (r ≡ extension id d (Some kept))

  pub NormalChild : Meaning → Child → Child → Type 0
  NormalChild s absent d = ⊥
  NormalChild s (present m) d = (r : Message) × Normal s m r × (d ≡ present r)

  pub NormalAll : Meaning → Messages → Messages → Type 0
  NormalAll s no_message qs = qs ≡ no_message
  NormalAll s (more m ms) qs = (r : Message) × (rest : Messages) × Normal s m r × NormalAll s ms rest × (qs ≡ more r rest)
