-- SPDX-License-Identifier: Apache-2.0
-- SPDX-FileCopyrightText: Copyright the Vortex contributors

-- Which type a message tree reads as, under a session; from the documentation of `DType` and of its messages.
use Rattle.std.specs.Prelude.{◌≡◌, ◌≢◌, ◌⊎◌, ℕ, ◌+◌, ◌≤◌, ℤ, pos, neg_ℤ, ◌<ℤ◌, List, [], ◌∷◌, length, map, Some, None}
use Rattle.std.specs.List.{zip}
use Rattle.dtype_base.specs.declared.nullability.Nullability.TheVariants.{NonNullable, Nullable}
use Rattle.dtype_base.specs.declared.ptype.PType.{PType}
use Rattle.dtype_base.specs.declared.vortex_error.VortexError.{VortexError}
use Rattle.dtype_base.specs.declared.vortex_error.VortexError.TheVariants.{MapKeyNullable, Message as Faulty}
use Rattle.dtype_base.specs.declared.vortex_error.MessageFault.{MessageFault}
use Rattle.dtype_base.specs.declared.vortex_error.MessageFault.TheVariants.{TypeMissing, PrimitiveNumber, PrecisionRange, ScaleRange, ListElementMissing, FixedElementMissing, MapKeyMissing, MapValueMissing, StructLengths, TypeIdRange, StorageMissing}
use Rattle.dtype_base.specs.Primitives.{ptype_row}
use Rattle.dtype_base.specs.Decimals.{Decimal, IsValidDecimal, DecimalError, greatest_precision}
use Rattle.dtype_base.specs.Nullability.{nullability_of}
use Rattle.dtype_types.specs.nullability.Nullable.{nullability}
use Rattle.dtype_types.specs.parts.Unions.{MakesUnion, UnionError}
use Rattle.dtype_types.specs.tree.Tree as of
use Rattle.dtype_types.specs.tree.Tree.{Tree, fields, variants}
use Rattle.dtype_messages.specs.Message.{Message, Child, Messages, missing, null, bool, primitive, decimal, utf8, binary, list, fixed_size_list, map_of, struct, union, variant, extension, absent, present, no_message, more}
use Rattle.vortex_dtype.specs.Meaning.{Meaning, keeps, unkept_error}
use Rattle.vortex_dtype.specs.Numbers.{integer_byte}
use Rattle.vortex_dtype.specs.ReadInOrder.{or_empty}

-- the number of a primitive type, as messages have it
abbrev pub number : PType → ℤ
number p = pos (ptype_row p).number

-- the decimal of a precision and a scale
abbrev pub decimal_with : ℕ → ℤ → Decimal
decimal_with p k = record { precision = p; scale = k }

-- each of the integers is from 0 to 255, and together they are these bytes
abbrev pub AreBytes : List ℤ → List ℕ → Type 0
AreBytes [] [] = Unit {0}
AreBytes (g ∷ gs) (k ∷ tags) = (integer_byte g ≡ Some k) × AreBytes gs tags
AreBytes _ _ = ⊥

-- the message reads as the type t, with the session s
abbrev mutual
  pub Reads : Meaning → Message → Tree → Type 0
  Reads s missing t = ⊥
  Reads s null t = t ≡ of.null
  Reads s (bool f) t = t ≡ of.bool (nullability_of f)
  -- the number is one of the table of primitive types
  Reads s (primitive k f) t = (p : PType) × (k ≡ number p) × (t ≡ of.primitive p (nullability_of f))
  Reads s (decimal p k f) t = IsValidDecimal (decimal_with p k) × (t ≡ of.decimal (decimal_with p k) (nullability_of f))
  Reads s (utf8 f) t = t ≡ of.utf8 (nullability_of f)
  Reads s (binary f) t = t ≡ of.binary (nullability_of f)
  Reads s (list c f) t = (x : Tree) × ReadsChild s c x × (t ≡ of.list x (nullability_of f))
  Reads s (fixed_size_list c k f) t = (x : Tree) × ReadsChild s c x × (t ≡ of.fixed_size_list x k (nullability_of f))
  Reads s (map_of k v o f) t =
      (x : Tree) × (y : Tree) × ReadsChild s k x × ReadsChild s v y × (nullability x ≡ NonNullable) × (t ≡ of.map_of x y o (nullability_of f))
  -- every type reads, and there are as many names
  Reads s (struct ns ms f) t = (ts : List Tree) × ReadsAll s ms ts × (length ns ≡ length ts) × (t ≡ of.struct (fields (zip ns ts)) (nullability_of f))
  -- every type reads, every tag is from 0 to 255, and the names, types and tags make a union
  Reads s (union ns ms gs f) t =
      (ts : List Tree) × (tags : List ℕ) × ReadsAll s ms ts × AreBytes gs tags × MakesUnion ns (length ts) tags
      × (t ≡ of.union (variants (zip ns (zip ts tags))) (nullability_of f))
  Reads s (variant f) t = t ≡ of.variant (nullability_of f)
  Reads s (extension id c b) t =
      (x : Tree) × (kept : List ℕ) × ReadsChild s c x × (keeps s id (or_empty b) x ≡ Some kept) × (t ≡ of.extension id kept x)

  -- the child is there, and reads
  pub ReadsChild : Meaning → Child → Tree → Type 0
  ReadsChild s absent t = ⊥
  ReadsChild s (present m) t = Reads s m t

  -- the messages read as these types, in order
  pub ReadsAll : Meaning → Messages → List Tree → Type 0
  ReadsAll s no_message [] = Unit {0}
  ReadsAll s (more m ms) (t ∷ ts) = Reads s m t × ReadsAll s ms ts
  ReadsAll s _ _ = ⊥

-- the message reads as no type
abbrev pub ReadsAsNothing : Meaning → Message → Type 0
ReadsAsNothing s m = (t : Tree) → Reads s m t → ⊥

-- how many messages there are
abbrev pub message_count : Messages → ℕ
message_count no_message = 0
message_count (more m ms) = message_count ms + 1

-- some tag isn't from 0 to 255
abbrev pub SomeTagFault : List ℤ → Type 0
SomeTagFault [] = ⊥
SomeTagFault (g ∷ gs) = (integer_byte g ≡ None) ⊎ SomeTagFault gs

-- what is wrong with a decimal's numbers
abbrev pub DecimalFault : ℕ → ℤ → VortexError → Type 0
DecimalFault p k e =
    ((e ≡ Faulty PrecisionRange) × (256 ≤ p)) ⊎ (((e ≡ Faulty ScaleRange) × ((k <ℤ neg_ℤ (pos 128)) ⊎ (pos 127 <ℤ k))) ⊎ DecimalError greatest_precision p k e)

-- what is wrong with a union's names, types and tags
abbrev pub UnionFault : List (List ℕ) → ℕ → List ℤ → VortexError → Type 0
UnionFault ns types gs e =
    ((e ≡ Faulty TypeIdRange) × SomeTagFault gs) ⊎ ((tags : List ℕ) × (gs ≡ map pos tags) × UnionError ns types tags e)

-- The message, or a message inside it, has the fault that this error is about.
abbrev mutual
  pub Fault : Meaning → Message → VortexError → Type 0
  Fault s missing e = e ≡ Faulty TypeMissing
  Fault s null e = ⊥
  Fault s (bool f) e = ⊥
  Fault s (primitive n f) e = (e ≡ Faulty PrimitiveNumber) × ((p : PType) → n ≢ number p)
  Fault s (decimal p c f) e = DecimalFault p c e
  Fault s (utf8 f) e = ⊥
  Fault s (binary f) e = ⊥
  Fault s (list c f) e = ChildFault s ListElementMissing c e
  Fault s (fixed_size_list c n f) e = ChildFault s FixedElementMissing c e
  Fault s (map_of c v o f) e =
      ChildFault s MapKeyMissing c e ⊎ (ChildFault s MapValueMissing v e ⊎ ((e ≡ MapKeyNullable) × (x : Tree) × ReadsChild s c x × (nullability x ≡ Nullable)))
  Fault s (struct ns ms f) e = SomeFault s ms e ⊎ ((e ≡ Faulty StructLengths) × (length ns ≢ message_count ms))
  Fault s (union ns ms gs f) e = SomeFault s ms e ⊎ UnionFault ns (message_count ms) gs e
  Fault s (variant f) e = ⊥
  Fault s (extension id c b) e =
      ChildFault s StorageMissing c e ⊎ ((e ≡ unkept_error s id) × (x : Tree) × ReadsChild s c x × (keeps s id (or_empty b) x ≡ None))

  -- a child that is missing, which is the fault j, or a fault in it
  pub ChildFault : Meaning → MessageFault → Child → VortexError → Type 0
  ChildFault s j absent e = e ≡ Faulty j
  ChildFault s j (present m) e = Fault s m e

  pub SomeFault : Meaning → Messages → VortexError → Type 0
  SomeFault s no_message e = ⊥
  SomeFault s (more m ms) e = Fault s m e ⊎ SomeFault s ms e
