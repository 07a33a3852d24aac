-- SPDX-License-Identifier: Apache-2.0
-- SPDX-FileCopyrightText: Copyright the Vortex contributors

-- The width of a type in bytes. A type is of fixed width if all its values take the same number of bytes. From the
-- documentation of `DType::element_size`: `Null` takes 0 bytes, a Boolean 1 byte, a number the width of its primitive
-- type, a decimal the width of its storage type, a fixed-size list its size times the width of its element type, a
-- struct the sum of the widths of its fields, and an extension the width of its storage type.
use Rattle.std.specs.Prelude.{◌≡◌, ◌⊎◌, ℕ, ◌+◌, ◌*◌, ◌^◌, ◌≤◌, List, Option, Some, None}
use Rattle.dtype_base.specs.Primitives.{ptype_row}
use Rattle.dtype_base.specs.Decimals.{smallest_storage, storage}
use Rattle.dtype_base.specs.declared.nullability.Nullability.{Nullability}
use Rattle.dtype_base.specs.declared.decimal.DecimalType.{DecimalType}
use Rattle.dtype_types.specs.tree.Tree.{Tree, Fields, no_items, fields, null, bool, primitive, decimal, list, fixed_size_list, struct, extension, item}
use Rattle.dtype_types.specs.declared.dtype.width.Width.{Width}
use Rattle.dtype_types.specs.declared.dtype.width.Width.TheVariants.{Variable, TooWide, Bytes}

-- All values of the type take the same number of bytes. A fixed-size list is of fixed width only if its element type
-- is, even if its size is 0.
abbrev mutual
  pub Fixed : Tree → Type 0
  Fixed null = Unit {0}
  Fixed (bool n) = Unit {0}
  Fixed (primitive p n) = Unit {0}
  Fixed (decimal d n) = Unit {0}
  Fixed (fixed_size_list t k n) = Fixed t
  Fixed (struct fs n) = FixedFields fs
  Fixed (extension id b s) = Fixed s
  Fixed _ = ⊥

  -- the type of each field is of fixed width
  pub FixedFields : Fields → Type 0
  FixedFields no_items = Unit {0}
  FixedFields (item n t _ rest) = Fixed t × FixedFields rest

-- the width of a storage type
abbrev pub storage_bytes : Option DecimalType → ℕ
storage_bytes (Some s) = (storage s).bytes
storage_bytes None = 0

-- the width of a type of fixed width
abbrev mutual
  pub width : Tree → ℕ
  width null = 0
  width (bool n) = 1
  width (primitive p n) = (ptype_row p).bytes
  width (decimal d n) = storage_bytes (smallest_storage d.precision)
  width (fixed_size_list t k n) = k * width t
  width (struct fs n) = total_width fs
  width (extension id b s) = width s
  width _ = 0

  -- the sum of the widths of the fields
  pub total_width : Fields → ℕ
  total_width no_items = 0
  total_width (item n t _ rest) = width t + total_width rest

-- `u` is the type itself, or a part of its element type, of the type of one of its fields, or of its storage type
abbrev mutual
  pub Part : Tree → Tree → Type 0
  Part u (list t n) = (u ≡ list t n) ⊎ Part u t
  Part u (fixed_size_list t k n) = (u ≡ fixed_size_list t k n) ⊎ Part u t
  Part u (struct fs n) = (u ≡ struct fs n) ⊎ FieldPart u fs
  Part u (extension id b s) = (u ≡ extension id b s) ⊎ Part u s
  Part u t = u ≡ t

  -- u is a part of the type of one of the fields
  pub FieldPart : Tree → Fields → Type 0
  FieldPart u no_items = ⊥
  FieldPart u (item n t _ rest) = Part u t ⊎ FieldPart u rest

-- the width of some part of the type doesn't fit 64 bits
abbrev pub HasWidePart : Tree → Type 0
HasWidePart t = (u : Tree) × Part u t × (2 ^ 64 ≤ width u)

-- the result of measuring a type is right
abbrev pub Measures : Width → Tree → Type 0
Measures Variable t = ¬ Fixed t
Measures TooWide t = Fixed t × HasWidePart t
Measures (Bytes n) t = Fixed t × (¬ HasWidePart t) × (n ≡ width t)

-- the result of measuring a struct of these fields is right
abbrev pub MeasuresFields : Width → List (List ℕ × Tree) → Type 0
MeasuresFields w fs = (n : Nullability) → Measures w (struct (fields fs) n)
