-- SPDX-License-Identifier: Apache-2.0
-- SPDX-FileCopyrightText: Copyright the Vortex contributors

-- A value of each valid type, by recursion on the type. It is null if the type is nullable, and otherwise a simple
-- value: for example, 0 for `i32`, and the empty list for `list(i32?)`. The definition refers only to `Value`.
use Rattle.std.specs.Prelude.{ℕ, zero, suc, pos, [], false}
use Rattle.dtype_base.specs.Primitives.{ptype_row, NumberKind}
use Rattle.dtype_base.specs.Primitives.NumberKind.{Floating}
use Rattle.dtype_base.specs.declared.nullability.Nullability.{Nullability}
use Rattle.dtype_base.specs.declared.nullability.Nullability.TheVariants.{NonNullable, Nullable}
use Rattle.dtype_types.specs.tree.Tree.{Tree, Fields, no_items, Variants, item, null, bool, primitive, decimal, utf8, binary, list, fixed_size_list, map_of, struct, union, variant, extension}
use Rattle.dtype_types.specs.values.Value.{Value, Values, Named, null_value, truth, number, float_bits, digits, text, bytes, opaque, items, fixed_items, entries, record_of, tagged, no_values, value, no_entries, no_named, named}

-- null if the nullability allows it, and otherwise the value `v`
abbrev pub null_or : Nullability → Value → Value
null_or Nullable v = null_value
null_or NonNullable v = v

-- k times the same value
abbrev pub copies : ℕ → Value → Values
copies zero v = no_values
copies (suc k) v = value v (copies k v)

-- zero as a value of a primitive type of this kind
abbrev pub zero_of : NumberKind → Value
zero_of Floating = float_bits 0
zero_of _ = number (pos 0)

abbrev mutual
  -- null if the type is nullable; otherwise false, zero, an empty value, or the samples of the parts
  pub sample : Tree → Value
  sample null = null_value
  sample (bool n) = null_or n (truth false)
  sample (primitive p n) = null_or n (zero_of (ptype_row p).kind)
  sample (decimal d n) = null_or n (digits (pos 0))
  sample (utf8 n) = null_or n (text [])
  sample (binary n) = null_or n (bytes [])
  sample (list t n) = null_or n (items no_values)
  sample (fixed_size_list t k n) = null_or n (fixed_items (copies k (sample t)))
  sample (map_of t u s n) = null_or n (entries no_entries)
  sample (struct fs n) = null_or n (record_of (samples fs))
  sample (union vs n) = null_or n (first_sample vs)
  sample (variant n) = null_or n (opaque [])
  sample (extension id b s) = sample s

  -- a sample of each field
  pub samples : Fields → Named
  samples no_items = no_named
  samples (item n t _ fs) = named n (sample t) (samples fs)

  -- a sample of the first variant; a valid union has one
  pub first_sample : Variants → Value
  first_sample no_items = null_value
  first_sample (item n t g rest) = tagged g (sample t)
