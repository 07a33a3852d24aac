-- SPDX-License-Identifier: Apache-2.0
-- SPDX-FileCopyrightText: Copyright the Vortex contributors

-- A value that belongs to one of two types and not to the other, if the two differ only in nullabilities. The
-- definition refers only to `Value` and `Sub`.
use Rattle.std.specs.Prelude.{ℕ, ◌<◌, Option, Some, None, option_map}
use Rattle.dtype_base.specs.declared.nullability.Nullability.{Nullability}
use Rattle.dtype_base.specs.declared.nullability.Nullability.TheVariants.{NonNullable, Nullable}
use Rattle.dtype_types.specs.values.Sample.{sample, samples, copies}
use Rattle.dtype_types.specs.tree.Tree.{Tree, Fields, no_items, Variants, item, bool, primitive, decimal, utf8, binary, list, fixed_size_list, map_of, struct, union, variant, extension, Items, Holder}
use Rattle.dtype_types.specs.values.Value.{Value, Named, null_value, items, fixed_items, entries, record_of, tagged, no_values, value, no_entries, entry, named}

-- the first option if it is a value, and otherwise the second
abbrev pub or_else : {X : Type 0} → Option X → Option X → Option X
or_else (Some x) o = Some x
or_else None o = o

-- null if the first nullability allows null and the second doesn't, and otherwise `parts`
abbrev pub null_else : Nullability → Nullability → Option Value → Option Value
null_else Nullable NonNullable parts = Some null_value
null_else _ _ parts = parts

-- A value of `a` that isn't a value of `b`, or None if `b` is nullable in each place in which `a` is. The value
-- contains null at the first place in which `a` is nullable and `b` isn't, and samples of `a` in all other places. On
-- the way to that place, a list has one element, a fixed-size list has equal elements, and a map has one entry. For
-- example, `tell` of `list(i32?)` and `list(i32)` is the list that contains one null.
abbrev mutual
  pub tell : Tree → Tree → Option Value
  tell (bool m) (bool n) = null_else m n None
  tell (primitive p m) (primitive q n) = null_else m n None
  tell (decimal d m) (decimal e n) = null_else m n None
  tell (utf8 m) (utf8 n) = null_else m n None
  tell (binary m) (binary n) = null_else m n None
  tell (list t m) (list u n) = null_else m n (option_map (λ v. items (value v no_values)) (tell t u))
  tell (fixed_size_list t j m) (fixed_size_list u k n) = null_else m n (option_map (λ v. fixed_items (copies j v)) (tell t u))
  tell (map_of t v x m) (map_of u w y n) =
      null_else m n (or_else (option_map (λ k. entries (entry k (sample v) no_entries)) (tell t u)) (option_map (λ z. entries (entry (sample t) z no_entries)) (tell v w)))
  tell (struct fs m) (struct gs n) = null_else m n (option_map (λ nvs. record_of nvs) (tell_fields fs gs))
  tell (union vs m) (union ws n) = null_else m n (option_map (λ c. tagged c.0 c.1) (tell_variants vs ws))
  tell (variant m) (variant n) = null_else m n None
  tell (extension i a t) (extension j b u) = tell t u
  tell _ _ = None

  -- values of the first fields that aren't values of the second fields
  pub tell_fields : Fields → Fields → Option Named
  tell_fields (item m t _ fs) (item n u _ gs) = or_else (option_map (λ v. named m v (samples fs)) (tell t u)) (option_map (λ nvs. named m (sample t) nvs) (tell_fields fs gs))
  tell_fields _ _ = None

  -- the tag of a variant, and a value of its first type that isn't a value of its second type
  pub tell_variants : Variants → Variants → Option (ℕ × Value)
  tell_variants (item m t g vs) (item n u h ws) = or_else (option_map (λ v. (g, v)) (tell t u)) (tell_variants vs ws)
  tell_variants _ _ = None

-- no fixed-size list in the type has the size 0
abbrev mutual
  pub HasNoSizeZero : Tree → Type 0
  HasNoSizeZero (list t n) = HasNoSizeZero t
  HasNoSizeZero (fixed_size_list t k n) = (0 < k) × HasNoSizeZero t
  HasNoSizeZero (map_of t u s n) = HasNoSizeZero t × HasNoSizeZero u
  HasNoSizeZero (struct fs n) = ItemsHaveNoSizeZero fs
  HasNoSizeZero (union vs n) = ItemsHaveNoSizeZero vs
  HasNoSizeZero (extension id b s) = HasNoSizeZero s
  HasNoSizeZero _ = Unit {0}

  -- the same of the types of fields, or of variants
  pub ItemsHaveNoSizeZero : {h : Holder} → Items h → Type 0
  ItemsHaveNoSizeZero no_items = Unit {0}
  ItemsHaveNoSizeZero (item n t g rest) = HasNoSizeZero t × ItemsHaveNoSizeZero rest
