-- SPDX-License-Identifier: Apache-2.0
-- SPDX-FileCopyrightText: Copyright the Vortex contributors

-- The order of types by nullability. A type `a` is a subset of a type `b` if the two are equal except for
-- nullabilities, and `b` is nullable in each place in which `a` is, at every depth, also in the value type of a map and
-- in the storage type of an extension. Then each value of `a` is a value of `b`, so an array of type `a` may be used
-- where one of type `b` is required. For example, `list(i32)` is a subset of `list(i32?)?`. From the documentation of
-- `DType::eq_with_nullability_subset`.
use Rattle.std.specs.Prelude.{◌≡◌}
use Rattle.dtype_base.specs.declared.nullability.Nullability.{Nullability}
use Rattle.dtype_base.specs.declared.nullability.Nullability.TheVariants.{Nullable}
use Rattle.dtype_types.specs.tree.Erase.{erase}
use Rattle.dtype_types.specs.tree.Tree.{Tree, no_items, item, null, bool, primitive, decimal, utf8, binary, list, fixed_size_list, map_of, struct, union, variant, extension, Items, Holder}

-- at one place of two types: if the first is nullable there, the second is too
abbrev pub Allows : Nullability → Nullability → Type 0
Allows m n = m ≡ Nullable → n ≡ Nullable

-- `R` is true of the nullabilities of the two types at each place. It is false for types of different kinds, and for
-- types with different numbers of fields or of variants.
abbrev mutual
  pub Wherever : (Nullability → Nullability → Type 0) → Tree → Tree → Type 0
  Wherever R null null = Unit {0}
  Wherever R (bool m) (bool n) = R m n
  Wherever R (primitive p m) (primitive q n) = R m n
  Wherever R (decimal d m) (decimal e n) = R m n
  Wherever R (utf8 m) (utf8 n) = R m n
  Wherever R (binary m) (binary n) = R m n
  Wherever R (list t m) (list u n) = R m n × Wherever R t u
  Wherever R (fixed_size_list t j m) (fixed_size_list u k n) = R m n × Wherever R t u
  Wherever R (map_of t v x m) (map_of u w y n) = R m n × Wherever R t u × Wherever R v w
  Wherever R (struct fs m) (struct gs n) = R m n × WhereverItems R fs gs
  Wherever R (union vs m) (union ws n) = R m n × WhereverItems R vs ws
  Wherever R (variant m) (variant n) = R m n
  Wherever R (extension i a t) (extension j b u) = Wherever R t u
  Wherever R _ _ = ⊥

  -- the same of the types of fields, or of variants, one by one
  pub WhereverItems : (Nullability → Nullability → Type 0) → {h : Holder} → Items h → Items h → Type 0
  WhereverItems R no_items no_items = Unit {0}
  WhereverItems R (item m t f xs) (item n u g ys) = Wherever R t u × WhereverItems R xs ys
  WhereverItems R _ _ = ⊥

-- `b` is nullable in each place in which `a` is
abbrev pub NullableWherever : Tree → Tree → Type 0
NullableWherever a b = Wherever Allows a b

abbrev pub NullableWhereverItems : {h : Holder} → Items h → Items h → Type 0
NullableWhereverItems xs ys = WhereverItems Allows xs ys

-- `a` is a subset of `b`
pub record Sub (a b : Tree) : Type 0 where
  pub erased : erase a ≡ erase b
  pub nullable : NullableWherever a b
