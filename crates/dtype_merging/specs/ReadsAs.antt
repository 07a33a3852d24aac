-- SPDX-License-Identifier: Apache-2.0
-- SPDX-FileCopyrightText: Copyright the Vortex contributors

-- Which type can be read as which other: `ReadsAs w t u` means that a reader makes a value of `u` from each value of `t`
-- by adding nulls for the columns that `t` lacks, and by putting the columns into the order of `u`. For example, the
-- rows of `{b=utf8, a=i32}` can be read as `{a=i32, b=utf8?, c=u8?}`. This is how query engines read files of one table
-- that were written with different schemas (DuckDB's `union_by_name`, Spark's `mergeSchema`). A column is found by its
-- name, so a struct in which a name repeats is read only as structs with the same names in the same order, and each
-- field as the field at its position. For example, `{a=i32, a={b=u8}}` can be read as `{a=i32?, a={c=bool?, b=u8}}`. A
-- union can be read as unions that have its variants and more, in any order. A variant is found by its tag and its
-- name. For example, `union(int@5=i32)` can be read as `union(text@9=utf8, int@5=i32?)`, but not as
-- `union(number@5=i32)`, although the values of these two unions are the same, because a tag keeps its name. A map
-- whose keys are sorted can also be read as a map that doesn't promise it (`StaySorted`). The type `null`, whose only
-- value is null, is read as each nullable type: a column that has only nulls is read as a column that is missing. Which
-- numbers can be read as which is the caller's choice `w` (`Widens`): for example, `{a=i32}` can be read as `{a=i64}` only
-- if integers may be widened.
use Rattle.std.specs.Prelude.{◌≡◌, ◌≢◌, ◌⊎◌, ℕ, List, [], ◌∷◌, Bool, true, Some, None, IsSomeAnd}
use Rattle.dtype_base.specs.Distinct.{Distinct}
use Rattle.dtype_base.specs.declared.nullability.Nullability.{Nullability}
use Rattle.dtype_types.specs.nullability.Nullable.{IsNullable}
use Rattle.dtype_types.specs.nullability.Sub.{Sub, Allows}
use Rattle.dtype_types.specs.parts.Lookups.{field_names, first_named, variant_tags}
use Rattle.dtype_types.specs.tree.Erase.{erase}
use Rattle.dtype_types.specs.tree.Tree.{Tree, Fields, Variants, Items, Holder, no_items, item, pairs, triples, null, primitive, decimal, list, fixed_size_list, map_of, struct, union, extension}
use Rattle.dtype_types.specs.tree.Valid.{Valid}
use Rattle.dtype_merging.specs.Widens.{ReadsDecimal, ReadsPrimitive}
use Rattle.dtype_merging.specs.declared.widening.Widening.{Widening}

-- the names of the fields, in order
abbrev pub names : Fields → List (List ℕ)
names fs = field_names (pairs fs)

-- the tags of the variants, in order
abbrev pub tags : Variants → List ℕ
tags vs = variant_tags (triples vs)

-- no name repeats in either of the two
abbrev pub NoRepeats : Fields → Fields → Type 0
NoRepeats fs gs = Distinct (names fs) × Distinct (names gs)

-- there is a variant, and no tag repeats
abbrev pub HasOwnTags : Variants → Type 0
HasOwnTags vs = (tags vs ≢ []) × Distinct (tags vs)

-- this is so of both
abbrev pub OwnTags : Variants → Variants → Type 0
OwnTags vs ws = HasOwnTags vs × HasOwnTags ws

-- The variants as fields, of which each has the tag and the name of the variant as its name. So such a name finds the
-- variant with that tag and that name.
abbrev pub keyed : Variants → Fields
keyed no_items = no_items
keyed (item n t f vs) = item (f ∷ n) t tt (keyed vs)

-- `E` is true of the type of each field of `gs` whose name no field of `fs` has
abbrev pub OnlyFurther : (Tree → Type 0) → Fields → Fields → Type 0
OnlyFurther E fs gs = (n : List ℕ) (u : Tree) → first_named (pairs fs) n ≡ None → first_named (pairs gs) n ≡ Some u → E u

-- What `StaySorted` and `SameOrder` say of two maps: `x` and `y` are whether their keys are sorted, and `t` and `u` are
-- their key types. The keys of a map stay sorted only if they stay what they are: if a reader puts the columns of a key
-- into another order, or adds one, then the keys may come in another order. So a map can be read as one with sorted keys
-- only if its keys are sorted, and if the two key types are equal except for nullabilities. For example,
-- `map({a=i32, b=i32}, u8, keys_sorted=true)` can be read as `map({b=i32, a=i32}, u8)`, but not as
-- `map({b=i32, a=i32}, u8, keys_sorted=true)`.
abbrev pub StaySorted : Bool → Tree → Bool → Tree → Type 0
StaySorted x t y u = y ≡ true → (x ≡ true) × (erase t ≡ erase u)

-- the flags are equal, and if they are true, then the key types are equal except for nullabilities
abbrev pub SameOrder : Bool → Tree → Bool → Tree → Type 0
SameOrder x t y u = (x ≡ y) × (y ≡ true → erase t ≡ erase u)

-- Two types are alike if `R` is true of their nullabilities, their parts are alike, and each field of a struct has a
-- field of its name in the other struct, in any order, whose type is alike. `E` is true of the types of the further
-- fields of the second. Structs in which a name repeats are alike if their fields are, position by position. Each
-- variant of a union has a variant with its tag and its name in the other union, in any order, whose type is alike, and
-- if the second union has further variants, then `V` is true. `K` is true of the flags and the key types of maps. `L`
-- is true of types without parts. It is also true of unions in which a tag repeats: they aren't valid, and the tag of a
-- value doesn't tell its variant, so a reader can't change the value.
abbrev mutual
  pub Alike : (Tree → Tree → Type 0) → (Nullability → Nullability → Type 0) → (Bool → Tree → Bool → Tree → Type 0) → (Tree → Type 0) → Type 0 → Tree → Tree → Type 0
  Alike L R K E V (list t m) (list u n) = R m n × Alike L R K E V t u
  Alike L R K E V (fixed_size_list t j m) (fixed_size_list u k n) = (j ≡ k) × R m n × Alike L R K E V t u
  Alike L R K E V (map_of t v x m) (map_of u w y n) = K x t y u × R m n × Alike L R K E V t u × Alike L R K E V v w
  Alike L R K E V (struct fs m) (struct gs n) =
      (NoRepeats fs gs × R m n × EachFound L R K E V fs gs × OnlyFurther E fs gs) ⊎ ((¬ NoRepeats fs gs) × R m n × EachBeside L R K E V fs gs)
  Alike L R K E V (union vs m) (union ws n) =
      (OwnTags vs ws × R m n × EachTagged L R K E V vs (keyed ws) × OnlyFurther (λ u. V) (keyed vs) (keyed ws)) ⊎ ((¬ OwnTags vs ws) × L (union vs m) (union ws n))
  Alike L R K E V (extension i a t) (extension j b u) = (i ≡ j) × (a ≡ b) × Alike L R K E V t u
  Alike L R K E V t u = L t u

  -- the name of each field of `fs` finds a field of `gs`, and the types of the two are alike
  pub EachFound : (Tree → Tree → Type 0) → (Nullability → Nullability → Type 0) → (Bool → Tree → Bool → Tree → Type 0) → (Tree → Type 0) → Type 0 → Fields → Fields → Type 0
  EachFound L R K E V no_items gs = Unit {0}
  EachFound L R K E V (item n t _ fs) gs = IsSomeAnd (first_named (pairs gs) n) (λ u. Alike L R K E V t u) × EachFound L R K E V fs gs

  -- each variant finds one with its tag and its name, and the types of the two are alike
  pub EachTagged : (Tree → Tree → Type 0) → (Nullability → Nullability → Type 0) → (Bool → Tree → Bool → Tree → Type 0) → (Tree → Type 0) → Type 0 → Variants → Fields → Type 0
  EachTagged L R K E V no_items gs = Unit {0}
  EachTagged L R K E V (item n t f vs) gs = IsSomeAnd (first_named (pairs gs) (f ∷ n)) (λ u. Alike L R K E V t u) × EachTagged L R K E V vs gs

  -- the items have the same names and tags in the same order, and the two types at each position are alike
  pub EachBeside : (Tree → Tree → Type 0) → (Nullability → Nullability → Type 0) → (Bool → Tree → Bool → Tree → Type 0) → (Tree → Type 0) → Type 0 → {h : Holder} → Items h → Items h → Type 0
  EachBeside L R K E V no_items no_items = Unit {0}
  EachBeside L R K E V (item m t f xs) (item n u g ys) = (m ≡ n) × (f ≡ g) × Alike L R K E V t u × EachBeside L R K E V xs ys
  EachBeside L R K E V _ _ = ⊥

-- A type without parts is read as a type of which it is a subset, and `null` as each nullable type. A type of numbers is
-- also read as a wider one if the caller allows it.
abbrev pub ReadsPlain : Widening → Tree → Tree → Type 0
ReadsPlain w null u = IsNullable u
ReadsPlain w (primitive p m) (primitive q n) = ReadsPrimitive w p q × Allows m n
ReadsPlain w (decimal d m) (decimal e n) = ReadsDecimal w d e × Allows m n
ReadsPlain w t u = Sub t u

-- `t` can be read as `u`, by the caller's choice which numbers may be read as wider ones: `u` is nullable in each place in
-- which `t` is, and its further columns are nullable
abbrev pub ReadsAs : Widening → Tree → Tree → Type 0
ReadsAs w = Alike (ReadsPlain w) Allows StaySorted IsNullable (Unit {0})

-- the two types are the same up to the order of columns and of variants; the columns of sorted keys are in the same order
abbrev pub SameColumns : Tree → Tree → Type 0
SameColumns = Alike (λ t u. t ≡ u) (λ m n. m ≡ n) SameOrder (λ t. ⊥) ⊥

-- both `a` and `b` can be read as `c`, and `c` can be read as each valid type `d` as which both can be read
pub record IsLeastReader (w : Widening) (a b c : Tree) : Type 0 where
  pub first : ReadsAs w a c
  pub second : ReadsAs w b c
  pub least : (d : Tree) → Valid d → ReadsAs w a d → ReadsAs w b d → ReadsAs w c d

-- there is no valid type as which both can be read
abbrev pub HaveNoReader : Widening → Tree → Tree → Type 0
HaveNoReader w a b = (d : Tree) → Valid d → ReadsAs w a d → ReadsAs w b d → ⊥
