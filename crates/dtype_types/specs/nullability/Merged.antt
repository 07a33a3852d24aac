-- SPDX-License-Identifier: Apache-2.0
-- SPDX-FileCopyrightText: Copyright the Vortex contributors

-- The bounds of two types that are equal except for nullabilities. A rule makes one nullability from the two at each
-- node. Under the rule `either`, a node is nullable if it is nullable in one of the two types. This makes the least
-- type of which both are subsets: a reader of several files can use it, because each value of each file is a value of
-- it. Under the rule `both`, a node is nullable if it is nullable in both types. This makes the greatest type that is a
-- subset of both: each value of it is a value of both types. The order of which these are the bounds is from the
-- documentation of `DType::eq_with_nullability_subset`.
use Rattle.std.specs.Prelude.{List, [], ◌∷◌, Option, Some, None, if◌then◌else◌}
use Rattle.dtype_base.specs.Nullability.{either}
use Rattle.dtype_base.specs.declared.nullability.Nullability.{Nullability}
use Rattle.dtype_base.specs.declared.nullability.Nullability.TheVariants.{NonNullable, Nullable}
use Rattle.dtype_types.specs.declared.dtype.equality.NullabilityRule.TheVariants.{Ignored}
use Rattle.dtype_types.specs.declared.dtype.nullability_bounds.MergeRule.{MergeRule}
use Rattle.dtype_types.specs.declared.dtype.nullability_bounds.MergeRule.TheVariants.{Either, Both}
use Rattle.dtype_types.specs.equality.Equality.{equal_under}
use Rattle.dtype_types.specs.nullability.Sub.{Sub}
use Rattle.dtype_types.specs.tree.Tree.{Tree, no_items, item, null, bool, primitive, decimal, utf8, binary, list, fixed_size_list, map_of, struct, union, variant, extension, Items, Holder}

-- how one nullability is made from two
abbrev pub Rule : Type 0
Rule = Nullability → Nullability → Nullability

-- nullable only where both are
abbrev pub both : Rule
both NonNullable n = NonNullable
both Nullable n = n

-- The bound of two types that are equal except for nullabilities: each node has the nullability that the rule makes
-- from the two. What it is for other types doesn't matter, because `merged_under` is None for them.
abbrev mutual
  pub merge : Rule → Tree → Tree → Tree
  merge r null null = null
  merge r (bool m) (bool n) = bool (r m n)
  merge r (primitive p m) (primitive q n) = primitive p (r m n)
  merge r (decimal d m) (decimal e n) = decimal d (r m n)
  merge r (utf8 m) (utf8 n) = utf8 (r m n)
  merge r (binary m) (binary n) = binary (r m n)
  merge r (list t m) (list u n) = list (merge r t u) (r m n)
  merge r (fixed_size_list t j m) (fixed_size_list u k n) = fixed_size_list (merge r t u) j (r m n)
  merge r (map_of t v a m) (map_of u w b n) = map_of (merge r t u) (merge r v w) a (r m n)
  merge r (struct fs m) (struct gs n) = struct (merge_items r fs gs) (r m n)
  merge r (union vs m) (union ws n) = union (merge_items r vs ws) (r m n)
  merge r (variant m) (variant n) = variant (r m n)
  merge r (extension i a t) (extension j b u) = extension i a (merge r t u)
  merge r t _ = t

  pub merge_items : Rule → {h : Holder} → Items h → Items h → Items h
  merge_items r (item m t f xs) (item n u g ys) = item m (merge r t u) f (merge_items r xs ys)
  merge_items r _ _ = no_items

-- the bounds of the types at equal positions
abbrev pub merge_types : Rule → List Tree → List Tree → List Tree
merge_types r (t ∷ ts) (u ∷ us) = merge r t u ∷ merge_types r ts us
merge_types r _ _ = []

-- the bound of two types if they are equal except for nullabilities, and None otherwise
abbrev pub merged_under : Rule → Tree → Tree → Option Tree
merged_under r a b = if equal_under Ignored a b then Some (merge r a b) else None

-- the least type of which both are subsets, or None if the types differ in more than nullabilities
abbrev pub merged : Tree → Tree → Option Tree
merged = merged_under either

-- the greatest type that is a subset of both, or None if the types differ in more than nullabilities
abbrev pub intersected : Tree → Tree → Option Tree
intersected = merged_under both

-- `a` and `b` are subsets of `c`, and `c` is a subset of each type `d` of which both are subsets
pub record IsLeastAbove (a b c : Tree) : Type 0 where
  pub first : Sub a c
  pub second : Sub b c
  pub least : (d : Tree) → Sub a d → Sub b d → Sub c d

-- `c` is a subset of `a` and of `b`, and each type `d` that is a subset of both is a subset of `c`
pub record IsGreatestBelow (a b c : Tree) : Type 0 where
  pub first : Sub c a
  pub second : Sub c b
  pub greatest : (d : Tree) → Sub d a → Sub d b → Sub d c

-- the rule by its name in the code
abbrev pub rule_of : MergeRule → Rule
rule_of Either = either
rule_of Both = both
