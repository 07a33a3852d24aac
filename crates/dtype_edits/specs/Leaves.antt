-- SPDX-License-Identifier: Apache-2.0
-- SPDX-FileCopyrightText: Copyright the Vortex contributors

-- The leaves of a type, which are the paths to the parts into which no step leads further. For example, the leaves of
-- `{a=list(i32), b={}, c=map(utf8, u8)}` are `a.[]`, `b` and `c`. They are the columns in which the values of the type
-- lie, as Parquet stores them, but for maps, unions and extensions, into which no path leads (`step` of `dtype_paths`).
-- `leaves` lists them in the order of the type. `IsLeaf` says which they are without this recursion, and the laws say
-- that the two agree.
use Rattle.std.specs.Prelude.{◌≡◌, ℕ, List, [], ◌∷◌, ◌++◌, map, if◌then◌else◌, None}
use Rattle.std.specs.List.{list_any}
use Rattle.std.specs.Str.{bytes_eq}
use Rattle.dtype_base.specs.Distinct.{Distinct}
use Rattle.dtype_base.specs.declared.nullability.Nullability.{Nullability}
use Rattle.dtype_types.specs.parts.Lookups.{field_names}
use Rattle.dtype_types.specs.tree.Tree.{Tree, Fields, no_items, item, pairs, list, fixed_size_list, struct}
use Rattle.dtype_paths.specs.At.{At, step}
use Rattle.dtype_paths.specs.declared.field.Field.{Field}
use Rattle.dtype_paths.specs.declared.field.Field.TheVariants.{Name, ElementType}

-- the paths, each with one more step at its beginning
abbrev pub each_after : Field → List (List Field) → List (List Field)
each_after f ps = map (λ p. f ∷ p) ps

-- the root alone if there are no fields, and otherwise these paths
abbrev pub root_or : Fields → List (List Field) → List (List Field)
root_or no_items ps = [] ∷ []
root_or (item n t _ rest) ps = ps

abbrev mutual
  -- the leaves of a type; a struct without fields is one itself
  pub leaves : Tree → List (List Field)
  leaves (list t n) = each_after ElementType (leaves t)
  leaves (fixed_size_list t k n) = each_after ElementType (leaves t)
  leaves (struct fs n) = root_or fs (field_leaves [] fs)
  leaves t = [] ∷ []

  -- the leaves of these fields, before which a struct has fields with the names `before`; a path leads only to the first
  -- field with a name
  pub field_leaves : List (List ℕ) → Fields → List (List Field)
  field_leaves before no_items = []
  field_leaves before (item n t _ rest) = (if list_any (λ m. bytes_eq m n) before then [] else each_after (Name n) (leaves t)) ++ field_leaves (before ++ n ∷ []) rest

-- the path leads to a part of `t` into which no step leads
pub record IsLeaf (t : Tree) (p : List Field) : Type 0 where
  pub part : Tree
  pub at : At t p part
  pub ends : (f : Field) → step part f ≡ None

-- in each struct to which a path leads, no two fields have the same name
abbrev pub NamesDiffer : Tree → Type 0
NamesDiffer t = (p : List Field) (fs : Fields) (n : Nullability) → At t p (struct fs n) → Distinct (field_names (pairs fs))
