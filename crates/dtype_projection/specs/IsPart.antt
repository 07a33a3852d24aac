-- SPDX-License-Identifier: Apache-2.0
-- SPDX-FileCopyrightText: Copyright the Vortex contributors

-- The parts of a type, and the least part in which some paths resolve as in the type. This specifies a projection
-- without the recursion of `Projected`. A part is what a column reader can open of a stored type: a choice of its
-- columns, with the rest of the schema as it is stored (Parquet's projection masks). If several columns have the same
-- name, a path leads to the first (`step` of `dtype_paths`), so a choice that contains a later one contains the first.
use Rattle.std.specs.Prelude.{◌≡◌, ◌⊎◌, IsTrue, List, None}
use Rattle.dtype_types.specs.parts.Lookups.{first_named}
use Rattle.dtype_types.specs.tree.Tree.{Tree, Fields, no_items, field, pairs, list, fixed_size_list, struct, item}
use Rattle.dtype_paths.specs.Along.{along}
use Rattle.dtype_paths.specs.declared.field.Field.{Field}
use Rattle.dtype_projection.specs.Projected.{PathPredicate}

-- `IsPart t u`: u is t without some fields of structs, at any depth. The kinds, the sizes, the nullabilities, and the
-- names and the order of the remaining fields are those of t. If a field is left out, the later fields with its name
-- are left out too.
abbrev mutual
  pub IsPart : Tree → Tree → Type 0
  IsPart (list t n) u = (x : Tree) × (u ≡ list x n) × IsPart t x
  IsPart (fixed_size_list t k n) u = (x : Tree) × (u ≡ fixed_size_list x k n) × IsPart t x
  IsPart (struct fs n) u = (gs : Fields) × (u ≡ struct gs n) × IsPartOfFields fs gs
  IsPart t u = u ≡ t

  pub IsPartOfFields : Fields → Fields → Type 0
  IsPartOfFields no_items gs = gs ≡ no_items
  IsPartOfFields (item n t _ fs) gs =
      ((u : Tree) × (rest : Fields) × (gs ≡ field n u rest) × IsPart t u × IsPartOfFields fs rest)
      ⊎ (IsPartOfFields fs gs × (first_named (pairs gs) n ≡ None))

-- each of the paths leads to the same type in u as in t, or to no type in both
abbrev pub HasPaths : Tree → PathPredicate → Tree → Type 0
HasPaths t w u = (p : List Field) → IsTrue (w p) → along u p ≡ along t p

-- u is the least part of t in which the paths resolve as in t: it is a part of each other one
pub record IsLeastPart (t : Tree) (w : PathPredicate) (u : Tree) : Type 0 where
  pub part : IsPart t u
  pub has : HasPaths t w u
  pub least : (x : Tree) → IsPart t x → HasPaths t w x → IsPart x u
