-- SPDX-License-Identifier: Apache-2.0
-- SPDX-FileCopyrightText: Copyright the Vortex contributors

-- A type without what some paths lead to: the complement of a projection (`Projected` of `dtype_projection`). The paths are
-- those that satisfy a predicate; for a set the predicate is its `contains`. For example, `{a={b=i32, c=u8}, d=utf8}`
-- without `a.b` and `d` is `{a={c=u8}}`. A struct that loses all its fields stays, without fields, because its rows can
-- still be null, and because a reader of the other columns needs to know how many rows there are. A list without its
-- element isn't a type, so a list goes with its element.
use Rattle.std.specs.Prelude.{ℕ, zero, suc, List, [], ◌∷◌, Option, Some, None, if◌then◌else◌}
use Rattle.std.specs.Option.{option_map}
use Rattle.dtype_types.specs.tree.Tree.{Tree, Fields, no_items, item, list, fixed_size_list, struct}
use Rattle.dtype_paths.specs.PathPredicates.{PathPredicate, after_step}
use Rattle.dtype_paths.specs.declared.field.Field.{Field}
use Rattle.dtype_paths.specs.declared.field.Field.TheVariants.{Name, ElementType}
use Rattle.dtype_projection.specs.Projected.{prepend_kept}

-- The type without what the paths lead to, or None if nothing is left of it. Of all fields with the same name the same is
-- left out, so that a path that is left out leads nowhere.
abbrev mutual
  pub without : Tree → PathPredicate → Option Tree
  without (list t n) w = if w [] then None else option_map (λ u. list u n) (without t (after_step ElementType w))
  without (fixed_size_list t k n) w = if w [] then None else option_map (λ u. fixed_size_list u k n) (without t (after_step ElementType w))
  without (struct fs n) w = if w [] then None else Some (struct (fields_without fs w) n)
  without t w = if w [] then None else Some t

  pub fields_without : Fields → PathPredicate → Fields
  fields_without no_items w = no_items
  fields_without (item n t _ rest) w = prepend_kept n (without t (after_step (Name n) w)) (fields_without rest w)

-- the path of `k` element steps, for example `[].[]` for 2
abbrev pub elements : ℕ → List Field
elements zero = []
elements (suc k) = ElementType ∷ elements k
