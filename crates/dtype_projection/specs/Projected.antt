-- SPDX-License-Identifier: Apache-2.0
-- SPDX-FileCopyrightText: Copyright the Vortex contributors

-- The projection of a type to some paths: what a reader of these paths opens. Paths lead where `step` of `dtype_paths`
-- leads, which is from the documentation of the original's `FieldPath::resolve`. That only the children on the paths
-- are kept of a parent is what the projection masks of Parquet's readers do, and what query engines call nested column
-- pruning. The paths are those that satisfy a predicate. For a set the predicate is its `contains`. With a predicate,
-- the paths after a step are a predicate again, and neither the order nor repeats of paths can matter.
use Rattle.std.specs.Prelude.{ℕ, List, [], ◌∷◌, not, ◌&&◌, Option, Some, None, if◌then◌else◌}
use Rattle.std.specs.Option.{option_map}
use Rattle.dtype_base.specs.declared.nullability.Nullability.{Nullability}
use Rattle.dtype_types.specs.tree.Tree.{Tree, Fields, no_items, field, list, fixed_size_list, struct, item}
use Rattle.dtype_paths.specs.Equality.{same_field}
pub use Rattle.dtype_paths.specs.PathPredicates.{PathPredicate, after_step}
use Rattle.dtype_paths.specs.declared.field.Field.TheVariants.{Name, ElementType}

-- the paths without those whose first step is to a field named n
abbrev pub without_field : List ℕ → PathPredicate → PathPredicate
without_field n w [] = w []
without_field n w (f ∷ p) = not (same_field (Name n) f) && w (f ∷ p)

-- a struct of these fields, or `None` if there are no fields
abbrev pub struct_with : Nullability → Fields → Option Tree
struct_with n no_items = None
struct_with n (item m t _ rest) = Some (struct (field m t rest) n)

-- the fields `rest`, after a field named n with the type t if the field is kept
abbrev pub prepend_kept : List ℕ → Option Tree → Fields → Fields
prepend_kept n None rest = rest
prepend_kept n (Some t) rest = field n t rest

-- The type at the end of a path is kept whole. The projection of a list contains the projection of its element, and the
-- projection of a struct contains the projections of its fields, in their order. A path leads only to the first field
-- with a name, so for the fields after n the paths that step to n are left out. Paths don't lead into any other kind of
-- type. If nothing is kept, the result is `None`.
abbrev mutual
  pub projected : Tree → PathPredicate → Option Tree
  projected (list t n) w = if w [] then Some (list t n) else option_map (λ u. list u n) (projected t (after_step ElementType w))
  projected (fixed_size_list t k n) w = if w [] then Some (fixed_size_list t k n) else option_map (λ u. fixed_size_list u k n) (projected t (after_step ElementType w))
  projected (struct fs n) w = if w [] then Some (struct fs n) else struct_with n (projected_fields fs w)
  projected t w = if w [] then Some t else None

  pub projected_fields : Fields → PathPredicate → Fields
  projected_fields no_items w = no_items
  projected_fields (item n t _ rest) w = prepend_kept n (projected t (after_step (Name n) w)) (projected_fields rest (without_field n w))
