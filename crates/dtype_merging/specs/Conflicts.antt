-- SPDX-License-Identifier: Apache-2.0
-- SPDX-FileCopyrightText: Copyright the Vortex contributors

-- The first place at which two types can't be merged by columns, as a path that leads to a type in both. For example, it
-- is `a.[]` for `{a=list(i32), b=i32}` and `{b=utf8, a=list(utf8)}`: the fields are visited in the order of the first
-- type, and a field is visited with everything in it before the next. A path leads only into structs, lists and
-- fixed-size lists, so if the key types of two maps, or the types of a variant of two unions, can't be merged, it ends at
-- the maps or the unions. In a struct a path finds only the first field of a name, so it also ends at structs in which a
-- name repeats.
use Rattle.std.specs.Prelude.{◌≡◌, ◌≢◌, List, [], ◌∷◌, Option, Some, None, ◌&&◌, ◌==◌, if◌then◌else◌, option_and_then}
use Rattle.std.specs.Option.{option_map}
use Rattle.dtype_types.specs.parts.Lookups.{first_named}
use Rattle.dtype_types.specs.tree.Tree.{Tree, Fields, no_items, item, pairs, list, fixed_size_list, struct}
use Rattle.dtype_paths.specs.At.{At}
use Rattle.dtype_paths.specs.declared.field.Field.{Field}
use Rattle.dtype_paths.specs.declared.field.Field.TheVariants.{Name, ElementType}
use Rattle.dtype_merging.specs.MergedColumns.{columns_merged, merged_beside, no_repeats}
use Rattle.dtype_merging.specs.ReadsAs.{NoRepeats}
use Rattle.dtype_merging.specs.declared.widening.Widening.{Widening}

-- the root if nothing is merged, and otherwise no place
abbrev pub root_unless : {X : Type 0} → Option X → Option (List Field)
root_unless None = Some []
root_unless (Some m) = None

-- the first place of the two
abbrev pub first_of : Option (List Field) → Option (List Field) → Option (List Field)
first_of None o = o
first_of (Some p) o = Some p

abbrev mutual
  -- the first place at which the two types can't be merged, or None if they can be merged
  pub first_conflict : Widening → Tree → Tree → Option (List Field)
  first_conflict w (list t m) (list u n) = option_map (λ p. ElementType ∷ p) (first_conflict w t u)
  first_conflict w (fixed_size_list t j m) (fixed_size_list u k n) = if j == k then option_map (λ p. ElementType ∷ p) (first_conflict w t u) else Some []
  first_conflict w (struct fs m) (struct gs n) = if no_repeats (pairs fs) && no_repeats (pairs gs) then fields_conflict w fs gs else root_unless (merged_beside w fs gs)
  first_conflict w t u = root_unless (columns_merged w t u)

  -- the first place in the fields `fs`, each beside the field of its name in `gs`
  pub fields_conflict : Widening → Fields → Fields → Option (List Field)
  fields_conflict w no_items gs = None
  fields_conflict w (item n t _ fs) gs = first_of (option_map (λ p. Name n ∷ p) (option_and_then (λ u. first_conflict w t u) (first_named (pairs gs) n))) (fields_conflict w fs gs)

-- The two types can't be merged, whatever is inside of them where a path leads: they are of different kinds, for
-- example, or fixed-size lists of different sizes.
abbrev pub ClashesHere : Widening → Tree → Tree → Type 0
ClashesHere w (list t m) (list u n) = ⊥
ClashesHere w (fixed_size_list t j m) (fixed_size_list u k n) = j ≢ k
ClashesHere w (struct fs m) (struct gs n) = (¬ NoRepeats fs gs) × (columns_merged w (struct fs m) (struct gs n) ≡ None)
ClashesHere w t u = columns_merged w t u ≡ None

-- the path leads in `t` to `x` and in `u` to `y`, which can't be merged, whatever is inside of them
pub record ConflictsAt (w : Widening) (t u : Tree) (p : List Field) (x y : Tree) : Type 0 where
  pub first : At t p x
  pub second : At u p y
  pub clash : ClashesHere w x y
