-- SPDX-License-Identifier: Apache-2.0
-- SPDX-FileCopyrightText: Copyright the Vortex contributors

-- What differs between two types, as a list of parts, each a path with the type there before and after. For example, from
-- `{a=i32, b={x=u8}}` to `{b={x=i8, y=u8}}` the part at `a` is removed, the part at `b.x` is changed, and the part at
-- `b.y` is added. A part below one that is changed, added or removed isn't listed. `differences` lists the parts in the
-- order of the first type, and in each struct those that are added come last.
--
-- A type is changed as a whole if no path leads to what differs. So maps, unions and extensions are compared as a whole,
-- and so are two structs if a name repeats in one of them, because a path leads only to the first field of that name, or
-- if the names that both have are in another order.
use Rattle.std.specs.Prelude.{ℕ, List, [], ◌∷◌, ◌++◌, Option, Some, None, Bool, true, false, map, ◌==◌, ◌&&◌, ◌||◌, if◌then◌else◌}
use Rattle.std.specs.Cmp.Lexicographic.{pointwise}
use Rattle.std.specs.List.{filter}
use Rattle.std.specs.Option.{is_none, is_some}
use Rattle.std.specs.Str.{bytes_eq}
use Rattle.dtype_base.specs.declared.nullability.Nullability.{Nullability}
use Rattle.dtype_base.specs.declared.nullability.Nullability.TheVariants.{NonNullable, Nullable}
use Rattle.dtype_types.specs.equality.Equality.{same_by}
use Rattle.dtype_types.specs.parts.Lookups.{field_names, first_named}
use Rattle.dtype_types.specs.tree.Erase.{erase}
use Rattle.dtype_types.specs.tree.Tree.{Tree, Fields, no_items, item, pairs, list, fixed_size_list, struct}
use Rattle.dtype_paths.specs.declared.field.Field.{Field}
use Rattle.dtype_paths.specs.declared.field.Field.TheVariants.{Name, ElementType}
use Rattle.dtype_edits.specs.declared.difference.Ignoring.{Ignoring}

-- a path, the type there before, and the type there after; no type if there is no part at the path
abbrev pub Difference : Type 0
Difference = List Field × (Option Tree × Option Tree)

-- everything counts
abbrev pub nothing_ignored : Ignoring
nothing_ignored = record { nullability = false; order = false }

-- everything counts but the nullabilities
abbrev pub nullability_ignored : Ignoring
nullability_ignored = record { nullability = true; order = false }

-- a type as it is compared: without its nullabilities if they are ignored
abbrev pub seen : Ignoring → Tree → Tree
seen i t = if i.nullability then erase t else t

-- whether two nullabilities are the same
abbrev pub same_nullability : Nullability → Nullability → Bool
same_nullability NonNullable NonNullable = true
same_nullability Nullable Nullable = true
same_nullability _ _ = false

-- whether two nullabilities are no difference
abbrev pub allowed : Ignoring → Nullability → Nullability → Bool
allowed i m n = i.nullability || same_nullability m n

-- the differences, each with one more step at the beginning of its path
abbrev pub each_below : Field → List Difference → List Difference
each_below f ds = map (λ d. (f ∷ d.0, d.1)) ds

-- the two types as a whole, unless they are equal
abbrev pub whole : Ignoring → Tree → Tree → List Difference
whole i t u = if same_by (seen i) t u then [] else ([], (Some t, Some u)) ∷ []

-- no two of the fields have the same name
abbrev pub no_repeats : List (List ℕ × Tree) → Bool
no_repeats [] = true
no_repeats (f ∷ fs) = is_none (first_named fs f.0) && no_repeats fs

-- the names of `fs` that `gs` has as well
abbrev pub common_names : List (List ℕ × Tree) → List (List ℕ × Tree) → List (List ℕ)
common_names fs gs = filter (λ n. is_some (first_named gs n)) (field_names fs)

-- the fields of two structs can be compared by their names: no name repeats, and the names that both have are in the same
-- order, unless the order is ignored
abbrev pub by_name : Ignoring → List (List ℕ × Tree) → List (List ℕ × Tree) → Bool
by_name i fs gs = no_repeats fs && (no_repeats gs && (i.order || pointwise bytes_eq (common_names fs gs) (common_names gs fs)))

-- a field whose type before is `t`: it is removed if there is no type after, and otherwise these are the differences
-- `below` of the two types
abbrev pub in_field : List ℕ → Tree → (Tree → List Difference) → Option Tree → List Difference
in_field n t below None = (Name n ∷ [], (Some t, None)) ∷ []
in_field n t below (Some u) = each_below (Name n) (below u)

-- the fields `gs` that `fs` lacks
abbrev pub added : List (List ℕ × Tree) → List (List ℕ × Tree) → List Difference
added fs gs = map (λ g. (Name g.0 ∷ [], (None, Some g.1))) (filter (λ g. is_none (first_named fs g.0)) gs)

abbrev mutual
  -- the differences of two types
  pub differences : Ignoring → Tree → Tree → List Difference
  differences i (list t m) (list u n) = if allowed i m n then each_below ElementType (differences i t u) else whole i (list t m) (list u n)
  differences i (fixed_size_list t j m) (fixed_size_list u k n) =
      if allowed i m n && (j == k) then each_below ElementType (differences i t u) else whole i (fixed_size_list t j m) (fixed_size_list u k n)
  differences i (struct fs m) (struct gs n) =
      if allowed i m n && by_name i (pairs fs) (pairs gs) then in_fields i fs gs ++ added (pairs fs) (pairs gs) else whole i (struct fs m) (struct gs n)
  differences i t u = whole i t u

  -- the differences of the fields `fs`, each beside the field of its name in `gs`
  pub in_fields : Ignoring → Fields → Fields → List Difference
  in_fields i no_items gs = []
  in_fields i (item n t _ fs) gs = in_field n t (λ u. differences i t u) (first_named (pairs gs) n) ++ in_fields i fs gs
