-- SPDX-License-Identifier: Apache-2.0
-- SPDX-FileCopyrightText: Copyright the Vortex contributors

-- A type with the part at a path replaced. A path leads where `step` of `dtype_paths` leads, so if several fields of a
-- struct have the same name, the first of them is replaced. For example, replacing the part of `{a=list(i32), b=u8}` at
-- `a.[]` by `utf8` makes `{a=list(utf8), b=u8}`. That this is what replacing a part means is a theorem (`laws`): it has
-- the laws of a lens.
use Rattle.std.specs.Prelude.{ℕ, List, [], ◌∷◌, Option, Some, if◌then◌else◌, option_and_then}
use Rattle.std.specs.Option.{option_map}
use Rattle.std.specs.Str.{bytes_eq}
use Rattle.dtype_types.specs.tree.Tree.{Tree, Fields, no_items, item, field, list, fixed_size_list, struct}
use Rattle.dtype_paths.specs.At.{step}
use Rattle.dtype_paths.specs.declared.field.Field.{Field}
use Rattle.dtype_paths.specs.declared.field.Field.TheVariants.{Name, ElementType}

-- the fields, with the type of the first field named m replaced by u
abbrev pub with_field : List ℕ → Tree → Fields → Fields
with_field m u no_items = no_items
with_field m u (item n t _ rest) = if bytes_eq n m then field n u rest else field n t (with_field m u rest)

-- the type, with the part to which one step leads replaced by u
abbrev pub with_part : Tree → Field → Tree → Tree
with_part (struct fs n) (Name m) u = struct (with_field m u fs) n
with_part (list t n) ElementType u = list u n
with_part (fixed_size_list t k n) ElementType u = fixed_size_list u k n
with_part t f u = t

-- the type, with the part at the path replaced by u, or None if there is no part at the path
abbrev pub replaced : Tree → List Field → Tree → Option Tree
replaced t [] u = Some u
replaced t (f ∷ p) u = option_and_then (λ x. option_map (with_part t f) (replaced x p u)) (step t f)
