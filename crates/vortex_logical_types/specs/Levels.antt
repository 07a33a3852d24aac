-- SPDX-License-Identifier: Apache-2.0
-- SPDX-FileCopyrightText: Copyright the Vortex contributors

-- How many levels of parts a type has. A choice of ours: no export makes a type of more than 128 levels, so that dropping a
-- type can't exhaust the stack.
use Rattle.std.specs.Prelude.{◌≡◌, ◌⊎◌, ◌+◌, ◌<◌, ℕ, List, [], ◌∷◌, max}
use Rattle.dtype_types.specs.tree.Tree.{Tree, Holder, Items, list, fixed_size_list, map_of, struct, union, extension, no_items, item}

-- 0 of a type without parts such as i32, and otherwise one more than the greatest number among its parts: 2 of list(list(i32))
abbrev mutual
  pub levels : Tree → ℕ
  levels (list t n) = 1 + levels t
  levels (fixed_size_list t k n) = 1 + levels t
  levels (map_of k v o n) = max (1 + levels k) (1 + levels v)
  levels (struct fs n) = levels_of_items fs
  levels (union vs n) = levels_of_items vs
  levels (extension id b s) = 1 + levels s
  levels _ = 0

  pub levels_of_items : {h : Holder} → Items h → ℕ
  levels_of_items no_items = 0
  levels_of_items (item n t g rest) = max (1 + levels t) (levels_of_items rest)

-- the levels of what has parts of these types: 0 if there are none
abbrev pub levels_over : List Tree → ℕ
levels_over [] = 0
levels_over (t ∷ ts) = max (1 + levels t) (levels_over ts)

-- the number that is returned if nothing can be made that has parts of these types: 6 if it would have more than 128 levels, and
-- 100 if an allocation fails
abbrev pub RefusesDeep : List Tree → ℕ → Type 0
RefusesDeep ts code = ((code ≡ 6) × (128 < levels_over ts)) ⊎ (code ≡ 100)
