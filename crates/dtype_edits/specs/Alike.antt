-- SPDX-License-Identifier: Apache-2.0
-- SPDX-FileCopyrightText: Copyright the Vortex contributors

-- When two types are the same but for what is inside of them where a path leads.
use Rattle.std.specs.Prelude.{◌≡◌, ◌⊎◌, Option, Some, None}
use Rattle.dtype_base.specs.Distinct.{Distinct}
use Rattle.dtype_types.specs.parts.Lookups.{field_names}
use Rattle.dtype_types.specs.tree.Tree.{Tree, pairs, list, fixed_size_list, struct}

-- Two lists of the same nullability are alike, two fixed-size lists of the same nullability and size, and two structs of
-- the same nullability in which no name repeats. Otherwise only equal types are.
abbrev pub AreAlike : Tree → Tree → Type 0
AreAlike (list t m) (list u n) = m ≡ n
AreAlike (fixed_size_list t j m) (fixed_size_list u k n) = (m ≡ n) × (j ≡ k)
AreAlike (struct fs m) (struct gs n) = ((m ≡ n) × Distinct (field_names (pairs fs)) × Distinct (field_names (pairs gs))) ⊎ (struct fs m ≡ struct gs n)
AreAlike t u = t ≡ u

-- there is no type before or after, or there are both, and they are alike
abbrev pub AlikeThere : Option Tree → Option Tree → Type 0
AlikeThere None None = Unit {0}
AlikeThere (Some t) (Some u) = AreAlike t u
AlikeThere _ _ = ⊥
