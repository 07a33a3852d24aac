-- SPDX-License-Identifier: Apache-2.0
-- SPDX-FileCopyrightText: Copyright the Vortex contributors

-- Children in a table of trees: the hash of a step's name says which tree the step is in.
use Rattle.std.specs.Prelude.{◌≡◌, ◌<◌, ◌+◌, ℕ, List, [], ◌∷◌, ◌++◌, ⊤, Some, length}
use Rattle.std.specs.List.{IsDistinct}
use Rattle.std.specs.Map.{keys_of, lookup}
use Rattle.dtype_base.specs.NameHashes.{bucket_of_key, hash_of}
use Rattle.dtype_paths.specs.Equality.{same_field}
use Rattle.dtype_paths.specs.declared.field.Field.{Field}
use Rattle.dtype_paths.specs.declared.field.Field.TheVariants.{Name, ElementType}

-- the position of the tree of a step among n trees
unfoldable pub tree_of : ℕ → Field → ℕ
tree_of n (Name s) = bucket_of_key n (hash_of s)
tree_of n ElementType = 0

-- the steps of all trees, each with the index of the node that it leads to
abbrev pub steps_of : List (List (Field × ℕ)) → List (Field × ℕ)
steps_of [] = []
steps_of (es ∷ trees) = es ++ steps_of trees

-- these are steps of the tree at position i among n trees, each of them once
pub record IsPlaced (n i : ℕ) (es : List (Field × ℕ)) : Type 0 where
  pub once : IsDistinct same_field (keys_of es)
  pub here : (f : Field) (j : ℕ) → lookup (same_field f) es ≡ Some j → tree_of n f ≡ i

-- the trees from position i on, of n trees, have their own steps
abbrev pub ArePlaced : ℕ → ℕ → List (List (Field × ℕ)) → Type 0
ArePlaced n i [] = ⊤
ArePlaced n i (es ∷ trees) = IsPlaced n i es × ArePlaced n (i + 1) trees

-- the invariant of a table of so many children
pub record IsChildTable (trees : List (List (Field × ℕ))) (count : ℕ) : Type 0 where
  pub some : 0 < length trees
  pub placed : ArePlaced (length trees) 0 trees
  pub counted : count ≡ length (steps_of trees)
