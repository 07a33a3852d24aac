-- SPDX-License-Identifier: Apache-2.0
-- SPDX-FileCopyrightText: Copyright the Vortex contributors

-- The nodes of a trie that some path leads to, and the paths that end below a node.
use Rattle.std.specs.Prelude.{◌≡◌, ℕ, List, map, Bool, Some, is_some, option_and_then}
use Rattle.dtype_paths.specs.PathPredicates.{PathPredicate}
use Rattle.dtype_paths.specs.private.Trie.{child_at, terminal_at, walk}
use Rattle.dtype_paths.specs.declared.field.Field.{Field}
use Rattle.dtype_paths.specs.declared.node.Node.{Node}

-- some path leads to the node
abbrev pub IsReached : List Node → ℕ → Type 0
IsReached nodes i = ∥ ((s : List Field) × (walk (child_at nodes) 0 s ≡ Some i)) ∥₁

-- whether a path of the trie ends where these steps lead from the node
abbrev pub ends_below : List Node → ℕ → List Field → Bool
ends_below nodes i p = is_some (option_and_then (terminal_at nodes) (walk (child_at nodes) i p))

-- names with the nodes that they lead to, each with the paths that end below its node
abbrev pub named_paths : List Node → List (List ℕ × ℕ) → List (List ℕ × PathPredicate)
named_paths nodes es = map (λ e. (e.0, ends_below nodes e.1)) es
