-- SPDX-License-Identifier: Apache-2.0
-- SPDX-FileCopyrightText: Copyright the Vortex contributors

-- Whether a name is among names, for callers whose contracts require it of many names, and the names of a table's columns.
-- A choice of this project.
use Rattle.std.specs.Prelude.{ℕ, List, []}
use Rattle.std.specs.List.{Contains}
use Rattle.dtype_types.specs.parts.Lookups.{field_names}
use Rattle.dtype_types.specs.tree.Tree.{Tree, pairs, struct}

-- The name n is one of the names. It is no abbreviation, so that `All (λ n. IsAmong names n) wanted` proves by the ruleset
-- `each_among`: a search keeps the word, where it would take `Contains` apart.
unfoldable pub IsAmong : List (List ℕ) → List ℕ → Type 0
IsAmong names n = Contains names n

-- the names of the columns of a type, in their order: those of the fields of a struct, and none of any other type
unfoldable pub column_names : Tree → List (List ℕ)
column_names (struct fs n) = field_names (pairs fs)
column_names _ = []
