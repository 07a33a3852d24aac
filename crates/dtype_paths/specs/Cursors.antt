-- SPDX-License-Identifier: Apache-2.0
-- SPDX-FileCopyrightText: Copyright the Vortex contributors

-- What a cursor over a set of paths is in contracts: what remains of those paths of the set that begin with the steps
-- of the cursor, after these steps.
use Rattle.std.specs.Prelude.{ℕ, List, Option, Some, None}
use Rattle.std.specs.Borrow.{Bor}
use Rattle.dtype_paths.specs.PathPredicates.{PathPredicate, no_path}
use Rattle.dtype_paths.specs.private.Reached.{ends_below, named_paths}
use Rattle.dtype_paths.specs.declared.cursor_names.CursorNames.{CursorNames}
use Rattle.dtype_paths.specs.declared.field_path_cursor.FieldPathCursor.{FieldPathCursor}

-- whether the set contains the path that consists of the steps of the cursor and then of `p`
unfoldable pub contains_below : FieldPathCursor → PathPredicate
contains_below c p = ends_below c.trie.now c.node_index p

-- the same for a cursor that may be missing; a missing cursor contains no path
abbrev pub contains_below_if : Option FieldPathCursor → PathPredicate
contains_below_if None = no_path
contains_below_if (Some c) = contains_below c

-- the names that the iterator hasn't returned yet, each with the paths that the cursor after the step to it contains
unfoldable pub names_left : CursorNames → List (List ℕ × PathPredicate)
names_left it = named_paths it.trie.now it.children

-- a name to which a reference refers, and the paths that its cursor contains
abbrev pub borrowed_below : Bor (List ℕ) × FieldPathCursor → List ℕ × PathPredicate
borrowed_below e = (e.0.now, contains_below e.1)
