-- SPDX-License-Identifier: Apache-2.0
-- SPDX-FileCopyrightText: Copyright the Vortex contributors

-- The children of a node that an iterator has left.
use Rattle.std.specs.Prelude.{ℕ, List, [], ◌∷◌, Some, None}
use Rattle.std.specs.List.{filter_map}
use Rattle.std.specs.Slice.Iter.{iter_rest}
use Rattle.dtype_paths.specs.declared.child_iter.ChildIter.{ChildIter}
use Rattle.dtype_paths.specs.declared.child_iter.ChildIter.TheVariants.{One, List as InList, Table as InTable}
use Rattle.dtype_paths.specs.declared.field.Field.{Field}
use Rattle.dtype_paths.specs.private.ChildLists.{entries}
use Rattle.dtype_paths.specs.private.Children.{borrowed_entry, name_entry}

-- the steps that are left, each with the index of the node that it leads to
abbrev pub entries_left : ChildIter → List (Field × ℕ)
entries_left (One None) = []
entries_left (One (Some e)) = borrowed_entry e ∷ []
entries_left (InList it) = entries (iter_rest it)
entries_left (InTable it) = it

-- those of them that are names
abbrev pub named_left : ChildIter → List (List ℕ × ℕ)
named_left it = filter_map name_entry (entries_left it)
