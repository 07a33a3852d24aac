-- SPDX-License-Identifier: Apache-2.0
-- SPDX-FileCopyrightText: Copyright the Vortex contributors

-- Which paths a query needs, and which columns of a type these paths need.
use Rattle.std.specs.Prelude.{ℕ, List, [], ◌∷◌, IsTrue}
use Rattle.std.specs.FinSet as set
use Rattle.vortex_dtype.specs.At.{ExistsIn}
use Rattle.vortex_dtype.specs.Distinct.{Distinct}
use Rattle.vortex_dtype.specs.Names.{IsAmong, column_names}
use Rattle.vortex_dtype.specs.Overlaps.{Overlaps}
use Rattle.vortex_dtype.specs.PathOrder.{PathSet, set_of}
use Rattle.vortex_dtype.specs.Tree.{Tree}
use Rattle.vortex_dtype.specs.Types.Field.{Field}

-- the paths that a query needs: those of its select list and those of its filter
abbrev pub needed : List (List Field) → List (List Field) → PathSet
needed select filter = set.union (set_of select) (set_of filter)

-- `t` has a column with the name n
abbrev pub HasColumn : Tree → List ℕ → Type 0
HasColumn t n = ExistsIn t (Field.Name n ∷ [])

-- Some path of the set that exists in `t` goes through the column with the name n, or is the root, which needs every column.
abbrev pub NeedsColumn : PathSet → Tree → List ℕ → Type 0
NeedsColumn s t n = (p : List Field) × IsTrue (set.contains s p) × ExistsIn t p × Overlaps p (Field.Name n ∷ [])

-- The names are those of the columns of `t` that a path of the set needs: each of these columns, and no other one.
pub record Opens (s : PathSet) (t : Tree) (ns : List (List ℕ)) : Type 0 where
  pub all : (n : List ℕ) → HasColumn t n → NeedsColumn s t n → IsAmong ns n
  pub only : (n : List ℕ) → IsAmong ns n → HasColumn t n × NeedsColumn s t n

-- No name is there twice. If the root is in the set, then the whole type is needed, so this requires that no two columns of
-- `t` have the same name. It is no abbreviation, so that a search in a loop takes it as one word.
unfoldable pub OpensOnce : PathSet → Tree → List (List ℕ) → Type 0
OpensOnce s t ns = (IsTrue (set.contains s []) → Distinct (column_names t)) → Distinct ns
