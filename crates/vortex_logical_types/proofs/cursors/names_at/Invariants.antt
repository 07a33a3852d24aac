-- SPDX-License-Identifier: Apache-2.0
-- SPDX-FileCopyrightText: Copyright the Vortex contributors

use Rattle.std.proofs.Common.{◌≡◌, ◌∷◌, ◌++◌, ℕ, List, [], map}
use Rattle.dtype_paths.specs.Cursors.{contains_below, names_left}
use Rattle.dtype_paths.specs.PathPredicates.{AreNames, PathPredicate}
use Rattle.dtype_paths.specs.declared.field.Field.TheVariants.{Name}
use Rattle.vortex_logical_types.proofs.cursors.names_at.Given as goal

-- the names so far, before those that are left, are the names of the cursor
abbrev pub invariant-loop-name : goal.invariant-loop-name
invariant-loop-name l = (ns : List (List ℕ × PathPredicate)) × AreNames (contains_below l.fn.cursor) ns × (l.paths.items ++ map (λ e. Name e.0 ∷ []) (names_left l.name-iterator) ≡ map (λ e. Name e.0 ∷ []) ns)
