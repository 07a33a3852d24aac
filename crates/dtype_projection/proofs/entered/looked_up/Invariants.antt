-- SPDX-License-Identifier: Apache-2.0
-- SPDX-FileCopyrightText: Copyright the Vortex contributors

use Rattle.dtype_types.specs.parts.Lookups.{field_names}
use Rattle.dtype_types.specs.tree.TreeOf.{children}
use Rattle.dtype_paths.specs.Cursors.{contains_below, names_left}
use Rattle.dtype_projection.specs.private.Entered.{AreLookedUp}
use Rattle.dtype_projection.proofs.entered.looked_up.Given as goal

-- all are looked up but for the names that are left
abbrev pub invariant-loop-name : goal.invariant-loop-name
invariant-loop-name l = AreLookedUp (contains_below l.cursor) (field_names (children l.fields)) (names_left l.name-iterator) l.entered.items
