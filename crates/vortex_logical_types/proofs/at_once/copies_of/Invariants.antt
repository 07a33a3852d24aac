-- SPDX-License-Identifier: Apache-2.0
-- SPDX-FileCopyrightText: Copyright the Vortex contributors

use Rattle.std.proofs.Common.{◌≡◌, ◌++◌, Some, map}
use Rattle.dtype_types.specs.tree.TreeOf.{tree}
use Rattle.vortex_logical_types.specs.AtOnce.{boxed_type}
use Rattle.vortex_logical_types.proofs.at_once.copies_of.Given as goal

-- the copies so far, before the types that are left, are all types
abbrev pub invariant-loop-dtype : goal.invariant-loop-dtype
invariant-loop-dtype l = map boxed_type l.copies.items ++ map Some (map tree l.dtype-iterator) ≡ map Some (map tree l.fn.dtypes)
