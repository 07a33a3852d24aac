-- SPDX-License-Identifier: Apache-2.0
-- SPDX-FileCopyrightText: Copyright the Vortex contributors

use Rattle.std.proofs.Common.{◌≡◌, ◌<◌, ℕ, List, Some, slice_get}
use Rattle.dtype_base.specs.FieldNames.{first_place}
use Rattle.dtype_types.specs.parts.Lookups.{field_names}
use Rattle.dtype_types.specs.tree.TreeOf.{children}
use Rattle.dtype_merging.proofs.merge.has_no_repeats.Given as goal

-- each name so far is the first of its kind
abbrev pub invariant-loop-i : goal.invariant-loop-i
invariant-loop-i l = (k : ℕ) (m : List ℕ) → k < l.i → slice_get (field_names (children l.fields)) k ≡ Some m → first_place (field_names (children l.fields)) m ≡ Some k
