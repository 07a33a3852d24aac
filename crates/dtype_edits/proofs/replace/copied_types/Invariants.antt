-- SPDX-License-Identifier: Apache-2.0
-- SPDX-FileCopyrightText: Copyright the Vortex contributors

use Rattle.std.proofs.Common.{◌≡◌, ◌++◌, map}
use Rattle.dtype_types.specs.parts.Lookups.{field_types}
use Rattle.dtype_types.specs.tree.TreeOf.{children, tree}
use Rattle.dtype_edits.proofs.replace.copied_types.Given as goal

-- the copies so far, followed by the types that are left, are all types
abbrev pub invariant-loop-dtype : goal.invariant-loop-dtype
invariant-loop-dtype l = map tree l.dtypes.items ++ map tree l.dtype-iterator ≡ field_types (children l.fields)
