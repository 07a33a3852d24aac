-- SPDX-License-Identifier: Apache-2.0
-- SPDX-FileCopyrightText: Copyright the Vortex contributors

use Rattle.std.proofs.Common.{◌≡◌, take}
use Rattle.dtype_types.specs.parts.Lookups.{field_names}
use Rattle.dtype_types.specs.tree.TreeOf.{children}
use Rattle.dtype_edits.proofs.fields.copied_names.Given as goal

-- the names so far are copied
abbrev pub invariant-loop-name : goal.invariant-loop-name
invariant-loop-name l = l.names.items ≡ take l.name-index (field_names (children l.fields))
