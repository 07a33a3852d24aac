-- SPDX-License-Identifier: Apache-2.0
-- SPDX-FileCopyrightText: Copyright the Vortex contributors

use Rattle.std.proofs.Common.{◌≡◌, map, take}
use Rattle.dtype_types.specs.parts.Lookups.{field_names}
use Rattle.dtype_types.specs.tree.TreeOf.{children}
use Rattle.dtype_edits.specs.EditedFields.{new_name}
use Rattle.dtype_edits.proofs.fields.with_fields_renamed_allowing_repeats.Given as goal

-- the names so far are the new ones
abbrev pub invariant-loop-name : goal.invariant-loop-name
invariant-loop-name l = l.names.items ≡ map (new_name l.renames) (take l.name-index (field_names (children l.fields)))
