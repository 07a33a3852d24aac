-- SPDX-License-Identifier: Apache-2.0
-- SPDX-FileCopyrightText: Copyright the Vortex contributors

use Rattle.dtype_types.specs.parts.Lookups.{field_names}
use Rattle.dtype_types.specs.tree.TreeOf.{children}
use Rattle.dtype_edits.proofs.lemmas.EditingFields.{AreFirst}
use Rattle.dtype_edits.proofs.fields.first_repeat.Given as goal

-- each name so far is the first of its kind
abbrev pub invariant-loop-position : goal.invariant-loop-position
invariant-loop-position l = AreFirst (field_names (children l.fields)) l.position
