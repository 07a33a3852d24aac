-- SPDX-License-Identifier: Apache-2.0
-- SPDX-FileCopyrightText: Copyright the Vortex contributors

use Rattle.std.proofs.Common.{rules, ◌≤◌, length}
use Rattle.dtype_types.specs.parts.Lookups.{field_names}
use Rattle.dtype_types.specs.tree.TreeOf.{children}
use Rattle.dtype_edits.proofs.lemmas.EditingFields.{all_first_distinct}
use Rattle.dtype_edits.proofs.fields.first_repeat.Goals as goal

pub returns-clause-none : goal.returns-clause-none
returns-clause-none c =
    let ns = field_names (children c.args.fields.now) in
    let past : length ns ≤ c.loop-position.position = search (rules, c.names.ensures, c.as_slice-name-items.ensures, c.loop-position-test.false) in
    all_first_distinct ns c.loop-position.position c.loop-position.invariant past
