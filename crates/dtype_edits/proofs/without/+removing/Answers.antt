-- SPDX-License-Identifier: Apache-2.0
-- SPDX-FileCopyrightText: Copyright the Vortex contributors

use Rattle.std.proofs.Common.{rules, ◌≡◌, []}
use Rattle.dtype_types.specs.tree.TreeOf.{children, fields_of}
use Rattle.dtype_paths.specs.Cursors.{contains_below}
use Rattle.dtype_edits.specs.Without.{fields_without}
use Rattle.dtype_edits.proofs.LeftFields.{all_left, collected}
use Rattle.dtype_edits.proofs.without.+removing.Goals as goal

pub remove_fields-returns : goal.remove_fields-returns
remove_fields-returns t c =
    let w = contains_below c.args.cursor.now in
    let made : children c.in_ok-from_iter.field-0 ≡ collected c.loop-name.kept.items = search (rules, c.in_ok-from_iter.ensures) in
    let none : c.loop-name.name-iterator ≡ [] = search (rules, c.in-None.ensures.steps) in
    all_left c.in_ok-from_iter.field-0 c.loop-name.kept.items c.loop-name.name-iterator w (fields_without (fields_of c.args.fields.now) w) none made c.loop-name.invariant.left
