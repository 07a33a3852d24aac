-- SPDX-License-Identifier: Apache-2.0
-- SPDX-FileCopyrightText: Copyright the Vortex contributors

use Rattle.std.proofs.Common.{rules, ◌≡◌, ◌≢◌, Some, slice_get, ap, ◌∙◌}
use Rattle.dtype_base.specs.FieldNames.{first_place}
use Rattle.dtype_types.specs.parts.Lookups.{field_names, field_types}
use Rattle.dtype_types.specs.tree.TreeOf.{children, shown, tree}
use Rattle.dtype_edits.proofs.LeafSteps.{looked_up, looked_up_before}
use Rattle.dtype_edits.proofs.leaves.first_of_its_name.Goals as goal

pub returns-then-eq : goal.returns-then-eq
returns-then-eq c =
    let ps = children c.args.fields.now in
    let place : c.find.result ≡ first_place (field_names ps) c.args.name.now = c.find.ensures ∙ ap (first_place (field_names ps)) c.as_str.ensures in
    let same : c.find.result ≡ Some c.args.position = search (rules, c.if-eq.true, c.if-eq.ensures, c.eq.ensures) in
    let part : shown tree c.field_by_index.result ≡ slice_get (field_types ps) c.args.position = search (rules, c.field_by_index.ensures) in
    part ∙ looked_up ps c.args.position c.args.name.now c.find.result place same

pub returns-else-eq : goal.returns-else-eq
returns-else-eq c =
    let ps = children c.args.fields.now in
    let place : c.find.result ≡ first_place (field_names ps) c.args.name.now = c.find.ensures ∙ ap (first_place (field_names ps)) c.as_str.ensures in
    let other : c.find.result ≢ Some c.args.position = search (rules, c.if-eq.false, c.if-eq.ensures, c.eq.ensures) in
    looked_up_before ps c.args.position c.args.name.now c.find.result c.requires place other
