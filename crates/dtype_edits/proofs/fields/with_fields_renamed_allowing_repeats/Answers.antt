-- SPDX-License-Identifier: Apache-2.0
-- SPDX-FileCopyrightText: Copyright the Vortex contributors

use Rattle.std.proofs.Common.{rules, ◌≡◌, ◌≤◌, ◌∙◌, length, map, ap}
use Rattle.std.specs.List.{zip}
use Rattle.std.proofs.lemmas.List.{take_all}
use Rattle.dtype_types.specs.parts.Lookups.{field_names}
use Rattle.dtype_types.specs.tree.TreeOf.{children, tree}
use Rattle.dtype_edits.specs.EditedFields.{new_name}
use Rattle.dtype_edits.proofs.lemmas.EditingFields.{fields_renamed, renaming_valid}
use Rattle.dtype_edits.proofs.fields.with_fields_renamed_allowing_repeats.Goals as goal

pub returns-clause-ok : goal.returns-clause-ok
returns-clause-ok c =
    let rs = c.args.renames.now in
    let ps = children c.args.fields.now in
    let names = c.loop-name.names.items in
    let types = c.in_ok-dtypes.dtypes.items in
    let past : length (field_names ps) ≤ c.loop-name.name-index = search (rules, c.names.ensures, c.as_slice-name-items.ensures, c.loop-name-test.false) in
    let all : names ≡ map (new_name rs) (field_names ps) = c.loop-name.invariant ∙ ap (map (new_name rs)) (take_all c.loop-name.name-index (field_names ps) past) in
    let made : children c.in_ok-new.field-0 ≡ zip names (map tree types) = c.in_ok-new.ensures.ok ∙ ap (λ ns. zip ns (map tree types)) c.from_vec.ensures in
    fields_renamed rs ps (children c.in_ok-new.field-0) names types made all c.in_ok-dtypes.ensures

pub returns-clause-valid : goal.returns-clause-valid
returns-clause-valid c v = renaming_valid c.args.renames.now c.args.fields.now c.in_ok-new.field-0 (returns-clause-ok c) v
