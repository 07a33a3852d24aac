-- SPDX-License-Identifier: Apache-2.0
-- SPDX-FileCopyrightText: Copyright the Vortex contributors

use Rattle.std.proofs.Common.{◌≡◌, ◌∙◌, Some, None, ap}
use Rattle.dtype_base.specs.FieldNames.{first_place}
use Rattle.dtype_types.specs.parts.Lookups.{field_names, first_named}
use Rattle.dtype_types.specs.tree.TreeOf.{children, tree}
use Rattle.dtype_edits.proofs.lemmas.EditingFields.{named_field_added, named_others, named_there, named_type_set, with_named_valid}
use Rattle.dtype_edits.proofs.fields.with_field.Goals as goal

-- ---- a field has the name

pub returns-in_ok-with_dtype-in-Some-clause-ok : goal.returns-in_ok-with_dtype-in-Some-clause-ok
returns-in_ok-with_dtype-in-Some-clause-ok c =
    let ps = children c.args.fields.now in
    let at : Some c.in-Some.position ≡ first_place (field_names ps) c.args.name = c.in-Some.ensures ∙ ap (first_place (field_names ps)) c.as_str.ensures in
    named_type_set ps (children c.in_ok-with_dtype-in-Some.field-0) c.args.name c.in-Some.position (tree c.args.dtype) at c.in_ok-with_dtype-in-Some.ensures

pub returns-in_ok-with_dtype-in-Some-clause-there : goal.returns-in_ok-with_dtype-in-Some-clause-there
returns-in_ok-with_dtype-in-Some-clause-there c =
    ap (λ qs. first_named qs c.args.name) (returns-in_ok-with_dtype-in-Some-clause-ok c) ∙ named_there (children c.args.fields.now) c.args.name (tree c.args.dtype)

pub returns-in_ok-with_dtype-in-Some-clause-others : goal.returns-in_ok-with_dtype-in-Some-clause-others
returns-in_ok-with_dtype-in-Some-clause-others c n ne =
    ap (λ qs. first_named qs n) (returns-in_ok-with_dtype-in-Some-clause-ok c) ∙ named_others (children c.args.fields.now) c.args.name n (tree c.args.dtype) ne

pub returns-in_ok-with_dtype-in-Some-clause-valid : goal.returns-in_ok-with_dtype-in-Some-clause-valid
returns-in_ok-with_dtype-in-Some-clause-valid c v w =
    with_named_valid c.args.fields.now c.in_ok-with_dtype-in-Some.field-0 c.args.name (tree c.args.dtype) (returns-in_ok-with_dtype-in-Some-clause-ok c) v w

-- ---- no field has the name

pub returns-in_ok-push_field-in-None-clause-ok : goal.returns-in_ok-push_field-in-None-clause-ok
returns-in_ok-push_field-in-None-clause-ok c =
    let ps = children c.args.fields.now in
    let none : None ≡ first_place (field_names ps) c.args.name = c.in-None.ensures ∙ ap (first_place (field_names ps)) c.as_str.ensures in
    named_field_added ps (children c.in_ok-push_field-in-None.field-0) c.args.name (tree c.args.dtype) none c.in_ok-push_field-in-None.ensures.ok

pub returns-in_ok-push_field-in-None-clause-there : goal.returns-in_ok-push_field-in-None-clause-there
returns-in_ok-push_field-in-None-clause-there c =
    ap (λ qs. first_named qs c.args.name) (returns-in_ok-push_field-in-None-clause-ok c) ∙ named_there (children c.args.fields.now) c.args.name (tree c.args.dtype)

pub returns-in_ok-push_field-in-None-clause-others : goal.returns-in_ok-push_field-in-None-clause-others
returns-in_ok-push_field-in-None-clause-others c n ne =
    ap (λ qs. first_named qs n) (returns-in_ok-push_field-in-None-clause-ok c) ∙ named_others (children c.args.fields.now) c.args.name n (tree c.args.dtype) ne

pub returns-in_ok-push_field-in-None-clause-valid : goal.returns-in_ok-push_field-in-None-clause-valid
returns-in_ok-push_field-in-None-clause-valid c v w =
    with_named_valid c.args.fields.now c.in_ok-push_field-in-None.field-0 c.args.name (tree c.args.dtype) (returns-in_ok-push_field-in-None-clause-ok c) v w
