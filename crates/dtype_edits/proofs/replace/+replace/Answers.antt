-- SPDX-License-Identifier: Apache-2.0
-- SPDX-FileCopyrightText: Copyright the Vortex contributors

use Rattle.std.proofs.Common.{rules, ◌≡◌, ◌∷◌, ◌∙◌, Some, None, ap, slice_get}
use Rattle.dtype_base.specs.FieldNames.{first_place}
use Rattle.dtype_types.specs.parts.Lookups.{field_names, field_types}
use Rattle.dtype_types.specs.tree.Tree.{struct}
use Rattle.dtype_types.specs.tree.TreeOf.{children, fields_of, tree}
use Rattle.dtype_types.proofs.lemmas.TreeLaws.{tree_struct}
use Rattle.dtype_paths.specs.declared.field.Field.TheVariants.{Name}
use Rattle.dtype_edits.specs.Replaced.{replaced}
use Rattle.dtype_edits.proofs.PlacedFields.{no_field, no_type, none_below, some_below}
use Rattle.dtype_edits.proofs.replace.+replace.Goals as goal

pub returns-in_default-find : goal.returns-in_default-find
returns-in_default-find t c =
    let of = c.in-Struct-Name in
    let rest = c.in-Some.rest.now in
    let whole : tree c.args.dtype.now ≡ struct (fields_of of.fields) of.n = ap tree of.is-0 ∙ tree_struct of.fields of.n in
    let first : c.args.steps.now ≡ c.in-Some.first.now ∷ rest = search rules in
    let steps : c.args.steps.now ≡ Name of.name ∷ rest = first ∙ ap (λ f. f ∷ rest) of.is-1 in
    no_field (tree c.args.dtype.now) of.fields of.n c.args.steps.now of.name rest (tree c.args.new.now) whole steps (c.in_default-find.ensures ∙ ap (first_place (field_names (children of.fields))) c.as_str.ensures)

pub returns-in_default-field_by_index : goal.returns-in_default-field_by_index
returns-in_default-field_by_index t c =
    let of = c.in-Struct-Name in
    let rest = c.in-Some.rest.now in
    let whole : tree c.args.dtype.now ≡ struct (fields_of of.fields) of.n = ap tree of.is-0 ∙ tree_struct of.fields of.n in
    let first : c.args.steps.now ≡ c.in-Some.first.now ∷ rest = search rules in
    let steps : c.args.steps.now ≡ Name of.name ∷ rest = first ∙ ap (λ f. f ∷ rest) of.is-1 in
    let at : Some c.in-Some-find.position ≡ first_place (field_names (children of.fields)) of.name = c.in-Some-find.ensures ∙ ap (first_place (field_names (children of.fields))) c.as_str.ensures in
    no_type (tree c.args.dtype.now) of.fields of.n c.args.steps.now of.name rest (tree c.args.new.now) whole steps c.in-Some-find.position at (search (rules, c.in_default-field_by_index.ensures))

pub returns-in_ok-with_dtype-in-Some-4 : goal.returns-in_ok-with_dtype-in-Some-4
returns-in_ok-with_dtype-in-Some-4 t c =
    let of = c.in-Struct-Name in
    let rest = c.in-Some.rest.now in
    let whole : tree c.args.dtype.now ≡ struct (fields_of of.fields) of.n = ap tree of.is-0 ∙ tree_struct of.fields of.n in
    let first : c.args.steps.now ≡ c.in-Some.first.now ∷ rest = search rules in
    let steps : c.args.steps.now ≡ Name of.name ∷ rest = first ∙ ap (λ f. f ∷ rest) of.is-1 in
    let at : Some c.in-Some-find.position ≡ first_place (field_names (children of.fields)) of.name = c.in-Some-find.ensures ∙ ap (first_place (field_names (children of.fields))) c.as_str.ensures in
    let part : Some (tree c.in-Some-field_by_index.field.now) ≡ slice_get (field_types (children of.fields)) c.in-Some-find.position = search (rules, c.in-Some-field_by_index.ensures) in
    let below : Some (tree c.in-Some-4.dtype) ≡ replaced (tree c.in-Some-field_by_index.field.now) rest (tree c.args.new.now) = search (rules, c.in_ok-dtype-in-Struct-Name.ensures, c.in-Some-4.is) in
    ap Some (tree_struct c.in_ok-with_dtype-in-Some-4.field-0 of.n)
    ∙ some_below (tree c.args.dtype.now) of.fields of.n c.args.steps.now of.name rest (tree c.args.new.now) whole steps c.in-Some-find.position at
    (tree c.in-Some-field_by_index.field.now) (tree c.in-Some-4.dtype) c.in_ok-with_dtype-in-Some-4.field-0 part below (search (rules, c.in_ok-with_dtype-in-Some-4.ensures))

pub returns-in-None-3 : goal.returns-in-None-3
returns-in-None-3 t c =
    let of = c.in-Struct-Name in
    let rest = c.in-Some.rest.now in
    let whole : tree c.args.dtype.now ≡ struct (fields_of of.fields) of.n = ap tree of.is-0 ∙ tree_struct of.fields of.n in
    let first : c.args.steps.now ≡ c.in-Some.first.now ∷ rest = search rules in
    let steps : c.args.steps.now ≡ Name of.name ∷ rest = first ∙ ap (λ f. f ∷ rest) of.is-1 in
    let at : Some c.in-Some-find.position ≡ first_place (field_names (children of.fields)) of.name = c.in-Some-find.ensures ∙ ap (first_place (field_names (children of.fields))) c.as_str.ensures in
    let part : Some (tree c.in-Some-field_by_index.field.now) ≡ slice_get (field_types (children of.fields)) c.in-Some-find.position = search (rules, c.in-Some-field_by_index.ensures) in
    let below : None ≡ replaced (tree c.in-Some-field_by_index.field.now) rest (tree c.args.new.now) = search (rules, c.in_ok-dtype-in-Struct-Name.ensures, c.in-None-3.is) in
    none_below (tree c.args.dtype.now) of.fields of.n c.args.steps.now of.name rest (tree c.args.new.now) whole steps c.in-Some-find.position at (tree c.in-Some-field_by_index.field.now) part below
