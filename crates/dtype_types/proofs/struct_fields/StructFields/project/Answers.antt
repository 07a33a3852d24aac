-- SPDX-License-Identifier: Apache-2.0
-- SPDX-FileCopyrightText: Copyright the Vortex contributors

use Rattle.std.proofs.Common.{◌<◌, length, ap, sym, subst, ◌∙◌}
use Rattle.std.specs.List.{All}
use Rattle.std.specs.Map.{values_of}
use Rattle.dtype_types.specs.tree.TreeOf.{children, struct_pairs, with_trees}
use Rattle.dtype_types.proofs.lemmas.Validity.{valid_projected}
use Rattle.dtype_types.proofs.Selected.{as_many_copies, places_within, projected_alike, projected_known, projects}
use Rattle.dtype_types.proofs.struct_fields.StructFields.project.Goals as goal

pub copies_at-requires : goal.copies_at-requires
copies_at-requires c =
    let s = c.args.self.now in
    subst (All (λ i. i < length (values_of (struct_pairs s)))) (sym c.deref-2.ensures.value) (places_within (struct_pairs s) c.deref.result.now c.args.projection.now _ c.deref.ensures c.in_ok-names.ensures.1)

pub new-requires : goal.new-requires
new-requires c =
    let s = c.args.self.now in
    as_many_copies (struct_pairs s) c.deref.result.now c.args.projection.now _ c.deref.ensures c.in_ok-names.ensures.1 c.deref-2.result.now _ c.deref-2.ensures.value c.in_ok-dtypes.ensures
    ∙ sym (ap length c.in_ok-names.ensures.0)

pub returns-clause-ok : goal.returns-clause-ok
returns-clause-ok c =
    let s = c.args.self.now in
    projects (struct_pairs s) c.deref.result.now c.args.projection.now _ c.deref.ensures c.in_ok-names.ensures.1 c.deref-2.result.now _ c.deref-2.ensures.value c.in_ok-dtypes.ensures
    _ c.in_ok-shared.shared.value c.in_ok-names.ensures.0 (c.in_ok-shared.ensures.ok ∙ c.new.ensures)

pub returns-clause-each : goal.returns-clause-each
returns-clause-each c =
    let made = returns-clause-ok c in
    projected_alike (children c.args.self.now) c.args.projection.now (with_trees c.in_ok-shared.shared.value) made.names_are made.types_are

pub returns-clause-there : goal.returns-clause-there
returns-clause-there c = λ ok. projected_known (children c.args.self.now) c.args.projection.now (with_trees c.in_ok-shared.shared.value) (returns-clause-ok c).types_are

pub returns-clause-valid : goal.returns-clause-valid
returns-clause-valid c = λ h. valid_projected (children c.args.self.now) (with_trees c.in_ok-shared.shared.value) c.args.projection.now h (returns-clause-ok c).types_are
