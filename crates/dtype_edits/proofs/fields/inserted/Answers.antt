-- SPDX-License-Identifier: Apache-2.0
-- SPDX-FileCopyrightText: Copyright the Vortex contributors

use Rattle.std.proofs.Common.{◌≡◌, ◌∙◌, map, ap}
use Rattle.std.specs.List.{zip}
use Rattle.dtype_types.specs.tree.TreeOf.{children, tree}
use Rattle.dtype_edits.proofs.lemmas.EditingFields.{fields_inserted}
use Rattle.dtype_edits.proofs.fields.inserted.Goals as goal

pub returns : goal.returns
returns c =
    let names = c.insert.new.self.items in
    let types = c.insert-2.new.self.items in
    let made : children c.in_ok-new.field-0 ≡ zip names (map tree types) = c.in_ok-new.ensures.ok ∙ ap (λ ns. zip ns (map tree types)) c.from_vec.ensures in
    fields_inserted (children c.args.fields.now) (children c.in_ok-new.field-0) c.in_ok-names.names.items names c.in_ok-dtypes.dtypes.items types
    c.args.index c.args.name c.args.dtype made c.in_ok-insert.ensures.items c.in_ok-insert-2.ensures.items c.in_ok-names.ensures c.in_ok-dtypes.ensures
