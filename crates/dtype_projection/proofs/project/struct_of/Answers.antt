-- SPDX-License-Identifier: Apache-2.0
-- SPDX-FileCopyrightText: Copyright the Vortex contributors

use Rattle.std.proofs.Common.{map, ap, ◌∙◌, rules}
use Rattle.std.specs.List.{zip}
use Rattle.std.proofs.lemmas.List.{length-map}
use Rattle.std.proofs.lemmas.Slice.Zip.{length-zip}
use Rattle.dtype_types.specs.tree.TreeOf.{tree}
use Rattle.dtype_projection.proofs.KeptFields.{struct_made}
use Rattle.dtype_projection.proofs.project.struct_of.Goals as goal

pub returns : goal.returns
returns c =
    let types = map tree c.args.dtypes.items in
    struct_made c.in_ok-fields.fields c.args.n (zip c.args.names.items types) (c.in_ok-fields.ensures.ok ∙ ap (λ z. zip z types) c.from_vec.ensures) (search (rules, length-zip c.args.names.items types, length-map c.args.dtypes.items tree))
