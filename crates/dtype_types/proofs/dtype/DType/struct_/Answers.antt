-- SPDX-License-Identifier: Apache-2.0
-- SPDX-FileCopyrightText: Copyright the Vortex contributors

use Rattle.std.proofs.Common.{ap, ◌∙◌}
use Rattle.dtype_types.proofs.lemmas.TreeLaws.{tree_struct}
use Rattle.dtype_types.proofs.lemmas.Validity.{struct_valid}
use Rattle.dtype_types.specs.tree.Tree.{fields, struct}
use Rattle.dtype_types.proofs.dtype.DType.struct_.Goals as goal

pub returns : goal.returns
returns g c =
    let s = c.in_ok-from_iter.field-0 in
    let n = c.args.n in
    let made = c.in_ok-from_iter.ensures in
    let run = made.2 in
    (made.0, made.1, (run.0, run.1, run.2, (tree_struct s n ∙ ap (λ ps. struct (fields ps) n) run.3.0, λ v. struct_valid s n (run.3.1 v))))
