-- SPDX-License-Identifier: Apache-2.0
-- SPDX-FileCopyrightText: Copyright the Vortex contributors

use Rattle.std.proofs.Common.{◌∙◌, ap, sym}
use Rattle.dtype_paths.specs.private.ChildTrees.{at_key}
use Rattle.dtype_paths.specs.Equality.{same_field}
use Rattle.dtype_paths.specs.EqualityLaws.{same_field_equiv}
use Rattle.dtype_paths.proofs.lemmas.Cases.{by_bool}
use Rattle.dtype_paths.proofs.child_tree.is_taken.Goals as goal

pub returns-in-Some-clause-taken : goal.returns-in-Some-clause-taken
returns-in-Some-clause-taken c = λ taken.
    let v = c.in-Some.field-0.now in let step = c.args.step.now in (
      v,
      ap (at_key c.args.by_key.now.entries) (sym c.requires) ∙ sym c.in-Some.ensures.value,
      by_bool (same_field v.0 step) (λ y. absurd (let z = rw y at c.ne.ensures in cc)) (λ n. same_field_equiv.symm step v.0 ∙ n),
    )
