-- SPDX-License-Identifier: Apache-2.0
-- SPDX-FileCopyrightText: Copyright the Vortex contributors

use Rattle.std.proofs.Common.{◌≡◌, ◌∙◌, true, rules, sym}
use Rattle.dtype_paths.specs.Equality.{same_field}
use Rattle.dtype_paths.specs.EqualityLaws.{same_field-Decides}
use Rattle.dtype_paths.proofs.StepKeys.{told}
use Rattle.dtype_paths.proofs.only_child.OnlyChild.child.Goals as goal
use Rattle.dtype_paths.proofs.only_child.OnlyChild.child.Goals.{then-key_is_exact, else-key_is_exact}

pub returns-then-eq : goal.returns-then-eq
returns-then-eq c =
    let f = c.args.step.now in let g = c.self.inside.step in
    let same : same_field f g ≡ true = elim c.if-key_is_exact.branch [
      | then-key_is_exact w ↦ (same_field-Decides f g).1 (told f g c.step_key_of-key.ensures.bytes c.self.invariant.bytes (c.key_is_exact.ensures.0 w.if-key_is_exact.true) (sym c.step_key_of-key.ensures.key ∙ sym c.if-self-key.true ∙ c.self.invariant.key))
      | else-key_is_exact w ↦ search rules
    ] in
    search rules
