-- SPDX-License-Identifier: Apache-2.0
-- SPDX-FileCopyrightText: Copyright the Vortex contributors

use Rattle.std.proofs.Common.{ap, sym, ◌∙◌, arith}
use Rattle.std.specs.FinSet as set
use Rattle.dtype_paths.proofs.lemmas.SetRelations.{has_within, within_whole}
use Rattle.dtype_paths.specs.PathOrder.{PathSet}
use Rattle.dtype_paths.proofs.field_path_set.FieldPathSetPartialEq.eq.Goals as goal

pub returns-then-len : goal.returns-then-len
returns-then-len c =
    let s = c.args.self.now in let t = c.args.other.now in (
      λ h. within_whole s t (sym c.is_subset.ensures ∙ h) (omega (arith, c.if-len.true, c.len.ensures, c.len-2.ensures)),
      λ e. c.is_subset.ensures ∙ has_within s t (λ q h. sym (ap (λ (x : PathSet). set.contains x q) e) ∙ h),
    )
