-- SPDX-License-Identifier: Apache-2.0
-- SPDX-FileCopyrightText: Copyright the Vortex contributors

use Rattle.std.proofs.Common.{arith, rules, codes}
use Rattle.std.proofs.lemmas.Grind.{put_two, put_three}
use Rattle.dtype_base.specs.FieldNames.{quoted}
use Rattle.dtype_base.proofs.JoinedTexts.{joined_first, joined_more}
use Rattle.dtype_base.proofs.field_names.FieldNamesDisplay.fmt.Goals as goal
use Rattle.dtype_base.proofs.field_names.FieldNamesDisplay.fmt.Goals.{then-i-gt0+in_ok-write_str-2, else-i-gt0}

pub loop-i-preserved : goal.loop-i-preserved
loop-i-preserved g c plain =
    let so_far = c.loop-i.invariant plain in
    let names = c.as_slice-name-items.result.now in
    let name = c.name-item.result in
    elim c.if-i-gt0.branch [
      | then-i-gt0+in_ok-write_str-2 w ↦ put_three _ _ _ c.if-i-gt0.f _ _ (codes ", ") (quoted name) _ so_far (search rules) (search rules) (joined_more quoted (codes ", ") names c.loop-i.i name (omega arith) c.name-item.is (omega arith))
      | else-i-gt0 w ↦ put_two _ _ c.loop-i.f _ _ (quoted name) _ so_far (search rules) (joined_first quoted (codes ", ") names c.loop-i.i name (omega arith) c.name-item.is (omega arith))
    ]
