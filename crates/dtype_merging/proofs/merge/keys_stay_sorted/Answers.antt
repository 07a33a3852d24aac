-- SPDX-License-Identifier: Apache-2.0
-- SPDX-FileCopyrightText: Copyright the Vortex contributors

use Rattle.std.proofs.Common.{◌∙◌, sym}
use Rattle.std.proofs.lemmas.Bool.{false≢true}
use Rattle.dtype_types.specs.tree.TreeOf.{map_shown, tree}
use Rattle.dtype_merging.proofs.Collecting.{told_sorted}
use Rattle.dtype_merging.proofs.merge.keys_stay_sorted.Goals as goal
use Rattle.dtype_merging.proofs.merge.keys_stay_sorted.Goals.{then-keys_sorted, else-keys_sorted}

pub returns-then-keys_sorted-2 : goal.returns-then-keys_sorted-2
returns-then-keys_sorted-2 c =
    let a = map_shown c.args.a.now in
    let b = map_shown c.args.b.now in
    elim c.if-keys_sorted.branch [
      | then-keys_sorted w ↦ told_sorted a b (tree c.key_dtype.result.now) (tree c.key_dtype-then-keys_sorted-2.result.now) c.eq_ignore_nullability.result (sym c.keys_sorted.ensures ∙ w.if-keys_sorted.true)
          (sym w.keys_sorted-then-keys_sorted.ensures ∙ sym w.value-is ∙ c.if-keys_sorted-2.true) c.key_dtype.ensures c.key_dtype-then-keys_sorted-2.ensures c.eq_ignore_nullability.ensures
      | else-keys_sorted w ↦ absurd (false≢true (sym w.if-keys_sorted.false ∙ sym w.value-is ∙ c.if-keys_sorted-2.true))
    ]
