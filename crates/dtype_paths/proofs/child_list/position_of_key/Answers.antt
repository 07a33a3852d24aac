-- SPDX-License-Identifier: Apache-2.0
-- SPDX-FileCopyrightText: Copyright the Vortex contributors

use Rattle.std.proofs.Common.{◌≡◌, ◌≢◌, None, Some, length, refl, arith, subst}
use Rattle.std.specs.List.{slice_get, All}
use Rattle.std.proofs.lemmas.List.{take_all}
use Rattle.std.proofs.lemmas.List.Elements.{All-more}
use Rattle.std.proofs.lemmas.Option.{slice_get_read}
use Rattle.dtype_paths.proofs.child_list.position_of_key.Goals as goal
use Rattle.dtype_paths.proofs.child_list.position_of_key.Goals.{then-child-key, else-child-key}

pub loop-i-preserved : goal.loop-i-preserved
loop-i-preserved c =
    let cs = c.args.children.now in let x = c.index-children-i.result in let so_far = c.loop-i.invariant in
    let there : slice_get cs c.loop-i.i ≡ Some x = slice_get_read cs (length cs) c.loop-i.i x refl c.loop-i-test.true c.index-children-i.is in
    elim c.if-child-key.branch [
      | then-child-key w ↦ rw (w.position-is, there) (record { found = w.if-child-key.true; none = λ e. cc })
      | else-child-key w ↦ rw w.position-is (record {
        found = so_far.found;
        none = λ e. All-more (λ d. d.key ≢ c.args.key) cs c.loop-i.i x c.loop-i-test.true (so_far.none e)
            (rw (← c.index-children-i.is) w.if-child-key.false);
      })
    ]

pub returns-clause-none : goal.returns-clause-none
returns-clause-none c =
    let cs = c.args.children.now in
    subst (λ ds. slice_get cs c.loop-i.position ≡ None → All (λ d. d.key ≢ c.args.key) ds) (take_all c.loop-i.i cs (omega arith)) c.loop-i.invariant.none
