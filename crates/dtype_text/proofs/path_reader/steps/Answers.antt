-- SPDX-License-Identifier: Apache-2.0
-- SPDX-FileCopyrightText: Copyright the Vortex contributors

use Rattle.std.proofs.Common.{length, sym}
use Rattle.std.proofs.lemmas.Result.{err_from_is_err_and}
use Rattle.dtype_text.proofs.PathLoops.{steps_end, steps_fail, steps_go_on}
use Rattle.dtype_text.proofs.Stops.{steps_stop_more}
use Rattle.dtype_text.proofs.path_reader.steps.Goals as goal

pub returns-in_err-step-clause-read : goal.returns-in_err-step-clause-read
returns-in_err-step-clause-read c =
    let p = err_from_is_err_and c.from_residual.result c.from_residual.ensures.1 in
    rw (p.1, p.2) (steps_fail c.loop.steps.items (length c.args.bytes.now) c.loop.counter c.loop.rest.now _ c.in_err-step.field-0.0 c.loop-test.true c.in_err-step.ensures.read c.loop.invariant.read)

pub returns-in-None-clause-read : goal.returns-in-None-clause-read
returns-in-None-clause-read c =
    rw c.in_ok-push.ensures.items (steps_end c.loop.steps.items (length c.args.bytes.now) c.loop.counter c.loop.rest.now _ c.in_ok-step.step c.in_ok-step.behind.now c.loop-test.true c.in_ok-step.ensures.read c.loop.invariant.read (sym c.in-None.ensures))

pub loop-preserved : goal.loop-preserved
loop-preserved c = record {
  read = rw c.in_ok-push.ensures.items (steps_go_on c.loop.steps.items (length c.args.bytes.now) c.loop.counter c.loop.rest.now _ c.in_ok-step.step c.in_ok-step.behind.now c.loop-test.true c.in_ok-step.ensures.read c.loop.invariant.read c.in-Some.next.now (sym c.in-Some.ensures));
  place = steps_stop_more (length c.args.bytes.now) c.loop.counter c.loop.rest.now c.in_ok-step.step c.in_ok-step.behind.now c.in-Some.next.now _ c.loop-test.true c.in_ok-step.ensures.read (sym c.in-Some.ensures) c.loop.invariant.place;
}
