-- SPDX-License-Identifier: Apache-2.0
-- SPDX-FileCopyrightText: Copyright the Vortex contributors

use Rattle.std.proofs.Common.{◌<◌, length, arith, rules}
use Rattle.vortex_logical_types.proofs.Several.{fault_here}
use Rattle.vortex_logical_types.specs.Steps.{step_size}
use Rattle.vortex_logical_types.proofs.steps.steps_of.Goals as goal

pub returns-in_err-step-clause-fault : goal.returns-in_err-step-clause-fault
returns-in_err-step-clause-fault c =
    let lt : c.loop-length.length-index < length c.args.lengths.now = omega (arith, c.loop-length-test.true) in
    let fault = fault_here step_size c.loop-length.names.rest.now c.args.lengths.now c.loop-length.length-index lt in
    let before = c.loop-length.invariant.first in
    search (rules, fault, before)
