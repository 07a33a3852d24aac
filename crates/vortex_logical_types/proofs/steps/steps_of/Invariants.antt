-- SPDX-License-Identifier: Apache-2.0
-- SPDX-FileCopyrightText: Copyright the Vortex contributors

use Rattle.std.proofs.Common.{◌≡◌, ◌++◌, ℕ, drop}
use Rattle.vortex_logical_types.specs.Several.{NamesFault}
use Rattle.vortex_logical_types.specs.Steps.{step_size, steps_cut}
use Rattle.vortex_logical_types.proofs.steps.steps_of.Given as goal

-- the steps so far, before those of what is left, are all steps; the first fault of what is left is the first of all
abbrev pub invariant-loop-length : goal.invariant-loop-length
invariant-loop-length l = record {
  steps : l.steps.items ++ steps_cut l.names.rest.now (drop l.length-index l.lengths) ≡ steps_cut l.fn.names l.lengths;
  first : (code : ℕ) → NamesFault step_size l.names.rest.now (drop l.length-index l.lengths) code → NamesFault step_size l.fn.names l.lengths code;
  left : (code : ℕ) → NamesFault step_size l.fn.names l.lengths code → NamesFault step_size l.names.rest.now (drop l.length-index l.lengths) code;
}
