-- SPDX-License-Identifier: Apache-2.0
-- SPDX-FileCopyrightText: Copyright the Vortex contributors

use Rattle.std.proofs.Common.{◌≡◌, ◌++◌, take}
use Rattle.std.specs.Prelude.{string_bytes}
use Rattle.std.specs.List.{flat_map}
use Rattle.dtype_text.specs.PathSource.{HasTextSteps, dotted_source}
use Rattle.dtype_text.proofs.path_writer.write_later_steps.Given as goal

-- the steps so far are written, and their names are UTF-8
abbrev pub invariant-loop-step : goal.invariant-loop-step
invariant-loop-step l = record {
  written : string_bytes l.out ≡ string_bytes l.initial.out ++ flat_map dotted_source (take l.step-index l.steps);
  texts : HasTextSteps (take l.step-index l.steps);
}
