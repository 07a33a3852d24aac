-- SPDX-License-Identifier: Apache-2.0
-- SPDX-FileCopyrightText: Copyright the Vortex contributors

use Rattle.std.proofs.Common.{◌≡◌, ◌-◌, length}
use Rattle.dtype_text.specs.Paths.{steps_at}
use Rattle.dtype_text.specs.Places.{steps_stop}
use Rattle.dtype_text.proofs.Loops.{with_front}
use Rattle.dtype_text.proofs.path_reader.steps.Given as goal

-- the steps so far, and those that are still read, are all that is read; and reading them stops where reading all stops
abbrev pub invariant-loop : goal.invariant-loop
invariant-loop l = record {
  read : with_front l.steps.items (steps_at (length l.bytes - l.counter) l.rest) ≡ steps_at (length l.bytes) l.bytes;
  place : steps_stop (length l.bytes - l.counter) l.rest ≡ steps_stop (length l.bytes) l.bytes;
}
