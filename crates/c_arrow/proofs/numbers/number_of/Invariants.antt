-- SPDX-License-Identifier: Apache-2.0
-- SPDX-FileCopyrightText: Copyright the Vortex contributors

use Rattle.std.proofs.Common.{◌≡◌, drop}
use Rattle.c_arrow.specs.Numbers.{number_after}
use Rattle.c_arrow.proofs.numbers.number_of.Given as goal

abbrev pub invariant-loop-digit : goal.invariant-loop-digit
invariant-loop-digit l = number_after l.value (drop l.digit-index l.word) ≡ number_after 0 l.word
