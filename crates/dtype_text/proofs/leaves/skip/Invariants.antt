-- SPDX-License-Identifier: Apache-2.0
-- SPDX-FileCopyrightText: Copyright the Vortex contributors

use Rattle.std.proofs.Common.{◌≡◌, length, false}
use Rattle.dtype_text.specs.Leaves.{is_blank, skipped}
use Rattle.dtype_text.proofs.Words.{begins}
use Rattle.dtype_text.proofs.leaves.skip.Given as goal

-- what is left begins with no blank, and skipping it is skipping all
abbrev pub invariant-loop-behind : goal.invariant-loop-behind
invariant-loop-behind l = record {
  skipped : skipped l.rest ≡ skipped l.bytes;
  solid : begins is_blank l.rest ≡ false;
}

abbrev pub decreases-loop-behind : goal.decreases-loop-behind
decreases-loop-behind l = length l.rest
