-- SPDX-License-Identifier: Apache-2.0
-- SPDX-FileCopyrightText: Copyright the Vortex contributors

use Rattle.std.proofs.Common.{◌≡◌, ◌-◌}
use Rattle.c_arrow.specs.Keys.{said_with}
use Rattle.c_arrow.specs.Views.{said}
use Rattle.c_arrow.proofs.keys.Keys.with_pairs.Given as goal

-- what the pairs so far and those that are left say is what all say
abbrev pub invariant-loop-at : goal.invariant-loop-at
invariant-loop-at l = said_with (said l.keys) (l.count - l._at) l.rest ≡ said_with (said l.fn.self) l.count l.bytes
