-- SPDX-License-Identifier: Apache-2.0
-- SPDX-FileCopyrightText: Copyright the Vortex contributors

use Rattle.std.proofs.Common.{◌≡◌}
use Rattle.vortex_dtype.specs.PathOrder.{set_of}
use Rattle.uses.proofs.path_sets.listed.Given as goal

-- the set so far has the paths so far
abbrev pub invariant-loop-path : goal.invariant-loop-path
invariant-loop-path l = l.listed ≡ set_of l.yielded
