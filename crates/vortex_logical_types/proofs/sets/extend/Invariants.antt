-- SPDX-License-Identifier: Apache-2.0
-- SPDX-FileCopyrightText: Copyright the Vortex contributors

use Rattle.std.proofs.Common.{◌≡◌, take}
use Rattle.std.specs.FinSet as set
use Rattle.dtype_paths.specs.PathOrder.{set_of}
use Rattle.vortex_logical_types.proofs.sets.extend.Given as goal

-- the set has the paths so far besides
abbrev pub invariant-loop-path : goal.invariant-loop-path
invariant-loop-path l = l.paths ≡ set.union l.fn.paths (set_of (take l.path-index l.list))
