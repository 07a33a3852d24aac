-- SPDX-License-Identifier: Apache-2.0
-- SPDX-FileCopyrightText: Copyright the Vortex contributors

use Rattle.std.proofs.Common.{◌≡◌, take}
use Rattle.scan_planner.proofs.needs.copied_paths.Given as goal

-- the copies so far are the paths so far
abbrev pub invariant-loop-path : goal.invariant-loop-path
invariant-loop-path l = l.copied.items ≡ take l.path-index l.paths
