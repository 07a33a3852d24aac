-- SPDX-License-Identifier: Apache-2.0
-- SPDX-FileCopyrightText: Copyright the Vortex contributors

use Rattle.std.proofs.Common.{◌≡◌, map}
use Rattle.std.specs.FinSet as set
use Rattle.std.specs.Vec.Iter.{into_iter_items}
use Rattle.vortex_dtype.specs.PathOrder.{set_of}
use Rattle.uses.proofs.path_sets.shared_scan.Given as goal

-- what is collected and what is left come to the union
abbrev pub invariant-loop-path : goal.invariant-loop-path
invariant-loop-path l = set.union l.both (set_of (map (λ x. x.now) (into_iter_items l.path-iterator))) ≡ set.union l.fn.first l.second
