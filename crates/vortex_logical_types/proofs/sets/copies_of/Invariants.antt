-- SPDX-License-Identifier: Apache-2.0
-- SPDX-FileCopyrightText: Copyright the Vortex contributors

use Rattle.std.proofs.Common.{◌≡◌, ◌++◌, map}
use Rattle.std.specs.Vec.Iter.{into_iter_items}
use Rattle.vortex_logical_types.proofs.sets.copies_of.Given as goal

-- the copies so far, before the paths that are left, are all paths
abbrev pub invariant-loop-path : goal.invariant-loop-path
invariant-loop-path l = l.copies.items ++ map (λ x. x.now) (into_iter_items l.path-iterator) ≡ map (λ x. x.now) (into_iter_items l.fn.paths)
