-- SPDX-License-Identifier: Apache-2.0
-- SPDX-FileCopyrightText: Copyright the Vortex contributors

use Rattle.std.proofs.Common.{◌≡◌}
use Rattle.dtype_types.specs.tree.TreeOf.{tree}
use Rattle.dtype_types.proofs.lemmas.TypesBelow.{weight}
use Rattle.uses.specs.Loops.{innermost_type}
use Rattle.uses.proofs.loops.innermost.Given as goal

-- the innermost element type of the type so far is that of the whole type
abbrev pub invariant-loop-element : goal.invariant-loop-element
invariant-loop-element l = innermost_type (tree l.here) ≡ innermost_type (tree l.dtype)

-- the type so far gets smaller: it contains fewer types in each turn
abbrev pub decreases-loop-element : goal.decreases-loop-element
decreases-loop-element l = weight (tree l.here)
