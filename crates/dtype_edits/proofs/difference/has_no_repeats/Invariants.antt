-- SPDX-License-Identifier: Apache-2.0
-- SPDX-FileCopyrightText: Copyright the Vortex contributors

use Rattle.dtype_types.specs.tree.TreeOf.{children}
use Rattle.dtype_edits.proofs.DifferenceSteps.{AreFirst}
use Rattle.dtype_edits.proofs.difference.has_no_repeats.Given as goal

-- each name so far is the first of its kind
abbrev pub invariant-loop-i : goal.invariant-loop-i
invariant-loop-i l = AreFirst (children l.fields) l.i
