-- SPDX-License-Identifier: Apache-2.0
-- SPDX-FileCopyrightText: Copyright the Vortex contributors

use Rattle.std.proofs.Common.{◌≡◌, ◌++◌, map}
use Rattle.uses.specs.Loops.{renaming}
use Rattle.uses.proofs.loops.renamed.Given as goal

-- those so far, and then those that are left, are all
abbrev pub invariant-loop-name : goal.invariant-loop-name
invariant-loop-name l = l.list.items ++ map (renaming l.from l.to) l.name-iterator ≡ map (renaming l.from l.to) l.names
