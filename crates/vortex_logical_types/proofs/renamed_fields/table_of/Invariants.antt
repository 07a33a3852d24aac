-- SPDX-License-Identifier: Apache-2.0
-- SPDX-FileCopyrightText: Copyright the Vortex contributors

use Rattle.std.proofs.Common.{◌≡◌, ◌++◌, length, option_map}
use Rattle.vortex_logical_types.specs.Several.{paired}
use Rattle.vortex_logical_types.proofs.renamed_fields.table_of.Given as goal

-- the pairs so far, before those of the names that are left, are all pairs
abbrev pub invariant-loop-old : goal.invariant-loop-old
invariant-loop-old l = paired l.names ≡ option_map (λ ps. l.table.items ++ ps) (paired l.rest)

-- fewer names are left in each turn
abbrev pub decreases-loop-old : goal.decreases-loop-old
decreases-loop-old l = length l.rest
