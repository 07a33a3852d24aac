-- SPDX-License-Identifier: Apache-2.0
-- SPDX-FileCopyrightText: Copyright the Vortex contributors

use Rattle.std.proofs.Common.{option_and_then, ◌∙◌}
use Rattle.vortex_dtype.specs.Along.{along}
use Rattle.vortex_dtype.specs.Projected.{projected}
use Rattle.vortex_dtype.specs.TreeOf.{tree}
use Rattle.uses.proofs.descending.piece_at.Goals as goal

-- the cursor at the root asks for what the set has
pub returns : goal.returns
returns c = c.piece_along.ensures ∙ (λ i. option_and_then (λ u. along u (c.parts.ensures i)) (projected (tree c.args.table.now) (c.cursor.ensures.paths i)))
