-- SPDX-License-Identifier: Apache-2.0
-- SPDX-FileCopyrightText: Copyright the Vortex contributors

use Rattle.dtype_edits.proofs.lemmas.LeafProjection.{projected_to_leaves}
use Rattle.dtype_edits.proofs.laws.the_projection_to_the_leaves_is_the_type.Goals as goal

pub returns : goal.returns
returns c = projected_to_leaves
