-- SPDX-License-Identifier: Apache-2.0
-- SPDX-FileCopyrightText: Copyright the Vortex contributors

use Rattle.dtype_projection.proofs.lemmas.Parts.{kept_is_least, least_is_kept}
use Rattle.dtype_projection.proofs.laws.projections_are_least_parts.Goals as goal

pub returns : goal.returns
returns c = record { least = kept_is_least; alone = least_is_kept }
