-- SPDX-License-Identifier: Apache-2.0
-- SPDX-FileCopyrightText: Copyright the Vortex contributors

use Rattle.dtype_projection.proofs.lemmas.Projections.{exists_in_kept}
use Rattle.dtype_projection.proofs.laws.nothing_else_is_kept.Goals as goal

pub returns : goal.returns
returns c t u w q e = exists_in_kept t u w q e
