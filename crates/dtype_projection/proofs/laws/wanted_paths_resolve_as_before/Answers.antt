-- SPDX-License-Identifier: Apache-2.0
-- SPDX-FileCopyrightText: Copyright the Vortex contributors

use Rattle.dtype_projection.proofs.lemmas.Projections.{kept_as_it_was}
use Rattle.dtype_projection.proofs.laws.wanted_paths_resolve_as_before.Goals as goal

pub returns : goal.returns
returns c = kept_as_it_was
