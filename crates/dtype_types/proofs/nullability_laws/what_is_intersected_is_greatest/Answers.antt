-- SPDX-License-Identifier: Apache-2.0
-- SPDX-FileCopyrightText: Copyright the Vortex contributors

use Rattle.dtype_types.proofs.lemmas.Merging.{intersected_greatest}
use Rattle.dtype_types.proofs.nullability_laws.what_is_intersected_is_greatest.Goals as goal

pub returns : goal.returns
returns c = intersected_greatest
