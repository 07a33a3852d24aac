-- SPDX-License-Identifier: Apache-2.0
-- SPDX-FileCopyrightText: Copyright the Vortex contributors

use Rattle.dtype_types.proofs.lemmas.Merging.{intersected_monotone, merged_monotone}
use Rattle.dtype_types.proofs.nullability_laws.merging_and_intersecting_are_monotone.Goals as goal

pub returns-clause-merged : goal.returns-clause-merged
returns-clause-merged c = merged_monotone

pub returns-clause-intersected : goal.returns-clause-intersected
returns-clause-intersected c = intersected_monotone
