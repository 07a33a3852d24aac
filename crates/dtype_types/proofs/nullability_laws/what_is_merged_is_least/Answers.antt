-- SPDX-License-Identifier: Apache-2.0
-- SPDX-FileCopyrightText: Copyright the Vortex contributors

use Rattle.dtype_types.proofs.lemmas.Merging.{merged_least}
use Rattle.dtype_types.proofs.nullability_laws.what_is_merged_is_least.Goals as goal

pub returns : goal.returns
returns c = merged_least
