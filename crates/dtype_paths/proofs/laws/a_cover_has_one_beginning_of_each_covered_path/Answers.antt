-- SPDX-License-Identifier: Apache-2.0
-- SPDX-FileCopyrightText: Copyright the Vortex contributors

use Rattle.dtype_paths.proofs.lemmas.SetCovers.{least_begins_once}
use Rattle.dtype_paths.proofs.laws.a_cover_has_one_beginning_of_each_covered_path.Goals as goal

pub returns-clause-once : goal.returns-clause-once
returns-clause-once c = least_begins_once
