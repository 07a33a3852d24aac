-- SPDX-License-Identifier: Apache-2.0
-- SPDX-FileCopyrightText: Copyright the Vortex contributors

use Rattle.dtype_merging.proofs.lemmas.Paths.{merged_at, read_at}
use Rattle.dtype_merging.proofs.laws.paths_lead_to_what_is_read.Goals as goal

pub returns-clause-read : goal.returns-clause-read
returns-clause-read c = read_at

pub returns-clause-merged : goal.returns-clause-merged
returns-clause-merged c = merged_at
