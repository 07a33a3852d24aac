-- SPDX-License-Identifier: Apache-2.0
-- SPDX-FileCopyrightText: Copyright the Vortex contributors

use Rattle.dtype_merging.proofs.lemmas.MergeLaws.{nulls_first}
use Rattle.dtype_merging.proofs.laws.null_is_read_as_each_nullable_type.Goals as goal

pub returns-clause-first : goal.returns-clause-first
returns-clause-first c = nulls_first
