-- SPDX-License-Identifier: Apache-2.0
-- SPDX-FileCopyrightText: Copyright the Vortex contributors

use Rattle.dtype_merging.proofs.lemmas.Numbers.{integers_kept, integers_read}
use Rattle.dtype_merging.proofs.laws.widened_numbers_keep_their_values.Goals as goal

pub returns-clause-integers : goal.returns-clause-integers
returns-clause-integers c = integers_kept

pub returns-clause-all : goal.returns-clause-all
returns-clause-all c = integers_read
