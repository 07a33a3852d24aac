-- SPDX-License-Identifier: Apache-2.0
-- SPDX-FileCopyrightText: Copyright the Vortex contributors

use Rattle.dtype_merging.proofs.lemmas.MergeLaws.{merged_is_least}
use Rattle.dtype_merging.proofs.laws.what_is_merged_is_the_least_reader.Goals as goal

pub returns-clause-least : goal.returns-clause-least
returns-clause-least c = merged_is_least
