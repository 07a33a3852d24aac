-- SPDX-License-Identifier: Apache-2.0
-- SPDX-FileCopyrightText: Copyright the Vortex contributors

use Rattle.dtype_merging.proofs.lemmas.MergeLaws.{from_the_left, from_the_right}
use Rattle.dtype_merging.proofs.laws.columns_are_merged_in_any_order.Goals as goal

pub returns-clause-left : goal.returns-clause-left
returns-clause-left c = from_the_left

pub returns-clause-right : goal.returns-clause-right
returns-clause-right c = from_the_right
