-- SPDX-License-Identifier: Apache-2.0
-- SPDX-FileCopyrightText: Copyright the Vortex contributors

use Rattle.dtype_edits.proofs.lemmas.Leaves.{alone}
use Rattle.dtype_edits.proofs.laws.no_leaf_is_a_prefix_of_another.Goals as goal

pub returns : goal.returns
returns c = alone
