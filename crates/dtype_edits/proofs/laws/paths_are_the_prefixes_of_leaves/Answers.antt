-- SPDX-License-Identifier: Apache-2.0
-- SPDX-FileCopyrightText: Copyright the Vortex contributors

use Rattle.dtype_edits.proofs.lemmas.Leaves.{prefix_of_leaf}
use Rattle.dtype_edits.proofs.laws.paths_are_the_prefixes_of_leaves.Goals as goal

pub returns : goal.returns
returns c = prefix_of_leaf
