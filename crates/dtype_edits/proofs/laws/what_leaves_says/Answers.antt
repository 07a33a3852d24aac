-- SPDX-License-Identifier: Apache-2.0
-- SPDX-FileCopyrightText: Copyright the Vortex contributors

use Rattle.dtype_edits.proofs.lemmas.Leaves.{listed_where}
use Rattle.dtype_edits.proofs.laws.what_leaves_says.Goals as goal

pub returns : goal.returns
returns c = listed_where
