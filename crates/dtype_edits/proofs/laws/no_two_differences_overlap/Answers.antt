-- SPDX-License-Identifier: Apache-2.0
-- SPDX-FileCopyrightText: Copyright the Vortex contributors

use Rattle.dtype_edits.proofs.lemmas.Differing.{no_two_overlap}
use Rattle.dtype_edits.proofs.laws.no_two_differences_overlap.Goals as goal

pub returns : goal.returns
returns c = no_two_overlap
