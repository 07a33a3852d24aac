-- SPDX-License-Identifier: Apache-2.0
-- SPDX-FileCopyrightText: Copyright the Vortex contributors

use Rattle.dtype_edits.proofs.lemmas.Leaving.{path_above, path_beside, path_is_gone}
use Rattle.dtype_edits.proofs.laws.paths_that_are_left_out_lead_nowhere.Goals as goal

pub returns-clause-gone : goal.returns-clause-gone
returns-clause-gone c = path_is_gone

pub returns-clause-above : goal.returns-clause-above
returns-clause-above c = path_above

pub returns-clause-beside : goal.returns-clause-beside
returns-clause-beside c = path_beside
