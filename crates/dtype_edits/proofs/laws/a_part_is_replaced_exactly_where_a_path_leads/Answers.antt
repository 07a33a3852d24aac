-- SPDX-License-Identifier: Apache-2.0
-- SPDX-FileCopyrightText: Copyright the Vortex contributors

use Rattle.dtype_edits.proofs.lemmas.Replacing.{replaced_where}
use Rattle.dtype_edits.proofs.laws.a_part_is_replaced_exactly_where_a_path_leads.Goals as goal

pub returns-clause-there : goal.returns-clause-there
returns-clause-there c = replaced_where
