-- SPDX-License-Identifier: Apache-2.0
-- SPDX-FileCopyrightText: Copyright the Vortex contributors

use Rattle.dtype_edits.proofs.lemmas.Differing.{leads_after, leads_before, they_differ}
use Rattle.dtype_edits.proofs.laws.the_paths_of_differences_lead_to_their_types.Goals as goal

pub returns-clause-before : goal.returns-clause-before
returns-clause-before c = leads_before

pub returns-clause-after : goal.returns-clause-after
returns-clause-after c = leads_after

pub returns-clause-differ : goal.returns-clause-differ
returns-clause-differ c = they_differ
