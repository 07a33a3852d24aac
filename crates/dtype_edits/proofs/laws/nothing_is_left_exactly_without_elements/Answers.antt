-- SPDX-License-Identifier: Apache-2.0
-- SPDX-FileCopyrightText: Copyright the Vortex contributors

use Rattle.dtype_edits.proofs.lemmas.Leaving.{elements_left_out, out_of_elements}
use Rattle.dtype_edits.proofs.laws.nothing_is_left_exactly_without_elements.Goals as goal

pub returns-clause-none : goal.returns-clause-none
returns-clause-none c = elements_left_out

pub returns-clause-only : goal.returns-clause-only
returns-clause-only c = out_of_elements
