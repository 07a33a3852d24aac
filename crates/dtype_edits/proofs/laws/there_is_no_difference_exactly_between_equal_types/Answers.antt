-- SPDX-License-Identifier: Apache-2.0
-- SPDX-FileCopyrightText: Copyright the Vortex contributors

use Rattle.dtype_edits.proofs.lemmas.Differing.{none_of_equal, none_of_erased}
use Rattle.dtype_edits.proofs.laws.there_is_no_difference_exactly_between_equal_types.Goals as goal

pub returns-clause-equal : goal.returns-clause-equal
returns-clause-equal c = none_of_equal

pub returns-clause-erased : goal.returns-clause-erased
returns-clause-erased c = none_of_erased
