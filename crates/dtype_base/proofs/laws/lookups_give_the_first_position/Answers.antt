-- SPDX-License-Identifier: Apache-2.0
-- SPDX-FileCopyrightText: Copyright the Vortex contributors

use Rattle.std.proofs.Common.{sym}
use Rattle.dtype_base.proofs.lemmas.Lookups.{absent_of_place, first_of_place, no_place, place_of_first}
use Rattle.dtype_base.proofs.laws.lookups_give_the_first_position.Goals as goal

pub returns-clause-position : goal.returns-clause-position
returns-clause-position c = λ names n i. (λ e. first_of_place names n i (sym e), place_of_first names n i)

pub returns-clause-none : goal.returns-clause-none
returns-clause-none c = λ names n. (λ e. absent_of_place names n (sym e), no_place names n)
