-- SPDX-License-Identifier: Apache-2.0
-- SPDX-FileCopyrightText: Copyright the Vortex contributors

use Rattle.dtype_base.proofs.ErrorEquality.{errors_Decides}
use Rattle.dtype_base.proofs.laws.errors_are_equal_where_the_same.Goals as goal

pub returns-clause-kinds : goal.returns-clause-kinds
returns-clause-kinds c = errors_Decides
