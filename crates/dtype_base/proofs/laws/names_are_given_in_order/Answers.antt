-- SPDX-License-Identifier: Apache-2.0
-- SPDX-FileCopyrightText: Copyright the Vortex contributors

use Rattle.std.proofs.iter.Rest.{run_of_first, run_of_first_by}
use Rattle.dtype_base.proofs.laws.names_are_given_in_order.Goals as goal

pub returns-clause-lent : goal.returns-clause-lent
returns-clause-lent c = λ p seen. (run_of_first_by (λ x. x.now) (λ left. left) p).1

pub returns-clause-given_up : goal.returns-clause-given_up
returns-clause-given_up c = λ p seen. (run_of_first (λ left. left) p).1
