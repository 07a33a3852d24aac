-- SPDX-License-Identifier: Apache-2.0
-- SPDX-FileCopyrightText: Copyright the Vortex contributors

use Rattle.std.proofs.Common.{rules, map}
use Rattle.std.proofs.iter.Rest.{run_of_first_by}
use Rattle.dtype_types.specs.parts.Lists.{borrowed_pair, borrowed_triple}
use Rattle.dtype_types.specs.tree.TreeOf.{tree}
use Rattle.dtype_types.proofs.laws.parts_are_given_in_order.Goals as goal

pub returns-clause-types : goal.returns-clause-types
returns-clause-types c = record { in_order = λ run seen. (run_of_first_by (λ d. tree d.now) (map tree) run).1; ends = λ left. search rules }

pub returns-clause-fields : goal.returns-clause-fields
returns-clause-fields c = record { in_order = λ run seen. (run_of_first_by borrowed_pair (λ left. left) run).1; ends = λ left. search rules }

pub returns-clause-variants : goal.returns-clause-variants
returns-clause-variants c = record { in_order = λ run seen. (run_of_first_by borrowed_triple (λ left. left) run).1; ends = λ left. search rules }
