-- SPDX-License-Identifier: Apache-2.0
-- SPDX-FileCopyrightText: Copyright the Vortex contributors

use Rattle.std.proofs.Common.{subst}
use Rattle.dtype_paths.specs.Covering.{IsBegun, IsCountOf}
use Rattle.dtype_paths.specs.PathOrder.{PathSet}
use Rattle.dtype_paths.proofs.field_path_set.FieldPathSet.into_iter_counted.Goals as goal

pub returns-clause-visits : goal.returns-clause-visits
returns-clause-visits c = subst (λ (s : PathSet). IsCountOf (IsBegun s) c.in_ok-found.visits) c.self.view_is c.in_ok-found.ensures.visits
