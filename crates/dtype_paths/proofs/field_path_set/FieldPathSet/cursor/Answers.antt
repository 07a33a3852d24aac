-- SPDX-License-Identifier: Apache-2.0
-- SPDX-FileCopyrightText: Copyright the Vortex contributors

use Rattle.std.proofs.Common.{◌∙◌, ap}
use Rattle.std.specs.FinSet as set
use Rattle.dtype_paths.specs.PathOrder.{PathSet}
use Rattle.dtype_paths.specs.PathPredicates.{PathPredicate}
use Rattle.dtype_paths.proofs.field_path_set.FieldPathSet.cursor.Goals as goal

pub returns-clause-each : goal.returns-clause-each
returns-clause-each c = λ q. ap (λ (w : PathPredicate). w q) (c.at_root.ensures ∙ ap (λ (s : PathSet). set.contains s) c.self.view_is)
