-- SPDX-License-Identifier: Apache-2.0
-- SPDX-FileCopyrightText: Copyright the Vortex contributors

use Rattle.std.proofs.Common.{ap}
use Rattle.dtype_paths.specs.Cursors.{contains_below}
use Rattle.dtype_paths.specs.PathPredicates.{PathPredicate}
use Rattle.dtype_paths.proofs.field_path_cursor.FieldPathCursor.is_empty.Goals as goal

pub returns-clause-each : goal.returns-clause-each
unfolding contains_below
returns-clause-each c = λ empty q. ap (λ (w : PathPredicate). w q) (c.is_empty_at.ensures.nothing.0 empty)
