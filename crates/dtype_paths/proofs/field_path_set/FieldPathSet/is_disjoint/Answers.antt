-- SPDX-License-Identifier: Apache-2.0
-- SPDX-FileCopyrightText: Copyright the Vortex contributors

use Rattle.dtype_paths.proofs.lemmas.SetRelations.{told_apart}
use Rattle.dtype_paths.proofs.field_path_set.FieldPathSet.is_disjoint.Goals as goal

pub returns : goal.returns
returns c = told_apart _ _ c.args.self.now c.args.other.now c.all_in.result c.self.view_is c.other.view_is c.all_in.ensures
