-- SPDX-License-Identifier: Apache-2.0
-- SPDX-FileCopyrightText: Copyright the Vortex contributors

use Rattle.std.proofs.lemmas.Bool.Decides.{same_from_decides}
use Rattle.dtype_paths.specs.SetEqualityLaws.{same_paths-Decides}
use Rattle.dtype_paths.proofs.field_path_set.FieldPathSetPartialEq.TheImpl.Goals as goal

pub eq-tells : goal.eq-tells
eq-tells c = same_from_decides _ _ c.ensures (same_paths-Decides _ _)
