-- SPDX-License-Identifier: Apache-2.0
-- SPDX-FileCopyrightText: Copyright the Vortex contributors

use Rattle.std.proofs.lemmas.Bool.Decides.{same_from_decides}
use Rattle.dtype_types.specs.equality.EqualityLaws.{equal_under-Decides}
use Rattle.dtype_types.proofs.dtype.equality.DTypePartialEq.TheImpl.Goals as goal

pub eq-tells : goal.eq-tells
eq-tells c = same_from_decides _ _ c.ensures (equal_under-Decides _ _)
