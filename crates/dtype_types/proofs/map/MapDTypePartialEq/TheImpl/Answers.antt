-- SPDX-License-Identifier: Apache-2.0
-- SPDX-FileCopyrightText: Copyright the Vortex contributors

use Rattle.std.proofs.lemmas.Bool.Decides.{same_from_decides}
use Rattle.dtype_types.proofs.lemmas.Equality.{maps_Decides}
use Rattle.dtype_types.proofs.map.MapDTypePartialEq.TheImpl.Goals as goal

pub eq-tells : goal.eq-tells
eq-tells c = same_from_decides _ _ c.ensures (maps_Decides c.args.self.now c.args.other.now)
