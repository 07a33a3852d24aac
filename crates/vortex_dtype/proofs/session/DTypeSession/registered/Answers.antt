-- SPDX-License-Identifier: Apache-2.0
-- SPDX-FileCopyrightText: Copyright the Vortex contributors

use Rattle.vortex_dtype.proofs.RegisteredIds.{sorted_keys}
use Rattle.vortex_dtype.proofs.session.DTypeSession.registered.Goals as goal

pub returns : goal.returns
returns g c = sorted_keys _ c.args.self.now _ _ c.in_ok-ids.ensures.ok c.ids.ensures.unique c.sort_unstable.ensures.permutation c.sort_unstable.ensures.sorted
