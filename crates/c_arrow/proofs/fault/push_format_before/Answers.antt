-- SPDX-License-Identifier: Apache-2.0
-- SPDX-FileCopyrightText: Copyright the Vortex contributors

use Rattle.std.proofs.Common.{refl}
use Rattle.c_arrow.proofs.fault.push_format_before.Goals as goal

pub returns : goal.returns
returns c = rw c.in_ok-push_format.ensures refl
