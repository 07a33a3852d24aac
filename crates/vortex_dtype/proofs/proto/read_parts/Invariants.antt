-- SPDX-License-Identifier: Apache-2.0
-- SPDX-FileCopyrightText: Copyright the Vortex contributors

use Rattle.std.proofs.Common.{◌≡◌, map, take, Some}
use Rattle.vortex_dtype.specs.PathMessage.{step_of}
use Rattle.vortex_dtype.proofs.proto.read_parts.Given as goal

abbrev pub invariant-loop-part : goal.invariant-loop-part
invariant-loop-part l = map step_of (take l.part-index l.parts) ≡ map Some l.steps.items
