-- SPDX-License-Identifier: Apache-2.0
-- SPDX-FileCopyrightText: Copyright the Vortex contributors

use Rattle.std.proofs.Common.{◌≡◌, ◌++◌, map}
use Rattle.std.specs.HashMap.{keys}
use Rattle.std.specs.Prelude.{string_bytes}
use Rattle.vortex_dtype.proofs.session.DTypeSession.ids.Given as goal

abbrev pub invariant-loop-id : goal.invariant-loop-id
invariant-loop-id g l = map (λ id. id.now) l.ids.items ++ map string_bytes l.id-iterator ≡ map string_bytes (keys l.self.plugins)
