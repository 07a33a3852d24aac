-- SPDX-License-Identifier: Apache-2.0
-- SPDX-FileCopyrightText: Copyright the Vortex contributors

use Rattle.std.proofs.Common.{arith}
use Rattle.std.proofs.lemmas.Grind.{get_or_default_zero}
use Rattle.dtype_paths.proofs.step_key.name_key_of.Goals as goal

pub returns-in-len7-up-clause-bytes : goal.returns-in-len7-up-clause-bytes
returns-in-len7-up-clause-bytes c = λ k d lt. (let b = c.type_inv.name k in rw (get_or_default_zero c.args.name.now k d lt) (omega (arith, b)))
