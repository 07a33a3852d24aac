-- SPDX-License-Identifier: Apache-2.0
-- SPDX-FileCopyrightText: Copyright the Vortex contributors

-- The derived `==` of errors: two are equal exactly where their kinds and all that they hold are the same. The kinds of the
-- first error are split by hand, since a search for all of them at once breaks off.
use Rattle.std.specs.Bool.{Decides}
use Rattle.std.specs.Prelude.{◌≡◌}
use Rattle.std.proofs.Common.{rules}
use Rattle.dtype_base.specs.declared.vortex_error.VortexError.{VortexError}
use Rattle.dtype_base.specs.declared.vortex_error.VortexError.TheVariants.{OutOfMemory}
use Rattle.dtype_base.specs.contracts.vortex_error.VortexErrorPartialEq.TheImpl as error_eq

pub errors_Decides : (a b : VortexError) → Decides (error_eq.ghosts.eq a b) (a ≡ b)
errors_Decides OutOfMemory b = search rules
errors_Decides _ b = search rules
