-- SPDX-License-Identifier: Apache-2.0
-- SPDX-FileCopyrightText: Copyright the Vortex contributors

use Rattle.dtype_merging.proofs.lemmas.Filling.{of_filled}
use Rattle.dtype_merging.proofs.laws.values_are_filled.Goals as goal

pub returns : goal.returns
returns c = λ w t u v h of. of_filled w t u h v of
