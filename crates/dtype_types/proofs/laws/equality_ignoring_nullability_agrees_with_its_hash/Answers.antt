-- SPDX-License-Identifier: Apache-2.0
-- SPDX-FileCopyrightText: Copyright the Vortex contributors

use Rattle.std.proofs.Common.{refl, sym, ◌∙◌}
use Rattle.dtype_types.proofs.laws.equality_ignoring_nullability_agrees_with_its_hash.Goals as goal

pub returns-clause-equivalence : goal.returns-clause-equivalence
returns-clause-equivalence c = record { refl = λ a. refl; symm = λ a b e. sym e; trans = λ a b c e f. e ∙ f }
