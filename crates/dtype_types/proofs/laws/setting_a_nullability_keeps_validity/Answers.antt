-- SPDX-License-Identifier: Apache-2.0
-- SPDX-FileCopyrightText: Copyright the Vortex contributors

use Rattle.dtype_types.specs.nullability.Nullable.{nullability}
use Rattle.dtype_types.proofs.lemmas.Nullabilities.{set_back}
use Rattle.dtype_types.proofs.lemmas.Validity.{set_valid}
use Rattle.dtype_types.proofs.laws.setting_a_nullability_keeps_validity.Goals as goal

pub returns : goal.returns
returns c = λ t u n e. (λ h. set_valid t u n e h, λ h. set_valid u t (nullability t) (set_back t u n e) h)
