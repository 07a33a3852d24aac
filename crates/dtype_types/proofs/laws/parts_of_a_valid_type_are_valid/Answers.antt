-- SPDX-License-Identifier: Apache-2.0
-- SPDX-FileCopyrightText: Copyright the Vortex contributors

use Rattle.dtype_types.proofs.lemmas.ValidParts.{union_variants_valid}
use Rattle.dtype_types.proofs.laws.parts_of_a_valid_type_are_valid.Goals as goal

pub returns-clause-union_variants : goal.returns-clause-union_variants
returns-clause-union_variants c = λ t u is h. union_variants_valid t u is h
