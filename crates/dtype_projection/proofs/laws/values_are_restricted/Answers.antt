-- SPDX-License-Identifier: Apache-2.0
-- SPDX-FileCopyrightText: Copyright the Vortex contributors

use Rattle.std.proofs.Common.{◌↔◌, sym, subst}
use Rattle.dtype_paths.specs.Found.{Found}
use Rattle.dtype_projection.specs.Restricted.{restricted}
use Rattle.dtype_projection.proofs.lemmas.Restrictions.{found_kept}
use Rattle.dtype_projection.proofs.laws.values_are_restricted.Goals as goal

pub returns-clause-found : goal.returns-clause-found
returns-clause-found c = λ t w p q v x is a b h.
    subst (λ z. Found v z x ↔ Found (restricted t w v) z x) (sym b.1) (found_kept p b.0 t a.found w v x is a.at h)
