-- SPDX-License-Identifier: Apache-2.0
-- SPDX-FileCopyrightText: Copyright the Vortex contributors

-- The path of one step is a prefix of the paths that begin with this step: for contracts of callers about
-- `starts_with_field`.
use Rattle.std.proofs.Common.{◌≡◌, ◌∷◌, [], ap, List, slice_get, Some}
use Rattle.std.proofs.lemmas.Option.{same_Some}
use Rattle.dtype_paths.specs.Beginning.{Beginning}
use Rattle.dtype_paths.specs.declared.field.Field.{Field}

pub first_begins : (f : Field) (p : List Field) → slice_get p 0 ≡ Some f → Beginning (f ∷ []) p
first_begins f [] e = cc
first_begins f (g ∷ p) e = (p, ap (λ (h : Field). h ∷ p) (same_Some g f e))

pub begins_first : (f : Field) (p : List Field) → Beginning (f ∷ []) p → slice_get p 0 ≡ Some f
begins_first f p (rest, e) = ap (λ (q : List Field). slice_get q 0) e
