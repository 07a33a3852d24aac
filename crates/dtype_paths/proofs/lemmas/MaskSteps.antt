-- SPDX-License-Identifier: Apache-2.0
-- SPDX-FileCopyrightText: Copyright the Vortex contributors

-- What a mask selects after the first step of its path.
use Rattle.std.proofs.Common.{◌≡◌, List, [], ◌∷◌, Some, append-nil, sym}
use Rattle.std.proofs.lemmas.Option.{same_Some}
use Rattle.dtype_paths.specs.In.{In, first_part}
use Rattle.dtype_paths.specs.declared.field.Field.{Field}
use Rattle.dtype_paths.specs.declared.field_mask.FieldMask.{FieldMask}
use Rattle.dtype_paths.specs.declared.field_mask.FieldMask.TheVariants.{Prefix, Exact}

-- where a mask's path begins with a step, the mask holds some path that begins with it
pub first_contained : (m : FieldMask) (f : Field) → first_part m ≡ Some f → (q : List Field) × In m (f ∷ q)
first_contained (Prefix (h ∷ p)) f e = let same = same_Some h f e in (p, ([], λ i. sym same i ∷ sym (append-nil p) i))
first_contained (Exact (h ∷ p)) f e = let same = same_Some h f e in (p, λ i. sym same i ∷ p)
first_contained _ f e = cc
