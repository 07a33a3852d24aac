-- SPDX-License-Identifier: Apache-2.0
-- SPDX-FileCopyrightText: Copyright the Vortex contributors

-- Two lists that are gone over together: no pair is left once one of them has ended.
use Rattle.std.proofs.Common.{◌≡◌, List, [], ◌∷◌, refl}
use Rattle.std.specs.List.{zip}

pub left_ended : {A B : Type 0} (xs : List A) (ys : List B) → xs ≡ [] → zip xs ys ≡ []
left_ended xs ys e = rw e refl

pub right_ended : {A B : Type 0} (xs : List A) (ys : List B) → ys ≡ [] → zip xs ys ≡ []
right_ended [] ys e = refl
right_ended (x ∷ xs) ys e = rw e refl

-- A loop over the types of two structs, or of any two lists, side by side.
pub ruleset zipped = (left_ended, right_ended)
