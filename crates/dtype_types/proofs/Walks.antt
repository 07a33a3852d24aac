-- SPDX-License-Identifier: Apache-2.0
-- SPDX-FileCopyrightText: Copyright the Vortex contributors

-- Loops over borrowed fields or variants: what is left after an iteration, and at the end.
use Rattle.std.proofs.Common.{◌≡◌, ◌≤◌, ℕ, List, [], ◌∷◌, ap, subst, arith}
use denote.Param.Weighed.{most}
use Rattle.std.specs.Prelude.{Option, Some, None}
use Rattle.std.specs.Iterator.{YieldsFirstBy}
use Rattle.dtype_types.specs.declared.dtype.DType.{DType, size-DType}

-- the item that an iterator gives is the first of those that are left
module _ {Item X : Type 0} (lent : Item → X) where
  abbrev pub steps : List X → Option Item → List X → Type 0
  steps = YieldsFirstBy lent (λ left. left)

  pub next_of : (s t : List X) (r : Option Item) (x : Item) → r ≡ Some x → steps s r t → s ≡ lent x ∷ t
  next_of s t r x is h = subst (λ o. steps s o t) is h

  pub none_of : (s t : List X) (r : Option Item) → r ≡ None → steps s r t → s ≡ []
  none_of s t r is h = (subst (λ o. steps s o t) is h).0

-- the types that a recursion has left are no deeper than those that it began with
pub no_deeper : (k : ℕ) (ds rest : List DType) (d : DType) → ds ≡ d ∷ rest → most size-DType ds ≤ k → most size-DType rest ≤ k
no_deeper k ds rest d e h = omega (arith, h, ap (most size-DType) e)
