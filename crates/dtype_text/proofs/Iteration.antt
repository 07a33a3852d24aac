-- SPDX-License-Identifier: Apache-2.0
-- SPDX-FileCopyrightText: Copyright the Vortex contributors

-- What an iterator has left at its end.
use Rattle.std.proofs.Common.{◌≡◌, List, [], subst}
use Rattle.std.specs.Prelude.{Option, None}
use Rattle.std.specs.Iterator.{YieldsFirstBy}

module _ {Item X : Type 0} (lent : Item → X) where
  abbrev pub steps : List X → Option Item → List X → Type 0
  steps = YieldsFirstBy lent (λ left. left)

  pub none_of : (s t : List X) (r : Option Item) → r ≡ None → steps s r t → s ≡ []
  none_of s t r is h = (subst (λ o. steps s o t) is h).0
