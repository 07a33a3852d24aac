-- SPDX-License-Identifier: Apache-2.0
-- SPDX-FileCopyrightText: Copyright the Vortex contributors

-- Lemmas on the members of a list that pass a test.
use Rattle.std.proofs.Common.{◌≡◌, Bool, true, List}
use Rattle.std.specs.List.{Contains, list_any}
use Rattle.std.proofs.lemmas.List.Folds.{Any-from_list_any, list_any-from_Any}

module _ {A : Type 0} (test : A → Bool) where
  pub any_from : (x : A) (xs : List A) → Contains xs x → test x ≡ true → list_any test xs ≡ true
  any_from x xs c t = list_any-from_Any test xs (c.0, x, c.1, c.2, t)

  pub some_member : (xs : List A) → list_any test xs ≡ true → (x : A) × Contains xs x × (test x ≡ true)
  some_member xs e = let a = Any-from_list_any test xs e in (a.1, (a.0, a.2, a.3), a.4)
