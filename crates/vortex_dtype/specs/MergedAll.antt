-- SPDX-License-Identifier: Apache-2.0
-- SPDX-FileCopyrightText: Copyright the Vortex contributors

-- Several types as one, merged one after another: what a reader of many files opens. A choice of ours, over `merged`.
use Rattle.std.specs.Prelude.{◌≡◌, List, [], ◌∷◌, Option, Some, option_and_then}
use Rattle.std.specs.List.{AllByRecursion}
use Rattle.dtype_types.specs.nullability.Merged.{merged}
use Rattle.dtype_types.specs.nullability.Sub.{Sub}
use Rattle.dtype_types.specs.tree.Erase.{erase}
use Rattle.dtype_types.specs.tree.Tree.{Tree}
use Rattle.dtype_types.specs.values.Value.{IncludedIn}

-- t, merged with one of the types us after another, or `None` if two types can't be merged on the way
abbrev pub merged_all : Tree → List Tree → Option Tree
merged_all t [] = Some t
merged_all t (u ∷ us) = option_and_then (λ m. merged_all m us) (merged t u)

-- each of the types us differs from t at most in nullabilities
unfoldable pub AreAlike : Tree → List Tree → Type 0
AreAlike t us = AllByRecursion (λ u. erase t ≡ erase u) us

-- t and each of the types us are below c, and c is below each type that all of them are below
pub record IsLeastAboveAll (t : Tree) (us : List Tree) (c : Tree) : Type 0 where
  pub first : Sub t c
  pub others : AllByRecursion (λ u. Sub u c) us
  pub least : (d : Tree) → Sub t d → AllByRecursion (λ u. Sub u d) us → Sub c d

-- each value of t and of each of the types us is a value of c
pub record IncludesAll (t : Tree) (us : List Tree) (c : Tree) : Type 0 where
  pub first : IncludedIn t c
  pub others : AllByRecursion (λ u. IncludedIn u c) us
