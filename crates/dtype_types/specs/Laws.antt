-- SPDX-License-Identifier: Apache-2.0
-- SPDX-FileCopyrightText: Copyright the Vortex contributors

-- Properties that the functions of `laws.rt` guarantee of the definitions. From arithmetic and the `Iterator` of std.
use Rattle.std.specs.Prelude.{◌≡◌, List, Option, length}
use Rattle.std.specs.Iterator.{Count, UpTo}
use Rattle.std.specs.Iterator.Runs.{EveryRun, ItemsMapTo}
use Rattle.dtype_types.specs.tree.Tree.{Tree}

-- `R` is a partial order of types: it is reflexive, transitive and antisymmetric
pub record IsOrder (R : Tree → Tree → Type 0) : Type 0 where
  pub reflexive : (a : Tree) → R a a
  pub transitive : (a b c : Tree) → R a b → R b c → R a c
  pub antisymmetric : (a b : Tree) → R a b → R b a → a ≡ b

-- An iterator returns what is left, in order, and then None. `left s` are the items that are left in the state `s`, and
-- `seen` is what contracts say about an item.
pub record GivesInOrder {S A B : Type 0} (next : S → Option A → S → Type 0) (remaining : S → Count) (seen : A → B) (left : S → List B) : Type 0 where
  pub in_order : EveryRun next (λ run. ItemsMapTo run seen (left run.from))
  pub ends : (s : S) → UpTo (remaining s) (length (left s))
