-- SPDX-License-Identifier: Apache-2.0
-- SPDX-FileCopyrightText: Copyright the Vortex contributors

-- Lists without repeated elements. For example, the names of a union, its tags and the paths of a cover are such lists.
-- From the documentation of `UnionVariants::try_new` and `StructFields::disjoint_merge`.
use Rattle.std.specs.Prelude.{◌≢◌, List, AllPairs}

-- no item is in the list twice
abbrev pub Distinct : {X : Type 0} → List X → Type 0
Distinct xs = AllPairs (λ x y. x ≢ y) xs
