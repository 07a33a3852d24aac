-- SPDX-License-Identifier: Apache-2.0
-- SPDX-FileCopyrightText: Copyright the Vortex contributors

-- The values of the greatest type that is a subset of two, beginning with what a call returns: a search then has the type
-- from the contract of `intersect_nullability`, and the valid one of the two from the premise of the caller's clause.
use Rattle.std.proofs.Common.{◌≡◌, ◌↔◌, Option, Some, None, IfSome, sym}
use Rattle.std.specs.Option.{option_map}
use Rattle.dtype_types.specs.declared.dtype.DType.{DType}
use Rattle.dtype_types.specs.nullability.Merged.{intersected}
use Rattle.dtype_types.specs.tree.Tree.{Tree}
use Rattle.dtype_types.specs.tree.TreeOf.{tree}
use Rattle.dtype_types.specs.tree.Valid.{Valid}
use Rattle.dtype_types.specs.values.Value.{Value, Of}
use Rattle.dtype_types.proofs.lemmas.Merging.{intersected_values}

pub values_of_both : (a b c : Tree) → Some c ≡ intersected a b → Valid a → (v : Value) → Of v c ↔ (Of v a × Of v b)
values_of_both a b c e h v = intersected_values a b c (sym e) h v

pub given_values_of_both : (a b : Tree) (o : Option DType) → option_map tree o ≡ intersected a b → Valid a → IfSome o (λ c. (v : Value) → Of v (tree c) ↔ (Of v a × Of v b))
given_values_of_both a b None e h = tt
given_values_of_both a b (Some d) e h = λ v. values_of_both a b (tree d) e h v
