-- SPDX-License-Identifier: Apache-2.0
-- SPDX-FileCopyrightText: Copyright the Vortex contributors

-- A path that exists in a type to which several types were merged by columns exists in one of them.
use Rattle.std.proofs.Common.{◌≡◌, List, [], ◌∷◌, Option, Some, None, IfSome, sym, subst, inl, inr}
use Rattle.std.specs.Option.{option_map}
use Rattle.std.proofs.lemmas.Option.{same_Some}
use Rattle.dtype_types.specs.declared.dtype.DType.{DType}
use Rattle.dtype_types.specs.tree.Tree.{Tree}
use Rattle.dtype_types.specs.tree.TreeOf.{tree}
use Rattle.dtype_paths.specs.At.{ExistsIn}
use Rattle.dtype_paths.specs.declared.field.Field.{Field}
use Rattle.dtype_merging.specs.AllMerged.{all_columns_merged}
use Rattle.dtype_merging.specs.declared.widening.Widening.{Widening}
use Rattle.dtype_merging.proofs.lemmas.AllMerged.{one_more}
use Rattle.dtype_merging.proofs.lemmas.Paths.{merged_at}
use Rattle.vortex_dtype.specs.InOne.{ExistsInOne}

one_exists : (w : Widening) (p : List Field) (t c : Tree) (us : List Tree) → all_columns_merged w t us ≡ Some c → ExistsIn c p → ExistsInOne (t ∷ us) p
unfolding ExistsInOne
one_exists w p t c [] e h = inl (subst (λ z. ExistsIn z p) (sym (same_Some t c e)) h)
one_exists w p t c (u ∷ us) e h =
    let r = one_more w t u c us e in
    elim (one_exists w p r.0 c us r.2 h) [
      | inl m ↦ elim (merged_at w t u r.0 p r.1 m) [ inl l ↦ inl l | inr o ↦ inr (inl o) ]
      | inr o ↦ inr (inr o)
    ]

-- the same of what a call returns
pub found_in_one : (w : Widening) (t : Tree) (us : List Tree) (o : Option DType) → option_map tree o ≡ all_columns_merged w t us → IfSome o (λ c. (p : List Field) → ExistsIn (tree c) p → ExistsInOne (t ∷ us) p)
found_in_one w t us None is = tt
found_in_one w t us (Some c) is = λ p h. one_exists w p t (tree c) us (sym is) h
