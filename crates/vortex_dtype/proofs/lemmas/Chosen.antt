-- SPDX-License-Identifier: Apache-2.0
-- SPDX-FileCopyrightText: Copyright the Vortex contributors

-- What merging by columns gives with each choice of widening, for callers. What is said of paths and of values doesn't name
-- the choice, and no search finds a choice that a goal doesn't name.
use Rattle.std.proofs.Common.{◌≡◌, List, ◌∷◌, Option, IfSome, sym, subst}
use Rattle.std.specs.List.{AllByRecursion}
use Rattle.std.specs.Option.{option_map}
use Rattle.dtype_types.specs.declared.dtype.DType.{DType}
use Rattle.dtype_types.specs.tree.Tree.{Tree}
use Rattle.dtype_types.specs.tree.TreeOf.{tree}
use Rattle.dtype_paths.specs.At.{ExistsIn}
use Rattle.dtype_paths.specs.declared.field.Field.{Field}
use Rattle.dtype_merging.specs.AllMerged.{AllFilledIn, all_columns_merged}
use Rattle.dtype_merging.specs.ReadsAs.{ReadsAs}
use Rattle.dtype_merging.specs.declared.widening.Widening.{Widening}
use Rattle.dtype_merging.specs.declared.widening.Widening.TheVariants as widening
use Rattle.dtype_merging.proofs.lemmas.AllMerged.{all_values}
use Rattle.dtype_merging.proofs.lemmas.Paths.{all_lack, one_has}
use Rattle.dtype_merging.proofs.lemmas.Reading.{reads_itself}
use Rattle.vortex_dtype.specs.InOne.{ExistsInOne}
use Rattle.vortex_dtype.proofs.lemmas.InOne.{found_in_one}

-- a table can be read as its copy
pub reads_copy : (w : Widening) (t u : Tree) → u ≡ t → ReadsAs w t u
reads_copy w t u e = subst (ReadsAs w t) (sym e) (reads_itself w t)

-- ---- without widening

pub unwidened_lack : (t : Tree) (us : List Tree) (o : Option DType) → option_map tree o ≡ all_columns_merged widening.None t us → IfSome o (λ c. (p : List Field) → (ExistsIn (tree c) p → ⊥) → AllByRecursion (λ u. ExistsIn u p → ⊥) (t ∷ us))
unwidened_lack = all_lack widening.None

pub unwidened_has : (t : Tree) (us : List Tree) (o : Option DType) → option_map tree o ≡ all_columns_merged widening.None t us → IfSome o (λ c. (p : List Field) → AllByRecursion (λ u. ExistsIn u p → ⊥) (t ∷ us) → ExistsIn (tree c) p → ⊥)
unwidened_has = one_has widening.None

pub unwidened_in_one : (t : Tree) (us : List Tree) (o : Option DType) → option_map tree o ≡ all_columns_merged widening.None t us → IfSome o (λ c. (p : List Field) → ExistsIn (tree c) p → ExistsInOne (t ∷ us) p)
unwidened_in_one = found_in_one widening.None

pub unwidened_values : (t : Tree) (us : List Tree) (o : Option DType) → option_map tree o ≡ all_columns_merged widening.None t us → IfSome o (λ c. AllFilledIn t us (tree c))
unwidened_values = all_values widening.None

-- ---- with wider integers

pub widened_lack : (t : Tree) (us : List Tree) (o : Option DType) → option_map tree o ≡ all_columns_merged widening.Integers t us → IfSome o (λ c. (p : List Field) → (ExistsIn (tree c) p → ⊥) → AllByRecursion (λ u. ExistsIn u p → ⊥) (t ∷ us))
widened_lack = all_lack widening.Integers

pub widened_has : (t : Tree) (us : List Tree) (o : Option DType) → option_map tree o ≡ all_columns_merged widening.Integers t us → IfSome o (λ c. (p : List Field) → AllByRecursion (λ u. ExistsIn u p → ⊥) (t ∷ us) → ExistsIn (tree c) p → ⊥)
widened_has = one_has widening.Integers

pub widened_in_one : (t : Tree) (us : List Tree) (o : Option DType) → option_map tree o ≡ all_columns_merged widening.Integers t us → IfSome o (λ c. (p : List Field) → ExistsIn (tree c) p → ExistsInOne (t ∷ us) p)
widened_in_one = found_in_one widening.Integers

pub widened_values : (t : Tree) (us : List Tree) (o : Option DType) → option_map tree o ≡ all_columns_merged widening.Integers t us → IfSome o (λ c. AllFilledIn t us (tree c))
widened_values = all_values widening.Integers
