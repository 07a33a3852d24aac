-- SPDX-License-Identifier: Apache-2.0
-- SPDX-FileCopyrightText: Copyright the Vortex contributors

-- One type for several types with different columns, which are merged one after another. For example, `{id=u64}`,
-- `{note=utf8, id=u64}` and `{id=null}` are merged to `{id=u64?, note=utf8?}`.
use Rattle.std.specs.Prelude.{List, [], ◌∷◌, Option, Some, option_and_then}
use Rattle.std.specs.List.{AllByRecursion}
use Rattle.dtype_types.specs.tree.Tree.{Tree}
use Rattle.dtype_types.specs.tree.Valid.{Valid}
use Rattle.dtype_types.specs.values.Value.{Of, Value}
use Rattle.dtype_merging.specs.Filled.{filled}
use Rattle.dtype_merging.specs.MergedColumns.{columns_merged}
use Rattle.dtype_merging.specs.ReadsAs.{ReadsAs}
use Rattle.dtype_merging.specs.declared.widening.Widening.{Widening}

-- the type t, merged by columns with one after another of the types us, or None if two types can't be merged on the way
abbrev pub all_columns_merged : Widening → Tree → List Tree → Option Tree
all_columns_merged w t [] = Some t
all_columns_merged w t (u ∷ us) = option_and_then (λ m. all_columns_merged w m us) (columns_merged w t u)

-- t and each of the types us can be read as c, and c can be read as each valid type as which all of them can be read
pub record IsLeastReaderOfAll (w : Widening) (t : Tree) (us : List Tree) (c : Tree) : Type 0 where
  pub first : ReadsAs w t c
  pub others : AllByRecursion (λ u. ReadsAs w u c) us
  pub least : (d : Tree) → Valid d → ReadsAs w t d → AllByRecursion (λ u. ReadsAs w u d) us → ReadsAs w c d

-- there is no valid type as which t and all of the types us can be read
abbrev pub HaveNoReaderOfAll : Widening → Tree → List Tree → Type 0
HaveNoReaderOfAll w t us = (d : Tree) → Valid d → ReadsAs w t d → AllByRecursion (λ u. ReadsAs w u d) us → ⊥

-- each value of t, filled, is a value of c
abbrev pub FilledIn : Tree → Tree → Type 0
FilledIn t c = (v : Value) → Of v t → Of (filled t c v) c

-- this is so of t and of each of the types us
pub record AllFilledIn (t : Tree) (us : List Tree) (c : Tree) : Type 0 where
  pub first : FilledIn t c
  pub others : AllByRecursion (λ u. FilledIn u c) us
