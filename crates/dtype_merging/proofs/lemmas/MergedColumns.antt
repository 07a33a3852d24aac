-- SPDX-License-Identifier: Apache-2.0
-- SPDX-FileCopyrightText: Copyright the Vortex contributors

-- For callers: what can be read as what, and what two types are merged to by columns. The merged type reads both, it can be
-- read as every valid type that reads both, and it is the table itself, up to the order of columns, if the other type can be
-- read as the table.
use Rattle.std.proofs.Common.{◌≡◌, Option, Some, None, IfSome, IsSome, refl, ap, sym, subst, ◌∙◌}
use Rattle.std.specs.Option.{is_some, option_map}
use Rattle.std.proofs.lemmas.Option.{same_Some}
use Rattle.dtype_types.specs.declared.dtype.DType.{DType}
use Rattle.dtype_types.specs.tree.Tree.{Tree}
use Rattle.dtype_types.specs.tree.TreeOf.{tree}
use Rattle.dtype_types.specs.tree.Valid.{Valid}
use Rattle.dtype_merging.specs.MergedColumns.{columns_merged}
use Rattle.dtype_merging.specs.ReadsAs.{ReadsAs, SameColumns}
use Rattle.dtype_merging.specs.declared.widening.Widening.{Widening}
use Rattle.dtype_merging.proofs.lemmas.MergeLaws.{changes_nothing, changes_nothing_turned, merged_is_least}
use Rattle.dtype_merging.proofs.lemmas.Merging.{above, least}
use Rattle.dtype_merging.proofs.lemmas.Reading.{reads_itself, reads_more, sub_reads}

-- both types can be read as what they are merged to
pub merged_reads_first : (wide : Widening) (a b c : Tree) → columns_merged wide a b ≡ Some c → ReadsAs wide a c
merged_reads_first wide a b c e = (above wide a b c e).0

pub merged_reads_second : (wide : Widening) (a b c : Tree) → columns_merged wide a b ≡ Some c → ReadsAs wide b c
merged_reads_second wide a b c e = (above wide a b c e).1

-- which can be read as every valid type as which both can be read
pub merged_is_below : (wide : Widening) (a b c d : Tree) → columns_merged wide a b ≡ Some c → Valid d → ReadsAs wide a d → ReadsAs wide b d → ReadsAs wide c d
merged_is_below wide a b c d e v h g = (merged_is_least wide a b c e).least d v h g

-- two types have a merged type if there is a valid type as which both can be read
pub merged_is_there : (wide : Widening) (a b d : Tree) → Valid d → ReadsAs wide a d → ReadsAs wide b d → IsSome (columns_merged wide a b)
merged_is_there wide a b d v h g = ap is_some (least wide a b d v h g).1

-- a table to which a type is added that can be read as it stays the same up to the order of columns
pub table_stays : (wide : Widening) (t u c : Tree) → columns_merged wide t u ≡ Some c → Valid t → ReadsAs wide u t → SameColumns c t
table_stays wide t u c e v h = let r = changes_nothing wide t u v h in subst (λ z. SameColumns z t) (same_Some r.0 c (sym r.1 ∙ e)) r.2

pub table_stays_behind : (wide : Widening) (t u c : Tree) → columns_merged wide u t ≡ Some c → Valid t → ReadsAs wide u t → SameColumns c t
table_stays_behind wide t u c e v h = let r = changes_nothing_turned wide t u v h in subst (λ z. SameColumns z t) (same_Some r.0 c (sym r.1 ∙ e)) r.2

-- the same of what a call returns
pub returned_table : (wide : Widening) (t u : Tree) (o : Option DType) → option_map tree o ≡ columns_merged wide t u → Valid t → ReadsAs wide u t → IfSome o (λ c. SameColumns (tree c) t)
returned_table wide t u None e v h = tt
returned_table wide t u (Some c) e v h = table_stays wide t u (tree c) (sym e) v h

pub returned_table_behind : (wide : Widening) (t u : Tree) (o : Option DType) → option_map tree o ≡ columns_merged wide u t → Valid t → ReadsAs wide u t → IfSome o (λ c. SameColumns (tree c) t)
returned_table_behind wide t u None e v h = tt
returned_table_behind wide t u (Some c) e v h = table_stays_behind wide t u (tree c) (sym e) v h

pub returned_there : (wide : Widening) (t u : Tree) (o : Option DType) → option_map tree o ≡ columns_merged wide t u → Valid t → ReadsAs wide u t → IsSome o
returned_there wide t u None e v h = let some = merged_is_there wide t u t v (reads_itself wide t) h in let none = ap is_some e in none ∙ some
returned_there wide t u (Some c) e v h = refl

pub ruleset merging_columns = (reads_itself, reads_more, sub_reads, merged_reads_first, merged_reads_second, merged_is_below, merged_is_there, table_stays, table_stays_behind, returned_table, returned_table_behind, returned_there)
