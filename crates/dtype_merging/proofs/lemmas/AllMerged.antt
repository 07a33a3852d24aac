-- SPDX-License-Identifier: Apache-2.0
-- SPDX-FileCopyrightText: Copyright the Vortex contributors

-- What several types are merged to by columns, one after another: that it is the least type as which all can be read, that
-- there is one if there is such a valid type, its values, and that it is valid.
use Rattle.std.proofs.Common.{◌≡◌, List, [], ◌∷◌, Option, Some, None, IfNone, IfSome, option_and_then, sym, ap, subst, ◌∙◌}
use Rattle.std.specs.List.{AllByRecursion}
use Rattle.std.specs.Option.{option_map}
use Rattle.std.proofs.lemmas.Option.{same_Some}
use Rattle.dtype_types.specs.declared.dtype.DType.{DType}
use Rattle.dtype_types.specs.tree.Tree.{Tree}
use Rattle.dtype_types.specs.tree.TreeOf.{tree}
use Rattle.dtype_types.specs.tree.Valid.{Valid}
use Rattle.dtype_merging.specs.AllMerged.{AllFilledIn, FilledIn, HaveNoReaderOfAll, IsLeastReaderOfAll, all_columns_merged}
use Rattle.dtype_merging.specs.MergedColumns.{columns_merged}
use Rattle.dtype_merging.specs.ReadsAs.{ReadsAs}
use Rattle.dtype_merging.specs.declared.widening.Widening.{Widening}
use Rattle.dtype_merging.proofs.lemmas.Filling.{of_filled}
use Rattle.dtype_merging.proofs.lemmas.Finding.{by_option}
use Rattle.dtype_merging.proofs.lemmas.MergeLaws.{merge_valid, merged_is_least, none_has_no_reader}
use Rattle.dtype_merging.proofs.lemmas.Reading.{reads_itself, reads_more}

-- what one more type is merged to
pub one_more : (wide : Widening) (t u c : Tree) (us : List Tree) → all_columns_merged wide t (u ∷ us) ≡ Some c → (m : Tree) × (columns_merged wide t u ≡ Some m) × (all_columns_merged wide m us ≡ Some c)
one_more wide t u c us e = by_option (columns_merged wide t u)
    (λ none. let z = sym (ap (option_and_then (λ m. all_columns_merged wide m us)) none) ∙ e in cc)
    (λ m is. (m, is, sym (ap (option_and_then (λ m. all_columns_merged wide m us)) is) ∙ e))

pub reads_all : (wide : Widening) (t c : Tree) (us : List Tree) → all_columns_merged wide t us ≡ Some c → IsLeastReaderOfAll wide t us c
reads_all wide t c [] e =
    let is = same_Some t c e in
    record { first = subst (ReadsAs wide t) is (reads_itself wide t); others = tt; least = λ d v h g. subst (λ z. ReadsAs wide z d) is h }
reads_all wide t c (u ∷ us) e =
    let r = one_more wide t u c us e in
    let m = r.0 in
    let up = merged_is_least wide t u m r.1 in
    let rest = reads_all wide m c us r.2 in
    record {
      first = reads_more wide t m c up.first rest.first;
      others = (reads_more wide u m c up.second rest.first, rest.others);
      least = λ d v h g. rest.least d v (up.least d v h g.0) g.1;
    }

none : (wide : Widening) (t : Tree) (us : List Tree) → all_columns_merged wide t us ≡ None → HaveNoReaderOfAll wide t us
none wide t [] e d v h g = cc
none wide t (u ∷ us) e d v h g = by_option (columns_merged wide t u)
    (λ apart. none_has_no_reader wide t u apart d v h g.0)
    (λ m is. none wide m us (sym (ap (option_and_then (λ m. all_columns_merged wide m us)) is) ∙ e) d v ((merged_is_least wide t u m is).least d v h g.0) g.1)

filled_in : (wide : Widening) (c : Tree) (us : List Tree) → AllByRecursion (λ u. ReadsAs wide u c) us → AllByRecursion (λ u. FilledIn u c) us
filled_in wide c [] h = tt
filled_in wide c (u ∷ us) h = (of_filled wide u c h.0, filled_in wide c us h.1)

values : (wide : Widening) (t c : Tree) (us : List Tree) → all_columns_merged wide t us ≡ Some c → AllFilledIn t us c
values wide t c us e = let l = reads_all wide t c us e in record { first = of_filled wide t c l.first; others = filled_in wide c us l.others }

valid : (wide : Widening) (t c : Tree) (us : List Tree) → all_columns_merged wide t us ≡ Some c → Valid t → AllByRecursion Valid us → Valid c
valid wide t c [] e h k = subst Valid (same_Some t c e) h
valid wide t c (u ∷ us) e h k = let r = one_more wide t u c us e in valid wide r.0 c us r.2 (merge_valid wide t u r.0 r.1 h k.0) k.1

-- ---- the same of what a call returns

pub all_least : (wide : Widening) (t : Tree) (us : List Tree) (o : Option DType) → option_map tree o ≡ all_columns_merged wide t us → IfSome o (λ c. IsLeastReaderOfAll wide t us (tree c))
all_least wide t us None is = tt
all_least wide t us (Some c) is = reads_all wide t (tree c) us (sym is)

pub all_none : (wide : Widening) (t : Tree) (us : List Tree) (o : Option DType) → option_map tree o ≡ all_columns_merged wide t us → IfNone o (HaveNoReaderOfAll wide t us)
all_none wide t us None is = none wide t us (sym is)
all_none wide t us (Some c) is = tt

pub all_values : (wide : Widening) (t : Tree) (us : List Tree) (o : Option DType) → option_map tree o ≡ all_columns_merged wide t us → IfSome o (λ c. AllFilledIn t us (tree c))
all_values wide t us None is = tt
all_values wide t us (Some c) is = values wide t (tree c) us (sym is)

pub all_valid : (wide : Widening) (t : Tree) (us : List Tree) (o : Option DType) → option_map tree o ≡ all_columns_merged wide t us → Valid t → AllByRecursion Valid us → IfSome o (λ c. Valid (tree c))
all_valid wide t us None is h k = tt
all_valid wide t us (Some c) is h k = valid wide t (tree c) us (sym is) h k

pub ruleset all_merged = (all_least, all_none, all_values, all_valid)
