-- SPDX-License-Identifier: Apache-2.0
-- SPDX-FileCopyrightText: Copyright the Vortex contributors

-- What several types are as one, which a loop merges one after another: that it is the least type above all of them, where
-- there is one, its values, and that it is valid.
use Rattle.std.proofs.Common.{arith, ◌≡◌, ◌↔◌, List, [], ◌∷◌, Option, Some, None, IsSome, IfSome, option_and_then, refl, sym, subst}
use Rattle.std.specs.List.{AllByRecursion}
use Rattle.std.specs.Option.{option_map}
use Rattle.std.proofs.lemmas.Bool.{false≢true}
use Rattle.dtype_base.specs.Nullability.{either}
use Rattle.dtype_types.specs.declared.dtype.DType.{DType}
use Rattle.dtype_types.specs.nullability.Merged.{merged}
use Rattle.dtype_types.specs.nullability.Sub.{Sub}
use Rattle.dtype_types.specs.tree.Erase.{erase}
use Rattle.dtype_types.specs.tree.Tree.{Tree}
use Rattle.dtype_types.specs.tree.TreeOf.{tree}
use Rattle.dtype_types.specs.tree.Valid.{Valid}
use Rattle.dtype_types.specs.values.Value.{IncludedIn}
use Rattle.dtype_types.proofs.lemmas.Merging.{merged_least, merged_valid, under_where}
use Rattle.dtype_types.proofs.lemmas.Order.{sub_reflexive, sub_transitive}
use Rattle.dtype_types.proofs.lemmas.SubValues.{sub_values}
use Rattle.vortex_dtype.specs.MergedAll.{AreAlike, IncludesAll, IsLeastAboveAll, merged_all}

-- a fact of what one more type comes to, by what is merged with it
one_more : (t u c : Tree) (us : List Tree) (P : Type 0) → ((m : Tree) → merged t u ≡ Some m → merged_all m us ≡ Some c → P) → merged_all t (u ∷ us) ≡ Some c → P
one_more t u c us P f e = grind (arith, e, f)

-- ---- the least type above all

least : (t c : Tree) (us : List Tree) → merged_all t us ≡ Some c → IsLeastAboveAll t us c
least t c [] e = grind (arith, e, sub_reflexive t)
least t c (u ∷ us) e = one_more t u c us (IsLeastAboveAll t (u ∷ us) c) (λ m is with_rest. grind (arith, merged_least t u m is, least m c us with_rest, sub_transitive t m c, sub_transitive u m c)) e

-- ---- its values, and that it is valid

included : (c : Tree) (us : List Tree) → AllByRecursion (λ u. Sub u c) us → AllByRecursion (λ u. IncludedIn u c) us
included c [] h = tt
included c (u ∷ us) h = (sub_values u c h.0, included c us h.1)

values : (t c : Tree) (us : List Tree) → merged_all t us ≡ Some c → IncludesAll t us c
values t c us e = let l = least t c us e in record { first = sub_values t c l.first; others = included c us l.others }

valid : (t c : Tree) (us : List Tree) → merged_all t us ≡ Some c → Valid t → AllByRecursion Valid us → Valid c
valid t c [] e h k = grind (arith, e, h)
valid t c (u ∷ us) e h k = grind (arith, e, h, k, merged_valid t u, λ (m : Tree). valid m c us)

-- ---- where there is one

alike : (t : Tree) (us : List Tree) → IsSome (merged_all t us) ↔ AreAlike t us
unfolding AreAlike
alike t [] = (λ s. tt, λ h. refl)
alike t (u ∷ us) = by (merged t u) (under_where either t u) (λ m is. (merged_least t u m is).first.erased) (λ m. alike m us)
  where
    other : (a b : Tree) → erase a ≡ erase b → AllByRecursion (λ x. erase a ≡ erase x) us → AllByRecursion (λ x. erase b ≡ erase x) us
    other a b e = subst (λ k. AllByRecursion (λ x. k ≡ erase x) us) e

    by : (o : Option Tree) → IsSome o ↔ (erase t ≡ erase u) → ((m : Tree) → o ≡ Some m → erase t ≡ erase m) → ((m : Tree) → IsSome (merged_all m us) ↔ AllByRecursion (λ x. erase m ≡ erase x) us)
        → IsSome (option_and_then (λ m. merged_all m us) o) ↔ AllByRecursion (λ x. erase t ≡ erase x) (u ∷ us)
    by None there same rest = (λ s. absurd (false≢true s), λ h. absurd (false≢true (there.1 h.0)))
    by (Some m) there same rest = (
      λ s. (there.0 refl, other m t (sym (same m refl)) ((rest m).0 s)),
      λ h. (rest m).1 (other t m (same m refl) h.1),
    )

-- ---- the same of what a call returns

pub all_least : (t : Tree) (us : List Tree) (o : Option DType) → option_map tree o ≡ merged_all t us → IfSome o (λ d. IsLeastAboveAll t us (tree d))
all_least t us o is = grind (arith, is, least t)

pub all_values : (t : Tree) (us : List Tree) (o : Option DType) → option_map tree o ≡ merged_all t us → IfSome o (λ d. IncludesAll t us (tree d))
all_values t us o is = grind (arith, is, values t)

pub all_valid : (t : Tree) (us : List Tree) (o : Option DType) → option_map tree o ≡ merged_all t us → Valid t → AllByRecursion Valid us → IfSome o (λ d. Valid (tree d))
all_valid t us o is h k = grind (arith, is, valid t, h, k)

pub all_alike : (t : Tree) (us : List Tree) (o : Option DType) → option_map tree o ≡ merged_all t us → IsSome o ↔ AreAlike t us
all_alike t us o is = grind (arith, is, alike t us)

pub ruleset merging_all = (all_least, all_values, all_valid, all_alike)
