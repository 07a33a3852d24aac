-- SPDX-License-Identifier: Apache-2.0
-- SPDX-FileCopyrightText: Copyright the Vortex contributors

-- What a loop over a slice of types has merged by columns so far: what the types up to the next one are merged to, which
-- type is the next one, and that there is nothing to which all are merged if the next one can't be. The types so far are
-- named as `take i (map tree ds)`, so the loop may go by `enumerate`, and its function may return the position.
use Rattle.std.proofs.Common.{◌≡◌, ◌∙◌, ◌++◌, ◌+◌, ◌<◌, ℕ, zero, suc, List, [], ◌∷◌, Option, Some, None, option_and_then, take, map, length, get_or, refl, sym, ap}
use Rattle.std.specs.List.{slice_get}
use Rattle.std.specs.Option.{option_map}
use Rattle.std.proofs.lemmas.List.{map_more, take-map}
use Rattle.std.proofs.lemmas.Option.{same_Some, slice_get-get_or, slice_get-map}
use Rattle.dtype_types.specs.declared.dtype.DType.{DType}
use Rattle.dtype_types.specs.tree.Tree.{Tree}
use Rattle.dtype_types.specs.tree.TreeOf.{tree}
use Rattle.dtype_merging.specs.AllMerged.{all_columns_merged}
use Rattle.dtype_merging.specs.MergedColumns.{columns_merged}
use Rattle.dtype_merging.specs.declared.widening.Widening.{Widening}
use Rattle.dtype_merging.proofs.lemmas.AllMerged.{one_more}

-- ---- options one after another

then_both : {X : Type 0} (o : Option X) (f g : X → Option X) → option_and_then (λ x. option_and_then g (f x)) o ≡ option_and_then g (option_and_then f o)
then_both None f g = refl
then_both (Some x) f g = refl

then_alike : {X : Type 0} (o : Option X) (f g : X → Option X) → ((x : X) → f x ≡ g x) → option_and_then f o ≡ option_and_then g o
then_alike None f g h = refl
then_alike (Some x) f g h = h x

then_itself : {X : Type 0} (o : Option X) → option_and_then (λ x. Some x) o ≡ o
then_itself None = refl
then_itself (Some x) = refl

-- ---- of trees

-- types that are merged in two steps
merged_behind : (w : Widening) (t : Tree) (us vs : List Tree) → all_columns_merged w t (us ++ vs) ≡ option_and_then (λ m. all_columns_merged w m vs) (all_columns_merged w t us)
merged_behind w t [] vs = refl
merged_behind w t (u ∷ us) vs =
    then_alike (columns_merged w t u) (λ m. all_columns_merged w m (us ++ vs)) (λ m. option_and_then (λ k. all_columns_merged w k vs) (all_columns_merged w m us)) (λ m. merged_behind w m us vs)
    ∙ then_both (columns_merged w t u) (λ m. all_columns_merged w m us) (λ m. all_columns_merged w m vs)

-- if a type can't be merged with those before it, then all can't be merged
stops : (w : Widening) (t m u : Tree) (us : List Tree) (i : ℕ) → slice_get us i ≡ Some u → all_columns_merged w t (take i us) ≡ Some m → columns_merged w m u ≡ None → all_columns_merged w t us ≡ None
stops w t m u [] i at so_far none = cc
stops w t m u (v ∷ us) zero at so_far none = ap (option_and_then (λ m. all_columns_merged w m us)) ((λ k. columns_merged w (same_Some t m so_far k) (same_Some v u at k)) ∙ none)
stops w t m u (v ∷ us) (suc i) at so_far none = let r = one_more w t v m (take i us) so_far in ap (option_and_then (λ m. all_columns_merged w m us)) r.1 ∙ stops w r.0 m u us i at r.2 none

-- one element more is taken of a list
taken : {X Y : Type 0} (f : X → Y) (xs : List X) (i : ℕ) (d : X) → i < length xs → take (i + 1) (map f xs) ≡ take i (map f xs) ++ f (get_or xs i d) ∷ []
taken f xs i d within = take-map f (i + 1) xs ∙ map_more f xs i d within ∙ ap (λ ys. ys ++ f (get_or xs i d) ∷ []) (sym (take-map f i xs))

-- ---- in a loop, in which `m` is merged so far, and `d` is the next type

-- the next type
pub next_type : (ds : List DType) (i : ℕ) (d e : DType) → i < length ds → get_or ds i e ≡ d → slice_get (map tree ds) i ≡ Some (tree d)
next_type ds i d e within at = slice_get-map tree ds i ∙ ap (option_map tree) (slice_get-get_or ds i e within ∙ ap Some at)

-- the types up to the next one are merged to `c`, if `m` and the next one are
pub next_merged : (w : Widening) (t : Tree) (ds : List DType) (i : ℕ) (m c d e : DType) → i < length ds → get_or ds i e ≡ d → all_columns_merged w t (take i (map tree ds)) ≡ Some (tree m) → Some (tree c) ≡ columns_merged w (tree m) (tree d) → all_columns_merged w t (take (i + 1) (map tree ds)) ≡ Some (tree c)
next_merged w t ds i m c d e within at so_far is =
    ap (all_columns_merged w t) (taken tree ds i e within ∙ ap (λ x. take i (map tree ds) ++ tree x ∷ []) at)
    ∙ merged_behind w t (take i (map tree ds)) (tree d ∷ []) ∙ ap (option_and_then (λ k. all_columns_merged w k (tree d ∷ []))) so_far ∙ then_itself (columns_merged w (tree m) (tree d)) ∙ sym is

-- there is nothing to which all are merged, if `m` and the next one can't be merged
pub next_unmerged : (w : Widening) (t : Tree) (ds : List DType) (i : ℕ) (m d e : DType) → i < length ds → get_or ds i e ≡ d → all_columns_merged w t (take i (map tree ds)) ≡ Some (tree m) → None ≡ columns_merged w (tree m) (tree d) → all_columns_merged w t (map tree ds) ≡ None
next_unmerged w t ds i m d e within at so_far is = stops w t (tree m) (tree d) (map tree ds) i (next_type ds i d e within at) so_far (sym is)

pub ruleset merged_so_far = (next_type, next_merged, next_unmerged)
