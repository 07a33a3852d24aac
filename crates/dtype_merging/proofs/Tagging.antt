-- SPDX-License-Identifier: Apache-2.0
-- SPDX-FileCopyrightText: Copyright the Vortex contributors

-- Variants that are found by tag and name and collected one after another, and the unions that are made of them.
use Rattle.std.proofs.Common.{◌≡◌, ◌≢◌, ◌∙◌, ◌==◌, ◌&&◌, ◌||◌, ◌+◌, ◌≤◌, ℕ, suc, List, [], ◌∷◌, ◌++◌, Bool, true, false, map, length, Option, Some, None, refl, sym, ap, subst, inl, inr, arith}
use Rattle.std.specs.List.{list_all, list_any, zip}
use Rattle.std.specs.Option.{option_map}
use Rattle.std.specs.Prelude.{◌⊎◌}
use Rattle.std.proofs.Math.Bool.{not}
use Rattle.std.proofs.lemmas.Bool.{false≢true}
use Rattle.std.proofs.lemmas.Bool.Decides.{Decides-eqb}
use Rattle.dtype_base.specs.declared.nullability.Nullability.{Nullability}
use Rattle.dtype_base.specs.declared.vortex_error.VortexError.{VortexError}
use Rattle.dtype_base.specs.declared.vortex_error.VortexError.TheVariants.{OutOfMemory}
use Rattle.dtype_types.specs.declared.dtype.DType.{DType, Union}
use Rattle.dtype_types.specs.declared.union_variants.UnionVariants.{UnionVariants}
use Rattle.dtype_types.specs.parts.Lookups.{first_named, variant_names, variant_tags}
use Rattle.dtype_types.specs.parts.Unions.{HasUnionLengths, MakesUnion, UnionError}
use Rattle.dtype_types.specs.tree.Tree.{Tree, Variants, Fields, a_union, item, pairs, triples, union, variants}
use Rattle.dtype_types.specs.tree.TreeOf.{tree, variant_list, with_tagged_trees}
use Rattle.dtype_types.proofs.lemmas.TreeLaws.{tree_union, triples_variants}
use Rattle.dtype_types.proofs.lemmas.TypesBelow.{weight, weight_items}
use Rattle.dtype_merging.specs.MergedColumns.{all_differ, can_be_variants, columns_merged, further_variants, joined, merged_by_tag, own_tags, put_first, union_with, variant_type}
use Rattle.dtype_merging.specs.ReadsAs.{keyed, tags}
use Rattle.dtype_merging.specs.declared.widening.Widening.{Widening}
use Rattle.dtype_merging.specs.private.Collected.{gathered, unions_merged}
use Rattle.dtype_merging.proofs.lemmas.Columns.{joined_nothing, kept_variant, left_variant}
use Rattle.dtype_merging.proofs.lemmas.Finding.{by_bool, finds_first, finds_later}
use Rattle.dtype_merging.proofs.lemmas.Merging.{pick_false, pick_true}
use Rattle.dtype_merging.proofs.lemmas.Variants.{accepted_tested, refused_tested}

-- the variants that a loop has left: for each the name, the type and the tag
abbrev pub Left : Type 0
Left = List (List ℕ × (DType × ℕ))

-- the same, as the variants of a tree
abbrev pub variants_left : Left → Variants
variants_left vs = variants (with_tagged_trees vs)

-- the variants that a loop has collected: for each the name, the tag and the type
abbrev pub Done : Type 0
Done = List (List ℕ × ℕ × DType)

-- ---- whether a tag repeats

turned : (f g : ℕ) → (g == f) ≡ (f == g)
turned f g = by_bool (f == g)
    (λ e. (Decides-eqb g f).1 (sym ((Decides-eqb f g).0 e)) ∙ sym e)
    (λ e. by_bool (g == f) (λ t. absurd (false≢true (sym e ∙ (Decides-eqb f g).1 (sym ((Decides-eqb g f).0 t))))) (λ t. t ∙ sym e))

any_or_all : (f : ℕ) (gs : List ℕ) → list_any (λ g. g == f) gs ≡ not (list_all (λ g. not (f == g)) gs)
any_or_all f [] = refl
any_or_all f (g ∷ gs) = ap (λ b. b || list_any (λ h. h == f) gs) (turned f g) ∙ by_bool (f == g)
    (λ e. ap (λ b. b || list_any (λ h. h == f) gs) e ∙ sym (ap (λ b. not (not b && list_all (λ h. not (f == h)) gs)) e))
    (λ e. ap (λ b. b || list_any (λ h. h == f) gs) e ∙ any_or_all f gs ∙ sym (ap (λ b. not (not b && list_all (λ h. not (f == h)) gs)) e))

not_true : (b : Bool) → not b ≡ true → b ≡ false
not_true true e = absurd (false≢true e)
not_true false e = refl

not_false : (b : Bool) → not b ≡ false → b ≡ true
not_false true e = refl
not_false false e = absurd (false≢true (sym e))

-- the first tag is among those behind it
pub tag_repeats : (gs rest : List ℕ) (f : ℕ) (all : Bool) → all_differ (λ f g. f == g) gs ≡ all → gs ≡ f ∷ rest → list_any (λ g. g == f) rest ≡ true → false ≡ all
tag_repeats gs rest f all so_far next among =
    sym (ap (λ b. b && all_differ (λ f g. f == g) rest) (not_true (list_all (λ g. not (f == g)) rest) (sym (any_or_all f rest) ∙ among)))
    ∙ ap (all_differ (λ f g. f == g)) (sym next) ∙ so_far

-- the first tag isn't among those behind it
pub tag_differs : (gs rest : List ℕ) (f : ℕ) (all : Bool) → all_differ (λ f g. f == g) gs ≡ all → gs ≡ f ∷ rest → list_any (λ g. g == f) rest ≡ false → all_differ (λ f g. f == g) rest ≡ all
tag_differs gs rest f all so_far next among =
    sym (ap (λ b. b && all_differ (λ f g. f == g) rest) (not_false (list_all (λ g. not (f == g)) rest) (sym (any_or_all f rest) ∙ among)))
    ∙ ap (all_differ (λ f g. f == g)) (sym next) ∙ so_far

-- of the variants of a union
pub own_some : (vs : List (List ℕ × (Tree × ℕ))) → vs ≢ [] → own_tags (variants vs) ≡ all_differ (λ f g. f == g) (variant_tags vs)
own_some [] ne = absurd (ne refl)
own_some (v ∷ vs) ne = ap (λ zs. all_differ (λ f g. f == g) (variant_tags zs)) (triples_variants (v ∷ vs))

pub own_none : (vs : List (List ℕ × (Tree × ℕ))) → vs ≡ [] → own_tags (variants vs) ≡ false
own_none vs e = ap (λ zs. own_tags (variants zs)) e

-- ---- a variant that is looked up

pub found_here : (left rest : Left) (n m : List ℕ) (d : DType) (f g : ℕ) (all : Option Tree)
    → first_named (pairs (keyed (variants_left left))) (f ∷ n) ≡ all → left ≡ (m, (d, g)) ∷ rest → g ≡ f → m ≡ n → Some (tree d) ≡ all
found_here left rest n m d f g all so_far next tag name =
    sym (finds_first (g ∷ m) (f ∷ n) (tree d) (pairs (keyed (variants_left rest))) (ap (λ k. k ∷ m) tag ∙ ap (λ k. f ∷ k) name))
    ∙ ap (λ z. first_named (pairs (keyed (variants_left z))) (f ∷ n)) (sym next) ∙ so_far

pub found_behind : (left rest : Left) (n m : List ℕ) (d : DType) (f g : ℕ) (all : Option Tree)
    → first_named (pairs (keyed (variants_left left))) (f ∷ n) ≡ all → left ≡ (m, (d, g)) ∷ rest → (g ∷ m) ≢ (f ∷ n) → first_named (pairs (keyed (variants_left rest))) (f ∷ n) ≡ all
found_behind left rest n m d f g all so_far next other =
    sym (finds_later (g ∷ m) (f ∷ n) (tree d) (pairs (keyed (variants_left rest))) other) ∙ ap (λ z. first_named (pairs (keyed (variants_left z))) (f ∷ n)) (sym next) ∙ so_far

-- ---- variants that are collected

gathered_more : (done : Done) (n : List ℕ) (g : ℕ) (x : DType) (us : Variants) → joined (gathered (done ++ (n, g, x) ∷ [])) us ≡ joined (gathered done) (item n (tree x) g us)
gathered_more [] n g x us = refl
gathered_more (v ∷ done) n g x us = ap (item v.0 (tree v.2) v.1) (gathered_more done n g x us)

-- the variants that are left weigh no more
pub variants_lighter : (left rest : Left) (n : List ℕ) (d : DType) (g : ℕ) (k : ℕ) → left ≡ (n, (d, g)) ∷ rest → weight_items (variants_left left) ≤ k → weight_items (variants_left rest) ≤ k
variants_lighter left rest n d g k next within =
    let all : weight_items (variants_left left) ≡ weight (tree d) + weight_items (variants_left rest) = ap (λ vs. weight_items (variants_left vs)) next in
    omega (arith, all, within)

-- a variant is merged, of those that are left
pub tagged_more : (wide : Widening) (gs : Fields) (done more : Done) (left rest : Left) (n : List ℕ) (d x : DType) (g : ℕ) (o : Option Tree) (all : Option Variants)
    → option_map (λ us. joined (gathered done) us) (merged_by_tag wide (variants_left left) gs) ≡ all → left ≡ (n, (d, g)) ∷ rest → o ≡ first_named (pairs gs) (g ∷ n)
    → Some (tree x) ≡ variant_type (tree d) (λ u. columns_merged wide (tree d) u) o → more ≡ done ++ (n, g, x) ∷ []
    → option_map (λ us. joined (gathered more) us) (merged_by_tag wide (variants_left rest) gs) ≡ all
tagged_more wide gs done more left rest n d x g o all so_far next found made put =
    let others = merged_by_tag wide (variants_left rest) gs in
    let here : Some (tree x) ≡ variant_type (tree d) (λ u. columns_merged wide (tree d) u) (first_named (pairs gs) (g ∷ n)) = made ∙ ap (variant_type (tree d) (λ u. columns_merged wide (tree d) u)) found in
    ap (λ z. option_map (λ us. joined (gathered z) us) others) put
    ∙ behind others
    ∙ ap (λ z. option_map (λ us. joined (gathered done) us) (put_first {h = a_union} n g z others)) here
    ∙ ap (λ z. option_map (λ us. joined (gathered done) us) (merged_by_tag wide (variants_left z) gs)) (sym next) ∙ so_far
  where
    behind : (z : Option Variants) → option_map (λ us. joined (gathered (done ++ (n, g, x) ∷ [])) us) z ≡ option_map (λ us. joined (gathered done) us) (put_first {h = a_union} n g (Some (tree x)) z)
    behind None = refl
    behind (Some us) = ap Some (gathered_more done n g x us)

-- a variant can't be merged, of those that are left
pub tagged_stops : (wide : Widening) (gs : Fields) (done : Done) (left rest : Left) (n : List ℕ) (d : DType) (g : ℕ) (o : Option Tree) (all : Option Variants)
    → option_map (λ us. joined (gathered done) us) (merged_by_tag wide (variants_left left) gs) ≡ all → left ≡ (n, (d, g)) ∷ rest → o ≡ first_named (pairs gs) (g ∷ n)
    → None ≡ variant_type (tree d) (λ u. columns_merged wide (tree d) u) o → None ≡ all
tagged_stops wide gs done left rest n d g o all so_far next found none =
    let others = merged_by_tag wide (variants_left rest) gs in
    let here : None ≡ variant_type (tree d) (λ u. columns_merged wide (tree d) u) (first_named (pairs gs) (g ∷ n)) = none ∙ ap (variant_type (tree d) (λ u. columns_merged wide (tree d) u)) found in
    ap (λ z. option_map (λ us. joined (gathered done) us) (put_first {h = a_union} n g z others)) here
    ∙ ap (λ z. option_map (λ us. joined (gathered done) us) (merged_by_tag wide (variants_left z) gs)) (sym next) ∙ so_far

-- no variants are left
pub tagged_all : (wide : Widening) (gs : Fields) (done : Done) (left : Left) (all : Option Variants) → option_map (λ us. joined (gathered done) us) (merged_by_tag wide (variants_left left) gs) ≡ all → left ≡ [] → Some (gathered done) ≡ all
tagged_all wide gs done left all so_far end =
    ap Some (sym (joined_nothing (gathered done))) ∙ ap (λ z. option_map (λ us. joined (gathered done) us) (merged_by_tag wide (variants_left z) gs)) (sym end) ∙ so_far

-- a further variant
pub further_put : (gs : Fields) (done more : Done) (left rest : Left) (n : List ℕ) (d x : DType) (g : ℕ) (all : Variants)
    → joined (gathered done) (further_variants gs (variants_left left)) ≡ all → left ≡ (n, (d, g)) ∷ rest → None ≡ first_named (pairs gs) (g ∷ n) → tree x ≡ tree d → more ≡ done ++ (n, g, x) ∷ []
    → joined (gathered more) (further_variants gs (variants_left rest)) ≡ all
further_put gs done more left rest n d x g all so_far next lacks same put =
    let others = further_variants gs (variants_left rest) in
    ap (λ z. joined (gathered z) others) put ∙ gathered_more done n g x others ∙ ap (λ t. joined (gathered done) (item n t g others)) same
    ∙ ap (joined (gathered done)) (sym (kept_variant gs n (tree d) g (variants_left rest) (sym lacks)) ∙ ap (λ z. further_variants gs (variants_left z)) (sym next)) ∙ so_far

-- a variant that both have
pub further_skipped : (gs : Fields) (done : Done) (left rest : Left) (n : List ℕ) (d : DType) (g : ℕ) (t : Tree) (all : Variants)
    → joined (gathered done) (further_variants gs (variants_left left)) ≡ all → left ≡ (n, (d, g)) ∷ rest → Some t ≡ first_named (pairs gs) (g ∷ n)
    → joined (gathered done) (further_variants gs (variants_left rest)) ≡ all
further_skipped gs done left rest n d g t all so_far next some =
    ap (joined (gathered done)) (sym (left_variant gs n (tree d) g (variants_left rest) t (sym some)) ∙ ap (λ z. further_variants gs (variants_left z)) (sym next)) ∙ so_far

pub further_all : (gs : Fields) (done : Done) (left : Left) (all : Variants) → joined (gathered done) (further_variants gs (variants_left left)) ≡ all → left ≡ [] → gathered done ≡ all
further_all gs done left all so_far end = sym (joined_nothing (gathered done)) ∙ ap (λ z. joined (gathered done) (further_variants gs (variants_left z))) (sym end) ∙ so_far

-- ---- the union of the variants that are collected

abbrev pub names_in : Done → List (List ℕ)
names_in vs = map (λ v. v.0) vs

abbrev pub types_in : Done → List Tree
types_in vs = map (λ v. tree v.2) vs

abbrev pub tags_in : Done → List ℕ
tags_in vs = map (λ v. v.1) vs

as_gathered : (vs : Done) → variants (zip (names_in vs) (zip (types_in vs) (tags_in vs))) ≡ gathered vs
as_gathered [] = refl
as_gathered (v ∷ vs) = ap (item v.0 (tree v.2) v.1) (as_gathered vs)

gathered_names : (vs : Done) → names_in vs ≡ variant_names (triples (gathered vs))
gathered_names [] = refl
gathered_names (v ∷ vs) = ap (λ ns. v.0 ∷ ns) (gathered_names vs)

gathered_tags : (vs : Done) → tags_in vs ≡ tags (gathered vs)
gathered_tags [] = refl
gathered_tags (v ∷ vs) = ap (λ gs. v.1 ∷ gs) (gathered_tags vs)

gathered_count : (vs : Done) → length (types_in vs) ≡ length (triples (gathered vs))
gathered_count [] = refl
gathered_count (v ∷ vs) = ap suc (gathered_count vs)

-- a word about names, their number and tags is about those of the variants
of_gathered : (P : List (List ℕ) → ℕ → List ℕ → Type 0) (vs : Done) (ns : List (List ℕ)) (ts : List Tree) (gs : List ℕ) → ns ≡ names_in vs → ts ≡ types_in vs → gs ≡ tags_in vs
    → P ns (length ts) gs → P (variant_names (triples (gathered vs))) (length (triples (gathered vs))) (tags (gathered vs))
of_gathered P vs ns ts gs names types each h =
    subst (λ z. P z (length (triples (gathered vs))) (tags (gathered vs))) (names ∙ gathered_names vs)
    (subst (λ k. P ns k (tags (gathered vs))) (ap length types ∙ gathered_count vs) (subst (P ns (length ts)) (each ∙ gathered_tags vs) h))

pub union_is_made : (u : UnionVariants) (n : Nullability) (vs : Done) (ns : List (List ℕ)) (ts : List Tree) (gs : List ℕ) → ns ≡ names_in vs → ts ≡ types_in vs → gs ≡ tags_in vs
    → variant_list u ≡ zip ns (zip ts gs) → MakesUnion ns (length ts) gs → Some (tree (Union u n)) ≡ union_with (Some (gathered vs)) n
union_is_made u n vs ns ts gs names types each is made =
    let all = gathered vs in
    let same : variants (variant_list u) ≡ all = ap variants (is ∙ ap (λ z. zip z (zip ts gs)) names ∙ ap (λ z. zip (names_in vs) (zip z gs)) types ∙ ap (λ z. zip (names_in vs) (zip (types_in vs) z)) each) ∙ as_gathered vs in
    ap Some (tree_union u n ∙ ap (λ z. union z n) same)
    ∙ sym (pick_true (can_be_variants all) (Some (union all n)) None (accepted_tested all (of_gathered MakesUnion vs ns ts gs names types each made)))

pub union_is_refused : (n : Nullability) (vs : Done) (ns : List (List ℕ)) (ts : List Tree) (gs : List ℕ) (e : VortexError) → ns ≡ names_in vs → ts ≡ types_in vs → gs ≡ tags_in vs
    → ((e ≡ OutOfMemory) × HasUnionLengths ns (length ts) gs) ⊎ UnionError ns (length ts) gs e → e ≢ OutOfMemory → None ≡ union_with (Some (gathered vs)) n
union_is_refused n vs ns ts gs e names types each (inl memory) other = absurd (other memory.0)
union_is_refused n vs ns ts gs e names types each (inr refused) other =
    let all = gathered vs in
    sym (pick_false (can_be_variants all) (Some (union all n)) None (refused_tested all e (of_gathered (λ xs k ys. UnionError xs k ys e) vs ns ts gs names types each refused)))

-- ---- two unions

pub unions_apart : (wide : Widening) (vs ws : Variants) (n : Nullability) (b : Bool) → b ≡ (own_tags vs && own_tags ws) → b ≡ false → None ≡ unions_merged wide vs ws n
unions_apart wide vs ws n b test fails =
    sym (pick_false (own_tags vs && own_tags ws) (union_with (option_map (λ us. joined us (further_variants (keyed vs) ws)) (merged_by_tag wide vs (keyed ws))) n) None (sym test ∙ fails))

pub unions_unmade : (wide : Widening) (vs ws : Variants) (n : Nullability) (b : Bool) → b ≡ (own_tags vs && own_tags ws) → b ≡ true → None ≡ merged_by_tag wide vs (keyed ws) → None ≡ unions_merged wide vs ws n
unions_unmade wide vs ws n b test passes none =
    ap (λ o. union_with (option_map (λ us. joined us (further_variants (keyed vs) ws)) o) n) none
    ∙ sym (pick_true (own_tags vs && own_tags ws) (union_with (option_map (λ us. joined us (further_variants (keyed vs) ws)) (merged_by_tag wide vs (keyed ws))) n) None (sym test ∙ passes))

pub unions_made : (wide : Widening) (vs ws us all : Variants) (n : Nullability) (b : Bool) (r : Option Tree) → b ≡ (own_tags vs && own_tags ws) → b ≡ true → Some us ≡ merged_by_tag wide vs (keyed ws)
    → all ≡ joined us (further_variants (keyed vs) ws) → r ≡ union_with (Some all) n → r ≡ unions_merged wide vs ws n
unions_made wide vs ws us all n b r test passes some made is =
    is ∙ ap (λ z. union_with (Some z) n) made ∙ ap (λ o. union_with (option_map (λ zs. joined zs (further_variants (keyed vs) ws)) o) n) some
    ∙ sym (pick_true (own_tags vs && own_tags ws) (union_with (option_map (λ zs. joined zs (further_variants (keyed vs) ws)) (merged_by_tag wide vs (keyed ws))) n) None (sym test ∙ passes))
