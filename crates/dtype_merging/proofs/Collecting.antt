-- SPDX-License-Identifier: Apache-2.0
-- SPDX-FileCopyrightText: Copyright the Vortex contributors

-- Columns that are collected one after another, and the types that are made of merged parts.
use Rattle.std.proofs.Common.{◌≡◌, ◌∙◌, ◌&&◌, ◌+◌, ◌≤◌, ℕ, List, [], ◌∷◌, ◌++◌, true, false, Option, Some, None, refl, sym, ap, subst, append_assoc, arith}
use Rattle.std.specs.Option.{is_some, option_map}
use Rattle.std.specs.Prelude.{◌↔◌, Bool, IsTrue, Result}
use Rattle.std.proofs.lemmas.Bool.Decides.{same_from_decides}
use Rattle.std.proofs.lemmas.List.{map-append}
use Rattle.dtype_base.specs.Errors.{Makes}
use Rattle.dtype_base.specs.Nullability.{either}
use Rattle.dtype_base.specs.declared.nullability.Nullability.{Nullability}
use Rattle.dtype_base.specs.declared.nullability.Nullability.TheVariants.{Nullable}
use Rattle.dtype_base.specs.declared.vortex_error.VortexError.{VortexError}
use Rattle.dtype_types.specs.declared.dtype.DType.{DType, Struct}
use Rattle.dtype_types.specs.declared.field_dtype.FieldDType.{FieldDType}
use Rattle.dtype_types.specs.declared.struct_fields.StructFields.{StructFields}
use Rattle.dtype_types.specs.nullability.Merged.{merged}
use Rattle.dtype_types.specs.nullability.Nullable.{IsNullable, nullability}
use Rattle.dtype_types.specs.parts.FieldTypes.{field_tree}
use Rattle.dtype_types.specs.parts.Lookups.{first_named}
use Rattle.dtype_types.specs.tree.Erase.{erase}
use Rattle.dtype_types.specs.tree.Tree.{Tree, fields, pairs, struct}
use Rattle.dtype_types.specs.tree.TreeOf.{MapParts, children, fields_of, tree, with_trees}
use Rattle.dtype_types.proofs.lemmas.Merging.{under_where}
use Rattle.dtype_types.proofs.lemmas.TreeLaws.{pairs_of, tree_struct}
use Rattle.dtype_types.proofs.lemmas.TypesBelow.{weight, weight_items}
use Rattle.dtype_merging.specs.MergedColumns.{column, columns_merged, further, map_of_key, map_with, merged_beside, merged_by_name, no_repeats, prepend, struct_with}
use Rattle.dtype_merging.specs.declared.widening.Widening.{Widening}
use Rattle.dtype_merging.specs.private.Collected.{collected, maps_merged, maps_stay_sorted}
use Rattle.dtype_merging.proofs.lemmas.Finding.{Pairs}
use Rattle.dtype_merging.proofs.lemmas.Merging.{pick_false, pick_true}

-- a map with a nullable key
map_of_nullable : (k : Tree) (o : Option Tree) (s : Bool) (n : Nullability) → nullability k ≡ Nullable → map_with (Some k) o s n ≡ None
map_of_nullable k None s n e = refl
map_of_nullable k (Some v) s n e = ap (λ m. map_of_key m k v s n) e

-- the keys stay sorted if those of both maps are sorted, and a call finds the key types equal except for nullabilities
pub told_sorted : (a b : MapParts) (t u : Tree) (r : Bool) → a.2 ≡ true → b.2 ≡ true → t ≡ a.0 → u ≡ b.0 → IsTrue r ↔ (erase t ≡ erase u) → r ≡ maps_stay_sorted a b
told_sorted a b t u r one other left right told =
    let same = subst (λ x. IsTrue r ↔ (erase x ≡ erase b.0)) left (subst (λ y. IsTrue r ↔ (erase t ≡ erase y)) right told) in
    same_from_decides r (is_some (merged a.0 b.0)) same (under_where either a.0 b.0)
    ∙ sym (ap (λ z. z && b.2 && is_some (merged a.0 b.0)) one ∙ ap (λ z. true && z && is_some (merged a.0 b.0)) other)

-- two maps whose merged key type is nullable can't be merged
pub keys_nullable : (wide : Widening) (a b : MapParts) (n : Nullability) (k : Tree) → Some k ≡ columns_merged wide a.0 b.0 → IsNullable k → None ≡ maps_merged wide a b n
keys_nullable wide a b n k key nulls =
    let s = maps_stay_sorted a b in
    sym (ap (λ o. map_with o (columns_merged wide a.1 b.1) s n) (sym key) ∙ map_of_nullable k (columns_merged wide a.1 b.1) s n nulls)

-- ---- structs

-- the merged type of two structs, by whether a name repeats in one of them
by_name : (wide : Widening) (ps qs : Pairs) (m n : Nullability) → (no_repeats ps && no_repeats qs) ≡ true → columns_merged wide (struct (fields ps) m) (struct (fields qs) n) ≡ struct_with (merged_by_name wide (fields ps) (fields qs)) (further ps qs) (either m n)
by_name wide ps qs m n e =
    let test = ap (λ xs. no_repeats xs && no_repeats (pairs (fields qs))) (pairs_of ps) ∙ ap (λ xs. no_repeats ps && no_repeats xs) (pairs_of qs) ∙ e in
    pick_true (no_repeats (pairs (fields ps)) && no_repeats (pairs (fields qs))) (struct_with (merged_by_name wide (fields ps) (fields qs)) (further (pairs (fields ps)) (pairs (fields qs))) (either m n)) (option_map (λ hs. struct hs (either m n)) (merged_beside wide (fields ps) (fields qs))) test
    ∙ ap (λ xs. struct_with (merged_by_name wide (fields ps) (fields qs)) (further xs (pairs (fields qs))) (either m n)) (pairs_of ps)
    ∙ ap (λ xs. struct_with (merged_by_name wide (fields ps) (fields qs)) (further ps xs) (either m n)) (pairs_of qs)

pub by_position : (wide : Widening) (ps qs : Pairs) (m n : Nullability) → (no_repeats ps && no_repeats qs) ≡ false → columns_merged wide (struct (fields ps) m) (struct (fields qs) n) ≡ option_map (λ hs. struct hs (either m n)) (merged_beside wide (fields ps) (fields qs))
by_position wide ps qs m n e =
    let test = ap (λ xs. no_repeats xs && no_repeats (pairs (fields qs))) (pairs_of ps) ∙ ap (λ xs. no_repeats ps && no_repeats xs) (pairs_of qs) ∙ e in
    pick_false (no_repeats (pairs (fields ps)) && no_repeats (pairs (fields qs))) (struct_with (merged_by_name wide (fields ps) (fields qs)) (further (pairs (fields ps)) (pairs (fields qs))) (either m n)) (option_map (λ hs. struct hs (either m n)) (merged_beside wide (fields ps) (fields qs))) test

-- the same of two types that are structs
pub structs_by_name : (wide : Widening) (d e : DType) (x y : StructFields) (m n k : Nullability) (r : Result (Option DType) VortexError)
    → d ≡ Struct x m → e ≡ Struct y n → (no_repeats (children x) && no_repeats (children y)) ≡ true → k ≡ either m n
    → Makes r (λ o. option_map tree o ≡ struct_with (merged_by_name wide (fields_of x) (fields_of y)) (further (children x) (children y)) k)
    → Makes r (λ o. option_map tree o ≡ columns_merged wide (tree d) (tree e))
structs_by_name wide d e x y m n k r is_d is_e test joined made =
    let left = ap tree is_d ∙ tree_struct x m in
    let right = ap tree is_e ∙ tree_struct y n in
    let all = ap (λ t. columns_merged wide t (tree e)) left ∙ ap (λ t. columns_merged wide (struct (fields_of x) m) t) right ∙ by_name wide (children x) (children y) m n test
    ∙ ap (λ z. struct_with (merged_by_name wide (fields_of x) (fields_of y)) (further (children x) (children y)) z) (sym joined) in
    subst (λ z. Makes r (λ o. option_map tree o ≡ z)) (sym all) made

pub structs_by_position : (wide : Widening) (d e : DType) (x y : StructFields) (m n k : Nullability) (r : Result (Option DType) VortexError)
    → d ≡ Struct x m → e ≡ Struct y n → (no_repeats (children x) && no_repeats (children y)) ≡ false → k ≡ either m n
    → Makes r (λ o. option_map tree o ≡ option_map (λ hs. struct hs k) (merged_beside wide (fields_of x) (fields_of y)))
    → Makes r (λ o. option_map tree o ≡ columns_merged wide (tree d) (tree e))
structs_by_position wide d e x y m n k r is_d is_e test joined made =
    let left = ap tree is_d ∙ tree_struct x m in
    let right = ap tree is_e ∙ tree_struct y n in
    let all = ap (λ t. columns_merged wide t (tree e)) left ∙ ap (λ t. columns_merged wide (struct (fields_of x) m) t) right ∙ by_position wide (children x) (children y) m n test
    ∙ ap (λ z. option_map (λ hs. struct hs z) (merged_beside wide (fields_of x) (fields_of y))) (sym joined) in
    subst (λ z. Makes r (λ o. option_map tree o ≡ z)) (sym all) made

-- ---- columns

-- the columns with one more
collected_more : (done more : List (List ℕ × FieldDType)) (n : List ℕ) (c : FieldDType) → more ≡ done ++ (n, c) ∷ [] → collected more ≡ collected done ++ (n, field_tree c) ∷ []
collected_more done more n c e = ap collected e ∙ map-append _ done ((n, c) ∷ [])

-- the fields that are left weigh no more
pub lighter : (left rest : List (List ℕ × DType)) (n : List ℕ) (d : DType) (k : ℕ) → left ≡ (n, d) ∷ rest → weight_items (fields (with_trees left)) ≤ k → weight_items (fields (with_trees rest)) ≤ k
lighter left rest n d k next within =
    let all : weight_items (fields (with_trees left)) ≡ weight (tree d) + weight_items (fields (with_trees rest)) = ap (λ qs. weight_items (fields (with_trees qs))) next in
    omega (arith, all, within)

-- a column is merged, of the fields that are left
pub merged_more : (wide : Widening) (ps : Pairs) (done more : List (List ℕ × FieldDType)) (left rest : List (List ℕ × DType)) (n : List ℕ) (d x : DType) (c : FieldDType) (o : Option Tree) (all : Option Pairs)
    → option_map (λ qs. collected done ++ qs) (merged_by_name wide (fields (with_trees left)) (fields ps)) ≡ all → left ≡ (n, d) ∷ rest → o ≡ first_named ps n
    → Some (tree x) ≡ column (tree d) (λ u. columns_merged wide (tree d) u) o → field_tree c ≡ tree x → more ≡ done ++ (n, c) ∷ []
    → option_map (λ qs. collected more ++ qs) (merged_by_name wide (fields (with_trees rest)) (fields ps)) ≡ all
merged_more wide ps done more left rest n d x c o all so_far next found made same put =
    let rows = merged_by_name wide (fields (with_trees rest)) (fields ps) in
    let col : Some (field_tree c) ≡ column (tree d) (λ u. columns_merged wide (tree d) u) (first_named (pairs (fields ps)) n)
    = ap Some same ∙ made ∙ ap (λ z. column (tree d) (λ u. columns_merged wide (tree d) u) z) (found ∙ ap (λ z. first_named z n) (sym (pairs_of ps))) in
    ap (λ z. option_map (λ qs. z ++ qs) rows) (collected_more done more n c put)
    ∙ behind rows
    ∙ ap (λ z. option_map (λ qs. collected done ++ qs) (prepend n z rows)) col
    ∙ ap (λ z. option_map (λ qs. collected done ++ qs) (merged_by_name wide (fields (with_trees z)) (fields ps))) (sym next) ∙ so_far
  where
    behind : (z : Option Pairs) → option_map (λ qs. (collected done ++ (n, field_tree c) ∷ []) ++ qs) z ≡ option_map (λ qs. collected done ++ qs) (prepend n (Some (field_tree c)) z)
    behind None = refl
    behind (Some qs) = ap Some (append_assoc (collected done) ((n, field_tree c) ∷ []) qs)

-- a column can't be merged, of the fields that are left
pub merged_stops : (wide : Widening) (ps : Pairs) (done : List (List ℕ × FieldDType)) (left rest : List (List ℕ × DType)) (n : List ℕ) (d : DType) (o : Option Tree) (all : Option Pairs)
    → option_map (λ qs. collected done ++ qs) (merged_by_name wide (fields (with_trees left)) (fields ps)) ≡ all → left ≡ (n, d) ∷ rest → o ≡ first_named ps n
    → None ≡ column (tree d) (λ u. columns_merged wide (tree d) u) o → None ≡ all
merged_stops wide ps done left rest n d o all so_far next found none =
    let rows = merged_by_name wide (fields (with_trees rest)) (fields ps) in
    let col : None ≡ column (tree d) (λ u. columns_merged wide (tree d) u) (first_named (pairs (fields ps)) n)
    = none ∙ ap (λ z. column (tree d) (λ u. columns_merged wide (tree d) u) z) (found ∙ ap (λ z. first_named z n) (sym (pairs_of ps))) in
    ap (λ z. option_map (λ qs. collected done ++ qs) (prepend n z rows)) col ∙ ap (λ z. option_map (λ qs. collected done ++ qs) (merged_by_name wide (fields (with_trees z)) (fields ps))) (sym next) ∙ so_far
