-- SPDX-License-Identifier: Apache-2.0
-- SPDX-FileCopyrightText: Copyright the Vortex contributors

-- The first conflict of two structs, and of the fields that a loop has left.
use Rattle.std.proofs.Common.{◌≡◌, ◌∙◌, ◌&&◌, ℕ, List, ◌∷◌, true, false, Option, Some, None, option_and_then, refl, sym, ap}
use Rattle.std.specs.Option.{option_map}
use Rattle.dtype_base.specs.Nullability.{either}
use Rattle.dtype_base.specs.declared.nullability.Nullability.{Nullability}
use Rattle.dtype_types.specs.declared.dtype.DType.{DType, Struct}
use Rattle.dtype_types.specs.declared.struct_fields.StructFields.{StructFields}
use Rattle.dtype_types.specs.parts.Lookups.{first_named}
use Rattle.dtype_types.specs.tree.Tree.{Tree, fields, pairs, struct}
use Rattle.dtype_types.specs.tree.TreeOf.{children, fields_of, tree, with_trees}
use Rattle.dtype_types.proofs.lemmas.TreeLaws.{pairs_of, tree_struct}
use Rattle.dtype_paths.specs.declared.field.Field.{Field}
use Rattle.dtype_paths.specs.declared.field.Field.TheVariants.{Name}
use Rattle.dtype_merging.specs.Conflicts.{fields_conflict, first_conflict, first_of, root_unless}
use Rattle.dtype_merging.specs.MergedColumns.{columns_merged, merged_beside, no_repeats}
use Rattle.dtype_merging.specs.declared.widening.Widening.{Widening}
use Rattle.dtype_merging.proofs.Collecting.{by_position}
use Rattle.dtype_merging.proofs.lemmas.Finding.{Pairs}
use Rattle.dtype_merging.proofs.lemmas.Merging.{pick_false, pick_true}

-- ---- two types that are structs

root_of : {X : Type 0} (f : X → Tree) (o : Option X) → root_unless (option_map f o) ≡ root_unless o
root_of f None = refl
root_of f (Some x) = refl

-- in which no name repeats
pub structs_visited : (wide : Widening) (d e : DType) (x y : StructFields) (m n : Nullability) → d ≡ Struct x m → e ≡ Struct y n → (no_repeats (children x) && no_repeats (children y)) ≡ true
    → first_conflict wide (tree d) (tree e) ≡ fields_conflict wide (fields_of x) (fields_of y)
structs_visited wide d e x y m n is_d is_e test =
    let named = ap (λ xs. no_repeats xs && no_repeats (pairs (fields_of y))) (pairs_of (children x)) ∙ ap (λ xs. no_repeats (children x) && no_repeats xs) (pairs_of (children y)) ∙ test in
    ap (λ t. first_conflict wide t (tree e)) (ap tree is_d ∙ tree_struct x m) ∙ ap (λ t. first_conflict wide (struct (fields_of x) m) t) (ap tree is_e ∙ tree_struct y n)
    ∙ pick_true (no_repeats (pairs (fields_of x)) && no_repeats (pairs (fields_of y))) (fields_conflict wide (fields_of x) (fields_of y)) (root_unless (merged_beside wide (fields_of x) (fields_of y))) named

-- in one of which a name repeats
pub structs_whole : (wide : Widening) (d e : DType) (x y : StructFields) (m n : Nullability) → d ≡ Struct x m → e ≡ Struct y n → (no_repeats (children x) && no_repeats (children y)) ≡ false
    → first_conflict wide (tree d) (tree e) ≡ root_unless (columns_merged wide (tree d) (tree e))
structs_whole wide d e x y m n is_d is_e test =
    let named = ap (λ xs. no_repeats xs && no_repeats (pairs (fields_of y))) (pairs_of (children x)) ∙ ap (λ xs. no_repeats (children x) && no_repeats xs) (pairs_of (children y)) ∙ test in
    let left = ap tree is_d ∙ tree_struct x m in
    let right = ap tree is_e ∙ tree_struct y n in
    ap (λ t. first_conflict wide t (tree e)) left ∙ ap (λ t. first_conflict wide (struct (fields_of x) m) t) right
    ∙ pick_false (no_repeats (pairs (fields_of x)) && no_repeats (pairs (fields_of y))) (fields_conflict wide (fields_of x) (fields_of y)) (root_unless (merged_beside wide (fields_of x) (fields_of y))) named
    ∙ sym (root_of (λ hs. struct hs (either m n)) (merged_beside wide (fields_of x) (fields_of y))) ∙ ap root_unless (sym (by_position wide (children x) (children y) m n test)) ∙ sym (ap (λ t. root_unless (columns_merged wide t (tree e))) left ∙ ap (λ t. root_unless (columns_merged wide (struct (fields_of x) m) t)) right)

-- ---- the fields that are left

-- of a field and those behind it
one_visited : (wide : Widening) (ps : Pairs) (left rest : List (List ℕ × DType)) (n : List ℕ) (d : DType) (o : Option Tree) → left ≡ (n, d) ∷ rest → o ≡ first_named ps n
    → fields_conflict wide (fields (with_trees left)) (fields ps) ≡ first_of (option_map (λ p. Name n ∷ p) (option_and_then (λ u. first_conflict wide (tree d) u) o)) (fields_conflict wide (fields (with_trees rest)) (fields ps))
one_visited wide ps left rest n d o next found =
    ap (λ z. fields_conflict wide (fields (with_trees z)) (fields ps)) next
    ∙ ap (λ z. first_of (option_map (λ p. Name n ∷ p) (option_and_then (λ u. first_conflict wide (tree d) u) z)) (fields_conflict wide (fields (with_trees rest)) (fields ps))) (ap (λ z. first_named z n) (pairs_of ps) ∙ sym found)

-- a field with a conflict
pub conflict_found : (wide : Widening) (ps : Pairs) (left rest : List (List ℕ × DType)) (n : List ℕ) (d : DType) (u : Tree) (q : List Field) (all : Option (List Field))
    → fields_conflict wide (fields (with_trees left)) (fields ps) ≡ all → left ≡ (n, d) ∷ rest → Some u ≡ first_named ps n → Some q ≡ first_conflict wide (tree d) u → Some (Name n ∷ q) ≡ all
conflict_found wide ps left rest n d u q all so_far next found some =
    ap (λ z. first_of (option_map (λ p. Name n ∷ p) z) (fields_conflict wide (fields (with_trees rest)) (fields ps))) some ∙ sym (one_visited wide ps left rest n d (Some u) next found) ∙ so_far

-- a field without one
pub conflict_later : (wide : Widening) (ps : Pairs) (left rest : List (List ℕ × DType)) (n : List ℕ) (d : DType) (u : Tree) (all : Option (List Field))
    → fields_conflict wide (fields (with_trees left)) (fields ps) ≡ all → left ≡ (n, d) ∷ rest → Some u ≡ first_named ps n → None ≡ first_conflict wide (tree d) u → fields_conflict wide (fields (with_trees rest)) (fields ps) ≡ all
conflict_later wide ps left rest n d u all so_far next found none =
    ap (λ z. first_of (option_map (λ p. Name n ∷ p) z) (fields_conflict wide (fields (with_trees rest)) (fields ps))) none ∙ sym (one_visited wide ps left rest n d (Some u) next found) ∙ so_far

-- a field that the other struct lacks
pub conflict_beside : (wide : Widening) (ps : Pairs) (left rest : List (List ℕ × DType)) (n : List ℕ) (d : DType) (all : Option (List Field))
    → fields_conflict wide (fields (with_trees left)) (fields ps) ≡ all → left ≡ (n, d) ∷ rest → None ≡ first_named ps n → fields_conflict wide (fields (with_trees rest)) (fields ps) ≡ all
conflict_beside wide ps left rest n d all so_far next lacks = sym (one_visited wide ps left rest n d None next lacks) ∙ so_far
