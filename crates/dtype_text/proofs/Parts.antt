-- SPDX-License-Identifier: Apache-2.0
-- SPDX-FileCopyrightText: Copyright the Vortex contributors

-- The text of a type, by the text of its part, and the texts of parts in a loop.
use Rattle.std.proofs.Common.{◌≡◌, ℕ, List, [], ◌∷◌, ◌++◌, codes, refl, sym, ap, subst, ◌∙◌, append_assoc}
use Rattle.std.specs.List.{flat_map, join_by}
use Rattle.std.proofs.lemmas.List.{append-nil}
use Rattle.dtype_base.specs.declared.nullability.Nullability.{Nullability}
use Rattle.dtype_base.specs.Nullability.{nullability_text}
use Rattle.dtype_types.specs.tree.TreeOf.{tree, fields_of, variants_of, extension_tree, map_shown}
use Rattle.dtype_types.proofs.lemmas.TreeLaws.{tree_struct, tree_map, tree_union, tree_extension}
use Rattle.dtype_types.specs.declared.dtype.DType.{DType, Map, Struct, Union, Extension}
use Rattle.dtype_types.specs.declared.struct_fields.StructFields.{StructFields}
use Rattle.dtype_types.specs.declared.union_variants.UnionVariants.{UnionVariants}
use Rattle.dtype_types.specs.declared.map.MapDType.{MapDType}
use Rattle.dtype_types.specs.declared.extension.ExtDTypeRef.{ExtDTypeRef}
use Rattle.dtype_text.specs.Grammar.{AreTexts, ItemsAreTexts}
use Rattle.dtype_text.specs.Source.{source, map_source, fields_source, variants_source}

pub struct_all : (s : StructFields) (n : Nullability) (d : DType) → d ≡ Struct s n → fields_source (fields_of s) ++ nullability_text n ≡ source (tree d)
unfolding fields_source
struct_all s n d e = simp append_assoc (sym (ap (λ x. source (tree x)) e ∙ ap source (tree_struct s n)))

pub union_all : (u : UnionVariants) (n : Nullability) (d : DType) → d ≡ Union u n → variants_source (variants_of u) ++ nullability_text n ≡ source (tree d)
unfolding variants_source
union_all u n d e = simp append_assoc (sym (ap (λ x. source (tree x)) e ∙ ap source (tree_union u n)))

pub map_all : (m : MapDType) (n : Nullability) (d : DType) → d ≡ Map m n → map_source (map_shown m) ++ nullability_text n ≡ source (tree d)
unfolding map_source
map_all m n d e = simp append_assoc (sym (ap (λ x. source (tree x)) e ∙ ap source (tree_map m n)))

pub extension_all : (x : ExtDTypeRef) (d : DType) → d ≡ Extension x → source (extension_tree x) ≡ source (tree d)
extension_all x d e = sym (ap (λ z. source (tree z)) e ∙ ap source (tree_extension x))

pub ruleset source_parts = (map_all, struct_all, union_all, extension_all)

-- the names and ids of the parts are UTF-8, and so are all
pub struct_texts : (s : StructFields) (n : Nullability) (d : DType) → d ≡ Struct s n → ItemsAreTexts (fields_of s) → AreTexts (tree d)
struct_texts s n d e h = subst AreTexts (sym (ap tree e ∙ tree_struct s n)) h

pub union_texts : (u : UnionVariants) (n : Nullability) (d : DType) → d ≡ Union u n → ItemsAreTexts (variants_of u) → AreTexts (tree d)
union_texts u n d e h = subst AreTexts (sym (ap tree e ∙ tree_union u n)) h

pub map_texts : (m : MapDType) (n : Nullability) (d : DType) → d ≡ Map m n → AreTexts (map_shown m).0 × AreTexts (map_shown m).1 → AreTexts (tree d)
map_texts m n d e h = subst AreTexts (sym (ap tree e ∙ tree_map m n)) h

pub extension_texts : (x : ExtDTypeRef) (d : DType) → d ≡ Extension x → AreTexts (extension_tree x) → AreTexts (tree d)
extension_texts x d e h = subst AreTexts (sym (ap tree e ∙ tree_extension x)) h

pub ruleset text_parts = (struct_texts, union_texts, map_texts, extension_texts)

-- texts, each after its separator
abbrev preceded : List ℕ → List (List ℕ) → List ℕ
preceded sep xs = flat_map (λ x. sep ++ x) xs

abbrev pub leading : List ℕ → List ℕ → List (List ℕ) → List ℕ
leading first sep [] = []
leading first sep (x ∷ xs) = first ++ (x ++ preceded sep xs)

-- the first text has no separator
pub leading_all : (sep : List ℕ) (xs : List (List ℕ)) → leading [] sep xs ≡ join_by (λ t. t) sep xs
leading_all sep [] = refl
leading_all sep (x ∷ xs) = refl

leading_more : (sep : List ℕ) (xs : List (List ℕ)) → leading sep sep xs ≡ preceded sep xs
leading_more sep [] = refl
leading_more sep (x ∷ xs) = sym (append_assoc sep x (preceded sep xs))

-- one more text is written, after its separator
pub one_written : (sep first done all x : List ℕ) (left rest : List (List ℕ)) → done ++ leading first sep left ≡ all → left ≡ x ∷ rest → (done ++ (first ++ x)) ++ leading sep sep rest ≡ all
one_written sep first done all x left rest so_far next =
    ap (λ ys. (done ++ (first ++ x)) ++ ys) (leading_more sep rest) ∙ append_assoc done (first ++ x) (preceded sep rest) ∙ ap (λ ys. done ++ ys) (append_assoc first x (preceded sep rest))
    ∙ ap (λ ys. done ++ leading first sep ys) (sym next) ∙ so_far

pub all_written : (sep first done all : List ℕ) (left : List (List ℕ)) → done ++ leading first sep left ≡ all → left ≡ [] → done ≡ all
all_written sep first done all left so_far none = sym (append-nil done) ∙ ap (λ ys. done ++ leading first sep ys) (sym none) ∙ so_far

-- the texts between an opening and a closing text
pub joined : (before opened begin close : List ℕ) (parts : List (List ℕ)) → opened ≡ before ++ begin → (opened ++ leading [] (codes ", ") parts) ++ close ≡ before ++ (begin ++ (join_by (λ t. t) (codes ", ") parts ++ close))
joined before opened begin close parts e =
    ap (λ xs. (xs ++ leading [] (codes ", ") parts) ++ close) e ∙ ap (λ xs. ((before ++ begin) ++ xs) ++ close) (leading_all (codes ", ") parts) ∙ simp append_assoc refl

-- five texts, one after the other
pub five : (o0 o1 o2 o3 o4 o5 a b c d e : List ℕ) → o1 ≡ o0 ++ a → o2 ≡ o1 ++ b → o3 ≡ o2 ++ c → o4 ≡ o3 ++ d → o5 ≡ o4 ++ e → o5 ≡ o0 ++ (a ++ (b ++ (c ++ (d ++ e))))
five o0 o1 o2 o3 o4 o5 a b c d e p q r s t =
    t ∙ ap (λ xs. xs ++ e) (s ∙ ap (λ xs. xs ++ d) (r ∙ ap (λ xs. xs ++ c) (q ∙ ap (λ xs. xs ++ b) p))) ∙ simp append_assoc refl
