-- SPDX-License-Identifier: Apache-2.0
-- SPDX-FileCopyrightText: Copyright the Vortex contributors

-- Texts in the form in which they are written.
use Rattle.std.proofs.Common.{◌≡◌, ℕ, List, [], ◌∷◌, ◌++◌, codes, refl, sym, ap, ◌∙◌, append_assoc, Bool, ◌<◌, length, arith}
use Rattle.std.specs.List.{flat_map, join_by}
use Rattle.std.proofs.lemmas.List.{append-nil}
use Rattle.dtype_base.specs.declared.nullability.Nullability.{Nullability}
use Rattle.dtype_base.specs.Nullability.{nullability_text}
use Rattle.dtype_types.specs.texts.Text.{text, tag_text}
use Rattle.dtype_types.specs.texts.TextOf.{map_text, struct_text, union_text, extension_text}
use Rattle.dtype_types.specs.tree.TreeOf.{tree, fields_of}
use Rattle.dtype_types.proofs.lemmas.TreeLaws.{tree_struct, tree_map, tree_union, tree_extension}
use Rattle.dtype_types.specs.declared.dtype.DType.{DType, Map, Struct, Union, Extension}
use Rattle.dtype_types.specs.declared.struct_fields.StructFields.{StructFields}
use Rattle.dtype_types.specs.declared.union_variants.UnionVariants.{UnionVariants}
use Rattle.dtype_types.specs.declared.map.MapDType.{MapDType}
use Rattle.dtype_types.specs.declared.extension.ExtDTypeRef.{ExtDTypeRef}
use Rattle.dtype_types.specs.texts.IndentedText.{indented, indented_fields, indented_braces, last_line}
use Rattle.dtype_types.specs.tree.Tree.{Tree, fields}

-- ---- the text of a type, by the text of its part

pub map_all : (m : MapDType) (n : Nullability) (d : DType) → d ≡ Map m n → map_text m ++ nullability_text n ≡ text (tree d)
unfolding map_text
map_all m n d e = simp append_assoc (sym (ap (λ x. text (tree x)) e ∙ ap text (tree_map m n)))

pub struct_all : (s : StructFields) (n : Nullability) (d : DType) → d ≡ Struct s n → struct_text s ++ nullability_text n ≡ text (tree d)
unfolding struct_text
struct_all s n d e = simp append_assoc (sym (ap (λ x. text (tree x)) e ∙ ap text (tree_struct s n)))

pub union_all : (u : UnionVariants) (n : Nullability) (d : DType) → d ≡ Union u n → codes "union(" ++ (union_text u ++ (codes ")" ++ nullability_text n)) ≡ text (tree d)
unfolding union_text
union_all u n d e = sym (ap (λ x. text (tree x)) e ∙ ap text (tree_union u n))

pub extension_all : (x : ExtDTypeRef) (d : DType) → d ≡ Extension x → extension_text x ≡ text (tree d)
unfolding extension_text
extension_all x d e = sym (ap (λ z. text (tree z)) e ∙ ap text (tree_extension x))

pub ruleset type_texts = (map_all, struct_all, union_all, extension_all)

-- ---- the texts that are left, each after its separator

-- texts, each after its separator
abbrev preceded : List ℕ → List (List ℕ) → List ℕ
preceded sep xs = flat_map (λ x. sep ++ x) xs

abbrev pub leading : List ℕ → List ℕ → List (List ℕ) → List ℕ
leading first sep [] = []
leading first sep (x ∷ xs) = first ++ (x ++ preceded sep xs)

-- the first text has no separator
pub leading_all : (sep : List ℕ) (xs : List (List ℕ)) → leading [] sep xs ≡ join_by (λ t. t) sep xs
leading_all sep [] = refl
leading_all sep (x ∷ xs) = refl

leading_more : (sep : List ℕ) (xs : List (List ℕ)) → leading sep sep xs ≡ preceded sep xs
leading_more sep [] = refl
leading_more sep (x ∷ xs) = sym (append_assoc sep x (preceded sep xs))

-- one more text is written, after its separator
pub one_written : (sep first done all x : List ℕ) (left rest : List (List ℕ)) → done ++ leading first sep left ≡ all → left ≡ x ∷ rest → (done ++ (first ++ x)) ++ leading sep sep rest ≡ all
one_written sep first done all x left rest so_far next =
    ap (λ ys. (done ++ (first ++ x)) ++ ys) (leading_more sep rest) ∙ append_assoc done (first ++ x) (preceded sep rest) ∙ ap (λ ys. done ++ ys) (append_assoc first x (preceded sep rest))
    ∙ ap (λ ys. done ++ leading first sep ys) (sym next) ∙ so_far

pub all_written : (sep first done all : List ℕ) (left : List (List ℕ)) → done ++ leading first sep left ≡ all → left ≡ [] → done ≡ all
all_written sep first done all left so_far none = sym (append-nil done) ∙ ap (λ ys. done ++ leading first sep ys) (sym none) ∙ so_far

-- a separator, a name, a tag and a type, joined
pub tagged_text : (done first n t : List ℕ) (g : ℕ) (b k : Bool) → b ≡ k
    → done ++ ((first ++ (n ++ (tag_text b g ++ codes "="))) ++ t) ≡ done ++ (first ++ (n ++ (tag_text k g ++ (codes "=" ++ t))))
tagged_text done first n t g b k e =
    ap (λ (c : Bool). done ++ ((first ++ (n ++ (tag_text c g ++ codes "="))) ++ t)) e ∙ simp append_assoc

-- ---- indented texts

pub indented_struct : (indent : List ℕ) (s : StructFields) (n : Nullability) (d : DType) → d ≡ Struct s n → indented_braces indent (fields_of s) ++ nullability_text n ≡ indented indent (tree d)
unfolding indented_braces
indented_struct indent s n d e = sym (ap (λ x. indented indent (tree x)) e ∙ ap (indented indent) (tree_struct s n))

-- the last line ends where there are fields
pub ends_some : (ps : List (List ℕ × Tree)) → 0 < length ps → codes "\n" ≡ last_line (fields ps)
ends_some [] h = absurd (omega arith)
ends_some (p ∷ ps) h = refl

pub ends_none : (ps : List (List ℕ × Tree)) → length ps ≡ 0 → [] ≡ last_line (fields ps)
ends_none [] h = refl
ends_none (p ∷ ps) h = absurd (omega arith)

-- the writes of all fields, joined
pub braces_of : (before indent : List ℕ) (ps : List (List ℕ × Tree)) (last : List ℕ) → last ≡ last_line (fields ps)
    → ((before ++ codes "{\n") ++ join_by (λ t. t) (codes ",\n") (indented_fields (indent ++ codes "  ") (fields ps))) ++ (last ++ (indent ++ codes "}")) ≡ before ++ indented_braces indent (fields ps)
unfolding indented_braces
braces_of before indent ps last e =
    let parts = indented_fields (indent ++ codes "  ") (fields ps) in
    simp append_assoc (ap (λ (l : List ℕ). before ++ (codes "{\n" ++ (join_by (λ t. t) (codes ",\n") parts ++ (l ++ (indent ++ codes "}"))))) e)
