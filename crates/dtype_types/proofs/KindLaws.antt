-- SPDX-License-Identifier: Apache-2.0
-- SPDX-FileCopyrightText: Copyright the Vortex contributors

-- Structs and unions by their trees: their fields and variants, and when two are equal under a rule. A null is equal
-- under no rule to a type of another kind.
use Rattle.std.proofs.Common.{◌≡◌, ◌&&◌, ℕ, List, ap, ◌∙◌, Some, false, refl}
use Rattle.std.specs.Bool.{Decides}
use Rattle.std.proofs.lemmas.Bool.Decides.{Decides-like}
use Rattle.std.specs.Str.{bytes_eq}
use denote.Hole.Carrier
use Rattle.dtype_base.specs.declared.nullability.Nullability.{Nullability}
use Rattle.dtype_base.specs.declared.nullability.Nullability.TheVariants.{NonNullable}
use Rattle.dtype_types.specs.equality.Equality.{equal_under, items_equal_under, allows}
use Rattle.dtype_types.specs.equality.EqualityLaws.{equal_erased-Decides}
use Rattle.dtype_types.proofs.lemmas.TreeLaws.{pairs_of, tree_null, tree_out, tree_struct, tree_union, triples_variants}
use Rattle.dtype_types.specs.tree.Erase.{erase, erase_items}
use Rattle.dtype_types.specs.tree.Kinds.{struct_fields, union_variants}
use Rattle.dtype_types.specs.tree.Tree.{Tree, Fields, Variants, fields, variants, null, struct, union, extension}
use Rattle.dtype_types.specs.tree.TreeOf.{tree, children, variant_list}
use Rattle.dtype_types.specs.declared.dtype.DType.{DType, Null, Struct, Union, out-DType}
use Rattle.dtype_types.specs.declared.dtype.equality.NullabilityRule.{NullabilityRule}
use Rattle.dtype_types.specs.declared.dtype.equality.NullabilityRule.TheVariants.{Ignored}
use Rattle.dtype_types.specs.declared.struct_fields.StructFields.{StructFields}
use Rattle.dtype_types.specs.declared.union_variants.UnionVariants.{UnionVariants}

pub struct_fields_some : (x : StructFields) (n : Nullability) (d : DType) → d ≡ Struct x n → struct_fields (tree d) ≡ Some (children x)
struct_fields_some x n d e = ap (λ z. struct_fields (tree z)) e ∙ ap struct_fields (tree_struct x n) ∙ ap Some (pairs_of (children x))

pub union_variants_some : (x : UnionVariants) (n : Nullability) (d : DType) → d ≡ Union x n → union_variants (tree d) ≡ Some (variant_list x)
union_variants_some x n d e = ap (λ z. union_variants (tree z)) e ∙ ap union_variants (tree_union x n) ∙ ap Some (triples_variants (variant_list x))

pub ruleset kind_laws = (struct_fields_some, union_variants_some)

pub null_equal_under : (s : NullabilityRule) (d e : DType) → d ≡ Null → (e ≡ Null → ⊥) → equal_under s (tree d) (tree e) ≡ false
unfolding out-DType Carrier.out
null_equal_under s d Null is h = absurd (h refl)
null_equal_under s d e is h = ap (λ x. equal_under s (tree x) (tree e)) is ∙ ap (λ t. equal_under s t (tree e)) tree_null ∙ ap (equal_under s null) (tree_out e)

pub structs_equal_under : (s : NullabilityRule) (d e : DType) (x y : StructFields) (m n : Nullability) → d ≡ Struct x m → e ≡ Struct y n → equal_under s (tree d) (tree e) ≡ (allows s m n && items_equal_under s (fields (children x)) (fields (children y)))
structs_equal_under s d e x y m n p q =
    ap (λ z. equal_under s (tree z) (tree e)) p ∙ ap (λ z. equal_under s z (tree e)) (tree_struct x m) ∙ ap (λ z. equal_under s (struct (fields (children x)) m) (tree z)) q ∙ ap (equal_under s (struct (fields (children x)) m)) (tree_struct y n)

pub unions_equal_under : (s : NullabilityRule) (d e : DType) (x y : UnionVariants) (m n : Nullability) → d ≡ Union x m → e ≡ Union y n → equal_under s (tree d) (tree e) ≡ (allows s m n && items_equal_under s (variants (variant_list x)) (variants (variant_list y)))
unions_equal_under s d e x y m n p q =
    ap (λ z. equal_under s (tree z) (tree e)) p ∙ ap (λ z. equal_under s z (tree e)) (tree_union x m) ∙ ap (λ z. equal_under s (union (variants (variant_list x)) m) (tree z)) q ∙ ap (equal_under s (union (variants (variant_list x)) m)) (tree_union y n)

pub ruleset parts_equal_under = (null_equal_under, structs_equal_under, unions_equal_under)

-- with nullabilities ignored the tests of fields, of variants and of an extension's parts decide whether these are equal
-- once they are erased
pub erased_structs : (a b : Fields) → Decides (items_equal_under Ignored a b) (erase_items a ≡ erase_items b)
erased_structs a b = Decides-like _ (λ e. cc e) (λ e. ap (λ fs. struct fs NonNullable) e) (equal_erased-Decides (struct a NonNullable) (struct b NonNullable))

pub erased_unions : (a b : Variants) → Decides (items_equal_under Ignored a b) (erase_items a ≡ erase_items b)
erased_unions a b = Decides-like _ (λ e. cc e) (λ e. ap (λ vs. union vs NonNullable) e) (equal_erased-Decides (union a NonNullable) (union b NonNullable))

pub erased_extensions : (i j a b : List ℕ) (t u : Tree) → Decides (bytes_eq i j && bytes_eq a b && equal_under Ignored t u) (erase (extension i a t) ≡ erase (extension j b u))
erased_extensions i j a b t u = equal_erased-Decides (extension i a t) (extension j b u)

pub ruleset erased_tests = (erased_structs, erased_unions, erased_extensions)
