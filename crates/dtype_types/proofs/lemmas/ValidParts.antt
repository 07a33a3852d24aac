-- SPDX-License-Identifier: Apache-2.0
-- SPDX-FileCopyrightText: Copyright the Vortex contributors

-- The parts of a valid type of a known kind are valid: an element, and a map's, a struct's, a union's and an
-- extension's parts.
use Rattle.std.proofs.Common.{◌≡◌, ℕ, List, Option, Some, None, IfSome, Bor, refl, ap, sym, subst, ◌∙◌}
use Rattle.std.specs.Prelude.{Bool}
use Rattle.std.specs.Option.{option_map}
use Rattle.std.specs.declared.alloc.Global.{Global}
use Rattle.std.specs.declared.boxed.Box.{Box}
use Rattle.std.proofs.lemmas.Option.{same_Some}
use Rattle.dtype_base.specs.declared.nullability.Nullability.TheVariants.{NonNullable}
use Rattle.dtype_types.specs.tree.Valid.{Valid, ValidItems, ValidMap, ValidVariants}
use Rattle.dtype_types.specs.tree.TreeOf.{tree, extension_tree, map_shown, variants_of, fields_of, shown, children, variant_list, extension_id, extension_metadata, storage_tree}
use Rattle.dtype_types.specs.tree.Kinds.{list_element, fixed_size_list_element, any_size_list_element, map_parts, struct_fields, union_variants, extension_parts}
use Rattle.dtype_types.specs.nullability.Nullable.{nullability}
use Rattle.dtype_types.specs.tree.Tree.{Tree, Fields, Variants, no_items, field, item, fields, pairs, variants, triples, list, fixed_size_list, map_of, struct, union, extension}
use Rattle.dtype_types.specs.declared.dtype.DType.{DType}
use Rattle.dtype_types.specs.declared.struct_fields.StructFields.{StructFields}
use Rattle.dtype_types.specs.declared.union_variants.UnionVariants.{UnionVariants}
use Rattle.dtype_types.specs.declared.extension.ExtDTypeRef.{ExtDTypeRef}
use Rattle.dtype_types.specs.declared.map.MapDType.{MapDType}

-- ---- what a call lends, or moves out, of a type

pub of_lent : {A T : Type 0} (f : A → T) (P : A → Type 0) (o : Option T) → ((a : A) → o ≡ Some (f a) → P a) → (r : Option (Bor A)) → shown f r ≡ o → IfSome r (λ a. P a.now)
of_lent f P o holds None is = tt
of_lent f P o holds (Some a) is = holds a.now (sym is)

of_moved : {A T : Type 0} (f : A → T) (P : A → Type 0) (o : Option T) → ((a : A) → o ≡ Some (f a) → P a) → (r : Option A) → option_map f r ≡ o → IfSome r P
of_moved f P o holds None is = tt
of_moved f P o holds (Some a) is = holds a (sym is)

-- ---- an element

pub list_element_valid : (t u : Tree) → list_element t ≡ Some u → Valid t → Valid u
list_element_valid (list e n) u is h = subst Valid (same_Some e u is) h
list_element_valid _ u is h = cc

pub fixed_size_element_valid : (t u : Tree) → fixed_size_list_element t ≡ Some u → Valid t → Valid u
fixed_size_element_valid (fixed_size_list e k n) u is h = subst Valid (same_Some e u is) h.1
fixed_size_element_valid _ u is h = cc

pub any_size_element_valid : (t u : Tree) → any_size_list_element t ≡ Some u → Valid t → Valid u
any_size_element_valid (list e n) u is h = subst Valid (same_Some e u is) h
any_size_element_valid (fixed_size_list e k n) u is h = subst Valid (same_Some e u is) h.1
any_size_element_valid _ u is h = cc

pub borrowed_list_element : (t : Tree) (r : Option (Bor DType)) → shown tree r ≡ list_element t → Valid t → IfSome r (λ d. Valid (tree d.now))
borrowed_list_element t r is h = of_lent tree (λ d. Valid (tree d)) (list_element t) (λ d e. list_element_valid t (tree d) e h) r is

pub borrowed_fixed_size_element : (t : Tree) (r : Option (Bor DType)) → shown tree r ≡ fixed_size_list_element t → Valid t → IfSome r (λ d. Valid (tree d.now))
borrowed_fixed_size_element t r is h = of_lent tree (λ d. Valid (tree d)) (fixed_size_list_element t) (λ d e. fixed_size_element_valid t (tree d) e h) r is

pub borrowed_any_size_element : (t : Tree) (r : Option (Bor DType)) → shown tree r ≡ any_size_list_element t → Valid t → IfSome r (λ d. Valid (tree d.now))
borrowed_any_size_element t r is h = of_lent tree (λ d. Valid (tree d)) (any_size_list_element t) (λ d e. any_size_element_valid t (tree d) e h) r is

pub owned_list_element : (t : Tree) (r : Option (Box DType Global)) → option_map (λ b. tree b.value) r ≡ list_element t → Valid t → IfSome r (λ b. Valid (tree b.value))
owned_list_element t r is h = of_moved (λ b. tree b.value) (λ b. Valid (tree b.value)) (list_element t) (λ b e. list_element_valid t (tree b.value) e h) r is

pub owned_fixed_size_element : (t : Tree) (r : Option (Box DType Global)) → option_map (λ b. tree b.value) r ≡ fixed_size_list_element t → Valid t → IfSome r (λ b. Valid (tree b.value))
owned_fixed_size_element t r is h = of_moved (λ b. tree b.value) (λ b. Valid (tree b.value)) (fixed_size_list_element t) (λ b e. fixed_size_element_valid t (tree b.value) e h) r is

pub owned_any_size_element : (t : Tree) (r : Option (Box DType Global)) → option_map (λ b. tree b.value) r ≡ any_size_list_element t → Valid t → IfSome r (λ b. Valid (tree b.value))
owned_any_size_element t r is h = of_moved (λ b. tree b.value) (λ b. Valid (tree b.value)) (any_size_list_element t) (λ b e. any_size_element_valid t (tree b.value) e h) r is

-- ---- a map's parts

pub map_parts_valid : (t : Tree) (m : MapDType) → map_parts t ≡ Some (map_shown m) → Valid t → ValidMap (map_shown m)
map_parts_valid (map_of k v b n) m is h = subst (λ (p : Tree × Tree × Bool). (nullability p.0 ≡ NonNullable) × Valid p.0 × Valid p.1) (same_Some (k, v, b) (map_shown m) is) h
map_parts_valid _ m is h = cc

pub borrowed_map : (t : Tree) (r : Option (Bor MapDType)) → shown map_shown r ≡ map_parts t → Valid t → IfSome r (λ m. ValidMap (map_shown m.now))
borrowed_map t r is h = of_lent map_shown (λ a. ValidMap (map_shown a)) (map_parts t) (λ a e. map_parts_valid t a e h) r is

pub owned_map : (t : Tree) (r : Option MapDType) → option_map map_shown r ≡ map_parts t → Valid t → IfSome r (λ d. ValidMap (map_shown d))
owned_map t r is h = of_moved map_shown (λ a. ValidMap (map_shown a)) (map_parts t) (λ a e. map_parts_valid t a e h) r is

-- ---- a struct's fields

pub fields_of_pairs : (fs : Fields) → fields (pairs fs) ≡ fs
fields_of_pairs no_items = refl
fields_of_pairs (item n t _ rest) = ap (field n t) (fields_of_pairs rest)

pub struct_fields_valid : (t : Tree) (s : StructFields) → struct_fields t ≡ Some (children s) → Valid t → ValidItems (fields_of s)
struct_fields_valid (struct fs n) s is h = subst ValidItems (sym (fields_of_pairs fs) ∙ ap fields (same_Some (pairs fs) (children s) is)) h
struct_fields_valid _ s is h = cc

pub borrowed_struct : (t : Tree) (r : Option (Bor StructFields)) → shown children r ≡ struct_fields t → Valid t → IfSome r (λ s. ValidItems (fields_of s.now))
borrowed_struct t r is h = of_lent children (λ a. ValidItems (fields_of a)) (struct_fields t) (λ a e. struct_fields_valid t a e h) r is

pub owned_struct : (t : Tree) (r : Option StructFields) → option_map children r ≡ struct_fields t → Valid t → IfSome r (λ d. ValidItems (fields_of d))
owned_struct t r is h = of_moved children (λ a. ValidItems (fields_of a)) (struct_fields t) (λ a e. struct_fields_valid t a e h) r is

-- ---- a union's variants

variants_of_triples : (vs : Variants) → variants (triples vs) ≡ vs
variants_of_triples no_items = refl
variants_of_triples (item n t g rest) = ap (item n t g) (variants_of_triples rest)

pub union_variants_valid : (t : Tree) (u : UnionVariants) → union_variants t ≡ Some (variant_list u) → Valid t → ValidVariants (variants_of u)
union_variants_valid (union vs n) u is h = subst (λ ws. Valid (union ws NonNullable)) (sym (variants_of_triples vs) ∙ ap variants (same_Some (triples vs) (variant_list u) is)) h
union_variants_valid _ u is h = cc

pub borrowed_union : (t : Tree) (r : Option (Bor UnionVariants)) → shown variant_list r ≡ union_variants t → Valid t → IfSome r (λ u. ValidVariants (variants_of u.now))
borrowed_union t r is h = of_lent variant_list (λ a. ValidVariants (variants_of a)) (union_variants t) (λ a e. union_variants_valid t a e h) r is

pub owned_union : (t : Tree) (r : Option UnionVariants) → option_map variant_list r ≡ union_variants t → Valid t → IfSome r (λ d. ValidVariants (variants_of d))
owned_union t r is h = of_moved variant_list (λ a. ValidVariants (variants_of a)) (union_variants t) (λ a e. union_variants_valid t a e h) r is

-- ---- an extension

pub extension_is_valid : (t : Tree) (e : ExtDTypeRef) → t ≡ extension_tree e → Valid t → Valid (extension_tree e)
extension_is_valid t e is h = subst Valid is h

pub extension_parts_valid : (t : Tree) (e : ExtDTypeRef) → extension_parts t ≡ Some (extension_id e, extension_metadata e, storage_tree e) → Valid t → Valid (extension_tree e)
extension_parts_valid (extension i b s) e is h = subst (λ (p : List ℕ × List ℕ × Tree). Valid (extension p.0 p.1 p.2)) (same_Some (i, b, s) (extension_id e, extension_metadata e, storage_tree e) is) h
extension_parts_valid _ e is h = cc

pub borrowed_extension : (t : Tree) (r : Option (Bor ExtDTypeRef)) → shown (λ e. (extension_id e, extension_metadata e, storage_tree e)) r ≡ extension_parts t → Valid t → IfSome r (λ e. Valid (extension_tree e.now))
borrowed_extension t r is h = of_lent (λ e. (extension_id e, extension_metadata e, storage_tree e)) (λ e. Valid (extension_tree e)) (extension_parts t) (λ a e. extension_parts_valid t a e h) r is

-- what a valid type holds is valid
pub ruleset valid_parts = (list_element_valid, fixed_size_element_valid, any_size_element_valid, map_parts_valid, struct_fields_valid, union_variants_valid, extension_parts_valid)
