-- SPDX-License-Identifier: Apache-2.0
-- SPDX-FileCopyrightText: Copyright the Vortex contributors

-- `==` of a struct's fields, a union's variants, a map, an extension and a field's type holds exactly where the two are
-- equal, and so does that of two names, or lists of them. The clause of each says so. Where a type that holds one of these
-- derives `==`, and of a struct's or a union's names, a caller has it by
--     #![tactic(auto, using(dtype_types::proofs::lemmas::Equality::equality))]
use Rattle.std.specs.Prelude.{◌≡◌, ℕ, Bool, List, [], ◌∷◌, map, nat_eq, refl}
use Rattle.std.specs.Bool.{Decides}
use Rattle.std.specs.Cmp.Derive.Mapped.{pointwise-map}
use Rattle.std.specs.Cmp.Lexicographic.{pointwise}
use Rattle.std.specs.HashMap.{HashMap, get}
use Rattle.std.specs.Map.{lookup}
use Rattle.std.proofs.lemmas.Bool.Decides.{Decides-like}
use Rattle.std.proofs.lemmas.Slice.Eq.{bytes_eq-Decides, slice_eq-Decides}
use Rattle.std.proofs.Common.{sym, ap, ◌∙◌}
use Rattle.dtype_types.specs.equality.EqualityLaws.{equal_under-Decides, items_equal-Decides, map_equal-Decides}
use Rattle.dtype_types.specs.parts.FieldTypes.{field_tree}
use Rattle.dtype_types.specs.declared.dtype.equality.NullabilityRule.TheVariants.{Compared}
use Rattle.dtype_types.specs.equality.Equality.{equal_under, same_by, same_items_by, same_map_by}
use Rattle.dtype_types.specs.parts.Lookups.{field_names}
use Rattle.dtype_types.specs.tree.Erase.{erase_items}
use Rattle.dtype_types.specs.tree.Tree.{Tree, a_struct, a_union, fields, pairs, triples, variants, rest_of}
use Rattle.dtype_types.specs.tree.TreeOf.{children, extension_tree, map_shown, fields_of, tree, variants_of, variant_list}
use Rattle.dtype_types.specs.equality.HashLaws.{erased_fed}
use Rattle.dtype_types.proofs.lemmas.TreeLaws.{pairs_of, triples_variants}
use Rattle.dtype_types.specs.declared.dtype.DType.{DType}
use Rattle.dtype_types.specs.declared.extension.ExtDTypeRef.{ExtDTypeRef}
use Rattle.dtype_types.specs.declared.field_dtype.FieldDType.{FieldDType}
use Rattle.dtype_types.specs.declared.map.MapDType.{MapDType}
use Rattle.dtype_types.specs.declared.struct_fields.StructFields.{StructFields}
use Rattle.dtype_types.specs.declared.union_variants.UnionVariants.{UnionVariants}

pub structs_Decides : (a b : StructFields) → Decides (same_items_by fields_of a b) (children a ≡ children b)
structs_Decides a b = Decides-like _ (λ e. sym (pairs_of (children a)) ∙ ap pairs e ∙ pairs_of (children b)) (λ e. ap fields e) (items_equal-Decides a_struct (fields_of a) (fields_of b))

pub unions_Decides : (a b : UnionVariants) → Decides (same_items_by variants_of a b) (variant_list a ≡ variant_list b)
unions_Decides a b = Decides-like _ (λ e. sym (triples_variants (variant_list a)) ∙ ap triples e ∙ triples_variants (variant_list b)) (λ e. ap variants e) (items_equal-Decides a_union (variants_of a) (variants_of b))

pub maps_Decides : (a b : MapDType) → Decides (same_map_by map_shown a b) (map_shown a ≡ map_shown b)
maps_Decides a b = map_equal-Decides (map_shown a) (map_shown b)

pub extensions_Decides : (a b : ExtDTypeRef) → Decides (same_by extension_tree a b) (extension_tree a ≡ extension_tree b)
extensions_Decides a b = equal_under-Decides (extension_tree a) (extension_tree b)

pub field_types_Decides : (a b : FieldDType) → Decides (same_by field_tree a b) (field_tree a ≡ field_tree b)
field_types_Decides a b = equal_under-Decides (field_tree a) (field_tree b)

pub names_Decide : (a b : List (List ℕ)) (r : Bool) → r ≡ pointwise (pointwise nat_eq) a b → Decides r (a ≡ b)
names_Decide = slice_eq-Decides bytes_eq-Decides

pub name_Decides : (a b : List ℕ) → Decides (pointwise nat_eq a b) (a ≡ b)
name_Decides a b = bytes_eq-Decides a b

pub types_Decide : (a b : DType) → Decides (same_by tree a b) (tree a ≡ tree b)
types_Decide a b = equal_under-Decides (tree a) (tree b)

-- two slices of types, by any test that is theirs
pub type_lists_Decide : (f : DType → DType → Bool) (a b : List DType) → ((x y : DType) → f x y ≡ same_by tree x y) → Decides (pointwise f a b) (map tree a ≡ map tree b)
type_lists_Decide f a b h =
    let same : f ≡ same_by tree = λ i x y. h x y i in
    slice_eq-Decides equal_under-Decides (map tree a) (map tree b) (pointwise f a b) (ap (λ g. pointwise g a b) same ∙ sym (pointwise-map tree (equal_under Compared) a b))

-- equal types find the same in a map whose keys are types
pub equal_keys : {V S : Type 0} (m : HashMap DType V S) (a b : DType) → tree a ≡ tree b → get (same_by tree) m a ≡ get (same_by tree) m b
equal_keys m a b e = ap (λ (t : Tree). lookup (λ (x : DType). equal_under Compared t (tree x)) m.entries) e

-- structs that are equal but for nullabilities have the same names
erased_names : (ps qs : List (List ℕ × Tree)) → erase_items (fields ps) ≡ erase_items (fields qs) → field_names ps ≡ field_names qs
erased_names [] [] e = refl
erased_names (p ∷ ps) (q ∷ qs) e =
    let first : p.0 ≡ q.0 = cc in
    let rest : erase_items (fields ps) ≡ erase_items (fields qs) = ap rest_of e in
    let names = erased_names ps qs rest in cc
erased_names _ _ e = cc

pub erased_fields : (s t : StructFields) → erase_items (fields_of s) ≡ erase_items (fields_of t) → field_names (children s) ≡ field_names (children t)
erased_fields s t e = erased_names (children s) (children t) e

pub ruleset equality = (name_Decides, names_Decide, types_Decide, type_lists_Decide, equal_keys, structs_Decides, unions_Decides, maps_Decides, extensions_Decides, field_types_Decides, erased_fields, erased_fed)
