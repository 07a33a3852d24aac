-- SPDX-License-Identifier: Apache-2.0
-- SPDX-FileCopyrightText: Copyright the Vortex contributors

-- Validity of types, by that of their parts.
use Rattle.std.proofs.Common.{◌≡◌, inl, inr, ℕ, zero, suc, List, [], ◌∷◌, ◌++◌, map, Bool, Option, Some, IfSome, slice_get, ◌<◌, ◌^◌, ap, sym, subst, ◌∙◌, Bor}
use Rattle.std.specs.Prelude.{remove}
use Rattle.std.specs.List.{All, AllByRecursion, zip}
use Rattle.std.specs.Str.{bytes_eq}
use Rattle.std.proofs.lemmas.List.Elements.{All-from_recursion, All-map, recursion_from_All}
use Rattle.std.proofs.lemmas.Bool.{cases_cond}
use Rattle.std.proofs.lemmas.Option.{same_Some}
use Rattle.dtype_base.specs.declared.nullability.Nullability.{Nullability}
use Rattle.dtype_base.specs.declared.nullability.Nullability.TheVariants.{NonNullable}
use Rattle.dtype_types.specs.parts.FieldTypes.{given_fields, field_tree}
use Rattle.dtype_types.specs.tree.Valid.{Valid, ValidItems, ValidMap, ValidVariants}
use Rattle.dtype_types.specs.tree.TreeOf.{tree, extension_tree, map_shown, variants_of, fields_of, struct_pairs, union_triples, children, variant_list, with_trees, with_tagged_trees, shown}
use Rattle.dtype_types.specs.parts.Lookups.{first_named, variant_named, field_types, variant_types}
use Rattle.dtype_types.specs.parts.Maps.{entries_of}
use Rattle.dtype_types.specs.nullability.Nullable.{nullability, set_null}
use Rattle.dtype_types.proofs.Parts.{trees_zip}
use Rattle.dtype_types.proofs.Untagged.{untagged, untagged_named, untagged_types}
use Rattle.dtype_types.proofs.lemmas.Nullabilities.{in_storage}
use Rattle.dtype_types.specs.tree.Tree.{Tree, fields, variants, null, list, fixed_size_list, map_of, extension}
use Rattle.dtype_types.proofs.lemmas.ValidParts.{of_lent, valid_parts, borrowed_list_element, borrowed_fixed_size_element, borrowed_any_size_element, owned_list_element, owned_fixed_size_element, owned_any_size_element, borrowed_map, owned_map, borrowed_struct, owned_struct, borrowed_union, owned_union, extension_is_valid, borrowed_extension}
use Rattle.dtype_types.proofs.lemmas.TreeLaws.{tree_struct, tree_union, tree_map, tree_extension}
use Rattle.dtype_types.specs.declared.dtype.DType.{DType, Map, Struct, Union, Extension}
use Rattle.dtype_types.specs.declared.field_dtype.FieldDType.{FieldDType}
use Rattle.dtype_types.specs.declared.struct_fields.StructFields.{StructFields}
use Rattle.dtype_types.specs.declared.union_variants.UnionVariants.{UnionVariants}
use Rattle.dtype_types.specs.declared.extension.ExtDTypeRef.{ExtDTypeRef}
use Rattle.dtype_types.specs.declared.map.MapDType.{MapDType}

-- ---- a type of a part, and back

pub struct_valid : (s : StructFields) (n : Nullability) → ValidItems (fields_of s) → Valid (tree (Struct s n))
struct_valid s n h = subst Valid (sym (tree_struct s n)) h

pub union_valid : (u : UnionVariants) (n : Nullability) → ValidVariants (variants_of u) → Valid (tree (Union u n))
union_valid u n h = subst Valid (sym (tree_union u n)) h

pub map_valid : (m : MapDType) (n : Nullability) → ValidMap (map_shown m) → Valid (tree (Map m n))
map_valid m n h = subst Valid (sym (tree_map m n)) h

pub extension_valid : (e : ExtDTypeRef) → Valid (extension_tree e) → Valid (tree (Extension e))
extension_valid e h = subst Valid (sym (tree_extension e)) h

pub valid_struct : (d : DType) (s : StructFields) (n : Nullability) → d ≡ Struct s n → Valid (tree d) → ValidItems (fields_of s)
valid_struct d s n is h = subst Valid (ap tree is ∙ tree_struct s n) h

pub valid_union : (d : DType) (u : UnionVariants) (n : Nullability) → d ≡ Union u n → Valid (tree d) → ValidVariants (variants_of u)
valid_union d u n is h = subst Valid (ap tree is ∙ tree_union u n) h

pub valid_map : (d : DType) (m : MapDType) (n : Nullability) → d ≡ Map m n → Valid (tree d) → ValidMap (map_shown m)
valid_map d m n is h = subst Valid (ap tree is ∙ tree_map m n) h

pub valid_extension : (d : DType) (e : ExtDTypeRef) → d ≡ Extension e → Valid (tree d) → Valid (extension_tree e)
valid_extension d e is h = subst Valid (ap tree is ∙ tree_extension e) h

-- ---- fields and variants, and their types

pub valid_given : (ps : List (List ℕ × FieldDType)) → AllByRecursion (λ p. Valid (field_tree p.1)) ps → ValidItems (given_fields ps)
valid_given [] h = tt
valid_given (p ∷ ps) h = (h.0, valid_given ps h.1)

each_pair : (ps : List (List ℕ × DType)) → ValidItems (fields (with_trees ps)) → AllByRecursion (λ p. Valid (tree p.1)) ps
each_pair [] h = tt
each_pair (p ∷ ps) h = (h.0, each_pair ps h.1)

each_triple : (ps : List (List ℕ × (DType × ℕ))) → ValidItems (variants (with_tagged_trees ps)) → AllByRecursion (λ p. Valid (tree p.1.0)) ps
each_triple [] h = tt
each_triple (p ∷ ps) h = (h.0, each_triple ps h.1)

-- ---- fields made of valid fields

pub valid_joined : (ps qs : List (List ℕ × Tree)) → ValidItems (fields ps) → ValidItems (fields qs) → ValidItems (fields (ps ++ qs))
valid_joined [] qs h k = k
valid_joined (p ∷ ps) qs h k = (h.0, valid_joined ps qs h.1 k)

pub valid_removed : (ps : List (List ℕ × Tree)) (i : ℕ) → ValidItems (fields ps) → ValidItems (fields (remove ps i))
valid_removed [] zero h = tt
valid_removed [] (suc i) h = tt
valid_removed (p ∷ ps) zero h = h.1
valid_removed (p ∷ ps) (suc i) h = (h.0, valid_removed ps i h.1)

-- the type of a field, at its position and by its name
pub type_at_valid : (fs : List (List ℕ × Tree)) (i : ℕ) (t : Tree) → slice_get (field_types fs) i ≡ Some t → ValidItems (fields fs) → Valid t
type_at_valid [] i t e h = cc
type_at_valid (p ∷ ps) zero t e h = subst Valid (same_Some p.1 t e) h.0
type_at_valid (p ∷ ps) (suc i) t e h = type_at_valid ps i t e h.1

pub type_named_valid : (fs : List (List ℕ × Tree)) (n : List ℕ) (t : Tree) → first_named fs n ≡ Some t → ValidItems (fields fs) → Valid t
type_named_valid [] n t e h = cc
type_named_valid (p ∷ ps) n t e h =
    elim (cases_cond (bytes_eq p.0 n) (Some p.1) (first_named ps n) (Some t) (sym e))
    [ inl is ↦ subst Valid (same_Some p.1 t (sym is)) h.0 | inr later ↦ type_named_valid ps n t (sym later) h.1 ]

pub valid_projected : (ps qs : List (List ℕ × Tree)) (names : List (List ℕ)) → ValidItems (fields ps) → map (λ (q : List ℕ × Tree). Some q.1) qs ≡ map (first_named ps) names → ValidItems (fields qs)
valid_projected ps [] names h e = tt
valid_projected ps (q ∷ qs) [] h e = cc
valid_projected ps (q ∷ qs) (n ∷ names) h e =
    let head : Some q.1 ≡ first_named ps n = cc in
    let rest : map (λ (q : List ℕ × Tree). Some q.1) qs ≡ map (first_named ps) names = cc in (type_named_valid ps n q.1 (sym head) h, valid_projected ps qs names h rest)

-- ---- for callers

pub field_valid : (s : StructFields) (i : ℕ) (r : Option (Bor DType)) → shown tree r ≡ slice_get (field_types (children s)) i → ValidItems (fields_of s) → IfSome r (λ d. Valid (tree d.now))
field_valid s i r is h = of_lent tree (λ d. Valid (tree d)) (slice_get (field_types (children s)) i) (λ d e. type_at_valid (children s) i (tree d) e h) r is

pub named_field_valid : (s : StructFields) (n : List ℕ) (r : Option (Bor DType)) → shown tree r ≡ first_named (children s) n → ValidItems (fields_of s) → IfSome r (λ d. Valid (tree d.now))
named_field_valid s n r is h = of_lent tree (λ d. Valid (tree d)) (first_named (children s) n) (λ d e. type_named_valid (children s) n (tree d) e h) r is

-- the type of a variant, at its position and by its name, as that of a field
untagged_valid : (vs : List (List ℕ × (Tree × ℕ))) → ValidItems (variants vs) → ValidItems (fields (untagged vs))
untagged_valid [] h = tt
untagged_valid (v ∷ vs) h = (h.0, untagged_valid vs h.1)

pub variant_at_valid : (u : UnionVariants) (i : ℕ) (t : Tree) → slice_get (variant_types (variant_list u)) i ≡ Some t → ValidVariants (variants_of u) → Valid t
variant_at_valid u i t e h = let vs = variant_list u in type_at_valid (untagged vs) i t (ap (λ ts. slice_get ts i) (untagged_types vs) ∙ e) (untagged_valid vs h.1)

pub variant_named_valid : (u : UnionVariants) (n : List ℕ) (t : Tree) → variant_named (variant_list u) n ≡ Some t → ValidVariants (variants_of u) → Valid t
variant_named_valid u n t e h = let vs = variant_list u in type_named_valid (untagged vs) n t (untagged_named vs n ∙ e) (untagged_valid vs h.1)

pub variant_valid : (u : UnionVariants) (i : ℕ) (r : Option (Bor DType)) → shown tree r ≡ slice_get (variant_types (variant_list u)) i → ValidVariants (variants_of u) → IfSome r (λ d. Valid (tree d.now))
variant_valid u i r is h = of_lent tree (λ d. Valid (tree d)) (slice_get (variant_types (variant_list u)) i) (λ d e. variant_at_valid u i (tree d) e h) r is

pub named_variant_valid : (u : UnionVariants) (n : List ℕ) (r : Option (Bor DType)) → shown tree r ≡ variant_named (variant_list u) n → ValidVariants (variants_of u) → IfSome r (λ d. Valid (tree d.now))
named_variant_valid u n r is h = of_lent tree (λ d. Valid (tree d)) (variant_named (variant_list u) n) (λ d e. variant_named_valid u n (tree d) e h) r is

-- all types of fields, and of variants, in what holds them and as trees
pub pairs_valid : (s : StructFields) → ValidItems (fields_of s) → All (λ p. Valid (tree p.1)) (struct_pairs s)
pairs_valid s h = All-from_recursion (λ p. Valid (tree p.1)) (struct_pairs s) (each_pair (struct_pairs s) h)

pub triples_valid : (u : UnionVariants) → ValidVariants (variants_of u) → All (λ p. Valid (tree p.1.0)) (union_triples u)
triples_valid u h = All-from_recursion (λ p. Valid (tree p.1.0)) (union_triples u) (each_triple (union_triples u) h.1)

pub field_types_valid : (s : StructFields) → ValidItems (fields_of s) → All Valid (field_types (children s))
field_types_valid s h = All-map Valid (λ p. p.1) (children s) (All-map (λ p. Valid p.1) _ (struct_pairs s) (pairs_valid s h))

pub variant_types_valid : (u : UnionVariants) → ValidVariants (variants_of u) → All Valid (variant_types (variant_list u))
variant_types_valid u h = All-map Valid (λ p. p.1.0) (variant_list u) (All-map (λ p. Valid p.1.0) _ (union_triples u) (triples_valid u h))

-- the struct of valid types
zip_valid : (ns : List (List ℕ)) (ds : List DType) → AllByRecursion (λ d. Valid (tree d)) ds → ValidItems (fields (zip ns (map tree ds)))
zip_valid [] ds h = tt
zip_valid (n ∷ ns) [] h = tt
zip_valid (n ∷ ns) (d ∷ ds) h = (h.0, zip_valid ns ds h.1)

pub struct_of_valid : (s : StructFields) (ns : List (List ℕ)) (ds : List DType) → children s ≡ zip ns (map tree ds) → All (λ d. Valid (tree d)) ds → ValidItems (fields_of s)
struct_of_valid s ns ds e h = subst (λ ps. ValidItems (fields ps)) (sym e) (zip_valid ns ds (recursion_from_All (λ d. Valid (tree d)) ds h))

pub valid_held : (ps : List (List ℕ × DType)) (ns : List (List ℕ)) (ds : List DType) → ps ≡ zip ns ds → All (λ d. Valid (tree d)) ds → ValidItems (fields (with_trees ps))
valid_held ps ns ds e h = subst (λ qs. ValidItems (fields qs)) (sym (ap with_trees e ∙ trees_zip ns ds)) (zip_valid ns ds (recursion_from_All (λ d. Valid (tree d)) ds h))

-- fields but for one
pub removal_valid : (s r : StructFields) (i : ℕ) → children r ≡ remove (children s) i → ValidItems (fields_of s) → ValidItems (fields_of r)
removal_valid s r i e h = subst (λ ps. ValidItems (fields ps)) (sym e) (valid_removed (children s) i h)

-- a type with another nullability
valid_set : (t : Tree) (n : Nullability) → Valid t → IfSome (set_null t n) Valid
valid_set null NonNullable h = tt
valid_set (extension i b s) n h = in_storage Valid Valid i b (set_null s n) (λ x k. (h.0, k)) (valid_set s n h.1)
valid_set _ n h = h

pub set_valid : (t u : Tree) (n : Nullability) → set_null t n ≡ Some u → Valid t → Valid u
set_valid t u n e h = subst (λ o. IfSome o Valid) e (valid_set t n h)

-- a map is made of its key and its value
pub made_map_valid : (m : MapDType) (k v : Tree) (b : Bool) → map_shown m ≡ (k, v, b) → nullability k ≡ NonNullable → Valid k → Valid v → ValidMap (map_shown m)
made_map_valid m k v b e n h g = subst (λ (p : Tree × Tree × Bool). (nullability p.0 ≡ NonNullable) × Valid p.0 × Valid p.1) (sym e) (n, h, g)

-- a type that is made of valid ones
pub list_of_valid : (u t : Tree) (n : Nullability) → u ≡ list t n → Valid t → Valid u
list_of_valid u t n e h = subst Valid (sym e) h

pub fixed_size_list_of_valid : (u t : Tree) (k : ℕ) (n : Nullability) → u ≡ fixed_size_list t k n → k < 2 ^ 32 → Valid t → Valid u
fixed_size_list_of_valid u t k n e small h = subst Valid (sym e) (small, h)

pub map_of_valid : (u k v : Tree) (b : Bool) (n : Nullability) → u ≡ map_of k v b n → nullability k ≡ NonNullable → Valid k → Valid v → Valid u
map_of_valid u k v b n e sure h g = subst Valid (sym e) (sure, h, g)

pub entries_valid : (k v : Tree) → Valid k → Valid v → Valid (entries_of k v)
entries_valid k v h g = (h, (g, tt))

pub ruleset types_in_valid_parts = (type_at_valid, type_named_valid, variant_at_valid, variant_named_valid, field_types_valid, variant_types_valid, pairs_valid, triples_valid)

pub ruleset validity = (valid_parts, list_of_valid, fixed_size_list_of_valid, map_of_valid, struct_valid, union_valid, map_valid, extension_valid, valid_struct, valid_union, valid_map, valid_extension, field_valid, named_field_valid, variant_valid, named_variant_valid, types_in_valid_parts, struct_of_valid, removal_valid, set_valid, made_map_valid, borrowed_list_element, borrowed_fixed_size_element, borrowed_any_size_element, owned_list_element, owned_fixed_size_element, owned_any_size_element, borrowed_map, owned_map, borrowed_struct, owned_struct, borrowed_union, owned_union, extension_is_valid, borrowed_extension)
