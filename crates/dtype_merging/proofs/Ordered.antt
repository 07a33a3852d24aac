-- SPDX-License-Identifier: Apache-2.0
-- SPDX-FileCopyrightText: Copyright the Vortex contributors

-- Types at equal positions that are merged one after another, and the structs that are made of them.
use Rattle.std.proofs.Common.{◌≡◌, ◌≢◌, ◌∙◌, ◌&&◌, ◌+◌, ℕ, suc, List, [], ◌∷◌, ◌++◌, Bool, true, false, length, Option, Some, None, refl, sym, ap, append-nil, arith}
use Rattle.std.specs.List.{zip}
use Rattle.std.specs.Option.{option_map}
use Rattle.std.specs.Bool.{Decides}
use Rattle.std.specs.Cmp.Lexicographic.{pointwise}
use Rattle.std.specs.Str.{bytes_eq}
use Rattle.std.proofs.Math.Bool.{not}
use Rattle.std.proofs.lemmas.Bool.{false≢true}
use Rattle.std.proofs.lemmas.Option.{same_Some}
use Rattle.std.proofs.lemmas.Slice.Eq.{bytes_eq-Decides, slice_eq-Decides}
use Rattle.dtype_base.specs.declared.nullability.Nullability.{Nullability}
use Rattle.dtype_types.specs.declared.dtype.DType.{Struct}
use Rattle.dtype_types.specs.declared.struct_fields.StructFields.{StructFields}
use Rattle.dtype_types.specs.equality.Equality.{same_tag}
use Rattle.dtype_types.specs.parts.Lookups.{field_names, field_types}
use Rattle.dtype_types.specs.tree.Tree.{Tree, a_struct, fields, struct}
use Rattle.dtype_types.specs.tree.TreeOf.{children, tree}
use Rattle.dtype_types.proofs.lemmas.TreeLaws.{tree_struct}
use Rattle.dtype_types.proofs.lemmas.TypesBelow.{weight, weight_items}
use Rattle.dtype_merging.specs.MergedColumns.{columns_merged, merged_beside, put_first}
use Rattle.dtype_merging.specs.declared.widening.Widening.{Widening}
use Rattle.dtype_merging.specs.private.Collected.{type_first, types_merged}
use Rattle.dtype_merging.proofs.lemmas.Finding.{Pairs, both_true, by_bool, true_both}
use Rattle.dtype_merging.proofs.lemmas.Merging.{pick_false, pick_true}

-- ---- the types that are left

-- the weight of all types
abbrev pub weight_all : List Tree → ℕ
weight_all [] = 0
weight_all (t ∷ ts) = weight t + weight_all ts

pub fields_weigh : (ps : Pairs) → weight_items (fields ps) ≡ weight_all (field_types ps)
fields_weigh [] = refl
fields_weigh (p ∷ ps) = ap (λ k. weight p.1 + k) (fields_weigh ps)

-- one of the two lists has ended
pub left_done : (wide : Widening) (done ts us : List Tree) (all : Option (List Tree)) → ts ≡ [] → option_map (λ qs. done ++ qs) (types_merged wide ts us) ≡ all → Some done ≡ all
left_done wide done ts us all e so_far = ap Some (sym (append-nil done)) ∙ ap (λ z. option_map (λ qs. done ++ qs) (types_merged wide z us)) (sym e) ∙ so_far

pub right_done : (wide : Widening) (done ts us : List Tree) (all : Option (List Tree)) → us ≡ [] → option_map (λ qs. done ++ qs) (types_merged wide ts us) ≡ all → Some done ≡ all
right_done wide done [] us all e so_far = left_done wide done [] us all refl so_far
right_done wide done (t ∷ ts) us all e so_far = ap Some (sym (append-nil done)) ∙ ap (λ z. option_map (λ qs. done ++ qs) (types_merged wide (t ∷ ts) z)) (sym e) ∙ so_far

firsts : (o : Option Tree) (r : Option (List Tree)) (xs : List Tree) → type_first o r ≡ Some xs → (x : Tree) × (rest : List Tree) × (r ≡ Some rest) × (x ∷ rest ≡ xs)
firsts (Some x) (Some rest) xs e = (x, rest, refl, same_Some (x ∷ rest) xs e)
firsts (Some x) None xs e = cc
firsts None r xs e = cc

-- as many types are merged as there are
pub types_count : (wide : Widening) (ts us xs : List Tree) → types_merged wide ts us ≡ Some xs → length us ≡ length ts → length xs ≡ length ts
types_count wide [] us xs e many = ap length (same_Some xs [] (sym e))
types_count wide (t ∷ ts) [] xs e many = absurd (omega (arith, many))
types_count wide (t ∷ ts) (u ∷ us) xs e many =
    let r = firsts (columns_merged wide t u) (types_merged wide ts us) xs e in
    ap length (sym r.3) ∙ ap suc (types_count wide ts us r.1 r.2 (omega (arith, many)))

fields_many : (ps : Pairs) → length (field_types ps) ≡ length (field_names ps)
fields_many [] = refl
fields_many (p ∷ ps) = ap suc (fields_many ps)

pub fields_count : (wide : Widening) (ps qs : Pairs) (xs : List Tree) → Some xs ≡ types_merged wide (field_types ps) (field_types qs) → field_names ps ≡ field_names qs → length xs ≡ length (field_names ps)
fields_count wide ps qs xs made same = types_count wide (field_types ps) (field_types qs) xs (sym made) (fields_many qs ∙ ap length (sym same) ∙ sym (fields_many ps)) ∙ fields_many ps

-- ---- a test that two lists differ

not_false : (b : Bool) → not b ≡ false → b ≡ true
not_false true e = refl
not_false false e = cc

module _ {A : Type 0} {E : A → A → Bool} (decides : (a b : A) → Decides (E a b) (a ≡ b)) where
  pub told_apart : (xs ys : List A) (r : Bool) → r ≡ not (pointwise E xs ys) → r ≡ true → xs ≢ ys
  told_apart xs ys r is e same = false≢true (sym (ap not ((slice_eq-Decides decides xs ys (pointwise E xs ys) refl).1 same)) ∙ sym is ∙ e)

  pub told_alike : (xs ys : List A) (r : Bool) → r ≡ not (pointwise E xs ys) → r ≡ false → xs ≡ ys
  told_alike xs ys r is e = (slice_eq-Decides decides xs ys (pointwise E xs ys) refl).0 (not_false (pointwise E xs ys) (sym is ∙ e))

-- ---- the fields of a struct

put_fields : (n : List ℕ) (ns : List (List ℕ)) (o : Option Tree) (r : Option (List Tree))
    → put_first {h = a_struct} n tt o (option_map (λ ts. fields (zip ns ts)) r) ≡ option_map (λ ts. fields (zip (n ∷ ns) ts)) (type_first o r)
put_fields n ns (Some t) (Some ts) = refl
put_fields n ns (Some t) None = refl
put_fields n ns None r = refl

pub fields_beside : (wide : Widening) (ps qs : Pairs) → field_names ps ≡ field_names qs → merged_beside wide (fields ps) (fields qs) ≡ option_map (λ ts. fields (zip (field_names ps) ts)) (types_merged wide (field_types ps) (field_types qs))
fields_beside wide [] [] e = refl
fields_beside wide [] (q ∷ qs) e = cc
fields_beside wide (p ∷ ps) [] e = cc
fields_beside wide (p ∷ ps) (q ∷ qs) e =
    let name : p.0 ≡ q.0 = cc in
    let rest : field_names ps ≡ field_names qs = cc in
    pick_true (bytes_eq p.0 q.0 && same_tag a_struct tt tt) (put_first {h = a_struct} p.0 tt (columns_merged wide p.1 q.1) (merged_beside wide (fields ps) (fields qs))) None (true_both (bytes_eq p.0 q.0) (same_tag a_struct tt tt) ((bytes_eq-Decides p.0 q.0).1 name) refl)
    ∙ ap (put_first {h = a_struct} p.0 tt (columns_merged wide p.1 q.1)) (fields_beside wide ps qs rest) ∙ put_fields p.0 (field_names ps) (columns_merged wide p.1 q.1) (types_merged wide (field_types ps) (field_types qs))

put_none : (n : List ℕ) (o : Option Tree) → put_first {h = a_struct} n tt o None ≡ None
put_none n None = refl
put_none n (Some t) = refl

pub fields_apart : (wide : Widening) (ps qs : Pairs) → field_names ps ≢ field_names qs → merged_beside wide (fields ps) (fields qs) ≡ None
fields_apart wide [] [] ne = absurd (ne refl)
fields_apart wide [] (q ∷ qs) ne = refl
fields_apart wide (p ∷ ps) [] ne = refl
fields_apart wide (p ∷ ps) (q ∷ qs) ne =
    let test = bytes_eq p.0 q.0 && same_tag a_struct tt tt in
    let put = put_first {h = a_struct} p.0 tt (columns_merged wide p.1 q.1) (merged_beside wide (fields ps) (fields qs)) in
    by_bool test
    (λ same.
    let name = (bytes_eq-Decides p.0 q.0).0 (both_true (bytes_eq p.0 q.0) (same_tag a_struct tt tt) same).0 in
    let rest : field_names ps ≢ field_names qs = λ e. ne (ap (λ n. n ∷ field_names ps) name ∙ ap (λ ns. q.0 ∷ ns) e) in
    pick_true test put None same ∙ ap (put_first {h = a_struct} p.0 tt (columns_merged wide p.1 q.1)) (fields_apart wide ps qs rest) ∙ put_none p.0 (columns_merged wide p.1 q.1))
    (λ other. pick_false test put None other)

-- the struct of the merged types
pub struct_made : (wide : Widening) (s : StructFields) (n : Nullability) (ps qs : Pairs) (ts : List Tree) → field_names ps ≡ field_names qs → Some ts ≡ types_merged wide (field_types ps) (field_types qs) → children s ≡ zip (field_names ps) ts
    → Some (tree (Struct s n)) ≡ option_map (λ fs. struct fs n) (merged_beside wide (fields ps) (fields qs))
struct_made wide s n ps qs ts same made is =
    ap Some (tree_struct s n ∙ ap (λ cs. struct (fields cs) n) is) ∙ ap (λ r. option_map (λ fs. struct fs n) (option_map (λ xs. fields (zip (field_names ps) xs)) r)) made
    ∙ sym (ap (option_map (λ fs. struct fs n)) (fields_beside wide ps qs same))

pub struct_unmade : (wide : Widening) (n : Nullability) (ps qs : Pairs) → field_names ps ≡ field_names qs → None ≡ types_merged wide (field_types ps) (field_types qs) → None ≡ option_map (λ fs. struct fs n) (merged_beside wide (fields ps) (fields qs))
struct_unmade wide n ps qs same made =
    ap (λ r. option_map (λ fs. struct fs n) (option_map (λ xs. fields (zip (field_names ps) xs)) r)) made ∙ sym (ap (option_map (λ fs. struct fs n)) (fields_beside wide ps qs same))

pub struct_apart : (wide : Widening) (n : Nullability) (ps qs : Pairs) → field_names ps ≢ field_names qs → None ≡ option_map (λ fs. struct fs n) (merged_beside wide (fields ps) (fields qs))
struct_apart wide n ps qs ne = sym (ap (option_map (λ fs. struct fs n)) (fields_apart wide ps qs ne))
