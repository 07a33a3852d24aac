-- SPDX-License-Identifier: Apache-2.0
-- SPDX-FileCopyrightText: Copyright the Vortex contributors

-- The differences of a loop, one field after another.
use Rattle.std.proofs.Common.{◌≡◌, ◌≢◌, inl, inr, length, get_or, ◌≤◌, ◌<◌, ◌+◌, ◌&&◌, ℕ, suc, Bool, true, false, List, [], ◌∷◌, ◌++◌, Option, Some, None, cond, map, refl, sym, ap, ◌∙◌, append_assoc, append-nil, arith, slice_get}
use Rattle.std.specs.List.{filter}
use Rattle.std.specs.Option.{is_none, is_some}
use Rattle.std.proofs.lemmas.List.{map-append}
use Rattle.dtype_base.specs.declared.nullability.Nullability.{Nullability}
use Rattle.dtype_types.specs.declared.dtype.DType.{DType, Struct}
use Rattle.dtype_types.specs.declared.struct_fields.StructFields.{StructFields}
use Rattle.dtype_types.specs.parts.Lookups.{first_named}
use Rattle.dtype_types.specs.tree.Tree.{Tree, fields, pairs, struct}
use Rattle.dtype_types.specs.tree.TreeOf.{children, fields_of, tree, with_trees}
use Rattle.dtype_types.proofs.lemmas.TreeLaws.{pairs_of, tree_struct}
use Rattle.dtype_types.proofs.lemmas.TypesBelow.{weight, weight_items}
use Rattle.dtype_paths.specs.declared.field.Field.{Field}
use Rattle.dtype_paths.specs.declared.field.Field.TheVariants.{Name}
use Rattle.dtype_types.specs.parts.Lookups.{field_names}
use Rattle.dtype_types.proofs.lemmas.Presence.{placed_is_named}
use Rattle.dtype_base.specs.Distinct.{Distinct}
use Rattle.dtype_base.specs.FieldNames.{first_place}
use Rattle.dtype_base.proofs.lemmas.Lookups.{absent_of_place, first_of_place, place_of_first}
use Rattle.dtype_paths.proofs.lemmas.Cases.{by_bool, by_option}
use Rattle.std.proofs.lemmas.Option.{get_or_from_slice_get, same_Some, slice_get-get_or, slice_get_within}
use Rattle.std.proofs.lemmas.Bool.{cases_lt}
use Rattle.std.proofs.lemmas.List.Kept.{AllPairs-cons}
use Rattle.dtype_edits.specs.Differences.{Difference, added, allowed, by_name, common_names, differences, each_below, in_field, in_fields, no_repeats, whole}
use Rattle.dtype_edits.specs.declared.difference.Ignoring.{Ignoring}
use Rattle.dtype_edits.specs.private.Behind.{behind}

behind_more : (above : List Field) (ds es : List Difference) → behind above (ds ++ es) ≡ behind above ds ++ behind above es
behind_more above ds es = map-append _ ds es

-- behind one more step
pub behind_step : (above : List Field) (f : Field) (ds : List Difference) → behind (above ++ f ∷ []) ds ≡ behind above (each_below f ds)
behind_step above f [] = refl
behind_step above f (d ∷ ds) = ap (λ p. (p, d.1) ∷ behind (above ++ f ∷ []) ds) (append_assoc above (f ∷ []) d.0) ∙ ap (λ es. (above ++ f ∷ d.0, d.1) ∷ es) (behind_step above f ds)

-- at the root, the paths are as they are
pub behind_root : (above : List Field) (ds : List Difference) → above ≡ [] → behind above ds ≡ ds
behind_root above ds e = ap (λ a. behind a ds) e ∙ same ds
  where
    same : (es : List Difference) → behind [] es ≡ es
    same [] = refl
    same (d ∷ es) = ap (λ fs. d ∷ fs) (same es)

-- ---- the fields that are left

pub lighter : (left rest : List (List ℕ × DType)) (n : List ℕ) (d : DType) (k : ℕ) → left ≡ (n, d) ∷ rest → weight_items (fields (with_trees left)) ≤ k → (weight (tree d) ≤ k) × (weight_items (fields (with_trees rest)) ≤ k)
lighter left rest n d k next within =
    let all : weight_items (fields (with_trees left)) ≡ weight (tree d) + weight_items (fields (with_trees rest)) = ap (λ qs. weight_items (fields (with_trees qs))) next in
    (omega (arith, all, within), omega (arith, all, within))

one_beside : (i : Ignoring) (ps : List (List ℕ × Tree)) (left rest : List (List ℕ × DType)) (n : List ℕ) (d : DType) (o : Option Tree) → left ≡ (n, d) ∷ rest → o ≡ first_named ps n
    → in_fields i (fields (with_trees left)) (fields ps) ≡ in_field n (tree d) (λ u. differences i (tree d) u) o ++ in_fields i (fields (with_trees rest)) (fields ps)
one_beside i ps left rest n d o next found =
    ap (λ z. in_fields i (fields (with_trees z)) (fields ps)) next
    ∙ ap (λ z. in_field n (tree d) (λ u. differences i (tree d) u) z ++ in_fields i (fields (with_trees rest)) (fields ps)) (ap (λ z. first_named z n) (pairs_of ps) ∙ sym found)

-- what is found of one field, put before what is left
put_before : (above : List Field) (done more own later all_left all : List Difference) → done ++ behind above all_left ≡ all → all_left ≡ own ++ later → more ≡ done ++ behind above own → more ++ behind above later ≡ all
put_before above done more own later all_left all so_far is put =
    ap (λ xs. xs ++ behind above later) put
    ∙ append_assoc done (behind above own) (behind above later)
    ∙ ap (λ xs. done ++ xs) (sym (behind_more above own later))
    ∙ ap (λ xs. done ++ behind above xs) (sym is)
    ∙ so_far

pub field_turn : (i : Ignoring) (above : List Field) (done more : List Difference) (ps : List (List ℕ × Tree)) (left rest : List (List ℕ × DType)) (n : List ℕ) (d : DType) (o : Option Tree) (all : List Difference)
    → done ++ behind above (in_fields i (fields (with_trees left)) (fields ps)) ≡ all → left ≡ (n, d) ∷ rest → o ≡ first_named ps n
    → more ≡ done ++ behind above (in_field n (tree d) (λ u. differences i (tree d) u) o) → more ++ behind above (in_fields i (fields (with_trees rest)) (fields ps)) ≡ all
field_turn i above done more ps left rest n d o all so_far next found put =
    put_before above done more (in_field n (tree d) (λ u. differences i (tree d) u) o) (in_fields i (fields (with_trees rest)) (fields ps)) (in_fields i (fields (with_trees left)) (fields ps)) all so_far (one_beside i ps left rest n d o next found) put

-- the difference that a field is only after
abbrev pub only_after : List ℕ → Tree → List Difference
only_after n u = (Name n ∷ [], (None, Some u)) ∷ []

one_added : (ps : List (List ℕ × Tree)) (left rest : List (List ℕ × DType)) (n : List ℕ) (d : DType) (b : Bool) → left ≡ (n, d) ∷ rest → b ≡ is_none (first_named ps n)
    → added ps (with_trees left) ≡ cond b (only_after n (tree d)) [] ++ added ps (with_trees rest)
one_added ps left rest n d true next is = ap (λ z. added ps (with_trees z)) next ∙ ap (λ c. map (λ g. (Name g.0 ∷ [], (None, Some g.1))) (cond c ((n, tree d) ∷ filter (λ g. is_none (first_named ps g.0)) (with_trees rest)) (filter (λ g. is_none (first_named ps g.0)) (with_trees rest)))) (sym is)
one_added ps left rest n d false next is = ap (λ z. added ps (with_trees z)) next ∙ ap (λ c. map (λ g. (Name g.0 ∷ [], (None, Some g.1))) (cond c ((n, tree d) ∷ filter (λ g. is_none (first_named ps g.0)) (with_trees rest)) (filter (λ g. is_none (first_named ps g.0)) (with_trees rest)))) (sym is)

-- a field that is added
pub added_turn : (above : List Field) (done more : List Difference) (ps : List (List ℕ × Tree)) (left rest : List (List ℕ × DType)) (n : List ℕ) (d : DType) (all : List Difference)
    → done ++ behind above (added ps (with_trees left)) ≡ all → left ≡ (n, d) ∷ rest → true ≡ is_none (first_named ps n)
    → more ≡ done ++ behind above (only_after n (tree d)) → more ++ behind above (added ps (with_trees rest)) ≡ all
added_turn above done more ps left rest n d all so_far next is put =
    put_before above done more (only_after n (tree d)) (added ps (with_trees rest)) (added ps (with_trees left)) all so_far (one_added ps left rest n d true next is) put

-- a field that is there before as well
pub known_turn : (above : List Field) (done : List Difference) (ps : List (List ℕ × Tree)) (left rest : List (List ℕ × DType)) (n : List ℕ) (d : DType) (all : List Difference)
    → done ++ behind above (added ps (with_trees left)) ≡ all → left ≡ (n, d) ∷ rest → false ≡ is_none (first_named ps n)
    → done ++ behind above (added ps (with_trees rest)) ≡ all
known_turn above done ps left rest n d all so_far next is =
    put_before above done done [] (added ps (with_trees rest)) (added ps (with_trees left)) all so_far (one_added ps left rest n d false next is) (sym (append-nil done))

-- ---- the names that another struct has as well

-- such a name
pub common_turn : (gs : List (List ℕ × Tree)) (done more : List (List ℕ)) (left rest : List (List ℕ × DType)) (n : List ℕ) (d : DType) (all : List (List ℕ))
    → done ++ common_names (with_trees left) gs ≡ all → left ≡ (n, d) ∷ rest → true ≡ is_some (first_named gs n) → more ≡ done ++ n ∷ [] → more ++ common_names (with_trees rest) gs ≡ all
common_turn gs done more left rest n d all so_far next has put =
    let one : common_names (with_trees left) gs ≡ n ∷ common_names (with_trees rest) gs =
    ap (λ z. common_names (with_trees z) gs) next ∙ ap (λ c. cond c (n ∷ common_names (with_trees rest) gs) (common_names (with_trees rest) gs)) (sym has) in
    ap (λ xs. xs ++ common_names (with_trees rest) gs) put
    ∙ append_assoc done (n ∷ []) (common_names (with_trees rest) gs)
    ∙ ap (λ xs. done ++ xs) (sym one)
    ∙ so_far

-- another name
pub other_turn : (gs : List (List ℕ × Tree)) (done : List (List ℕ)) (left rest : List (List ℕ × DType)) (n : List ℕ) (d : DType) (all : List (List ℕ))
    → done ++ common_names (with_trees left) gs ≡ all → left ≡ (n, d) ∷ rest → false ≡ is_some (first_named gs n) → done ++ common_names (with_trees rest) gs ≡ all
other_turn gs done left rest n d all so_far next lacks =
    let none : common_names (with_trees left) gs ≡ common_names (with_trees rest) gs =
    ap (λ z. common_names (with_trees z) gs) next ∙ ap (λ c. cond c (n ∷ common_names (with_trees rest) gs) (common_names (with_trees rest) gs)) (sym lacks) in
    ap (λ xs. done ++ xs) (sym none) ∙ so_far

-- ---- whether a name repeats

abbrev pub AreFirst : List (List ℕ × Tree) → ℕ → Type 0
AreFirst ps i = (k : ℕ) (m : List ℕ) → k < i → slice_get (field_names ps) k ≡ Some m → first_place (field_names ps) m ≡ Some k

-- a name that finds nothing has no place, and the other way round
unplaced : (ps : List (List ℕ × Tree)) (n : List ℕ) → is_none (first_named ps n) ≡ is_none (first_place (field_names ps) n)
unplaced ps n = by_some (first_named ps n) (first_place (field_names ps) n) (placed_is_named ps n)
  where
    by_some : {A B : Type 0} (o : Option A) (r : Option B) → is_some o ≡ is_some r → is_none o ≡ is_none r
    by_some None None e = refl
    by_some None (Some b) e = cc
    by_some (Some a) None e = cc
    by_some (Some a) (Some b) e = refl

both_true : (a b : Bool) → a ≡ true → b ≡ true → (a && b) ≡ true
both_true a b e f = ap (λ x. x && b) e ∙ f

pub tested_distinct : (ps : List (List ℕ × Tree)) → Distinct (field_names ps) → no_repeats ps ≡ true
tested_distinct [] d = refl
tested_distinct (p ∷ ps) d =
    let here : is_none (first_named ps p.0) ≡ true = by_option (first_place (field_names ps) p.0)
    (λ none. unplaced ps p.0 ∙ ap is_none none)
    (λ i some.
    let at = first_of_place (field_names ps) p.0 i (sym some) in
    let within = slice_get_within (field_names ps) i p.0 at.here in
    absurd (d 0 (suc i) p.0 (omega arith) (omega (arith, within)) (sym (get_or_from_slice_get (field_names ps) i p.0 p.0 at.here)))) in
    both_true (is_none (first_named ps p.0)) (no_repeats ps) here (tested_distinct ps (λ i j x before within. d (suc i) (suc j) x (omega (arith, before)) (omega (arith, within))))

true_of : (a b : Bool) → (a && b) ≡ true → (a ≡ true) × (b ≡ true)
true_of true b e = (refl, e)
true_of false b e = cc

pub distinct_tested : (ps : List (List ℕ × Tree)) → no_repeats ps ≡ true → Distinct (field_names ps)
distinct_tested [] e = λ i j d before within. absurd (omega arith)
distinct_tested (p ∷ ps) e =
    let r = true_of (is_none (first_named ps p.0)) (no_repeats ps) e in
    AllPairs-cons (λ x y. x ≢ y) p.0 (field_names ps)
    (λ k d within same. absent_of_place (field_names ps) p.0 (none_of (first_place (field_names ps) p.0) (sym (unplaced ps p.0) ∙ r.0)) k (slice_get-get_or (field_names ps) k d within ∙ ap Some (sym same)))
    (distinct_tested ps r.1)
  where
    none_of : {A : Type 0} (o : Option A) → is_none o ≡ true → None ≡ o
    none_of None e = refl
    none_of (Some a) e = cc

-- a name that isn't the first of its kind repeats
pub not_first : (ps : List (List ℕ × Tree)) (k : ℕ) (n : List ℕ) → slice_get (field_names ps) k ≡ Some n → first_place (field_names ps) n ≢ Some k → no_repeats ps ≡ false
not_first ps k n is other = by_bool (no_repeats ps)
    (λ e.
    let ns = field_names ps in
    let d = distinct_tested ps e in
    absurd (other (place_of_first ns n k record {
      here = is;
      first = λ j before same. d j k n before (slice_get_within ns k n is) (get_or_from_slice_get ns j n n same ∙ sym (get_or_from_slice_get ns k n n is));
    })))
    (λ e. e)

pub first_more : (ps : List (List ℕ × Tree)) (i : ℕ) (n : List ℕ) → AreFirst ps i → slice_get (field_names ps) i ≡ Some n → first_place (field_names ps) n ≡ Some i → AreFirst ps (i + 1)
first_more ps i n h at first k m before is = elim (cases_lt k i) [
  | inl b ↦ h k m b is
  | inr past ↦
      let ns = field_names ps in
      let e : k ≡ i = omega (arith, before, past) in
      let same : m ≡ n = same_Some m n (sym is ∙ ap (slice_get ns) e ∙ at) in ap (first_place ns) same ∙ first ∙ ap Some (sym e)
]

pub all_are_first : (ps : List (List ℕ × Tree)) (i : ℕ) → AreFirst ps i → length (field_names ps) ≤ i → no_repeats ps ≡ true
all_are_first ps i h all = tested_distinct ps (λ j k d before within same.
    let ns = field_names ps in
    let at_j : slice_get ns j ≡ Some (get_or ns k d) = slice_get-get_or ns j d (omega (arith, before, within)) ∙ ap Some same in
    let at_k : slice_get ns k ≡ Some (get_or ns k d) = slice_get-get_or ns k d within in
    let one : j ≡ k = same_Some j k (sym (h j (get_or ns k d) (omega (arith, before, within, all)) at_j) ∙ h k (get_or ns k d) (omega (arith, within, all)) at_k) in
    omega (arith, before, one))

-- ---- two structs

pub structs_differ : (i : Ignoring) (d e : DType) (x y : StructFields) (m n : Nullability) (b : Bool) → d ≡ Struct x m → e ≡ Struct y n
    → (allowed i m n && by_name i (children x) (children y)) ≡ b
    → differences i (tree d) (tree e) ≡ cond b (in_fields i (fields_of x) (fields_of y) ++ added (children x) (children y)) (whole i (tree d) (tree e))
structs_differ i d e x y m n b is_d is_e test =
    let left = ap tree is_d ∙ tree_struct x m in
    let right = ap tree is_e ∙ tree_struct y n in
    let both : (List (List ℕ × Tree)) → (List (List ℕ × Tree)) → Tree → Tree → List Difference =
    λ ps qs t u. cond (allowed i m n && by_name i ps qs) (in_fields i (fields_of x) (fields_of y) ++ added ps qs) (whole i t u) in
    ap (λ t. differences i t (tree e)) left
    ∙ ap (λ t. differences i (struct (fields_of x) m) t) right
    ∙ ap (λ ps. both ps (pairs (fields_of y)) (struct (fields_of x) m) (struct (fields_of y) n)) (pairs_of (children x))
    ∙ ap (λ ps. both (children x) ps (struct (fields_of x) m) (struct (fields_of y) n)) (pairs_of (children y))
    ∙ ap (λ t. both (children x) (children y) t (struct (fields_of y) n)) (sym left)
    ∙ ap (λ t. both (children x) (children y) (tree d) t) (sym right)
    ∙ ap (λ c. cond c (in_fields i (fields_of x) (fields_of y) ++ added (children x) (children y)) (whole i (tree d) (tree e))) test

-- the differences of the fields, and then those that are added
pub both_put : (above : List Field) (before one two : List Difference) (ds es : List Difference) → one ≡ before ++ behind above ds → two ≡ one ++ behind above es → two ≡ before ++ behind above (ds ++ es)
both_put above before one two ds es e f = f ∙ ap (λ xs. xs ++ behind above es) e ∙ append_assoc before (behind above ds) (behind above es) ∙ ap (λ xs. before ++ xs) (sym (behind_more above ds es))
