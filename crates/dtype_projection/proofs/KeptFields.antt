-- SPDX-License-Identifier: Apache-2.0
-- SPDX-FileCopyrightText: Copyright the Vortex contributors

-- What is kept of the fields that paths step into, in the order of their positions, is the projection of all fields: of
-- a field that no path steps into nothing is kept.
use Rattle.std.proofs.Common.{◌≡◌, ◌⊎◌, inl, inr, ℕ, zero, suc, ◌+◌, ◌<◌, ◌≤◌, List, [], ◌∷◌, ◌++◌, map, length, slice_get, true, Option, Some, None, refl, sym, ap, ◌∙◌, append_assoc, arith}
use Rattle.std.specs.List.{cons_option, filter_map, zip}
use Rattle.std.specs.Option.{option_and_then, option_map}
use Rattle.std.proofs.lemmas.Bool.{cases_lt}
use Rattle.std.proofs.lemmas.List.{length-map, map_push}
use Rattle.std.proofs.lemmas.Bool.Decides.{Decides-eqb}
use Rattle.std.proofs.lemmas.Option.{same_Some}
use Rattle.dtype_base.specs.declared.nullability.Nullability.{Nullability}
use Rattle.dtype_types.specs.parts.Lookups.{field_names, field_types}
use Rattle.dtype_types.specs.tree.Tree.{Tree, Fields, fields, pairs, struct}
use Rattle.dtype_types.proofs.lemmas.TreeLaws.{tree_struct}
use Rattle.dtype_types.specs.tree.TreeOf.{tree, children, fields_of, struct_pairs, with_trees}
use Rattle.dtype_types.specs.declared.dtype.DType.{DType, Struct}
use Rattle.dtype_types.specs.declared.struct_fields.StructFields.{StructFields}
use Rattle.dtype_paths.specs.declared.field.Field.TheVariants.{Name}
use Rattle.dtype_paths.specs.Cursors.{contains_below}
use Rattle.dtype_paths.specs.declared.field_path_cursor.FieldPathCursor.{FieldPathCursor}
use Rattle.dtype_projection.specs.private.Entered.{contained_at, contained_below, kept_field, AreEntered, AreWhole, Entries, Rise}
use Rattle.dtype_projection.specs.Projected.{PathPredicate, after_step, without_field, projected, projected_fields, struct_with, prepend_kept}
use Rattle.dtype_projection.proofs.EnteredFields.{bounded, none_before}
use Rattle.dtype_projection.proofs.lemmas.Projections.{kept_root, projected_nothing}

abbrev pub Pairs : Type 0
Pairs = List (List ℕ × Tree)

-- what is kept of the field at an entry's position
abbrev pub kept_at : Pairs → ℕ × FieldPathCursor → Option (List ℕ × Tree)
kept_at fs e = kept_field fs e.0 (contains_below e.1)

-- ---- the fields kept

-- the first entry is at i, or all are after it
next_position : (i n : ℕ) (es : Entries) → Rise i n es → i < n → ((v : FieldPathCursor) × (rest : Entries) × (es ≡ (i, v) ∷ rest) × Rise (i + 1) n rest) ⊎ Rise (i + 1) n es
next_position i n [] from lt = inr (omega (arith, lt))
next_position i n (e ∷ es) from lt = elim (cases_lt i e.0) [
  | inl later ↦ inr (omega (arith, later), from.1)
  | inr same ↦ let at : e.0 ≡ i = omega (arith, same, from.0) in inl (e.1, es, ap (λ k. (k, e.1) ∷ es) at, rw at at from.1)
]

kept_pairs : (n : List ℕ) (o : Option Tree) (rest : Fields) → cons_option (option_map (λ u. (n, u)) o) (pairs rest) ≡ pairs (prepend_kept n o rest)
kept_pairs n None rest = refl
kept_pairs n (Some t) rest = refl

-- fs are the fields from position i on, and es has what is contained below them
kept_from : (all fs : Pairs) (i n : ℕ) (es : Entries) (w : PathPredicate) → n ≡ i + length fs → ((k j : ℕ) → j ≡ k + i → slice_get all j ≡ slice_get fs k) → Rise i n es
    → ((k j : ℕ) → j ≡ k + i → contained_at es j ≡ contained_below w (field_names fs) k) → filter_map (kept_at all) es ≡ pairs (projected_fields (fields fs) w)
kept_from all [] i n [] w long at from asked = refl
kept_from all [] i n (e ∷ es) w long at from asked = absurd (omega (arith, long, from.0, bounded (e.0 + 1) n es from.1))
kept_from all (f ∷ fs) i n es w long at from asked =
    let here : contained_at es i ≡ after_step (Name f.0) w = asked 0 i (omega arith) in
    let there : slice_get all i ≡ Some f = at 0 i (omega arith) in
    let later = projected_fields (fields fs) (without_field f.0 w) in
    let pair = kept_pairs f.0 (projected f.1 (after_step (Name f.0) w)) later in
    let on : (rest : Entries) → Rise (i + 1) n rest → ((j : ℕ) → i < j → contained_at rest j ≡ contained_at es j) → filter_map (kept_at all) rest ≡ pairs later =
    λ rest from same. kept_from all fs (i + 1) n rest (without_field f.0 w) (omega (arith, long)) (λ k j e. at (suc k) j (omega (arith, e))) from
    (λ k j e. same j (omega (arith, e)) ∙ asked (suc k) j (omega (arith, e))) in
    elim (next_position i n es from (omega (arith, long))) [
      | inl h ↦
          let skipped : (j : ℕ) → i < j → contained_at h.1 j ≡ contained_at es j = λ j lt. rw h.2 (let ne = (Decides-eqb j i).0 in grind (arith, lt, ne)) in
          let own : contained_at es i ≡ contains_below h.0 = rw (h.2, (Decides-eqb i i).1 refl) refl in
          grind (arith, h.2, there, here, own, on h.1 h.3 skipped, pair)
      | inr after ↦ grind (arith, here, none_before (i + 1) n i es after, on es after (λ j lt. refl), projected_nothing f.1, pair)
    ]

pub all_kept : (fs : Pairs) (es : Entries) (w : PathPredicate) → AreEntered w (field_names fs) es → filter_map (kept_at fs) es ≡ pairs (projected_fields (fields fs) w)
all_kept fs es w e = grind (arith, kept_from fs fs 0 (length (field_names fs)) es w, length-map fs (λ f. f.0), e)

-- ---- one field

field_at : (fs : Pairs) (k : ℕ) (n : List ℕ) (t : Tree) → slice_get (field_names fs) k ≡ Some n → slice_get (field_types fs) k ≡ Some t → slice_get fs k ≡ Some (n, t)
field_at [] k n t name type = cc
field_at (f ∷ fs) zero n t name type = let is : f.0 ≡ n = same_Some f.0 n name in let at : f.1 ≡ t = same_Some f.1 t type in λ i. Some (is i, at i)
field_at (f ∷ fs) (suc k) n t name type = field_at fs k n t name type

-- what is kept of the field n of type t
pub kept_some : (fs : Pairs) (k : ℕ) (w : PathPredicate) (n : List ℕ) (t u : Tree) → Some n ≡ slice_get (field_names fs) k → Some t ≡ slice_get (field_types fs) k → Some u ≡ projected t w → Some (n, u) ≡ kept_field fs k w
kept_some fs k w n t u name type is = ap (option_map (λ v. (n, v))) is ∙ ap (option_and_then (λ (f : List ℕ × Tree). option_map (λ v. (f.0, v)) (projected f.1 w))) (sym (field_at fs k n t (sym name) (sym type)))

pub kept_none : (fs : Pairs) (k : ℕ) (w : PathPredicate) (n : List ℕ) (t : Tree) → Some n ≡ slice_get (field_names fs) k → Some t ≡ slice_get (field_types fs) k → None ≡ projected t w → None ≡ kept_field fs k w
kept_none fs k w n t name type is = ap (option_map (λ v. (n, v))) is ∙ ap (option_and_then (λ (f : List ℕ × Tree). option_map (λ v. (f.0, v)) (projected f.1 w))) (sym (field_at fs k n t (sym name) (sym type)))

-- ---- the loop

zip_push : {X Y : Type 0} (xs : List X) (ys : List Y) (x : X) (y : Y) → length xs ≡ length ys → zip (xs ++ x ∷ []) (ys ++ y ∷ []) ≡ zip xs ys ++ (x, y) ∷ []
zip_push [] [] x y e = refl
zip_push (a ∷ xs) (b ∷ ys) x y e = ap (λ zs. (a, b) ∷ zs) (zip_push xs ys x y (omega arith))
zip_push _ _ x y e = absurd (omega arith)

pub one_kept : (fs all : Pairs) (es rest : Entries) (e : ℕ × FieldPathCursor) (names names' : List (List ℕ)) (dtypes dtypes' : List DType) (n : List ℕ) (d : DType) → es ≡ e ∷ rest → kept_at fs e ≡ Some (n, tree d) → length names ≡ length dtypes → names' ≡ names ++ n ∷ [] → dtypes' ≡ dtypes ++ d ∷ []
    → zip names (map tree dtypes) ++ filter_map (kept_at fs) es ≡ all → zip names' (map tree dtypes') ++ filter_map (kept_at fs) rest ≡ all
one_kept fs all es rest e names names' dtypes dtypes' n d next is even en ed whole =
    grind (arith, next, is, even, en, ed, whole, map_push tree dtypes d, zip_push names (map tree dtypes) n (tree d), length-map dtypes tree, append_assoc (zip names (map tree dtypes)) ((n, tree d) ∷ []))

-- ---- the struct of the fields that are kept

pub struct_made : (s : StructFields) (n : Nullability) (fs : Pairs) → children s ≡ fs → 0 < length fs → Some (tree (Struct s n)) ≡ struct_with n (fields fs)
struct_made s n [] made some = absurd (omega arith)
struct_made s n (f ∷ fs) made some = ap Some (tree_struct s n ∙ ap (λ gs. struct (fields gs) n) made)

-- ---- all fields, kept whole

whole_at : (i n : ℕ) (es : Entries) → AreWhole i n es → (j : ℕ) → i ≤ j → j < n → contained_at es j [] ≡ true
whole_at i n [] end j le lt = absurd (omega (arith, end, le, lt))
whole_at i n (e ∷ es) all j le lt = grind (arith, cases_lt i j, whole_at (i + 1) n es all.2, all, le, lt)

whole_fields : (fs : Pairs) (w : PathPredicate) → ((k : ℕ) → k < length fs → contained_below w (field_names fs) k [] ≡ true) → fields fs ≡ projected_fields (fields fs) w
whole_fields [] w ends = refl
whole_fields (f ∷ fs) w ends = grind (arith, whole_fields fs (without_field f.0 w) (λ k lt. ends (suc k) (omega (arith, lt))), ends 0 (omega arith), kept_root f.1)

-- a copy of a struct that has fields, of which all are kept whole, is its projection
pub struct_shared : (s t : StructFields) (n : Nullability) (w : PathPredicate) (es : Entries) → struct_pairs s ≡ struct_pairs t → AreEntered w (field_names (children t)) es → AreWhole 0 (length (children t)) es → 0 < length (children t) → Some (tree (Struct s n)) ≡ struct_with n (projected_fields (fields_of t) w)
struct_shared s t n w es same a all some =
    struct_made s n (children t) (ap with_trees same) some
    ∙ ap (struct_with n) (whole_fields (children t) w (λ k lt. sym (ap (λ (v : PathPredicate). v []) (a.contained k)) ∙ whole_at 0 (length (children t)) es all k (omega arith) lt))
