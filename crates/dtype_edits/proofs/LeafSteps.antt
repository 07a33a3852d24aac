-- SPDX-License-Identifier: Apache-2.0
-- SPDX-FileCopyrightText: Copyright the Vortex contributors

-- The leaves of the fields of a struct, one position after another.
use Rattle.std.proofs.Common.{◌≡◌, ◌≢◌, ◌<◌, ◌≤◌, ◌+◌, ◌||◌, Bool, ℕ, zero, suc, List, [], ◌∷◌, ◌++◌, Option, Some, None, cond, true, false, map, slice_get, take, drop, length, refl, sym, ap, ◌∙◌, append-nil, append_assoc, arith}
use Rattle.std.specs.List.{list_any}
use Rattle.std.specs.Str.{bytes_eq}
use Rattle.std.proofs.lemmas.List.{map-append}
use Rattle.std.proofs.lemmas.Option.{same_Some}
use Rattle.std.proofs.lemmas.Slice.Eq.{bytes_eq-Decides}
use Rattle.dtype_base.specs.FieldNames.{first_place}
use Rattle.dtype_base.proofs.lemmas.Lookups.{first_of_place, place_of_first}
use Rattle.dtype_types.specs.parts.Lookups.{field_names, field_types}
use Rattle.dtype_types.specs.tree.Tree.{Tree, fields}
use Rattle.dtype_types.proofs.lemmas.TypesBelow.{field_below, weight, weight_items}
use Rattle.dtype_paths.specs.declared.field.Field.{Field}
use Rattle.dtype_paths.specs.declared.field.Field.TheVariants.{Name}
use Rattle.dtype_paths.proofs.lemmas.Cases.{by_bool, by_option}
use Rattle.dtype_edits.specs.Leaves.{each_after, field_leaves, leaves, root_or}

-- whether the name is one of the first i
abbrev pub is_taken : List (List ℕ) → ℕ → List ℕ → Bool
is_taken ns i n = list_any (λ m. bytes_eq m n) (take i ns)

first_new : (ns : List (List ℕ)) (i : ℕ) (n : List ℕ) → is_taken ns i n ≡ false → (k : ℕ) → k < i → slice_get ns k ≡ Some n → ⊥
first_new [] i n e k lt at = cc
first_new (m ∷ ns) zero n e k lt at = omega (arith, lt)
first_new (m ∷ ns) (suc i) n e zero lt at =
    let same : bytes_eq m n ≡ true = (bytes_eq-Decides m n).1 (same_Some m n at) in
    let no : true ≡ false = sym (ap (λ b. b || is_taken ns i n) same) ∙ e in cc
first_new (m ∷ ns) (suc i) n e (suc k) lt at = by_bool (bytes_eq m n)
    (λ same. let no : true ≡ false = sym (ap (λ b. b || is_taken ns i n) same) ∙ e in cc)
    (λ other. first_new ns i n (sym (ap (λ b. b || is_taken ns i n) other) ∙ e) k (omega (arith, lt)) at)

new_first : (ns : List (List ℕ)) (i : ℕ) (n : List ℕ) → ((k : ℕ) → k < i → slice_get ns k ≡ Some n → ⊥) → is_taken ns i n ≡ false
new_first [] zero n h = refl
new_first [] (suc i) n h = refl
new_first (m ∷ ns) zero n h = refl
new_first (m ∷ ns) (suc i) n h = by_bool (bytes_eq m n)
    (λ same. absurd (h 0 (omega arith) (ap Some ((bytes_eq-Decides m n).0 same))))
    (λ other. ap (λ b. b || is_taken ns i n) other ∙ new_first ns i n (λ k lt. h (suc k) (omega (arith, lt))))

-- a name is taken exactly where its first position is another
pub found_new : (ns : List (List ℕ)) (i : ℕ) (n : List ℕ) → first_place ns n ≡ Some i → is_taken ns i n ≡ false
found_new ns i n e = new_first ns i n (first_of_place ns n i (sym e)).first

pub found_taken : (ns : List (List ℕ)) (i : ℕ) (n : List ℕ) → slice_get ns i ≡ Some n → first_place ns n ≢ Some i → is_taken ns i n ≡ true
found_taken ns i n at ne = by_bool (is_taken ns i n) (λ taken. taken)
    (λ new. absurd (ne (place_of_first ns n i (record { here = at; first = first_new ns i n new }))))

-- ---- one position more

dropped : (ps : List (List ℕ × Tree)) (i : ℕ) (n : List ℕ) (t : Tree) → slice_get (field_names ps) i ≡ Some n → slice_get (field_types ps) i ≡ Some t → drop i ps ≡ (n, t) ∷ drop (suc i) ps
dropped [] i n t a b = cc
dropped (p ∷ ps) zero n t a b = ap (λ m. (m, p.1) ∷ ps) (same_Some p.0 n a) ∙ ap (λ u. (n, u) ∷ ps) (same_Some p.1 t b)
dropped (p ∷ ps) (suc i) n t a b = dropped ps i n t a b

taken_more : (ns : List (List ℕ)) (i : ℕ) (n : List ℕ) → slice_get ns i ≡ Some n → take (suc i) ns ≡ take i ns ++ n ∷ []
taken_more [] i n a = cc
taken_more (m ∷ ns) zero n a = ap (λ k. k ∷ []) (same_Some m n a)
taken_more (m ∷ ns) (suc i) n a = ap (λ ks. m ∷ ks) (taken_more ns i n a)

-- the leaves of the fields from position i on
abbrev pub leaves_from : List (List ℕ × Tree) → ℕ → List (List Field)
leaves_from ps i = field_leaves (take i (field_names ps)) (fields (drop i ps))

one_more : (ps : List (List ℕ × Tree)) (i : ℕ) (n : List ℕ) (t : Tree) → slice_get (field_names ps) i ≡ Some n → slice_get (field_types ps) i ≡ Some t
    → leaves_from ps i ≡ cond (is_taken (field_names ps) i n) [] (each_after (Name n) (leaves t)) ++ leaves_from ps (suc i)
one_more ps i n t a b =
    let ns = field_names ps in
    ap (λ qs. field_leaves (take i ns) (fields qs)) (dropped ps i n t a b)
    ∙ ap (λ ks. cond (is_taken ns i n) [] (each_after (Name n) (leaves t)) ++ field_leaves ks (fields (drop (suc i) ps))) (sym (taken_more ns i n a))

missing_type : (ps : List (List ℕ × Tree)) (i : ℕ) (n : List ℕ) → slice_get (field_names ps) i ≡ Some n → slice_get (field_types ps) i ≡ None → ⊥
missing_type [] i n a none = cc
missing_type (p ∷ ps) zero n a none = cc
missing_type (p ∷ ps) (suc i) n a none = missing_type ps i n a none

-- the type of the field at the position i, unless its name is taken
abbrev pub new_type : List (List ℕ × Tree) → ℕ → List ℕ → Option Tree
new_type ps i n = cond (is_taken (field_names ps) i n) None (slice_get (field_types ps) i)

-- what a lookup of the name says of it
pub looked_up : (ps : List (List ℕ × Tree)) (i : ℕ) (n : List ℕ) (o : Option ℕ) → o ≡ first_place (field_names ps) n → o ≡ Some i → slice_get (field_types ps) i ≡ new_type ps i n
looked_up ps i n o e same = sym (ap (λ b. cond b None (slice_get (field_types ps) i)) (found_new (field_names ps) i n (sym e ∙ same)))

pub looked_up_before : (ps : List (List ℕ × Tree)) (i : ℕ) (n : List ℕ) (o : Option ℕ) → slice_get (field_names ps) i ≡ Some n → o ≡ first_place (field_names ps) n → o ≢ Some i → None ≡ new_type ps i n
looked_up_before ps i n o a e other = sym (ap (λ b. cond b None (slice_get (field_types ps) i)) (found_taken (field_names ps) i n a (λ is. other (e ∙ is))))

new_type_is : (ps : List (List ℕ × Tree)) (i : ℕ) (n : List ℕ) (t : Tree) → Some t ≡ new_type ps i n → (is_taken (field_names ps) i n ≡ false) × (slice_get (field_types ps) i ≡ Some t)
new_type_is ps i n t e = by_bool (is_taken (field_names ps) i n)
    (λ taken. let no : Some t ≡ None = e ∙ ap (λ b. cond b None (slice_get (field_types ps) i)) taken in cc)
    (λ new. (new, sym (e ∙ ap (λ b. cond b None (slice_get (field_types ps) i)) new)))

no_new_type : (ps : List (List ℕ × Tree)) (i : ℕ) (n : List ℕ) → slice_get (field_names ps) i ≡ Some n → None ≡ new_type ps i n → is_taken (field_names ps) i n ≡ true
no_new_type ps i n a e = by_bool (is_taken (field_names ps) i n) (λ taken. taken)
    (λ new. absurd (missing_type ps i n a (sym (e ∙ ap (λ b. cond b None (slice_get (field_types ps) i)) new))))

-- it weighs no more than all
pub lighter : (ps : List (List ℕ × Tree)) (i : ℕ) (n : List ℕ) (t : Tree) → Some t ≡ new_type ps i n → weight t ≤ weight_items (fields ps)
lighter ps i n t e = field_below ps i t (new_type_is ps i n t e).1

module _ (h : List Field → List Field) (ps : List (List ℕ × Tree)) (i j : ℕ) (n : List ℕ) (found all : List (List Field)) (next : j ≡ suc i) (a : slice_get (field_names ps) i ≡ Some n) (so_far : found ++ map h (leaves_from ps i) ≡ all) where
  -- the leaves of the field at the position i are found
  pub turn_found : (t : Tree) (more : List (List Field)) → Some t ≡ new_type ps i n → more ≡ found ++ map h (each_after (Name n) (leaves t)) → more ++ map h (leaves_from ps j) ≡ all
  turn_found t more e is =
      let w = new_type_is ps i n t e in
      let own = each_after (Name n) (leaves t) in
      let rest = leaves_from ps (suc i) in
      ap (λ k. more ++ map h (leaves_from ps k)) next
      ∙ ap (λ xs. xs ++ map h rest) is
      ∙ append_assoc found (map h own) (map h rest)
      ∙ ap (λ xs. found ++ xs) (sym (map-append h own rest))
      ∙ ap (λ b. found ++ map h (cond b [] own ++ rest)) (sym w.0)
      ∙ ap (λ xs. found ++ map h xs) (sym (one_more ps i n t a w.1))
      ∙ so_far

  -- and it has none
  pub turn_passed : None ≡ new_type ps i n → found ++ map h (leaves_from ps j) ≡ all
  turn_passed e = by_option (slice_get (field_types ps) i)
      (λ none. absurd (missing_type ps i n a none))
      (λ t some.
      ap (λ k. found ++ map h (leaves_from ps k)) next
      ∙ ap (λ b. found ++ map h (cond b [] (each_after (Name n) (leaves t)) ++ leaves_from ps (suc i))) (sym (no_new_type ps i n a e))
      ∙ ap (λ xs. found ++ map h xs) (sym (one_more ps i n t a some))
      ∙ so_far)

-- after the last
past : (qs : List (List ℕ × Tree)) (j : ℕ) → length (field_names qs) ≤ j → drop j qs ≡ []
past [] zero b = refl
past [] (suc j) b = refl
past (q ∷ qs) zero b = absurd (omega (arith, b))
past (q ∷ qs) (suc j) b = past qs j (omega (arith, b))

pub none_from : (ps : List (List ℕ × Tree)) (i : ℕ) → length (field_names ps) ≤ i → leaves_from ps i ≡ []
none_from ps i le = ap (λ qs. field_leaves (take i (field_names ps)) (fields qs)) (past ps i le)

-- a path behind one more step
pub behind_step : (above : List Field) (f : Field) (ps : List (List Field)) → map (λ p. (above ++ f ∷ []) ++ p) ps ≡ map (λ p. above ++ p) (each_after f ps)
behind_step above f [] = refl
behind_step above f (p ∷ ps) = ap (λ q. q ∷ map (λ r. (above ++ f ∷ []) ++ r) ps) (append_assoc above (f ∷ []) p) ∙ ap (λ qs. (above ++ f ∷ p) ∷ qs) (behind_step above f ps)

-- at the root, the paths are as they are
pub behind_root : (above : List Field) (ps : List (List Field)) → above ≡ [] → map (λ p. above ++ p) ps ≡ ps
behind_root above ps e = ap (λ a. map (λ p. a ++ p) ps) e ∙ same ps
  where
    same : (qs : List (List Field)) → map (λ p. [] ++ p) qs ≡ qs
    same [] = refl
    same (q ∷ qs) = ap (λ rs. q ∷ rs) (same qs)

-- ---- the leaves of a struct, by the number of its fields

pub no_fields_leaf : (ps : List (List ℕ × Tree)) → length ps ≡ 0 → root_or (fields ps) (field_leaves [] (fields ps)) ≡ [] ∷ []
no_fields_leaf [] e = refl
no_fields_leaf (p ∷ ps) e = cc

pub fields_leaves : (ps : List (List ℕ × Tree)) → length ps ≢ 0 → root_or (fields ps) (field_leaves [] (fields ps)) ≡ leaves_from ps 0
fields_leaves [] ne = absurd (ne refl)
fields_leaves (p ∷ ps) ne = refl
