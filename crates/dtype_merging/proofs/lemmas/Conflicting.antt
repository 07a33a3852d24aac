-- SPDX-License-Identifier: Apache-2.0
-- SPDX-FileCopyrightText: Copyright the Vortex contributors

-- The first place at which two types can't be merged: there is one exactly if they can't be merged, and it leads to a type
-- in both, which can't be merged whatever is inside of them.
use Rattle.std.proofs.Common.{◌≡◌, ◌∙◌, ◌==◌, ◌&&◌, ℕ, List, [], ◌∷◌, Bool, true, false, Option, Some, None, IsSome, if◌then◌else◌, option_and_then, refl, sym, ap, subst}
use Rattle.std.specs.Option.{is_none, is_some, option_map}
use Rattle.std.proofs.lemmas.Bool.{eq-eqb, false≢true}
use Rattle.std.proofs.lemmas.Option.{same_Some}
use Rattle.dtype_base.specs.Nullability.{either}
use Rattle.dtype_base.specs.declared.nullability.Nullability.{Nullability}
use Rattle.dtype_types.specs.parts.Lookups.{first_named}
use Rattle.dtype_types.specs.tree.Tree.{Tree, Fields, no_items, item, pairs, list, fixed_size_list, struct}
use Rattle.dtype_paths.specs.Along.{along}
use Rattle.dtype_paths.specs.declared.field.Field.{Field}
use Rattle.dtype_paths.specs.declared.field.Field.TheVariants.{Name, ElementType}
use Rattle.dtype_paths.proofs.lemmas.Walks.{At-along}
use Rattle.dtype_merging.specs.Conflicts.{ClashesHere, ConflictsAt, fields_conflict, first_conflict, first_of, root_unless}
use Rattle.dtype_merging.specs.MergedColumns.{column, columns_merged, further, merged_beside, merged_by_name, no_repeats, prepend, struct_with}
use Rattle.dtype_merging.specs.declared.widening.Widening.{Widening}
use Rattle.dtype_merging.proofs.lemmas.Finding.{Pairs, agrees_rest, by_bool, by_option, finds_first, no_repeats_rest, both_true}
use Rattle.dtype_merging.proofs.lemmas.Merging.{pick_false, pick_true}
use Rattle.dtype_merging.proofs.lemmas.Repeats.{repeats_tested}

-- ---- results that are there, or not

none_mapped : {X Y : Type 0} (f : X → Y) (o : Option X) → is_none (option_map f o) ≡ is_none o
none_mapped f None = refl
none_mapped f (Some x) = refl

some_mapped : {X Y : Type 0} (f : X → Y) (o : Option X) → is_some (option_map f o) ≡ is_some o
some_mapped f None = refl
some_mapped f (Some x) = refl

rooted : {X : Type 0} (o : Option X) → is_none (root_unless o) ≡ is_some o
rooted None = refl
rooted (Some c) = refl

none_of_two : (f : List Field → List Field) (o p : Option (List Field)) → is_none (first_of (option_map f o) p) ≡ (is_none o && is_none p)
none_of_two f None p = refl
none_of_two f (Some q) p = refl

some_prepended : (n : List ℕ) (o : Option Tree) (r : Option Pairs) → is_some (prepend n o r) ≡ (is_some o && is_some r)
some_prepended n None r = refl
some_prepended n (Some x) None = refl
some_prepended n (Some x) (Some r) = refl

-- ---- no conflict exactly if there is a merged type

-- of a column, if it is so of the two types of each
column_settled : (wide : Widening) (t : Tree) → ((u : Tree) → is_none (first_conflict wide t u) ≡ is_some (columns_merged wide t u))
    → (o : Option Tree) → is_none (option_and_then (λ u. first_conflict wide t u) o) ≡ is_some (column t (λ u. columns_merged wide t u) o)
column_settled wide t h None = refl
column_settled wide t h (Some u) = h u

picked : (b : Bool) (o : Option (List Field)) (p : List Field) (c : Option Tree) → is_none o ≡ is_some c → is_none (if b then o else Some p) ≡ is_some (if b then c else None)
picked true o p c e = e
picked false o p c e = refl

structs_picked : (b : Bool) (o p : Option (List Field)) (c d : Option Tree) → is_none o ≡ is_some c → is_none p ≡ is_some d → is_none (if b then o else p) ≡ is_some (if b then c else d)
structs_picked true o p c d e f = e
structs_picked false o p c d e f = f

mutual
  settled : (wide : Widening) (t u : Tree) → is_none (first_conflict wide t u) ≡ is_some (columns_merged wide t u)
  settled wide (list t m) (list u n) = none_mapped _ (first_conflict wide t u) ∙ settled wide t u ∙ sym (some_mapped _ (columns_merged wide t u))
  settled wide (fixed_size_list t j m) (fixed_size_list u k n) =
      picked (j == k) _ [] _ (none_mapped _ (first_conflict wide t u) ∙ settled wide t u ∙ sym (some_mapped _ (columns_merged wide t u)))
  settled wide (struct fs m) (struct gs n) =
      structs_picked (no_repeats (pairs fs) && no_repeats (pairs gs)) (fields_conflict wide fs gs) (root_unless (merged_beside wide fs gs)) _ _
      (fields_settled wide fs gs ∙ sym (some_mapped _ (merged_by_name wide fs gs)))
      (rooted (merged_beside wide fs gs) ∙ sym (some_mapped _ (merged_beside wide fs gs)))
  settled wide t u = rooted (columns_merged wide t u)

  fields_settled : (wide : Widening) (fs gs : Fields) → is_none (fields_conflict wide fs gs) ≡ is_some (merged_by_name wide fs gs)
  fields_settled wide no_items gs = refl
  fields_settled wide (item n t _ fs) gs =
      let here = column_settled wide t (λ u. settled wide t u) (first_named (pairs gs) n) in
      let rest = fields_settled wide fs gs in
      none_of_two (λ p. Name n ∷ p) (option_and_then (λ u. first_conflict wide t u) (first_named (pairs gs) n)) (fields_conflict wide fs gs)
      ∙ ap (λ b. b && is_none (fields_conflict wide fs gs)) here ∙ ap (λ b. is_some (column t (λ u. columns_merged wide t u) (first_named (pairs gs) n)) && b) rest
      ∙ sym (some_prepended n (column t (λ u. columns_merged wide t u) (first_named (pairs gs) n)) (merged_by_name wide fs gs))

pub no_conflict : (wide : Widening) (t u : Tree) → None ≡ first_conflict wide t u → IsSome (columns_merged wide t u)
no_conflict wide t u e = sym (settled wide t u) ∙ ap is_none (sym e)

pub has_conflict : (wide : Widening) (t u : Tree) (p : List Field) → Some p ≡ first_conflict wide t u → columns_merged wide t u ≡ None
has_conflict wide t u p e = lacking (columns_merged wide t u) (sym (settled wide t u) ∙ ap is_none (sym e))
  where
    lacking : (o : Option Tree) → is_some o ≡ false → o ≡ None
    lacking None e = refl
    lacking (Some c) e = absurd (false≢true (sym e))

-- ---- where the conflict is

mapped : {X Y : Type 0} (f : X → Y) (o : Option X) (y : Y) → option_map f o ≡ Some y → (x : X) × (o ≡ Some x) × (f x ≡ y)
mapped f (Some x) y e = (x, refl, same_Some (f x) y e)
mapped f None y e = cc

root_at : {X : Type 0} (o : Option X) (p : List Field) → root_unless o ≡ Some p → (o ≡ None) × ([] ≡ p)
root_at None p e = (refl, same_Some [] p e)
root_at (Some c) p e = cc

-- a conflict of two types at a path
abbrev Placed : Widening → Tree → Tree → List Field → Type 0
Placed wide t u p = (x y : Tree) × ConflictsAt wide t u p x y

at_root : (wide : Widening) (t u : Tree) (p : List Field) → [] ≡ p → ClashesHere wide t u → Placed wide t u p
at_root wide t u p e c = subst (Placed wide t u) e (t, u, record { first = refl; second = refl; clash = c })

-- a conflict of the fields of two structs at a path
abbrev FieldPlaced : Widening → Fields → Fields → List Field → Type 0
FieldPlaced wide fs gs p = (n : List ℕ) × (q : List Field) × (t u : Tree) × (first_named (pairs fs) n ≡ Some t) × (first_named (pairs gs) n ≡ Some u) × Placed wide t u q × (Name n ∷ q ≡ p)

in_struct : (wide : Widening) (fs gs : Fields) (m n : Nullability) (p : List Field) → FieldPlaced wide fs gs p → Placed wide (struct fs m) (struct gs n) p
in_struct wide fs gs m n p h =
    let x = h.6.0 in
    let y = h.6.1 in
    let c = h.6.2 in
    subst (Placed wide (struct fs m) (struct gs n)) h.7 (x, y, record { first = (h.2, h.4, c.first); second = (h.3, h.5, c.second); clash = c.clash })

later : (wide : Widening) (n : List ℕ) (t : Tree) (fs gs : Fields) (p : List Field) → first_named (pairs fs) n ≡ None → FieldPlaced wide fs gs p → FieldPlaced wide (item n t tt fs) gs p
later wide n t fs gs p none h = (h.0, h.1, h.2, h.3, agrees_rest n t (pairs fs) ((n, t) ∷ pairs fs) none (λ k y e. e) h.0 h.2 h.4, h.5, h.6, h.7)

mutual
  conflict_at : (wide : Widening) (t u : Tree) (p : List Field) → first_conflict wide t u ≡ Some p → Placed wide t u p
  conflict_at wide (list t m) (list u n) p e =
      let q = mapped (λ p. ElementType ∷ p) (first_conflict wide t u) p e in
      let r = conflict_at wide t u q.0 q.1 in
      subst (Placed wide (list t m) (list u n)) q.2 (r.0, r.1, record { first = (t, refl, r.2.first); second = (u, refl, r.2.second); clash = r.2.clash })
  conflict_at wide (fixed_size_list t j m) (fixed_size_list u k n) p e =
      by_bool (j == k)
      (λ same.
      let q = mapped (λ p. ElementType ∷ p) (first_conflict wide t u) p (sym (ap (λ b. if b then option_map (λ p. ElementType ∷ p) (first_conflict wide t u) else Some []) same) ∙ e) in
      let r = conflict_at wide t u q.0 q.1 in
      subst (Placed wide (fixed_size_list t j m) (fixed_size_list u k n)) q.2 (r.0, r.1, record { first = (t, refl, r.2.first); second = (u, refl, r.2.second); clash = r.2.clash }))
      (λ other.
      at_root wide (fixed_size_list t j m) (fixed_size_list u k n) p (same_Some [] p (sym (ap (λ b. if b then option_map (λ p. ElementType ∷ p) (first_conflict wide t u) else Some []) other) ∙ e))
      (λ same. false≢true (sym other ∙ eq-eqb j k same)))
  conflict_at wide (struct fs m) (struct gs n) p e =
      let b = no_repeats (pairs fs) && no_repeats (pairs gs) in
      let s = merged_beside wide fs gs in
      by_bool b
      (λ d. in_struct wide fs gs m n p (field_at wide fs gs p (both_true (no_repeats (pairs fs)) (no_repeats (pairs gs)) d).0 (sym (pick_true b (fields_conflict wide fs gs) (root_unless s) d) ∙ e)))
      (λ d.
      let r = root_at s p (sym (pick_false b (fields_conflict wide fs gs) (root_unless s) d) ∙ e) in
      at_root wide (struct fs m) (struct gs n) p r.1
      (repeats_tested fs gs d, pick_false b (struct_with (merged_by_name wide fs gs) (further (pairs fs) (pairs gs)) (either m n)) (option_map (λ hs. struct hs (either m n)) s) d ∙ ap (option_map (λ hs. struct hs (either m n))) r.0))
  conflict_at wide t u p e = let r = root_at (columns_merged wide t u) p e in at_root wide t u p r.1 r.0

  field_at : (wide : Widening) (fs gs : Fields) (p : List Field) → no_repeats (pairs fs) ≡ true → fields_conflict wide fs gs ≡ Some p → FieldPlaced wide fs gs p
  field_at wide no_items gs p d e = cc
  field_at wide (item n t _ fs) gs p d e =
      let r = no_repeats_rest (n, t) (pairs fs) d in
      let rest : fields_conflict wide fs gs ≡ Some p → FieldPlaced wide (item n t tt fs) gs p = λ f. later wide n t fs gs p r.0 (field_at wide fs gs p r.1 f) in
      by_option (first_named (pairs gs) n)
      (λ none. rest (sym (ap (λ o. first_of (option_map (λ p. Name n ∷ p) (option_and_then (λ u. first_conflict wide t u) o)) (fields_conflict wide fs gs)) none) ∙ e))
      (λ u is.
      let here = sym (ap (λ o. first_of (option_map (λ p. Name n ∷ p) (option_and_then (λ u. first_conflict wide t u) o)) (fields_conflict wide fs gs)) is) ∙ e in
      by_option (first_conflict wide t u)
      (λ none. rest (sym (ap (λ o. first_of (option_map (λ p. Name n ∷ p) o) (fields_conflict wide fs gs)) none) ∙ here))
      (λ q some.
      let same = same_Some (Name n ∷ q) p (sym (ap (λ o. first_of (option_map (λ p. Name n ∷ p) o) (fields_conflict wide fs gs)) some) ∙ here) in
      (n, q, t, u, finds_first n n t (pairs fs) refl, is, conflict_at wide t u q some, same)))

-- ---- of what a call returns

pub placed : (wide : Widening) (t u : Tree) (p : List Field) → Some p ≡ first_conflict wide t u → (x y : Tree) → Some x ≡ along t p → Some y ≡ along u p → ConflictsAt wide t u p x y
placed wide t u p e x y a b =
    let r = conflict_at wide t u p (sym e) in
    let left = same_Some r.0 x (sym (At-along t p r.0 r.2.first) ∙ sym a) in
    let right = same_Some r.1 y (sym (At-along u p r.1 r.2.second) ∙ sym b) in
    subst (λ z. ConflictsAt wide t u p x z) right (subst (λ z. ConflictsAt wide t u p z r.1) left r.2)

-- there is a type at the path in both
pub leads_left : (wide : Widening) (t u : Tree) (p : List Field) → Some p ≡ first_conflict wide t u → IsSome (along t p)
leads_left wide t u p e = let r = conflict_at wide t u p (sym e) in ap is_some (At-along t p r.0 r.2.first)

pub leads_right : (wide : Widening) (t u : Tree) (p : List Field) → Some p ≡ first_conflict wide t u → IsSome (along u p)
leads_right wide t u p e = let r = conflict_at wide t u p (sym e) in ap is_some (At-along u p r.1 r.2.second)

pub ruleset conflicting = (no_conflict, has_conflict, placed, leads_left, leads_right)
