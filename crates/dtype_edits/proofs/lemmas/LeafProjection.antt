-- SPDX-License-Identifier: Apache-2.0
-- SPDX-FileCopyrightText: Copyright the Vortex contributors

-- The projection of a type to its leaves is the type, if no name repeats where a path leads.
use Rattle.std.proofs.Common.{◌≡◌, ◌&&◌, Bool, ℕ, zero, suc, List, [], ◌∷◌, not, Option, Some, None, cond, true, false, refl, sym, ap, ◌∙◌, arith}
use Rattle.std.specs.FinSet as set
use Rattle.std.specs.List.{Contains}
use Rattle.std.specs.Option.{is_some, option_map}
use Rattle.std.specs.Str.{bytes_eq}
use Rattle.std.proofs.lemmas.Bool.{false≢true}
use Rattle.std.proofs.lemmas.Slice.Eq.{bytes_eq-Decides}
use Rattle.dtype_base.specs.Distinct.{Distinct}
use Rattle.dtype_types.specs.parts.Lookups.{field_names, first_named}
use Rattle.dtype_types.specs.tree.Tree.{Tree, Fields, no_items, item, field, pairs, list, fixed_size_list, struct}
use Rattle.dtype_types.proofs.lemmas.Presence.{placed_is_among, placed_is_named}
use Rattle.dtype_paths.specs.PathOrder.{set_of}
use Rattle.dtype_paths.specs.PathPredicates.{PathPredicate, after_step}
use Rattle.dtype_paths.specs.declared.field.Field.{Field}
use Rattle.dtype_paths.specs.declared.field.Field.TheVariants.{Name, ElementType}
use Rattle.dtype_base.specs.declared.nullability.Nullability.{Nullability}
use Rattle.dtype_paths.proofs.lemmas.Cases.{by_bool}
use Rattle.dtype_paths.proofs.lemmas.ListMembers.{contains-head, contains-mapped}
use Rattle.dtype_paths.proofs.lemmas.SetMembers.{from_list-Decides}
use Rattle.dtype_projection.specs.Projected.{prepend_kept, projected, projected_fields, struct_with, without_field}
use Rattle.dtype_edits.specs.Leaves.{NamesDiffer, leaves}
use Rattle.dtype_edits.proofs.lemmas.Leaves.{leaf_after, named_first, named_past, same_name}

-- what is kept of a type, whether the whole or all of its parts
whole_or : (b : Bool) (y : Option Tree) (t : Tree) → (b ≡ false → y ≡ Some t) → cond b (Some t) y ≡ Some t
whole_or true y t e = refl
whole_or false y t e = e refl

-- a type is kept whole if the root is wanted
whole_at : (b : Bool) (y : Option Tree) (t : Tree) → b ≡ true → cond b (Some t) y ≡ Some t
whole_at true y t e = refl
whole_at false y t e = cc

-- a struct without fields is a leaf itself
with_fields : (fs : Fields) (n : Nullability) (w : PathPredicate) → w [] ≡ false → ((p : List Field) → Contains (leaves (struct fs n)) p → w p ≡ true) → struct_with n fs ≡ Some (struct fs n)
with_fields no_items n w e h = absurd (false≢true (sym e ∙ h [] (contains-head [] [])))
with_fields (item m t _ rest) n w e h = refl

-- the first name finds no later field
other_name : (n k : List ℕ) (t x : Tree) (rest : Fields) → Distinct (field_names (pairs (item n t tt rest))) → first_named (pairs rest) k ≡ Some x → bytes_eq n k ≡ false
other_name n k t x rest d at = by_bool (bytes_eq n k)
    (λ same.
    let is : n ≡ k = (bytes_eq-Decides n k).0 same in
    let at_n : first_named (pairs rest) n ≡ Some x = ap (first_named (pairs rest)) is ∙ at in
    let m = placed_is_among (field_names (pairs rest)) n (sym (placed_is_named (pairs rest) n) ∙ ap is_some at_n) in
    absurd (d 0 (suc m.0) n (omega arith) (omega (arith, m.1)) (sym m.2)))
    (λ other. other)

-- the name of a later field isn't that of the first
past_first : (n k : List ℕ) (t x : Tree) (rest : Fields) → Distinct (field_names (pairs (item n t tt rest))) → first_named (pairs rest) k ≡ Some x → first_named (pairs (item n t tt rest)) k ≡ Some x
past_first n k t x rest d at = named_past n k t rest (other_name n k t x rest d at) ∙ at

mutual
  keeps_all : (t : Tree) (w : PathPredicate) → NamesDiffer t → ((p : List Field) → Contains (leaves t) p → w p ≡ true) → projected t w ≡ Some t
  keeps_all (list t n) w d h = whole_or (w []) _ (list t n)
      (λ e. ap (option_map (λ u. list u n)) (keeps_all t (after_step ElementType w) (λ p fs m a. d (ElementType ∷ p) fs m (t, refl, a)) (λ p c. h (ElementType ∷ p) (contains-mapped (λ q. ElementType ∷ q) p (leaves t) c))))
  keeps_all (fixed_size_list t k n) w d h = whole_or (w []) _ (fixed_size_list t k n)
      (λ e. ap (option_map (λ u. fixed_size_list u k n)) (keeps_all t (after_step ElementType w) (λ p fs m a. d (ElementType ∷ p) fs m (t, refl, a)) (λ p c. h (ElementType ∷ p) (contains-mapped (λ q. ElementType ∷ q) p (leaves t) c))))
  keeps_all (struct fs n) w d h = whole_or (w []) _ (struct fs n)
      (λ e. ap (struct_with n) (keeps_fields fs w (d [] fs n refl) (λ k x at p gs b a. d (Name k ∷ p) gs b (x, at, a)) (λ k x q at c. h (Name k ∷ q) (leaf_after (struct fs n) x (Name k) q at c)))
      ∙ with_fields fs n w e h)
  keeps_all t w d h = whole_at (w []) None t (h [] (contains-head [] []))

  keeps_fields : (fs : Fields) (w : PathPredicate) → Distinct (field_names (pairs fs)) → ((k : List ℕ) (x : Tree) → first_named (pairs fs) k ≡ Some x → NamesDiffer x)
      → ((k : List ℕ) (x : Tree) (q : List Field) → first_named (pairs fs) k ≡ Some x → Contains (leaves x) q → w (Name k ∷ q) ≡ true) → projected_fields fs w ≡ fs
  keeps_fields no_items w d ps h = refl
  keeps_fields (item n t _ rest) w d ps h =
      let first = named_first n n t rest (same_name n) in
      ap (λ o. prepend_kept n o (projected_fields rest (without_field n w))) (keeps_all t (after_step (Name n) w) (ps n t first) (λ q c. h n t q first c))
      ∙ ap (field n t) (keeps_fields rest (without_field n w)
      (λ j k x before inside. d (suc j) (suc k) x (omega (arith, before)) (omega (arith, inside)))
      (λ k x at. ps k x (past_first n k t x rest d at))
      (λ k x q at c. ap (λ b. not b && w (Name k ∷ q)) (other_name n k t x rest d at) ∙ h k x q (past_first n k t x rest d at) c))

pub projected_to_leaves : (t : Tree) → NamesDiffer t → projected t (set.contains (set_of (leaves t))) ≡ Some t
projected_to_leaves t d = keeps_all t (set.contains (set_of (leaves t))) d (λ p c. (from_list-Decides (leaves t) p).1 c)
