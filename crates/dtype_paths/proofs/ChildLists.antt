-- SPDX-License-Identifier: Apache-2.0
-- SPDX-FileCopyrightText: Copyright the Vortex contributors

-- Lists of steps, each with the index of the node that it leads to: what is looked up in them, also by key, one more, and how
-- they go over into a copy.
use Rattle.std.proofs.Common.{◌≡◌, ◌∙◌, ℕ, Bool, false, cond, List, [], ◌∷◌, ◌++◌, Option, Some, None, is_some, length, refl, arith, ◌≢◌, sym, ap, subst}
use Rattle.std.specs.List.{All, IsDistinct, slice_get}
use Rattle.std.specs.Map.{keys_of, lookup}
use Rattle.std.specs.Option.{option_or, option_map}
use Rattle.std.proofs.lemmas.List.{map-append}
use Rattle.std.proofs.lemmas.List.Edits.{insert_end}
use Rattle.std.proofs.lemmas.Map.{lookup-insert, lookup-none, none_passes_from_lookup}
use Rattle.std.proofs.lemmas.List.Elements.{All-push, All-tail}
use Rattle.std.proofs.lemmas.Map.Keys.{IsDistinct-push, IsDistinct-tail}
use Rattle.std.proofs.lemmas.Map.Made.{is_some-lookup}
use Rattle.std.proofs.lemmas.Map.Entries.{lookup_from_place, none_past_head}
use Rattle.std.proofs.lemmas.Option.{get_or_from_slice_get, slice_get-map, slice_get_within}
use Rattle.dtype_paths.specs.private.ChildLists.{entries, HasStepKey}
use Rattle.dtype_paths.specs.Equality.{same_field}
use Rattle.dtype_paths.specs.EqualityLaws.{same_field-Decides, same_field_equiv}
use Rattle.dtype_paths.specs.declared.child_list.Child.{Child}
use Rattle.dtype_paths.specs.declared.field.Field.{Field}
use Rattle.dtype_paths.proofs.lemmas.Cases.{by_bool}
use Rattle.dtype_paths.proofs.lemmas.DistinctLists.{IsDistinct-nil}
use Rattle.dtype_paths.specs.private.StepKeys.{IsExactKey, IsStepKey}
use Rattle.dtype_paths.proofs.StepKeys.{keys_differ, told}

-- ---- what is looked up

pub lookup-append : {A B : Type 0} (test : A → Bool) (xs ys : List (A × B)) → lookup test (xs ++ ys) ≡ option_or (lookup test xs) (lookup test ys)
lookup-append test [] ys = refl
lookup-append test (x ∷ xs) ys = by_bool (test x.0) (λ e. rw e refl) (λ e. rw e (lookup-append test xs ys))

-- ---- one more

-- where a step leads that led nowhere before, and any other
pub lookup-more : (es : List (Field × ℕ)) (k : Field) (v : ℕ) → lookup (same_field k) es ≡ None → (f : Field) → lookup (same_field f) (es ++ (k, v) ∷ []) ≡ cond (same_field k f) (Some v) (lookup (same_field f) es)
lookup-more es k v none f =
    rw (← insert_end es (k, v)) (lookup-insert same_field_equiv k v f es (length es) (none_passes_from_lookup (same_field k) es none))

-- steps that differ, and one more that isn't among them
distinct-more : (es : List (Field × ℕ)) (k : Field) (v : ℕ) → lookup (same_field k) es ≡ None → IsDistinct same_field (keys_of es) → IsDistinct same_field (keys_of (es ++ (k, v) ∷ []))
distinct-more es k v none h =
    rw (map-append (λ (e : Field × ℕ). e.0) es ((k, v) ∷ []))
    (IsDistinct-push same_field_equiv (keys_of es) k h (sym (is_some-lookup (same_field k) es) ∙ ap is_some none))

-- the invariant of a list with a child more, whose step leads nowhere yet
pub more_children : (cs new : List Child) (c : Child) (es : List (Field × ℕ)) (f : Field) → new ≡ cs ++ c ∷ [] → (All HasStepKey cs) × IsDistinct same_field (keys_of (entries cs)) → HasStepKey c
    → entries cs ≡ es → c.step ≡ f → lookup (same_field f) es ≡ None → (All HasStepKey new) × IsDistinct same_field (keys_of (entries new))
more_children cs new c es f is h k view step none =
    let entry : Child → Field × ℕ = λ k. (k.step, k.node_index) in
    let nowhere = rw (← view, ← step) at none in
    rw is (All-push HasStepKey cs c h.0 k, rw (map-append entry cs (c ∷ [])) (distinct-more (entries cs) c.step c.node_index nowhere h.1))

-- the invariant of the empty list
pub no_children : (All HasStepKey []) × IsDistinct same_field (keys_of (entries []))
no_children = (λ i d lt. absurd (omega (arith, lt)), IsDistinct-nil same_field)

-- ---- how steps go over into a copy, one by one

-- each step leads where it is to, by what is left or by the copy
pub record IsCopied (rest copy all : List (Field × ℕ)) : Type 0 where
  pub once : IsDistinct same_field (keys_of rest)
  pub leads : (f : Field) → option_or (lookup (same_field f) rest) (lookup (same_field f) copy) ≡ lookup (same_field f) all

-- the first of what is left goes over
pub copied_more : (before rest old new all : List (Field × ℕ)) (k copy : Field) (v : ℕ) → before ≡ (k, v) ∷ rest → IsCopied before old all → copy ≡ k
    → ((f : Field) → lookup (same_field f) new ≡ cond (same_field copy f) (Some v) (lookup (same_field f) old)) → IsCopied rest new all
copied_more before rest old new all k copy v is so_far same put =
    let c = rw is at so_far in record {
      once = IsDistinct-tail same_field k (keys_of rest) c.once;
      leads = λ f.
          let none = lookup-none (same_field k) rest (none_past_head same_field_equiv k (k, v) rest c.once (same_field_equiv.refl k)) in
          grind (arith, put f, same, none, c.leads f, same_field_equiv.symm k f, (same_field-Decides k f).0, same_field_equiv.refl k);
    }

-- ---- where the step of a child leads that is found by its key

pub leads-by_key : (cs : List Child) (f : Field) (key : ℕ) → All HasStepKey cs → IsStepKey key f → IsDistinct same_field (keys_of (entries cs)) → IsExactKey f
    → (i : ℕ) (x : Child) → slice_get cs i ≡ Some x → x.key ≡ key
    → lookup (same_field f) (entries cs) ≡ Some x.node_index
leads-by_key cs f key keyed k once exact i x e same =
    let entry : Child → Field × ℕ = λ c. (c.step, c.node_index) in
    let h : HasStepKey x = subst HasStepKey (get_or_from_slice_get cs i x x e) (keyed i x (slice_get_within cs i x e)) in
    let is : f ≡ x.step = told f x.step k.bytes h.bytes exact (sym k.key ∙ sym same ∙ h.key) in
    rw is (lookup_from_place same_field_equiv (entries cs) i x.step x.node_index once (slice_get-map entry cs i ∙ ap (option_map entry) e))

-- no step of another key is f
pub leads-nowhere : (cs : List Child) (f : Field) (key : ℕ) → All HasStepKey cs → IsStepKey key f → All (λ c. c.key ≢ key) cs → lookup (same_field f) (entries cs) ≡ None
leads-nowhere [] f key keyed k none = refl
leads-nowhere (c ∷ cs) f key keyed k none =
    let h : HasStepKey c = keyed 0 c (omega arith) in
    let other : same_field f c.step ≡ false = keys_differ f c.step (λ e. none 0 c (omega arith) (h.key ∙ e ∙ sym k.key)) in
    rw other (leads-nowhere cs f key (All-tail HasStepKey c cs keyed) k (All-tail (λ d. d.key ≢ key) c cs none))
