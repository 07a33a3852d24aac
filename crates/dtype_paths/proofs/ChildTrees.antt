-- SPDX-License-Identifier: Apache-2.0
-- SPDX-FileCopyrightText: Copyright the Vortex contributors

-- Many children in two maps: what is looked up in either, and that one more step keeps them so.
use Rattle.std.proofs.Common.{ℕ, ◌≡◌, ◌≢◌, ◌⊎◌, ◌∙◌, Decides, is_some, true, cond, Equal, List, ◌++◌, Option, Some, None, inl, inr, refl, sym, ap, subst, arith, ⊎_elim}
use Rattle.std.specs.BTreeMap.{is_at}
use Rattle.std.specs.Cmp.{Equal-is, tied_itself, nat_cmp_total}
use Rattle.std.specs.FinSet.{nat_cmp-IsAntisymmetric}
use Rattle.std.specs.List.{Contains, IsDistinct}
use Rattle.std.specs.List.Sorted.{IsStrictlySortedBy}
use Rattle.std.specs.Map.{keys_of, lookup, values_of}
use Rattle.std.specs.Option.{option_or}
use Rattle.std.specs.Ordering.{eq_by_cmp, nat_cmp}
use Rattle.std.proofs.lemmas.Bool.{false≢true}
use Rattle.std.proofs.lemmas.Cmp.{eq_by_cmp_equiv}
use Rattle.std.proofs.lemmas.List.{map-append}
use Rattle.std.proofs.lemmas.Map.Keys.{IsDistinct-from_sorted}
use Rattle.std.proofs.lemmas.Map.Made.{AllPairs-from_IsDistinct, IsDistinct-from_AllPairs}
use Rattle.std.proofs.lemmas.Map.Views.{Contains-from_lookup, IsSome-lookup_from_Contains, lookup-from_Contains}
use Rattle.std.proofs.lemmas.Option.{same_Some}
use Rattle.std.proofs.lemmas.Simd.{map-map}
use Rattle.dtype_base.specs.Distinct.{Distinct}
use Rattle.dtype_paths.specs.private.ChildTrees.{at_key, led_by, steps_in, IsChildTree, IsFirst, IsTaken}
use Rattle.dtype_paths.specs.Equality.{same_field}
use Rattle.dtype_paths.specs.EqualityLaws.{same_field-Decides, same_field_equiv}
use Rattle.dtype_paths.specs.PathOrder.{field_cmp}
use Rattle.dtype_paths.specs.private.StepKeys.{step_key}
use Rattle.dtype_paths.specs.declared.field.Field.{Field}
use Rattle.dtype_paths.proofs.lemmas.Cases.{by_bool, by_option}
use Rattle.dtype_paths.specs.PathOrderLaws.{field_ties}
use Rattle.dtype_paths.proofs.lemmas.DistinctLists.{distinct-append, distinct-map, distinct-unmap}
use Rattle.dtype_paths.proofs.lemmas.ListMembers.{contains-map, contains-mapped}
use Rattle.dtype_paths.proofs.ChildLists.{lookup-append}

-- ---- keys

same_key : (j k : ℕ) → is_at (nat_cmp j) k ≡ true → j ≡ k
same_key j k e = nat_cmp-IsAntisymmetric j k ((Equal-is (nat_cmp j k)).0 e)

own_key : (j k : ℕ) → j ≡ k → is_at (nat_cmp j) k ≡ true
own_key j k e = (Equal-is (nat_cmp j k)).1 (subst (λ x. nat_cmp j x ≡ Equal) e (tied_itself nat_cmp_total j))

key-Decides : (j k : ℕ) → Decides (eq_by_cmp nat_cmp j k) (j ≡ k)
key-Decides j k = (same_key j k, own_key j k)

-- ---- the steps at their keys

module _ (es : List (ℕ × (Field × ℕ))) (once : IsDistinct (eq_by_cmp nat_cmp) (keys_of es)) (keyed : (k : ℕ) (v : Field × ℕ) → at_key es k ≡ Some v → step_key v.0 ≡ k) where
  at_own : (e : ℕ × (Field × ℕ)) → Contains es e → at_key es e.0 ≡ Some e.1
  at_own e c = lookup-from_Contains (eq_by_cmp_equiv nat_cmp_total) e.0 e.1 es once c

  distinct-keyed : Distinct (keys_of (values_of es))
  distinct-keyed = subst Distinct (sym (map-map (λ (v : Field × ℕ). v.0) (λ (e : ℕ × (Field × ℕ)). e.1) es))
      (distinct-map (λ (e : ℕ × (Field × ℕ)). e.1.0) es (distinct-unmap (λ (e : ℕ × (Field × ℕ)). e.0) es (AllPairs-from_IsDistinct key-Decides (keys_of es) once)) (λ d e c b same.
      let key = sym (keyed d.0 d.1 (at_own d c)) ∙ ap step_key same ∙ keyed e.0 e.1 (at_own e b) in
      let value = same_Some d.1 e.1 (sym (at_own d c) ∙ ap (at_key es) key ∙ at_own e b) in λ i. (key i, value i)))

  -- one of them is found by its key
  lookup-keyed : (f : Field) → lookup (same_field f) (values_of es) ≡ led_by f (at_key es (step_key f))
  lookup-keyed f = by_option (lookup (same_field f) (values_of es))
      (λ none. none ∙ sym (by_option (at_key es (step_key f)) (λ e. rw e refl) (λ v e. by_bool (same_field f v.0)
      (λ y.
      let c = contains-mapped (λ (d : ℕ × (Field × ℕ)). d.1) (step_key f, v) es (Contains-from_lookup same_key (step_key f) v es e) in
      let there = lookup-from_Contains same_field_equiv v.0 v.1 (values_of es) (IsDistinct-from_AllPairs same_field-Decides (keys_of (values_of es)) distinct-keyed) c in
      let is : f ≡ v.0 = (same_field-Decides f v.0).0 y in
      let no : None ≡ Some v.1 = sym none ∙ ap (λ g. lookup (same_field g) (values_of es)) is ∙ there in absurd (cc))
      (λ n. rw (e, n) refl))))
      (λ i is.
      let w = contains-map (λ (d : ℕ × (Field × ℕ)). d.1) es (f, i) (Contains-from_lookup (λ g h. (same_field-Decides g h).0) f i (values_of es) is) in
      let found = at_own w.0 w.1 ∙ ap Some w.2 in
      let at : at_key es (step_key f) ≡ Some (f, i) = ap (at_key es) (keyed w.0.0 (f, i) found) ∙ found in
      is ∙ sym (rw (at, same_field_equiv.refl f) refl))

-- ---- both maps

keys_distinct : (by_key : List (ℕ × (Field × ℕ))) (by_step : List (Field × ℕ)) → IsChildTree by_key by_step → IsDistinct (eq_by_cmp nat_cmp) (keys_of by_key)
keys_distinct by_key by_step t = IsDistinct-from_sorted nat_cmp (keys_of by_key) t.keys

-- what is looked up by the order of steps is looked up by their equality
pub by_order : (f : Field) (es : List (Field × ℕ)) → lookup (is_at (field_cmp f)) es ≡ lookup (same_field f) es
by_order f es = sym (λ i. lookup (λ g. field_ties f g i) es)

-- where a step leads: by the step at its key, or else by the second map
pub leads : (by_key : List (ℕ × (Field × ℕ))) (by_step : List (Field × ℕ)) → IsChildTree by_key by_step → (f : Field)
    → lookup (same_field f) (steps_in by_key by_step) ≡ option_or (led_by f (at_key by_key (step_key f))) (lookup (same_field f) by_step)
leads by_key by_step t f = grind (arith, lookup-append, lookup-keyed, keys_distinct)

-- what is looked up at the key, and where nothing is found there by itself
pub looked_up_first : (by_key : List (ℕ × (Field × ℕ))) (by_step s : List (Field × ℕ)) (f : Field) (i : ℕ) → IsChildTree by_key by_step → steps_in by_key by_step ≡ s
    → Some i ≡ led_by f (at_key by_key (step_key f)) → Some i ≡ lookup (same_field f) s
looked_up_first by_key by_step s f i t is e = grind (arith, leads)

pub looked_up_later : (by_key : List (ℕ × (Field × ℕ))) (by_step s : List (Field × ℕ)) (f : Field) (o : Option ℕ) → IsChildTree by_key by_step → steps_in by_key by_step ≡ s
    → None ≡ led_by f (at_key by_key (step_key f)) → o ≡ lookup (is_at (field_cmp f)) by_step → o ≡ lookup (same_field f) s
looked_up_later by_key by_step s f o t is none e = grind (arith, by_order, leads)

taken_by : (by_key : List (ℕ × (Field × ℕ))) (f : Field) → IsTaken by_key f → led_by f (at_key by_key (step_key f)) ≡ None
taken_by by_key f t = ap (led_by f) t.1 ∙ rw t.2 refl

pub distinct_steps : (by_key : List (ℕ × (Field × ℕ))) (by_step s : List (Field × ℕ)) → IsChildTree by_key by_step → steps_in by_key by_step ≡ s → IsDistinct same_field (keys_of s)
distinct_steps by_key by_step s t is =
    let keys = keys_distinct by_key by_step t in let first = values_of by_key in
    let sorted = AllPairs-from_IsDistinct (λ f g. subst (λ b. Decides b (f ≡ g)) (field_ties f g) (same_field-Decides f g)) (keys_of by_step) (IsDistinct-from_sorted field_cmp (keys_of by_step) t.steps) in
    rw (← is, map-append (λ (e : Field × ℕ). e.0) first by_step)
    (IsDistinct-from_AllPairs same_field-Decides (keys_of first ++ keys_of by_step)
    (distinct-append (keys_of first) (keys_of by_step) (distinct-keyed by_key keys t.keyed) sorted (λ f c d.
    by_option (lookup (same_field f) by_step)
    (λ none. false≢true (ap is_some (sym none) ∙ IsSome-lookup_from_Contains same_field_equiv f by_step d))
    (λ i e. false≢true (ap is_some (sym (lookup-keyed by_key keys t.keyed f ∙ taken_by by_key f (t.taken f i e))) ∙ IsSome-lookup_from_Contains same_field_equiv f first c)))))

-- ---- one step more

module _ (by_key : List (ℕ × (Field × ℕ))) (by_step : List (Field × ℕ)) (t : IsChildTree by_key by_step) (x : Field) (node_index : ℕ) where
  -- by the second map, where another step has its key
  module _ (new : List (Field × ℕ)) (taken : IsTaken by_key x) (sorted : IsStrictlySortedBy field_cmp (keys_of new))
      (put : (f : Field) → lookup (is_at (field_cmp f)) new ≡ cond (is_at (field_cmp x) f) (Some node_index) (lookup (is_at (field_cmp f)) by_step)) where
    put_same : (f : Field) → lookup (same_field f) new ≡ cond (same_field x f) (Some node_index) (lookup (same_field f) by_step)
    put_same f = sym (by_order f new) ∙ put f ∙ (λ i. cond (sym (field_ties x f) i) (Some node_index) (by_order f by_step i))

    pub more_by_step : IsChildTree by_key new
    more_by_step = record {
      keys = t.keys;
      steps = sorted;
      keyed = t.keyed;
      taken = λ f i e. by_bool (same_field x f)
          (λ y. subst (IsTaken by_key) ((same_field-Decides x f).0 y) taken)
          (λ n. t.taken f i (sym (put_same f ∙ rw n refl) ∙ e));
    }

    pub led_more_by_step : (s : List (Field × ℕ)) → steps_in by_key by_step ≡ s → (f : Field) → lookup (same_field f) (steps_in by_key new) ≡ cond (same_field x f) (Some node_index) (lookup (same_field f) s)
    led_more_by_step s is f =
        let none : same_field x f ≡ true → led_by f (at_key by_key (step_key f)) ≡ None =
        λ y. subst (λ g. led_by g (at_key by_key (step_key g)) ≡ None) ((same_field-Decides x f).0 y) (taken_by by_key x taken) in
        grind (arith, leads by_key new more_by_step f, leads by_key by_step t f, put_same f, none, is)

  -- at its key, where no other step is
  module _ (new : List (ℕ × (Field × ℕ))) (key : ℕ) (own : key ≡ step_key x) (free : IsFirst by_key x) (sorted : IsStrictlySortedBy nat_cmp (keys_of new))
      (put_key : (k : ℕ) → at_key new k ≡ cond (is_at (nat_cmp key) k) (Some (x, node_index)) (at_key by_key k)) where
    put : (k : ℕ) → at_key new k ≡ cond (is_at (nat_cmp (step_key x)) k) (Some (x, node_index)) (at_key by_key k)
    put = subst (λ j. (k : ℕ) → at_key new k ≡ cond (is_at (nat_cmp j) k) (Some (x, node_index)) (at_key by_key k)) own put_key

    -- at a key is the step, where at most the step stood before, or what stood there before
    at : (k : ℕ) → ((step_key x ≡ k) × (at_key new k ≡ Some (x, node_index)) × ((v : Field × ℕ) → at_key by_key k ≡ Some v → x ≡ v.0)) ⊎ ((step_key x ≢ k) × (at_key new k ≡ at_key by_key k))
    at k = by_bool (is_at (nat_cmp (step_key x)) k)
        (λ y. let key = same_key (step_key x) k y in inl (key, put k ∙ rw y refl, λ v e. free v (ap (at_key by_key) key ∙ e)))
        (λ n. inr (λ key. false≢true (sym n ∙ own_key (step_key x) k key), put k ∙ rw n refl))

    pub more_by_key : IsChildTree new by_step
    more_by_key = record {
      keys = sorted;
      steps = t.steps;
      keyed = λ k v e. ⊎_elim
          (λ a. let is : Some (x, node_index) ≡ Some v = sym a.1 ∙ e in let first : x ≡ v.0 = cc in ap step_key (sym first) ∙ a.0)
          (λ a. t.keyed k v (sym a.1 ∙ e))
          (at k);
      taken = λ f i e. let old = t.taken f i e in ⊎_elim
          (λ a. ((x, node_index), a.1, ap (same_field f) (a.2 old.0 old.1) ∙ old.2))
          (λ a. (old.0, a.1 ∙ old.1, old.2))
          (at (step_key f));
    }

    led_new : (f : Field) → led_by f (at_key new (step_key f)) ≡ cond (same_field x f) (Some node_index) (led_by f (at_key by_key (step_key f)))
    led_new f = elim (at (step_key f)) [
      | inl a ↦ by_option (at_key by_key (step_key f))
          (λ none. grind (arith, a.1, none, same_field_equiv.symm f x))
          (λ v e. grind (arith, a.1, e, a.2 v e, same_field_equiv.symm f x))
      | inr a ↦ by_bool (same_field x f) (λ y. absurd (a.0 (ap step_key ((same_field-Decides x f).0 y)))) (λ n. rw (a.1, n) refl)
    ]

    pub led_more_by_key : (s : List (Field × ℕ)) → steps_in by_key by_step ≡ s → (f : Field) → lookup (same_field f) (steps_in new by_step) ≡ cond (same_field x f) (Some node_index) (lookup (same_field f) s)
    led_more_by_key s is f = grind (arith, leads new by_step more_by_key f, leads by_key by_step t f, led_new f, is)
