-- SPDX-License-Identifier: Apache-2.0
-- SPDX-FileCopyrightText: Copyright the Vortex contributors

-- Many children in a table of trees: what is looked up in it, and that one more step keeps each in its tree.
use Rattle.std.proofs.Common.{ℕ, zero, suc, ◌≡◌, ◌≢◌, ◌≤◌, ◌<◌, ◌+◌, ◌-◌, ◌∙◌, Bool, true, false, cond, List, [], ◌∷◌, ◌++◌, Option, Some, None, refl, sym, ap, subst, arith, length, length-append, is_some}
use Rattle.std.proofs.lemmas.Bool.{false≢true}
use Rattle.std.proofs.lemmas.Option.{same_Some}
use Rattle.std.specs.List.{Contains, IsDistinct, slice_get, slice_index_or, slice_set}
use Rattle.std.specs.Map.{keys_of, lookup}
use Rattle.std.specs.Option.{option_or}
use Rattle.std.proofs.lemmas.List.{map-append}
use Rattle.std.proofs.lemmas.Map.Made.{AllPairs-from_IsDistinct, IsDistinct-from_AllPairs}
use Rattle.std.proofs.lemmas.Map.Views.{IsSome-lookup_from_Contains}
use Rattle.dtype_base.specs.Distinct.{Distinct}
use Rattle.dtype_paths.specs.private.ChildTables.{tree_of, steps_of, ArePlaced, IsChildTable, IsPlaced}
use Rattle.dtype_paths.specs.Equality.{same_field}
use Rattle.dtype_paths.specs.EqualityLaws.{same_field-Decides, same_field_equiv}
use Rattle.dtype_paths.specs.declared.field.Field.{Field}
use Rattle.dtype_paths.proofs.lemmas.Cases.{by_bool, by_option}
use Rattle.dtype_paths.proofs.lemmas.DistinctLists.{distinct-append, IsDistinct-nil}
use Rattle.dtype_paths.proofs.ChildLists.{lookup-append}

abbrev Steps : Type 0
Steps = List (Field × ℕ)

abbrev leads : Steps → Field → Option ℕ
leads es f = lookup (same_field f) es

-- ---- what is looked up

-- the tree of what is found in the trees from position i on isn't before i
placed_after : (n i : ℕ) (trees : List Steps) (f : Field) (j : ℕ) → ArePlaced n i trees → leads (steps_of trees) f ≡ Some j → i ≤ tree_of n f
placed_after n i [] f j p is = let no : None ≡ Some j = is in absurd (cc)
placed_after n i (es ∷ trees) f j p is = by_option (leads es f)
    (λ none.
    let later : leads (steps_of trees) f ≡ Some j = sym (lookup-append (same_field f) es (steps_of trees) ∙ rw none refl) ∙ is in
    omega (arith, placed_after n (i + 1) trees f j p.1 later))
    (λ k e. omega (arith, p.0.here f k e))

-- what is found is found in its own tree
found : (n i k : ℕ) (trees : List Steps) (es : Steps) (f : Field) → ArePlaced n i trees → tree_of n f ≡ i + k → slice_get trees k ≡ Some es → leads (steps_of trees) f ≡ leads es f
found n i k [] es f p own at = let no : None ≡ Some es = at in absurd (cc)
found n i zero (ds ∷ trees) es f p own at =
    let same : ds ≡ es = same_Some ds es at in
    by_option (leads (steps_of trees) f)
    (λ none. lookup-append (same_field f) ds (steps_of trees) ∙ (by_option (leads ds f) (λ e. rw (e, none) (sym (ap (λ x. leads x f) (sym same) ∙ e))) (λ j e. rw e (sym (ap (λ x. leads x f) (sym same) ∙ e)))))
    (λ j e. absurd (omega (arith, own, placed_after n (i + 1) trees f j p.1 e)))
found n i (suc k) (ds ∷ trees) es f p own at =
    by_option (leads ds f)
    (λ none. lookup-append (same_field f) ds (steps_of trees) ∙ rw none (found n (i + 1) k trees es f p.1 (omega (arith, own)) at))
    (λ j e. absurd (omega (arith, own, p.0.here f j e)))

-- the tree at a position
tree_at : (trees : List Steps) (k : ℕ) (es : Steps) → k < length trees → es ≡ slice_index_or trees k es → slice_get trees k ≡ Some es
tree_at [] k es lt is = absurd (omega (arith, lt))
tree_at (ds ∷ trees) zero es lt is = ap Some (sym is)
tree_at (ds ∷ trees) (suc k) es lt is = tree_at trees k es (omega (arith, lt)) is

pub looked_up : (trees : List Steps) (count : ℕ) (s es : Steps) (f : Field) (k : ℕ) (o : Option ℕ) → IsChildTable trees count → steps_of trees ≡ s → k ≡ tree_of (length trees) f → k < length trees → es ≡ slice_index_or trees k es → o ≡ leads es f → o ≡ leads s f
looked_up trees count s es f k o t is own lt index e =
    let at : slice_get trees (tree_of (length trees) f) ≡ Some es = ap (slice_get trees) (sym own) ∙ tree_at trees k es lt index in
    e ∙ sym (found (length trees) 0 (tree_of (length trees) f) trees es f t.placed (omega arith) at) ∙ ap (λ x. leads x f) is

-- ---- no step twice

once_in : (n i : ℕ) (trees : List Steps) → ArePlaced n i trees → Distinct (keys_of (steps_of trees))
once_in n i [] p = AllPairs-from_IsDistinct same_field-Decides [] (IsDistinct-nil same_field)
once_in n i (es ∷ trees) p =
    rw (map-append (λ (e : Field × ℕ). e.0) es (steps_of trees))
    (distinct-append (keys_of es) (keys_of (steps_of trees)) (AllPairs-from_IsDistinct same_field-Decides (keys_of es) p.0.once) (once_in n (i + 1) trees p.1)
    (λ f c d. by_option (leads es f)
    (λ none. false≢true (ap is_some (sym none) ∙ IsSome-lookup_from_Contains same_field_equiv f es c))
    (λ j e. by_option (leads (steps_of trees) f)
    (λ none. false≢true (ap is_some (sym none) ∙ IsSome-lookup_from_Contains same_field_equiv f (steps_of trees) d))
    (λ k later. absurd (omega (arith, p.0.here f j e, placed_after n (i + 1) trees f k p.1 later))))))

pub distinct_steps : (trees : List Steps) (count : ℕ) (s : Steps) → IsChildTable trees count → steps_of trees ≡ s → IsDistinct same_field (keys_of s)
distinct_steps trees count s t is = rw (← is) (IsDistinct-from_AllPairs same_field-Decides (keys_of (steps_of trees)) (once_in (length trees) 0 trees t.placed))

-- ---- a table without children

-- these trees are empty, and so in place whatever their number is
abbrev pub AreEmpty : List Steps → Type 0
AreEmpty trees = (steps_of trees ≡ []) × ((n i : ℕ) → ArePlaced n i trees)

pub none_empty : AreEmpty []
none_empty = (refl, λ n i. tt)

more_placed : (n i : ℕ) (trees : List Steps) → ArePlaced n i trees → ArePlaced n i (trees ++ [] ∷ [])
more_placed n i [] p = (record { once = IsDistinct-nil same_field; here = λ f j e. let no : None ≡ Some j = e in absurd (cc) }, tt)
more_placed n i (es ∷ trees) p = (p.0, more_placed n (i + 1) trees p.1)

more_steps : (trees : List Steps) → steps_of (trees ++ [] ∷ []) ≡ steps_of trees
more_steps [] = refl
more_steps (es ∷ trees) = ap (λ s. es ++ s) (more_steps trees)

pub one_empty_more : (trees new : List Steps) (es : Steps) → new ≡ trees ++ es ∷ [] → es ≡ [] → AreEmpty trees → AreEmpty new
one_empty_more trees new es is empty a = rw (is, empty) (more_steps trees ∙ a.0, λ n i. more_placed n i trees (a.1 n i))

pub empty_table : (trees : List Steps) → AreEmpty trees → 0 < length trees → IsChildTable trees 0
empty_table trees a some = record { some = some; placed = a.1 (length trees) 0; counted = ap length (sym a.0) }

-- ---- one step more

-- how long the steps of one tree are, and the others
tree-within : (trees : List Steps) (k : ℕ) (es : Steps) → slice_get trees k ≡ Some es → length es ≤ length (steps_of trees)
tree-within [] k es at = let no : None ≡ Some es = at in absurd (cc)
tree-within (ds ∷ trees) zero es at = omega (arith, ap length (same_Some ds es at), length-append ds (steps_of trees))
tree-within (ds ∷ trees) (suc k) es at = omega (arith, tree-within trees k es at, length-append ds (steps_of trees))

-- another tree in the place of one
length-set : (trees : List Steps) (k : ℕ) (es new : Steps) → slice_get trees k ≡ Some es → length (steps_of (slice_set trees k new)) + length es ≡ length (steps_of trees) + length new
length-set [] k es new at = let no : None ≡ Some es = at in absurd (cc)
length-set (ds ∷ trees) zero es new at = omega (arith, ap length (same_Some ds es at), length-append ds (steps_of trees), length-append new (steps_of trees))
length-set (ds ∷ trees) (suc k) es new at = omega (arith, length-set trees k es new at, length-append ds (steps_of trees), length-append ds (steps_of (slice_set trees k new)))

placed-set : (n i k : ℕ) (trees : List Steps) (new : Steps) → ArePlaced n i trees → IsPlaced n (i + k) new → ArePlaced n i (slice_set trees k new)
placed-set n i k [] new p q = tt
placed-set n i zero (ds ∷ trees) new p q = (let same : i + 0 ≡ i = omega arith in subst (λ j. IsPlaced n j new) same q, p.1)
placed-set n i (suc k) (ds ∷ trees) new p q = (p.0, let same : i + suc k ≡ (i + 1) + k = omega arith in placed-set n (i + 1) k trees new p.1 (subst (λ j. IsPlaced n j new) same q))

get-set-same : (trees : List Steps) (k : ℕ) (es new : Steps) → slice_get trees k ≡ Some es → slice_get (slice_set trees k new) k ≡ Some new
get-set-same [] k es new at = let no : None ≡ Some es = at in absurd (cc)
get-set-same (ds ∷ trees) zero es new at = refl
get-set-same (ds ∷ trees) (suc k) es new at = get-set-same trees k es new at

-- f leads where it led before, if it does so by the one tree
leads-set : (trees : List Steps) (k : ℕ) (es new : Steps) (f : Field) → slice_get trees k ≡ Some es → leads new f ≡ leads es f → leads (steps_of (slice_set trees k new)) f ≡ leads (steps_of trees) f
leads-set [] k es new f at same = refl
leads-set (ds ∷ trees) zero es new f at same =
    lookup-append (same_field f) new (steps_of trees)
    ∙ ap (λ o. option_or o (leads (steps_of trees) f)) (same ∙ ap (λ x. leads x f) (sym (same_Some ds es at)))
    ∙ sym (lookup-append (same_field f) ds (steps_of trees))
leads-set (ds ∷ trees) (suc k) es new f at same =
    lookup-append (same_field f) ds (steps_of (slice_set trees k new))
    ∙ ap (option_or (leads ds f)) (leads-set trees k es new f at same)
    ∙ sym (lookup-append (same_field f) ds (steps_of trees))

length-set-trees : (trees : List Steps) (k : ℕ) (new : Steps) → length (slice_set trees k new) ≡ length trees
length-set-trees [] k new = refl
length-set-trees (ds ∷ trees) zero new = refl
length-set-trees (ds ∷ trees) (suc k) new = ap suc (length-set-trees trees k new)

placed-at : (n i k : ℕ) (trees : List Steps) (es : Steps) → ArePlaced n i trees → slice_get trees k ≡ Some es → IsPlaced n (i + k) es
placed-at n i k [] es p at = let no : None ≡ Some es = at in absurd (cc)
placed-at n i zero (ds ∷ trees) es p at = let same : i + 0 ≡ i = omega arith in subst (λ j. IsPlaced n j es) (sym same) (subst (IsPlaced n i) (same_Some ds es at) p.0)
placed-at n i (suc k) (ds ∷ trees) es p at = let same : i + suc k ≡ (i + 1) + k = omega arith in subst (λ j. IsPlaced n j es) (sym same) (placed-at n (i + 1) k trees es p.1 at)

pub fewer : (trees : List Steps) (count k : ℕ) (es : Steps) → IsChildTable trees count → k < length trees → es ≡ slice_index_or trees k es → length es ≤ count
fewer trees count k es t lt index = let w = tree-within trees k es (tree_at trees k es lt index) in omega (arith, w, t.counted)

module _ (trees : List Steps) (count : ℕ) (t : IsChildTable trees count) (x : Field) (node_index k : ℕ) (own : k ≡ tree_of (length trees) x) (lt : k < length trees)
    (es new now : Steps) (index : es ≡ slice_index_or trees k es) (index_now : now ≡ slice_index_or (slice_set trees k new) k now)
    (once : IsDistinct same_field (keys_of now)) (put : (f : Field) → leads new f ≡ cond (same_field x f) (Some node_index) (leads es f)) where
  at : slice_get trees k ≡ Some es
  at = tree_at trees k es lt index

  same_now : now ≡ new
  same_now = same_Some now new (sym (tree_at (slice_set trees k new) k now (rw (length-set-trees trees k new) lt) index_now) ∙ get-set-same trees k es new at)

  own_tree : (f : Field) → same_field x f ≡ true → tree_of (length trees) f ≡ k
  own_tree f y = ap (tree_of (length trees)) (sym ((same_field-Decides x f).0 y)) ∙ sym own

  before : IsPlaced (length trees) (0 + k) es
  before = placed-at (length trees) 0 k trees es t.placed at

  after : IsPlaced (length trees) (0 + k) new
  after = record {
    once = subst (λ s. IsDistinct same_field (keys_of s)) same_now once;
    here = λ f j e. by_bool (same_field x f)
        (λ y. omega (arith, own_tree f y))
        (λ n. before.here f j (sym (put f ∙ rw n refl) ∙ e));
  }

  -- the invariant, where one tree had b children and has m
  pub table_with : (old : Steps) (b m : ℕ) → old ≡ slice_index_or trees k old → b ≡ length old → m ≡ length now → IsChildTable (slice_set trees k new) (count - b + m)
  table_with old b m index_old had has =
      let same : old ≡ es = same_Some old es (sym (tree_at trees k old lt index_old) ∙ at) in
      let moved = length-set trees k es new at in
      let few = tree-within trees k es at in record {
        some = omega (arith, t.some, length-set-trees trees k new);
        placed = rw (length-set-trees trees k new) (placed-set (length trees) 0 k trees new t.placed after);
        counted = omega (arith, moved, few, t.counted, had, has, ap length same, ap length same_now);
      }

  -- where each step leads then
  pub leads_with : (s : Steps) → steps_of trees ≡ s → (f : Field) → leads (steps_of (slice_set trees k new)) f ≡ cond (same_field x f) (Some node_index) (leads s f)
  leads_with s is f = by_bool (same_field x f)
      (λ y. found (length trees) 0 k (slice_set trees k new) new f (placed-set (length trees) 0 k trees new t.placed after) (omega (arith, own_tree f y)) (get-set-same trees k es new at) ∙ put f ∙ rw y refl)
      (λ n. leads-set trees k es new f at (put f ∙ rw n refl) ∙ rw n (ap (λ e. leads e f) is))
