-- SPDX-License-Identifier: Apache-2.0
-- SPDX-FileCopyrightText: Copyright the Vortex contributors

-- The columns of a type, by their names and as paths of one step: a struct has a field of some name exactly if the path
-- that is this name exists in it. A caller knows the names from `as_struct_fields_opt`, and the paths from the clauses of
-- `project_paths`.
use Rattle.std.proofs.Common.{◌≡◌, ◌∙◌, ℕ, List, [], ◌∷◌, Option, Some, None, Contains, IsTrue, true, refl, ap, sym, subst}
use Rattle.std.specs.FinSet as set
use Rattle.std.specs.Option.{is_some}
use Rattle.std.proofs.lemmas.Option.{same_Some}
use Rattle.dtype_base.specs.Distinct.{Distinct}
use Rattle.dtype_paths.specs.At.{ExistsIn}
use Rattle.dtype_paths.specs.declared.field.Field.TheVariants.{Name}
use Rattle.dtype_paths.proofs.lemmas.Steps.{step_name, step_name_none}
use Rattle.dtype_types.specs.parts.Lookups.{field_names, first_named}
use Rattle.dtype_types.specs.tree.Kinds.{struct_fields}
use Rattle.dtype_types.specs.tree.Tree.{Tree, field, pairs, struct}
use Rattle.dtype_paths.specs.PathOrder.{PathSet}
use Rattle.dtype_paths.proofs.lemmas.DistinctLists.{distinct-cons, distinct-nil}
use Rattle.dtype_projection.specs.Projected.{PathPredicate, projected, projected_fields, prepend_kept, without_field}
use Rattle.dtype_projection.proofs.lemmas.Projections.{absent_kept, each_projection}
use Rattle.vortex_dtype.specs.Names.{IsAmong, column_names}
use Rattle.vortex_dtype.proofs.lemmas.EachAmong.{among_named, named_among}
use Rattle.vortex_dtype.proofs.lemmas.NamesAmong.{unnamed_not_among, unplaced_not_among}

among_is_contained : (ns : List (List ℕ)) (n : List ℕ) → IsAmong ns n → Contains ns n
unfolding IsAmong
among_is_contained ns n c = c

-- what is there
there : (o : Option Tree) → is_some o ≡ true → (x : Tree) × (o ≡ Some x)
there None h = cc
there (Some x) h = (x, refl)

-- the name of a field is a path that exists
pub column_exists : (t : Tree) (fs : List (List ℕ × Tree)) (ns : List (List ℕ)) (n : List ℕ) → Some fs ≡ struct_fields t → ns ≡ field_names fs → IsAmong ns n → ExistsIn t (Name n ∷ [])
column_exists t fs ns n e is c = let r = there (first_named fs n) (among_named fs n (subst (λ ms. IsAmong ms n) is c)) in record { found = r.0; at = (r.0, step_name t n fs (sym e) ∙ r.1, refl) }

-- a path of one name that exists is the name of a field
pub existing_column : (t : Tree) (fs : List (List ℕ × Tree)) (ns : List (List ℕ)) (n : List ℕ) → Some fs ≡ struct_fields t → ns ≡ field_names fs → ExistsIn t (Name n ∷ []) → IsAmong ns n
existing_column t fs ns n e is h = subst (λ ms. IsAmong ms n) (sym is) (named_among fs n (ap is_some (sym (step_name t n fs (sym e)) ∙ h.at.1)))

-- a type that is no struct has no column
pub no_column : (t : Tree) (n : List ℕ) → None ≡ struct_fields t → ExistsIn t (Name n ∷ []) → ⊥
no_column t n e h = let z = sym (step_name_none t n (sym e)) ∙ h.at.1 in cc

-- and of no names there is none
pub none_among : (ns : List (List ℕ)) (n : List ℕ) → ns ≡ [] → IsAmong ns n → ⊥
none_among ns n is c = unplaced_not_among [] n refl (among_is_contained [] n (subst (λ ms. IsAmong ms n) is c))

-- ---- the names of the columns

pub names_of_fields : (t : Tree) (fs : List (List ℕ × Tree)) (ns : List (List ℕ)) → Some fs ≡ struct_fields t → ns ≡ field_names fs → ns ≡ column_names t
unfolding column_names
names_of_fields (struct gs n) fs ns e is = is ∙ ap field_names (same_Some fs (pairs gs) e)
names_of_fields _ fs ns e is = cc

pub names_of_none : (t : Tree) (ns : List (List ℕ)) → None ≡ struct_fields t → ns ≡ [] → ns ≡ column_names t
unfolding column_names
names_of_none (struct gs n) ns e is = cc
names_of_none _ ns e is = is

-- In a projection no name repeats, because a path leads to the first field with a name, unless the whole type is kept, and a
-- name repeats in it.
once : (t u : Tree) (w : PathPredicate) → projected t w ≡ Some u → (w [] ≡ true → Distinct (column_names t)) → Distinct (column_names u)
unfolding column_names
once = each_projection (λ t w u. (w [] ≡ true → Distinct (column_names t)) → Distinct (column_names u)) (λ fs w gs. (gs ≡ projected_fields fs w) × Distinct (field_names (pairs gs))) (record {
  whole = λ t w root h. h root;
  in_list = λ t x n w root p h. distinct-nil [] refl;
  in_fixed = λ t x k n w root p h. distinct-nil [] refl;
  in_struct = λ fs gs n w root some q h. q.1;
  none = λ w. (refl, distinct-nil [] refl);
  kept = λ n t x fs gs w is p q. (ap (field n x) q.0 ∙ sym (ap (λ o. prepend_kept n o (projected_fields fs (without_field n w))) is), distinct-cons n (field_names (pairs gs)) (unnamed_not_among (pairs gs) n (ap (λ z. first_named (pairs z) n) q.0 ∙ absent_kept n fs w)) q.1);
  left = λ n t fs gs w none is q. (q.0 ∙ sym (ap (λ o. prepend_kept n o (projected_fields fs (without_field n w))) none), q.1);
})

-- the names of the columns that a projection keeps
pub columns_once : (t u : Tree) (s : PathSet) (ns : List (List ℕ)) → Some u ≡ projected t (set.contains s) → ns ≡ column_names u → (IsTrue (set.contains s []) → Distinct (column_names t)) → Distinct ns
columns_once t u s ns e is h = subst Distinct (sym is) (once t u (set.contains s) (sym e) h)

pub ruleset column_paths = (column_exists, existing_column, no_column, none_among, names_of_fields, names_of_none, columns_once)
