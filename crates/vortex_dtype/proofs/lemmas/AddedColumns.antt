-- SPDX-License-Identifier: Apache-2.0
-- SPDX-FileCopyrightText: Copyright the Vortex contributors

-- Tables that are made of a table: a column added at its end, the copy of a table that lacks a name, and a projection to
-- one name.
use Rattle.std.proofs.Common.{arith, ◌≡◌, ℕ, List, [], ◌∷◌, ◌++◌, Some, None, sym}
use Rattle.dtype_base.specs.Distinct.{Distinct}
use Rattle.dtype_base.specs.FieldNames.{first_place}
use Rattle.dtype_types.specs.parts.Lookups.{Projects, field_names, first_named}
use Rattle.dtype_types.specs.tree.Tree.{Tree}
use Rattle.dtype_types.proofs.lemmas.DistinctFields.{named_alone}
use Rattle.dtype_types.proofs.lemmas.JoinedFields.{one_named}
use Rattle.dtype_types.proofs.lemmas.Lookups.{no_field_at_place}

-- the column that is added at the end
pub named_last : (ps fs gs : List (List ℕ × Tree)) (n : List ℕ) (t : Tree) → ps ≡ fs ++ gs → gs ≡ (n, t) ∷ [] → Distinct (field_names (fs ++ gs)) → first_named ps n ≡ Some t
named_last ps fs gs n t e one d = grind (arith, e, one_named gs n t one, named_alone fs gs n d)

-- a name that has no position
pub unplaced_unnamed : (fs : List (List ℕ × Tree)) (n : List ℕ) → None ≡ first_place (field_names fs) n → first_named fs n ≡ None
unplaced_unnamed fs n e = sym (no_field_at_place fs n e)

-- a projection to one name
pub projects_one : (fs qs : List (List ℕ × Tree)) (n : List ℕ) (t : Tree) → Projects fs (n ∷ []) qs → first_named fs n ≡ Some t → qs ≡ (n, t) ∷ []
projects_one fs [] n t p h = grind (arith, p)
projects_one fs (q ∷ []) n t p h = grind (arith, p, h)
projects_one fs (q ∷ r ∷ qs) n t p h = grind (arith, p)
