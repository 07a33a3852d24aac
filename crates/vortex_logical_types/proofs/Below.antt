-- SPDX-License-Identifier: Apache-2.0
-- SPDX-FileCopyrightText: Copyright the Vortex contributors

-- What is asked for below steps, and the names with which paths go on.
use Rattle.std.proofs.Common.{◌≡◌, ◌++◌, ◌∷◌, ℕ, Bool, List, [], Option, Some, None, IfSome, IsTrue, is_some, map, refl, ap, sym, subst, ◌∙◌}
use Rattle.std.proofs.lemmas.List.{append_assoc}
use Rattle.dtype_paths.specs.Cursors.{contains_below_if}
use Rattle.dtype_paths.specs.PathPredicates.{PathPredicate, after_step, after_steps, no_path}
use Rattle.dtype_paths.specs.declared.field.Field.{Field}
use Rattle.dtype_paths.specs.declared.field.Field.TheVariants.{ElementType, Name}
use Rattle.dtype_paths.specs.declared.field_path_cursor.FieldPathCursor.{FieldPathCursor}
use Rattle.vortex_logical_types.specs.Paths.{TellsElement}

-- below no path there is none
pub below_none : (p : List Field) → after_steps p no_path ≡ no_path
below_none [] = refl
below_none (f ∷ p) = below_none p

-- whether paths go on with the element
tells_element : (v : PathPredicate) (r : Option FieldPathCursor) → contains_below_if r ≡ after_step ElementType v → IfSome r (λ _. (q : List Field) × IsTrue (v (ElementType ∷ q))) → TellsElement v (is_some r)
tells_element v None paths some = sym paths
tells_element v (Some here) paths some = some

pub element_tells : (w v : PathPredicate) (r : Option FieldPathCursor) (b : Bool) → v ≡ w → contains_below_if r ≡ after_step ElementType v
    → IfSome r (λ _. (q : List Field) × IsTrue (v (ElementType ∷ q))) → b ≡ is_some r → TellsElement w b
element_tells w v r b is paths some e = subst (λ u. TellsElement u b) is (subst (λ x. TellsElement v x) (sym e) (tells_element v r paths some))

-- the names so far, before those that are left, of which this is the next
pub name_step : (so_far new : List (List Field)) (before rest all : List (List ℕ × PathPredicate)) (x : List ℕ × PathPredicate) → before ≡ x ∷ rest → new ≡ so_far ++ ((Name x.0 ∷ []) ∷ [])
    → so_far ++ map (λ e. Name e.0 ∷ []) before ≡ map (λ e. Name e.0 ∷ []) all → new ++ map (λ e. Name e.0 ∷ []) rest ≡ map (λ e. Name e.0 ∷ []) all
name_step so_far new before rest all x next new_is same =
    ap (λ ns. ns ++ map (λ e. Name e.0 ∷ []) rest) new_is
    ∙ append_assoc so_far ((Name x.0 ∷ []) ∷ []) (map (λ e. Name e.0 ∷ []) rest)
    ∙ ap (λ b. so_far ++ map (λ e. Name e.0 ∷ []) b) (sym next)
    ∙ same
