-- SPDX-License-Identifier: Apache-2.0
-- SPDX-FileCopyrightText: Copyright the Vortex contributors

-- What a reader comes to that steps along a path in a type and in a set of paths, at once: what the projection has
-- there. `descending` names all of it in one line.
use Rattle.std.proofs.Common.{◌≡◌, List, [], ◌∷◌, Option, Some, None, option_and_then, true, false, refl, sym, ap, ◌∙◌, arith}
use Rattle.dtype_types.specs.tree.Kinds.{any_size_list_element}
use Rattle.dtype_types.specs.tree.Tree.{Tree}
use Rattle.dtype_paths.specs.Along.{along}
use Rattle.dtype_paths.specs.At.{step}
use Rattle.dtype_paths.specs.PathPredicates.{no_path}
use Rattle.dtype_paths.specs.declared.field.Field.{Field}
use Rattle.dtype_paths.specs.declared.field.Field.TheVariants.{ElementType}
use Rattle.dtype_paths.proofs.lemmas.Cases.{by_option}
use Rattle.dtype_paths.proofs.lemmas.Steps.{step_element, then_some}
use Rattle.dtype_projection.specs.Projected.{PathPredicate, after_step, projected}
use Rattle.dtype_projection.proofs.lemmas.Projections.{along_step, kept_root, projected_nothing}

-- after a step into both
pub opened_after : (t x : Tree) (w v : PathPredicate) (f : Field) (p q : List Field) (o : Option Tree) → w [] ≡ false → q ≡ f ∷ p → Some x ≡ step t f → v ≡ after_step f w → o ≡ option_and_then (λ u. along u p) (projected x v) → o ≡ option_and_then (λ u. along u q) (projected t w)
opened_after t x w v f p q o root is at asked e = rw (is, e, asked, along_step t w f p root, ← at) refl

-- where the type has no such part
pub opened_nowhere : (t : Tree) (w : PathPredicate) (f : Field) (p q : List Field) → w [] ≡ false → q ≡ f ∷ p → None ≡ step t f → None ≡ option_and_then (λ u. along u q) (projected t w)
opened_nowhere t w f p q root is none = rw (is, along_step t w f p root, ← none) refl

-- where nothing of it is contained
pub opened_uncontained : (t x : Tree) (w : PathPredicate) (f : Field) (p q : List Field) → w [] ≡ false → q ≡ f ∷ p → Some x ≡ step t f → no_path ≡ after_step f w → None ≡ option_and_then (λ u. along u q) (projected t w)
opened_uncontained t x w f p q root is at none = opened_after t x w no_path f p q None root is at none (ap (option_and_then (λ u. along u p)) (sym (projected_nothing x)))

-- where all below is contained
pub opened_whole : (t : Tree) (w : PathPredicate) (p : List Field) (o : Option Tree) → w [] ≡ true → o ≡ along t p → o ≡ option_and_then (λ u. along u p) (projected t w)
opened_whole t w p o root e = e ∙ ap (option_and_then (λ u. along u p)) (sym (kept_root t w root))

-- at the path's end
pub opened_here : (t : Tree) (w : PathPredicate) (p : List Field) → p ≡ [] → projected t w ≡ option_and_then (λ u. along u p) (projected t w)
opened_here t w p end = grind (arith, by_option, option_and_then)

-- In a list, what the projection has of the element. The first part says nothing: it shows a search the call to match.
pub element_opened : (t : Tree) (w : PathPredicate) → (projected t w ≡ projected t w) × (w [] ≡ false → option_and_then (λ u. along u (ElementType ∷ [])) (projected t w) ≡ option_and_then (λ x. projected x (after_step ElementType w)) (any_size_list_element t))
element_opened t w = (refl, λ root. along_step t w ElementType [] root ∙ (λ i. option_and_then (λ x. then_some (projected x (after_step ElementType w)) i) (step_element t i)))

pub ruleset descending = (opened_after, opened_nowhere, opened_uncontained, opened_whole, opened_here, element_opened)
