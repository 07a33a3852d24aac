-- SPDX-License-Identifier: Apache-2.0
-- SPDX-FileCopyrightText: Copyright the Vortex contributors

-- Laws of the order of `PathOrder`: it is total, and two paths are in the same place only if they are equal.
use Rattle.std.specs.Prelude.{◌≡◌, List, [], ◌∷◌, ◌||◌, Some, refl}
use Rattle.std.specs.Cmp.{Equal-is, IsPartialOrder, IsTotalOrder, on_total, po}
use Rattle.std.specs.Cmp.Lexicographic.{lists_total, lists_ties, nat_list_cmp_total, options_total, texts_ties}
use Rattle.std.specs.FinSet.{IsAntisymmetric}
use Rattle.std.specs.List.{list_any}
use Rattle.std.specs.Ordering.{eq_by_cmp}
use Rattle.std.proofs.Common.{◌∙◌}
use Rattle.dtype_paths.specs.Equality.{same_field, same_path}
use Rattle.dtype_paths.specs.EqualityLaws.{same_path-Decides}
use Rattle.dtype_paths.specs.PathOrder.{field_cmp, held_name, path_cmp}
use Rattle.dtype_paths.specs.declared.field.Field.{Field}
use Rattle.dtype_paths.specs.declared.field.Field.TheVariants.{Name, ElementType}

pub field_cmp_total : IsTotalOrder field_cmp
field_cmp_total = on_total held_name (options_total nat_list_cmp_total)

pub path_cmp_total : IsTotalOrder path_cmp
path_cmp_total = lists_total field_cmp_total

-- two steps are in the same place exactly if they are the same
pub field_ties : (f g : Field) → same_field f g ≡ eq_by_cmp field_cmp f g
field_ties (Name m) (Name n) = texts_ties m n
field_ties (Name m) ElementType = refl
field_ties ElementType (Name n) = refl
field_ties ElementType ElementType = refl

pub field_partial_order : IsPartialOrder same_field (λ f g. Some (field_cmp f g))
field_partial_order = po field_cmp_total field_ties

-- two paths are in the same place exactly if they are the same
pub path_ties : (p q : List Field) → same_path p q ≡ eq_by_cmp path_cmp p q
path_ties p q = lists_ties field_cmp field_ties p q

-- two paths in the same place are equal
pub same_tied : IsAntisymmetric path_cmp
same_tied p q e = (same_path-Decides p q).0 (path_ties p q ∙ (Equal-is (path_cmp p q)).1 e)

pub any_tied : (q : List Field) (ps : List (List Field)) → list_any (same_path q) ps ≡ list_any (eq_by_cmp path_cmp q) ps
any_tied q [] = refl
any_tied q (p ∷ ps) = λ i. path_ties q p i || any_tied q ps i
