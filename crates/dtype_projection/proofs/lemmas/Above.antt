-- SPDX-License-Identifier: Apache-2.0
-- SPDX-FileCopyrightText: Copyright the Vortex contributors

-- What is along a path in a type above another: as a merged type is above those that were merged.
use Rattle.std.proofs.Common.{arith, ◌≡◌, ◌∙◌, ℕ, List, [], ◌∷◌, Some, refl, sym, ap, subst}
use Rattle.dtype_types.specs.nullability.Nullable.{IsNullable}
use Rattle.dtype_types.specs.nullability.Sub.{Sub, NullableWherever, NullableWhereverItems}
use Rattle.dtype_types.proofs.lemmas.Order.{above_nullable}
use Rattle.dtype_types.specs.parts.Lookups.{first_named}
use Rattle.dtype_types.specs.tree.Erase.{erase, erase_items}
use Rattle.dtype_types.specs.tree.Tree.{Tree, Fields, no_items, pairs, list, fixed_size_list, struct, item, rest_of}
use Rattle.dtype_paths.specs.At.{At, ExistsIn, step}
use Rattle.dtype_paths.specs.declared.field.Field.{Field}
use Rattle.dtype_paths.specs.declared.field.Field.TheVariants.{Name, ElementType}
use Rattle.dtype_paths.proofs.lemmas.Stepping.{by_first}
use Rattle.dtype_paths.proofs.lemmas.Walks.{one_type_at}

-- b differs from a in nullabilities alone, and is nullable wherever a is, if A holds
abbrev Beside : Type 0 → Tree → Tree → Type 0
Beside A a b = (erase a ≡ erase b) × (A → NullableWherever a b)

-- types that differ in nullability alone have such types at the same paths
named_beside : (fs gs : Fields) (k : List ℕ) (a : Tree) → erase_items fs ≡ erase_items gs → first_named (pairs fs) k ≡ Some a → (b : Tree) × (first_named (pairs gs) k ≡ Some b) × Beside (NullableWhereverItems fs gs) a b
named_beside no_items gs k a e is = cc
named_beside (item m t _ fs) no_items k a e is = cc
named_beside (item m t _ fs) (item n u _ gs) k a e is =
    let name : m ≡ n = cc in
    let type : erase t ≡ erase u = cc in
    let rest : erase_items fs ≡ erase_items gs = ap rest_of e in
    by_first m k t a fs is
    (λ y at. (u, grind (arith, name, y), grind (arith, at, type)))
    (λ y later. grind (arith, name, y, named_beside fs gs k a rest later))

step_beside : (t u a : Tree) (f : Field) → erase t ≡ erase u → step t f ≡ Some a → (b : Tree) × (step u f ≡ Some b) × Beside (NullableWherever t u) a b
step_beside (struct fs m) (struct gs n) a (Name k) e is = let same : erase_items fs ≡ erase_items gs = cc in grind (arith, named_beside fs gs k a same is)
step_beside (list t m) (list u n) a ElementType e is = grind (arith, e, is)
step_beside (fixed_size_list t j m) (fixed_size_list u k n) a ElementType e is = grind (arith, e, is)
step_beside _ _ a _ e is = cc

at_beside : (t u x : Tree) (p : List Field) → erase t ≡ erase u → At t p x → (y : Tree) × At u p y × Beside (NullableWherever t u) x y
at_beside t u x [] e a = (u, refl, (ap erase (sym a) ∙ e, λ h. subst (λ z. NullableWherever z u) a h))
at_beside t u x (f ∷ p) e a = let s = step_beside t u a.0 f e a.1 in grind (arith, s, at_beside a.0 s.0 x p s.2.0 a.2)

pub above_exists : (t u x : Tree) (p : List Field) → Sub t u → At t p x → ExistsIn u p
above_exists t u x p s a = let r = at_beside t u x p s.erased a in record { found = r.0; at = r.1 }

pub below_exists : (t u : Tree) (p : List Field) → Sub t u → ExistsIn u p → ExistsIn t p
below_exists t u p s e = let r = at_beside u t e.found p (sym s.erased) e.at in record { found = r.0; at = r.1 }

-- nullable there where the type below is
pub nullable_along : (t u x y : Tree) (p : List Field) → Sub t u → At t p x → At u p y → IsNullable x → IsNullable y
nullable_along t u x y p s a b n = grind (arith, at_beside t u x p s.erased a, one_type_at u, above_nullable, s, b, n)

pub ruleset above = (above_exists, below_exists, nullable_along)
