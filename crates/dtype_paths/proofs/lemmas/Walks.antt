-- SPDX-License-Identifier: Apache-2.0
-- SPDX-FileCopyrightText: Copyright the Vortex contributors

-- Lemmas on the type at a path (`along`), and on that at a path followed by another.
use Rattle.std.proofs.Common.{◌≡◌, ◌∙◌, List, [], ◌∷◌, ◌++◌, Some, None, option_and_then, refl, ap, sym}
use Rattle.std.proofs.lemmas.Option.{option_and_then_some, same_Some}
use Rattle.dtype_types.specs.tree.Tree.{Tree}
use Rattle.dtype_paths.specs.Along.{along}
use Rattle.dtype_paths.specs.At.{At, step}
use Rattle.dtype_paths.specs.Beginning.{Beginning}
use Rattle.dtype_paths.specs.declared.field.Field.{Field}
use Rattle.dtype_paths.proofs.lemmas.Cases.{by_option}

-- what the function gives is in the relation
pub along-At : (t : Tree) (p : List Field) (u : Tree) → along t p ≡ Some u → At t p u
along-At t [] u e = cc
along-At t (f ∷ p) u e = option_and_then_some (λ x. along x p) (step t f) u e (λ x is later. (x, is, along-At x p u later))

-- the function gives what is in the relation
pub At-along : (t : Tree) (p : List Field) (u : Tree) → At t p u → along t p ≡ Some u
At-along t [] u a = ap Some a
At-along t (f ∷ p) u a = ap (option_and_then (λ x. along x p)) a.1 ∙ At-along a.0 p u a.2

-- at a path is one type at most
pub one_type_at : (t u v : Tree) (p : List Field) → At t p u → At t p v → u ≡ v
one_type_at t u v p a b = same_Some u v (sym (At-along t p u a) ∙ At-along t p v b)

-- at a path followed by another
pub along_joined : (t : Tree) (p q : List Field) → along t (p ++ q) ≡ option_and_then (λ x. along x q) (along t p)
along_joined t [] q = refl
along_joined t (f ∷ p) q = by_option (step t f) (λ none. rw none refl) (λ x is. rw is (along_joined x p q))

-- after a path at which there is a type, what is at the rest in that type
pub along_after : (t x : Tree) (p q : List Field) → Some x ≡ along t p → along t (p ++ q) ≡ along x q
along_after t x p q e = along_joined t p q ∙ ap (option_and_then (λ y. along y q)) (sym e)

-- after a path at which there is none, none
pub none_after : (t : Tree) (p q : List Field) → None ≡ along t p → along t (p ++ q) ≡ None
none_after t p q e = along_joined t p q ∙ ap (option_and_then (λ y. along y q)) (sym e)

pub none_further : (t : Tree) (p q : List Field) → Beginning p q → None ≡ along t p → along t q ≡ None
none_further t p q b e = ap (along t) b.1 ∙ none_after t p b.0 e
