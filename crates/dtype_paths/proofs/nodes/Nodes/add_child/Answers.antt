-- SPDX-License-Identifier: Apache-2.0
-- SPDX-FileCopyrightText: Copyright the Vortex contributors

use Rattle.std.proofs.Common.{ℕ, suc, zero, ◌≡◌, ◌∙◌, ◌==◌, ◌&&◌, cond, List, [], ◌∷◌, Option, Some, option_and_then, set, refl, sym, ap}
use Rattle.std.specs.List.{slice_get, slice_set}
use Rattle.std.proofs.Math.Dec.{eqb-suc-suc, eqb-suc-zero, eqb-zero-suc}
use Rattle.std.proofs.lemmas.Bool.Decides.{Decides-eqb}
use Rattle.std.proofs.lemmas.List.{set-get_or}
use Rattle.std.proofs.lemmas.Option.{get_or_from_slice_get}
use Rattle.std.proofs.lemmas.Result.{on_err_weaker, on_ok_weaker}
use Rattle.dtype_paths.specs.Equality.{same_field}
use Rattle.dtype_paths.specs.private.Children.{child}
use Rattle.dtype_paths.specs.private.Trie.{child_at}
use Rattle.dtype_paths.specs.declared.field.Field.{Field}
use Rattle.dtype_paths.specs.declared.node.Node.{Node}
use Rattle.dtype_paths.proofs.lemmas.Cases.{by_bool}
use Rattle.dtype_paths.proofs.nodes.Nodes.add_child.Goals as goal

-- ---- a list of nodes in which one is changed

module _ {A B : Type 0} (f : A → Option B) where
  -- what is read at each index
  read-set : (xs : List A) (i : ℕ) (x y : A) → slice_get xs i ≡ Some x → (j : ℕ) → option_and_then f (slice_get (set xs i y) j) ≡ cond (j == i) (f y) (option_and_then f (slice_get xs j))
  read-set [] i x y h j = cc
  read-set (z ∷ xs) zero x y h zero = refl
  read-set (z ∷ xs) zero x y h (suc j) = rw (eqb-suc-zero j) refl
  read-set (z ∷ xs) (suc i) x y h zero = rw (eqb-zero-suc i) refl
  read-set (z ∷ xs) (suc i) x y h (suc j) = rw (eqb-suc-suc j i) (read-set xs i x y h j)

-- the same element put again
set-same : {A : Type 0} (xs : List A) (i : ℕ) (x : A) → slice_get xs i ≡ Some x → set xs i x ≡ xs
set-same xs i x h = ap (set xs i) (sym (get_or_from_slice_get xs i x x h)) ∙ set-get_or xs i x

-- a child is added to one node
child-led : (xs : List Node) (i : ℕ) (m n : Node) (x : Field) (node_index : ℕ) → slice_get xs i ≡ Some m → ((f : Field) → child n.children f ≡ cond (same_field x f) (Some node_index) (child m.children f))
    → (j : ℕ) (f : Field) → child_at (set xs i n) j f ≡ cond (j == i && same_field x f) (Some node_index) (child_at xs j f)
child-led xs i m n x node_index h up j f =
    read-set (λ k. child k.children f) xs i m n h j ∙ by_bool (j == i) (λ e. let is : j ≡ i = (Decides-eqb j i).0 e in rw (e, is, h) (up f)) (λ e. rw e refl)

-- ---- the answers

pub returns-clause-added : goal.returns-clause-added
returns-clause-added c =
    on_ok_weaker c.add_child.result (λ u. child-led c.args.self.now c.args.here c.at_mut.result.now c.add_child.new.self c.args.step c.args.node_index c.at_mut.ensures.value u)
    c.add_child.ensures.added

pub returns-clause-err : goal.returns-clause-err
returns-clause-err c =
    on_err_weaker c.add_child.result (λ e. ap (slice_set c.args.self.now c.args.here) e
    ∙ set-same c.args.self.now c.args.here c.at_mut.result.now c.at_mut.ensures.value) c.add_child.ensures.err
