-- SPDX-License-Identifier: Apache-2.0
-- SPDX-FileCopyrightText: Copyright the Vortex contributors

-- The nodes that a path leads to, and the paths that end below them.
use Rattle.std.proofs.Common.{slice_get, subst, ◌≡◌, ◌≢◌, ◌∙◌, ℕ, ◌<◌, length, true, false, IsTrue, IfSome, Decides, List, [], ◌∷◌, ◌++◌, Option, Some, None, is_some, option_and_then, refl, sym, ap}
use Rattle.std.proofs.Math.Logic.{∥∥₁_elim, ∥∥₁_map}
use Rattle.std.specs.Coded.{le_prop}
use Rattle.std.proofs.lemmas.Bool.{false≢true}
use Rattle.std.proofs.lemmas.Bool.Decides.{same_from_decides}
use Rattle.std.specs.FinSet as set
use Rattle.std.specs.List.{Contains}
use Rattle.dtype_paths.specs.EqualityLaws.{same_field-Decides}
use Rattle.dtype_paths.specs.PathOrder.{set_of}
use Rattle.dtype_paths.specs.PathPredicates.{PathPredicate, after_step, no_path}
use Rattle.dtype_paths.specs.private.Children.{child, nodes_by_step}
use Rattle.dtype_paths.specs.private.Reached.{ends_below, IsReached}
use Rattle.dtype_paths.specs.private.Trie.{child_at, terminal_at, terminals, walk, IsTrie}
use Rattle.dtype_paths.specs.declared.field.Field.{Field}
use Rattle.dtype_paths.specs.declared.node.Node.{Node}
use Rattle.dtype_paths.proofs.lemmas.Cases.{by_option}
use Rattle.dtype_paths.proofs.lemmas.SetMembers.{from_list-Decides}
use Rattle.dtype_paths.proofs.NodeIndices.{contains-whole, terminal-of}
use Rattle.dtype_paths.proofs.TrieGrowth.{no_snoc, walk-append, walk-snoc}

module _ (nodes : List Node) (t : IsTrie nodes) where
  pub reached_inside : (i : ℕ) → IsReached nodes i → i < length nodes
  reached_inside i r = ∥∥₁_elim r le_prop (λ s. t.inside s.0 i s.1)

  pub child-reached : (i j : ℕ) (f : Field) → IsReached nodes i → child_at nodes i f ≡ Some j → IsReached nodes j
  child-reached i j f r e = ∥∥₁_map r (λ s. (s.0 ++ f ∷ [], walk-snoc (child_at nodes) i j s.0 f s.1 e))

  ends-Decides : (q : List Field) → Decides (ends_below nodes 0 q) (Contains (terminals nodes) q)
  ends-Decides q = by_option (walk (child_at nodes) 0 q)
      (λ none. (
        λ h. let no : is_some (option_and_then (terminal_at nodes) None) ≡ true = rw none at h in cc,
        λ c. let w = terminal-of nodes q c in let z : None ≡ Some w.0 = sym none ∙ t.ends_where_it_leads w.0 q w.1 in cc,
      ))
      (λ here w. contains-whole nodes q t here w (ends_below nodes 0 q) (ap (λ o. is_some (option_and_then (terminal_at nodes) o)) w))

  -- below the root end the paths of the trie
  pub ends_root : (ns : List Node) (i : ℕ) → nodes ≡ ns → i ≡ 0 → ends_below ns i ≡ set.contains (set_of (terminals ns))
  ends_root ns i same root = rw (← same, root) (λ k q. same_from_decides _ _ (ends-Decides q) (from_list-Decides (terminals nodes) q) k)

  -- below each child some path ends
  pub child-witness : (i j : ℕ) (f : Field) → IsReached nodes i → child_at nodes i f ≡ Some j → (q : List Field) × (ends_below nodes j q ≡ true)
  child-witness i j f r e =
      let s = t.reached i (reached_inside i r) in
      let at = walk-snoc (child_at nodes) i j s.0 f s.1 e in
      let u = t.used (s.0 ++ f ∷ []) j at (λ z. let nil = t.once (s.0 ++ f ∷ []) [] j at (ap Some (sym z)) in no_snoc s.0 f nil) in
      let on : walk (child_at nodes) j u.1 ≡ Some u.0 = sym (walk-append (child_at nodes) 0 j (s.0 ++ f ∷ []) u.1 at) ∙ t.ends_where_it_leads u.0 ((s.0 ++ f ∷ []) ++ u.1) u.2 in
      (u.1, ap (λ o. is_some (option_and_then (terminal_at nodes) o)) on ∙ ap is_some u.2)

  pub child-ends : (i j : ℕ) (f : Field) → IsReached nodes i → child_at nodes i f ≡ Some j → ends_below nodes j ≢ no_path
  child-ends i j f r e none = let q = child-witness i j f r e in false≢true (ap (λ (w : PathPredicate). w q.0) (sym none) ∙ q.1)

  -- where a path ends in a node, or it has a child, some path ends below
  pub some-below : (i : ℕ) (n : Node) → IsReached nodes i → slice_get nodes i ≡ Some n → ((n.terminal ≡ None) × (nodes_by_step n.children ≡ []) → ⊥) → (q : List Field) × (ends_below nodes i q ≡ true)
  some-below i n r at some = by_option n.terminal (λ none. below none (nodes_by_step n.children) refl) (λ q e. ([], rw (at, e) refl))
    where
      below : n.terminal ≡ None → (es : List (Field × ℕ)) → nodes_by_step n.children ≡ es → (q : List Field) × (ends_below nodes i q ≡ true)
      below none [] is = absurd (some (none, is))
      below none ((f, j) ∷ es) is =
          let to : child_at nodes i f ≡ Some j = rw (at, is, (same_field-Decides f f).1 refl) refl in
          let u = child-witness i j f r to in (f ∷ u.0, rw to u.1)

-- no path ends below a node in which none ends and that has no child
pub none-below : (nodes : List Node) (i : ℕ) (n : Node) → slice_get nodes i ≡ Some n → (n.terminal ≡ None) × (nodes_by_step n.children ≡ []) → ends_below nodes i ≡ no_path
none-below nodes i n at e = λ k p. none p k
  where
    none : (p : List Field) → ends_below nodes i p ≡ false
    none [] = rw (at, e.0) refl
    none (f ∷ p) = rw (at, e.1) refl

-- a path leads to a node's child, if it has one, and below that some path ends
module _ (nodes ns : List Node) (i : ℕ) (f : Field) (n : Node) (o : Option ℕ) (t : IsTrie nodes) (same : nodes ≡ ns) (r : IsReached ns i) (at : slice_get nodes i ≡ Some n) (led : o ≡ child n.children f) where
  to_child : o ≡ child_at ns i f
  to_child = rw (← same, at) led

  if_child : (P : ℕ → Type 0) → ((j : ℕ) → child_at ns i f ≡ Some j → P j) → IfSome o P
  if_child P h = by_option o (λ none. rw none tt) (λ j is. rw is (h j (sym to_child ∙ is)))

  pub reached_child : IfSome o (IsReached ns)
  reached_child = if_child (IsReached ns) (λ j. child-reached ns (subst IsTrie same t) i j f r)

  pub child_asks : IfSome o (λ j. (q : List Field) × IsTrue (ends_below ns j q))
  child_asks = if_child (λ j. (q : List Field) × IsTrue (ends_below ns j q)) (λ j. child-witness ns (subst IsTrie same t) i j f r)

-- after a step to a child that is there end the suffixes, and none after a step to no child
pub ends_stepped : (nodes : List Node) (i j : ℕ) (f : Field) → Some j ≡ child_at nodes i f → ends_below nodes j ≡ after_step f (ends_below nodes i)
ends_stepped nodes i j f e = λ k p. (let same : ends_below nodes j p ≡ ends_below nodes i (f ∷ p) = rw (← e) refl in same) k

pub ends_nowhere : (nodes : List Node) (i : ℕ) (f : Field) → None ≡ child_at nodes i f → no_path ≡ after_step f (ends_below nodes i)
ends_nowhere nodes i f e = λ k p. (let same : false ≡ ends_below nodes i (f ∷ p) = rw (← e) refl in same) k
