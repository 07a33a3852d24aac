-- SPDX-License-Identifier: Apache-2.0
-- SPDX-FileCopyrightText: Copyright the Vortex contributors

-- The paths that end in the nodes of a list, one node after another.
use Rattle.std.proofs.Common.{true, false, not, suc, zero, append-nil, length-append, ℕ, ◌+◌, ◌<◌, length, take, ◌≡◌, ◌↔◌, Bool, IsTrue, List, [], ◌∷◌, ◌++◌, Option, Some, None, ◌∙◌, ap, sym, refl, arith, is_some}
use Rattle.std.proofs.Math.Bool.{beq}
use Rattle.std.specs.FinSet as set
use Rattle.std.specs.List.{Contains, cons_option}
use Rattle.std.proofs.lemmas.Bool.{false≢true}
use Rattle.dtype_paths.proofs.lemmas.Counts.{len_of}
use Rattle.dtype_paths.proofs.lemmas.Cases.{by_option}
use Rattle.dtype_paths.proofs.lemmas.SetMembers.{of_push, union_insert}
use Rattle.dtype_paths.specs.PathOrder.{PathSet, set_of}
use Rattle.dtype_paths.specs.declared.field.Field.{Field}
use Rattle.dtype_paths.specs.declared.node.Node.{Node}
use Rattle.dtype_paths.specs.private.Trie.{terminal_at, terminals, AreIn, IsTrie}
use Rattle.dtype_paths.proofs.NodeIndices.{ends_once, of-terminal, read-within, terminal-of}

-- as many as the set has
pub counted_terminals : (nodes ns : List Node) (n : ℕ) → IsTrie nodes → nodes ≡ ns → n ≡ length (terminals nodes) → n ≡ set.len (set_of (terminals ns))
counted_terminals nodes ns n t same e = e ∙ sym (len_of (terminals nodes) (ends_once nodes (terminals nodes) t refl)) ∙ ap (λ xs. set.len (set_of (terminals xs))) same

-- what one more node has
cons-append : (o : Option (List Field)) (ps qs : List (List Field)) → cons_option o (ps ++ qs) ≡ cons_option o ps ++ qs
cons-append None ps qs = refl
cons-append (Some p) ps qs = refl

next : (nodes : List Node) (n : ℕ) → n < length nodes → terminals (take (suc n) nodes) ≡ terminals (take n nodes) ++ cons_option (terminal_at nodes n) []
next [] n lt = absurd (omega (arith, lt))
next (x ∷ xs) zero lt = refl
next (x ∷ xs) (suc n) lt = ap (cons_option x.terminal) (next xs n (omega (arith, lt))) ∙ cons-append x.terminal (terminals (take n xs)) (cons_option (terminal_at xs n) [])

next-some : (nodes : List Node) (n : ℕ) (q : List Field) → n < length nodes → terminal_at nodes n ≡ Some q → terminals (take (n + 1) nodes) ≡ terminals (take n nodes) ++ q ∷ []
next-some nodes n q lt e = let one : n + 1 ≡ suc n = omega arith in rw one (next nodes n lt ∙ ap (λ o. terminals (take n nodes) ++ cons_option o []) e)

next-none : (nodes : List Node) (n : ℕ) → n < length nodes → terminal_at nodes n ≡ None → terminals (take (n + 1) nodes) ≡ terminals (take n nodes)
next-none nodes n lt e = let one : n + 1 ≡ suc n = omega arith in rw one (next nodes n lt ∙ ap (λ o. terminals (take n nodes) ++ cons_option o []) e ∙ append-nil (terminals (take n nodes)))

-- how many paths end in one node more
module _ (nodes : List Node) (n count : ℕ) (within : n < length nodes) (counted : count ≡ length (terminals (take n nodes))) where
  pub count-more : is_some (terminal_at nodes n) ≡ true → count + 1 ≡ length (terminals (take (n + 1) nodes))
  count-more h = by_option (terminal_at nodes n)
      (λ none. absurd (false≢true (sym (ap is_some none) ∙ h)))
      (λ q is. omega (arith, counted, ap length (next-some nodes n q within is), length-append (terminals (take n nodes)) (q ∷ [])))

  pub count-same : is_some (terminal_at nodes n) ≡ false → count ≡ length (terminals (take (n + 1) nodes))
  count-same h = by_option (terminal_at nodes n)
      (λ none. omega (arith, counted, ap length (next-none nodes n within none)))
      (λ q is. absurd (false≢true (sym h ∙ ap is_some is)))

-- the union with the paths of one node more
module _ (nodes : List Node) (n : ℕ) (old now : PathSet) (within : n < length nodes) (joined : now ≡ set.union old (set_of (terminals (take n nodes)))) where
  pub join-more : (q : List Field) (new : PathSet) → terminal_at nodes n ≡ Some q → new ≡ set.insert now q → new ≡ set.union old (set_of (terminals (take (n + 1) nodes)))
  join-more q new at more =
      let before = terminals (take n nodes) in
      more
      ∙ ap (λ (s : PathSet). set.insert s q) joined
      ∙ sym (ap (λ ps. set.union old (set_of ps)) (next-some nodes n q within at) ∙ ap (set.union old) (of_push before q) ∙ union_insert old (set_of before) q)

  pub join-same : terminal_at nodes n ≡ None → now ≡ set.union old (set_of (terminals (take (n + 1) nodes)))
  join-same none = joined ∙ sym (ap (λ ps. set.union old (set_of ps)) (next-none nodes n within none))

-- each path that ends in one of the first n nodes is in the list exactly if `wanted`
abbrev pub EndIn : List Node → ℕ → List (List Field) → Bool → Type 0
EndIn nodes n qs wanted = (i : ℕ) (q : List Field) → i < n → terminal_at nodes i ≡ Some q → IsTrue wanted ↔ Contains qs q

module _ (nodes : List Node) (qs : List (List Field)) (wanted : Bool) where
  pub in-start : EndIn nodes 0 qs wanted
  in-start i q lt e = absurd (omega (arith, lt))

  -- one more node
  pub in-next : (n : ℕ) → EndIn nodes n qs wanted → ((q : List Field) → terminal_at nodes n ≡ Some q → IsTrue wanted ↔ Contains qs q) → EndIn nodes (n + 1) qs wanted
  in-next n before here i q lt e = grind (arith, before, here, lt, e)

  -- a path with another answer than is wanted
  pub in-refused : (n : ℕ) (q : List Field) (b : Bool) → terminal_at nodes n ≡ Some q → (IsTrue b ↔ Contains qs q) → not (beq b wanted) ≡ true → AreIn (terminals nodes) qs wanted → ⊥
  in-refused n q b at told other each = differ b wanted other told (each q (of-terminal nodes n q at))
    where
      differ : {P : Type 0} (x y : Bool) → not (beq x y) ≡ true → (IsTrue x ↔ P) → (IsTrue y ↔ P) → ⊥
      differ true true d f g = cc
      differ true false d f g = false≢true (g.1 (f.0 refl))
      differ false true d f g = false≢true (f.1 (g.0 refl))
      differ false false d f g = cc

  -- all nodes
  pub in-all : (n : ℕ) → n ≡ length nodes → EndIn nodes n qs wanted → AreIn (terminals nodes) qs wanted
  in-all n whole each q c =
      let w = terminal-of nodes q c in
      each w.0 q (omega (arith, whole, read-within (λ m. m.terminal) nodes w.0 q w.1)) w.1
