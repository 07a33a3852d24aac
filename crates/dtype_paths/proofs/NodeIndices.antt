-- SPDX-License-Identifier: Apache-2.0
-- SPDX-FileCopyrightText: Copyright the Vortex contributors

-- A list of nodes, by its indices.
use Rattle.std.proofs.Common.{ℕ, suc, zero, ◌+◌, ◌<◌, length, take, drop, get_or, map, append-nil, is_some, Decides, ◌≡◌, Bool, List, [], ◌∷◌, ◌++◌, Option, Some, None, option_and_then, refl, sym, ap, ◌∙◌, arith, ⊎_elim}
use Rattle.std.specs.FinSet as set
use Rattle.std.specs.List.{slice_get, Contains, cons_option}
use Rattle.std.proofs.lemmas.List.Elements.{filter_map-append}
use Rattle.std.proofs.lemmas.List.{drop_more, map-append, take-append-drop}
use Rattle.dtype_base.specs.Distinct.{Distinct}
use Rattle.std.proofs.lemmas.Option.{same_Some, get_or_from_slice_get, option_and_then_some, slice_get_read, slice_get_within}
use Rattle.dtype_paths.proofs.lemmas.DistinctLists.{distinct-cons, distinct-nil}
use Rattle.dtype_paths.proofs.lemmas.ListMembers.{contains-cons, contains-given, contains-head, contains-tail, given_by}
use Rattle.dtype_paths.proofs.lemmas.Cases.{by_option}
use Rattle.dtype_paths.proofs.lemmas.SetMembers.{same_lists}
use Rattle.dtype_paths.specs.PathOrder.{set_of}
use Rattle.dtype_paths.specs.declared.field.Field.{Field}
use Rattle.dtype_paths.specs.declared.node.Node.{Node}
use Rattle.dtype_paths.specs.private.Trie.{child_at, terminal_at, terminals, walk, IsPrefixMatch, IsTrie}
use Rattle.dtype_paths.specs.declared.path_match.PrefixMatch.{PrefixMatch}
use Rattle.dtype_paths.proofs.TrieGrowth.{Ends, walk-append}

-- ---- a node index in a longer list

module _ {A B : Type 0} (f : A → Option B) where
  pub read-left : (xs ys : List A) (i : ℕ) → i < length xs → option_and_then f (slice_get (xs ++ ys) i) ≡ option_and_then f (slice_get xs i)
  read-left [] ys i h = absurd (omega (arith, h))
  read-left (x ∷ xs) ys zero h = refl
  read-left (x ∷ xs) ys (suc i) h = read-left xs ys i (omega (arith, h))

  pub read-right : (xs ys : List A) (i k : ℕ) → i ≡ length xs + k → option_and_then f (slice_get (xs ++ ys) i) ≡ option_and_then f (slice_get ys k)
  read-right [] ys i k e = ap (λ j. option_and_then f (slice_get ys j)) (omega (arith, e))
  read-right (x ∷ xs) ys zero k e = absurd (omega (arith, e))
  read-right (x ∷ xs) ys (suc i) k e = read-right xs ys i k (omega (arith, e))

  pub read-within : (xs : List A) (i : ℕ) (y : B) → option_and_then f (slice_get xs i) ≡ Some y → i < length xs
  read-within xs i y e = option_and_then_some f (slice_get xs i) y e (λ x s g. slice_get_within xs i x s)

-- what is read of a path after its prefix
pub next-step : (nodes : List Node) (path : List Field) (m : PrefixMatch) (prefix : IsPrefixMatch nodes path m) (x step : Field) → x ≡ get_or path m.len x → step ≡ x → (slice_get path m.len ≡ Some step) × (prefix.step ≡ step)
next-step nodes path m prefix x step is same = grind (arith, slice_get_within, slice_get_read, same_Some)

-- ---- the list of the paths that end in nodes

pub terminal-of : (nodes : List Node) (q : List Field) → Contains (terminals nodes) q → (i : ℕ) × (terminal_at nodes i ≡ Some q)
terminal-of nodes q c =
    let w = given_by (λ n. n.terminal) nodes q c in
    (w.1.0, rw (slice_get_read nodes (length nodes) w.1.0 w.0 refl w.1.1 (sym w.1.2)) w.2)

pub of-terminal : (nodes : List Node) (i : ℕ) (q : List Field) → terminal_at nodes i ≡ Some q → Contains (terminals nodes) q
of-terminal nodes i q e =
    option_and_then_some (λ n. n.terminal) (slice_get nodes i) q e
    (λ n at end. contains-given (λ n. n.terminal) nodes n q (i, slice_get_within nodes i n at, get_or_from_slice_get nodes i n n at) end)

pub gains : (old new : List Node) (node_index : ℕ) (path : List Field) → Ends (terminal_at old) (terminal_at new) node_index path
    → set_of (terminals new) ≡ set.insert (set_of (terminals old)) path
gains old new node_index path e = same_lists (terminals new) (path ∷ terminals old) (λ q. (
  λ c.
      let w = terminal-of new q c in
      ⊎_elim (λ o. contains-tail path q (terminals old) (of-terminal old w.0 q o)) (λ b. rw b.1 (contains-head path (terminals old))) (e.only w.0 q w.1),
  λ c.
      ⊎_elim
      (λ b. rw (← b) (of-terminal new node_index path e.here))
      (λ a. let w = terminal-of old q a in of-terminal new w.0 q (e.kept w.0 q w.1))
      (contains-cons path q (terminals old) c),
))

terminals-distinct : (nodes : List Node) → ((i j : ℕ) (q : List Field) → terminal_at nodes i ≡ Some q → terminal_at nodes j ≡ Some q → i ≡ j) → Distinct (terminals nodes)
terminals-distinct [] h = distinct-nil [] refl
terminals-distinct (n ∷ ns) h =
    let later = terminals-distinct ns (λ i j q a b. let e = h (suc i) (suc j) q a b in omega (arith, e)) in
    by_option n.terminal
    (λ e. rw e later)
    (λ y e. rw e (distinct-cons y (terminals ns) (λ c. let w = terminal-of ns y c in let z = h 0 (suc w.0) y e w.1 in omega (arith, z)) later))

-- no path ends in two nodes
pub ends_once : (nodes : List Node) (ps : List (List Field)) → IsTrie nodes → ps ≡ terminals nodes → Distinct ps
ends_once nodes ps t is = rw is (terminals-distinct nodes (λ i j q a b. let e = sym (t.ends_where_it_leads i q a) ∙ t.ends_where_it_leads j q b in same_Some i j e))

-- ---- how far a path leads

pub parted : {A : Type 0} (p : List A) (at : ℕ) (x : A) → slice_get p at ≡ Some x → p ≡ take at p ++ x ∷ drop (at + 1) p
parted p at x e =
    sym (take-append-drop at p)
    ∙ ap (λ q. take at p ++ q) (drop_more p at x (slice_get_within p at x e) ∙ ap (λ y. y ∷ drop (at + 1) p) (get_or_from_slice_get p at x x e))

module _ (nodes : List Node) (path : List Field) (t : IsTrie nodes) where
  pub contains-whole : (here : ℕ) → walk (child_at nodes) 0 path ≡ Some here → (c : Bool) → c ≡ is_some (terminal_at nodes here) → Decides c (Contains (terminals nodes) path)
  contains-whole here w c e = (
    λ h. by_option (terminal_at nodes here) (λ z. let no = rw z at e in cc) (λ q z. of-terminal nodes here path (z ∙ ap Some (t.once q path here (t.ends_where_it_leads here q z) w))),
    λ m. let z = terminal-of nodes path m in let led = t.ends_where_it_leads z.0 path z.1 in grind (arith, e, w, z.1, led),
  )

  -- a path that leads to no node ends in none
  pub contains-no_more : (m : PrefixMatch) → IsPrefixMatch nodes path m → Contains (terminals nodes) path → ⊥
  contains-no_more m prefix c =
      let z = terminal-of nodes path c in let rest = prefix.step ∷ drop (m.len + 1) path in
      let e : walk (child_at nodes) m.here rest ≡ Some z.0 = sym (walk-append (child_at nodes) 0 m.here (take m.len path) rest prefix.walked)
      ∙ ap (walk (child_at nodes) 0) (sym (parted path m.len prefix.step prefix.next)) ∙ t.ends_where_it_leads z.0 path z.1 in
      let y : None ≡ Some z.0 = rw prefix.none at e in cc

-- ---- the paths that end in nodes, node by node

terminals-push : (ns : List Node) (n : Node) → terminals (ns ++ n ∷ []) ≡ terminals ns ++ cons_option n.terminal []
terminals-push ns n = filter_map-append (λ m. m.terminal) ns (n ∷ [])

module _ {X : Type 0} (f : X → List Field) (xs : List X) (ns : List Node) (n : Node) (h : map f xs ≡ terminals ns) where
  pub gathered : (x : X) → n.terminal ≡ Some (f x) → map f (xs ++ x ∷ []) ≡ terminals (ns ++ n ∷ [])
  gathered x e = map-append f xs (x ∷ []) ∙ rw (terminals-push ns n, e, h) refl

  pub passed : n.terminal ≡ None → map f xs ≡ terminals (ns ++ n ∷ [])
  passed e = h ∙ sym (rw (terminals-push ns n, e) (append-nil (terminals ns)))
