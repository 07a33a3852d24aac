-- SPDX-License-Identifier: Apache-2.0
-- SPDX-FileCopyrightText: Copyright the Vortex contributors

-- How the nodes of a list are visited.
use Rattle.std.proofs.Common.{ℕ, ◌-◌, min, ◌+◌, ◌<◌, ◌≤◌, ◌≢◌, cond, is_some, length, map, ◌≡◌, ◌↔◌, IsTrue, List, [], ◌∷◌, ◌++◌, Option, Some, None, inl, inr, refl, sym, ap, subst, ◌∙◌, arith, ⊎_elim, append_assoc, append-nil, length-append, rules}
use Rattle.std.specs.FinSet as set
use Rattle.std.specs.List.{slice_get, filter_map, Contains, IsDistinct}
use Rattle.std.specs.List.Sorted.{IsPermutation}
use Rattle.std.specs.Map.{keys_of, lookup, values_of}
use Rattle.std.proofs.lemmas.Bool.Decides.{Decides-eqb, same_from_decides}
use Rattle.std.proofs.lemmas.List.Elements.{Contains-append_cases, Contains-append_left, Contains-append_right, Contains-push}
use Rattle.std.proofs.lemmas.List.{length-map, length_push, same_from_push}
use Rattle.std.proofs.lemmas.List.Sorted.{Contains-permutation, IsPermutation-append_comm, IsPermutation-append_left, IsPermutation-append_right, IsPermutation-push_more, IsPermutation-refl, IsPermutation-sym, IsPermutation-trans, length_permutation}
use Rattle.std.proofs.lemmas.Map.Made.{AllPairs-from_IsDistinct}
use Rattle.std.proofs.lemmas.Map.Views.{lookup-from_Contains, Contains-from_lookup}
use Rattle.std.proofs.lemmas.Option.{same_Some, option_and_then_some}
use Rattle.dtype_paths.proofs.lemmas.Cases.{by_option}
use Rattle.dtype_paths.proofs.lemmas.SetCovers.{least_word}
use Rattle.dtype_paths.proofs.lemmas.SetMembers.{from_list-Decides, of_has, of_only, same_by}
use Rattle.dtype_paths.specs.Beginning.{Beginning}
use Rattle.dtype_base.specs.Distinct.{Distinct}
use Rattle.dtype_paths.specs.Covering.{IsBegun, IsCountOf, least}
use Rattle.dtype_paths.specs.PathOrder.{PathSet, set_of}
use Rattle.dtype_paths.specs.Equality.{same_field}
use Rattle.dtype_paths.specs.EqualityLaws.{same_field-Decides, same_field_equiv, same_path-Decides}
use Rattle.dtype_paths.specs.declared.field.Field.{Field}
use Rattle.dtype_paths.specs.declared.node.Node.{Node}
use Rattle.dtype_paths.specs.private.Children.{child}
use Rattle.dtype_paths.specs.private.Trie.{child_at, terminal_at, terminals, walk, IsTrie}
use Rattle.dtype_paths.proofs.lemmas.DistinctLists.{distinct-nil, distinct-cons, distinct-head, distinct-append, distinct-given, distinct-moved, distinct-right, distinct-below, distinct-map, distinct-unmap}
use Rattle.dtype_paths.proofs.lemmas.ListMembers.{contains-map, contains-mapped, contains-cons, contains-given, contains-head, contains-tail, contains-nil, given_by}
use Rattle.dtype_paths.proofs.NodeIndices.{read-within, terminal-of, of-terminal}
use Rattle.dtype_paths.proofs.TrieGrowth.{no_snoc, walk-append, walk-front, walk-mono, walk-snoc}

-- the child of a node by a step, unless a path ends in the node: so far a visit goes
abbrev opens : List Node → ℕ → Field → Option ℕ
opens nodes i f = cond (is_some (terminal_at nodes i)) None (child_at nodes i f)

-- some path leads to the node, and none ends on the way
abbrev IsOpened : List Node → ℕ → Type 0
IsOpened nodes i = (s : List Field) × (walk (opens nodes) 0 s ≡ Some i)

module _ (nodes : List Node) (trie : IsTrie nodes) where
  abbrev paths : PathSet
  paths = set_of (terminals nodes)

  opens-child : (i j : ℕ) (f : Field) → opens nodes i f ≡ Some j → (terminal_at nodes i ≡ None) × (child_at nodes i f ≡ Some j)
  opens-child i j f e = grind (arith, by_option)

  led : (i j : ℕ) (s : List Field) → walk (opens nodes) i s ≡ Some j → walk (child_at nodes) i s ≡ Some j
  led = walk-mono (opens nodes) (child_at nodes) (λ i f j e. (opens-child i j f e).1)

  -- ---- which nodes are opened

  -- a path that ends in an opened node leads there through opened nodes
  ends-opened : (p : List Field) (i : ℕ) → IsOpened nodes i → terminal_at nodes i ≡ Some p → walk (opens nodes) 0 p ≡ Some i
  ends-opened p i s end =
      subst (λ q. walk (opens nodes) 0 q ≡ Some i) (trie.once s.0 p i (led 0 i s.0 s.1) (trie.ends_where_it_leads i p end)) s.1

  -- nothing is opened below a node where a path ends
  stops : (i j : ℕ) (q r : List Field) → terminal_at nodes i ≡ Some q → walk (opens nodes) i r ≡ Some j → r ≡ []
  stops i j q [] end at = refl
  stops i j q (f ∷ r) end at = let z : None ≡ Some j = rw end at at in absurd (cc)

  -- on the way to the end of a path is a first node where one ends
  first-end : (s r : List Field) (i j : ℕ) → walk (child_at nodes) 0 s ≡ Some i → walk (child_at nodes) i r ≡ Some j → terminal_at nodes j ≡ Some (s ++ r)
      → (k : ℕ) × (t : List Field) × Beginning t r × (walk (opens nodes) i t ≡ Some k) × (terminal_at nodes k ≡ Some (s ++ t))
  first-end s [] i j at on end = (i, [], ([], refl), refl, ap (terminal_at nodes) (same_Some i j on) ∙ end)
  first-end s (f ∷ r) i j at on end =
      by_option (terminal_at nodes i)
      (λ none. option_and_then_some (λ k. walk (child_at nodes) k r) (child_at nodes i f) j on (λ k e later.
      let w = first-end (s ++ f ∷ []) r k j (walk-snoc (child_at nodes) i k s f at e) later (rw append_assoc end) in
      (w.0, f ∷ w.1, (w.2.0, ap (λ q. f ∷ q) w.2.1), rw (none, e) w.3, rw append_assoc at w.4)))
      (λ q here. (i, [], (f ∷ r, refl), refl, here ∙ ap Some (trie.once q s i (trie.ends_where_it_leads i q here) at ∙ sym (append-nil s))))

  -- the least paths are those that end in opened nodes
  least-opened : (p : List Field) → IsTrue (set.contains (least paths) p) ↔ ((i : ℕ) × (walk (opens nodes) 0 p ≡ Some i) × (terminal_at nodes i ≡ Some p))
  least-opened p = (
    λ h.
        let l = (least_word paths p).0 h in
        let w = terminal-of nodes p (of_only (terminals nodes) p l.0) in
        let e = first-end [] p 0 w.0 refl (trie.ends_where_it_leads w.0 p w.1) w.1 in
        let is = l.1 e.1 (of_has (terminals nodes) e.1 (of-terminal nodes e.0 e.1 e.4)) e.2 in
        subst (λ q. (i : ℕ) × (walk (opens nodes) 0 q ≡ Some i) × (terminal_at nodes i ≡ Some q)) is (e.0, e.3, e.4),
    λ v. (least_word paths p).1 (
      of_has (terminals nodes) p (of-terminal nodes v.0 p v.2),
      λ q c b.
          let w = terminal-of nodes q (of_only (terminals nodes) q c) in
          let k = walk-front (opens nodes) 0 v.0 q b.0 (rw b.1 at v.1) in
          let there : k.0 ≡ w.0 = let e = sym (led 0 k.0 q k.1) ∙ trie.ends_where_it_leads w.0 q w.1 in same_Some k.0 w.0 e in
          let none = stops k.0 v.0 q b.0 (ap (terminal_at nodes) there ∙ w.1) (sym (walk-append (opens nodes) 0 k.0 q b.0 k.1) ∙ rw b.1 at v.1) in
          sym (b.1 ∙ ap (λ r. q ++ r) none ∙ append-nil q),
    ),
  )

  -- the others are on the way to these
  opened-begun : (q : List Field) → ((i : ℕ) × (walk (opens nodes) 0 q ≡ Some i)) ↔ IsBegun paths q
  opened-begun q = (to q, ⊎_elim (λ e. (0, rw e refl)) (λ h. let v = (least-opened h.0).0 h.1 in walk-front (opens nodes) 0 v.0 q h.2.0 (subst (λ p. walk (opens nodes) 0 p ≡ Some v.0) h.2.1 v.1)))
    where
      to : (q : List Field) → (i : ℕ) × (walk (opens nodes) 0 q ≡ Some i) → IsBegun paths q
      to [] v = inl refl
      to (f ∷ q) v =
          let p = f ∷ q in let at = led 0 v.0 p v.1 in
          let u = trie.used p v.0 at (λ z. let nil = trie.once p [] v.0 at (ap Some (sym z)) in cc) in
          let on = sym (walk-append (child_at nodes) 0 v.0 p u.1 at) ∙ trie.ends_where_it_leads u.0 (p ++ u.1) u.2 in
          let e = first-end p u.1 v.0 u.0 at on u.2 in
          inr (p ++ e.1, (least-opened (p ++ e.1)).1 (e.0, walk-append (opens nodes) 0 v.0 p e.1 v.1 ∙ e.3, e.4), (e.1, refl))

  -- ---- each node but the root is the child of one node by one step

  above : (i j : ℕ) (f : Field) → child_at nodes i f ≡ Some j → (s : List Field) × (walk (child_at nodes) 0 s ≡ Some i) × (walk (child_at nodes) 0 (s ++ f ∷ []) ≡ Some j)
  above i j f e =
      let s = trie.reached i (read-within (λ n. child n.children f) nodes i j e) in
      (s.0, s.1, walk-snoc (child_at nodes) i j s.0 f s.1 e)

  no_parent : (i : ℕ) (f : Field) → child_at nodes i f ≡ Some 0 → ⊥
  no_parent i f e = let s = above i 0 f e in no_snoc s.0 f (trie.once (s.0 ++ f ∷ []) [] 0 s.2 refl)

  one_parent : (i k j : ℕ) (f g : Field) → child_at nodes i f ≡ Some j → child_at nodes k g ≡ Some j → (i ≡ k) × (f ≡ g)
  one_parent i k j f g e d = grind (arith, above, same_from_push, same_Some)

-- ---- what has been visited, and what is still to be

pub record Visits (nodes left : List Node) (found : List (List Field)) (visits : ℕ) (node_indices : List ℕ) : Type 0 where
  pub trie : IsTrie nodes
  -- the nodes that were visited, and these with those that are to be
  pub done : List ℕ
  pub known : List ℕ
  pub parted : IsPermutation known (node_indices ++ done)
  pub distinct : Distinct known
  pub opened : (i : ℕ) → Contains known i → IsOpened nodes i
  pub root : Contains known 0
  -- a child is known exactly where its node is done
  pub closed : (i j : ℕ) (f : Field) → opens nodes i f ≡ Some j → Contains done i ↔ Contains known j
  pub long : length left ≡ length nodes
  pub same : (i : ℕ) → (Contains done i → ⊥) → slice_get left i ≡ slice_get nodes i
  pub exact : IsPermutation found (filter_map (terminal_at nodes) done)
  pub count : visits ≡ length done

pub visits-start : (nodes : List Node) → IsTrie nodes → Visits nodes nodes [] 0 (0 ∷ [])
visits-start nodes trie = record {
  trie = trie;
  done = [];
  known = 0 ∷ [];
  parted = IsPermutation-refl (0 ∷ []);
  distinct = distinct-cons 0 [] (contains-nil 0) (distinct-nil [] refl);
  opened = λ i c. ([], ap Some (alone i c));
  root = contains-head 0 [];
  closed = λ i j f e. (
    λ c. absurd (contains-nil i c),
    λ c. absurd (no_parent nodes trie i f ((opens-child nodes trie i j f e).1 ∙ ap Some (sym (alone j c)))),
  );
  long = refl;
  same = λ i n. refl;
  exact = IsPermutation-refl [];
  count = refl;
}
  where
    alone : (i : ℕ) → Contains (0 ∷ []) i → 0 ≡ i
    alone i c = ⊎_elim (λ e. e) (λ d. absurd (contains-nil i d)) (contains-cons 0 i [] c)

module _ {nodes left : List Node} {found : List (List Field)} {visits : ℕ} (ps : List ℕ) (x : ℕ) (o : Visits nodes left found visits (ps ++ x ∷ [])) where
  known-here : Contains o.known x
  known-here = search (rules, Contains-permutation, IsPermutation-sym, Contains-append_left, Contains-push)

  is_new : Contains o.done x → ⊥
  is_new =
      let all = distinct-moved Decides-eqb o.known ((ps ++ x ∷ []) ++ o.done) o.parted o.distinct in
      distinct-head x o.done (distinct-right ps (x ∷ o.done) (subst Distinct (append_assoc ps (x ∷ []) o.done) all))

  here : slice_get left x ≡ slice_get nodes x
  here = o.same x is_new

  inside : (i : ℕ) → Contains o.known i → i < length nodes
  inside i c = let s = o.opened i c in o.trie.inside s.0 i (led nodes o.trie 0 i s.0 s.1)

  pub visits-within : x < length left
  visits-within = let i = inside x known-here in let l = o.long in omega arith

  -- there is room for one visit more, so it counts
  pub visits-counts : {most next_visits : ℕ} → next_visits ≡ min (visits + 1) most → length left ≤ most → (next_visits ≡ visits + 1) × (length nodes - next_visits < length nodes - visits)
  visits-counts visited small =
      let below = distinct-below o.known (length nodes) o.distinct inside in
      let parts = length_permutation o.known ((ps ++ x ∷ []) ++ o.done) o.parted in
      let room : visits < length nodes = omega (arith, below, parts, o.count, length-append (ps ++ x ∷ []) o.done, length_push ps x) in
      let l = o.long in
      (omega (arith, room, small, visited), omega (arith, room, small, visited))

  -- after the visit the children wait in the node's stead
  module _ {next : List Node} (long : length next ≡ length left) (others : (i : ℕ) → i ≢ x → slice_get next i ≡ slice_get left i) where
    visit : (kids : List ℕ) (found' : List (List Field)) → Distinct kids → ((j : ℕ) → Contains kids j ↔ ((f : Field) × (opens nodes x f ≡ Some j)))
        → IsPermutation found' (filter_map (terminal_at nodes) (x ∷ o.done)) → Visits nodes next found' (visits + 1) (ps ++ kids)
    visit kids found' once kid exact = record {
      trie = o.trie;
      done = x ∷ o.done;
      known = o.known ++ kids;
      parted = IsPermutation-trans _ _ _ (IsPermutation-append_left kids o.known ((ps ++ x ∷ []) ++ o.done) o.parted)
          (rw (append_assoc ps (x ∷ []) o.done, append_assoc ps (x ∷ o.done) kids, append_assoc ps kids (x ∷ o.done))
          (IsPermutation-append_right ps ((x ∷ o.done) ++ kids) (kids ++ x ∷ o.done) (IsPermutation-append_comm (x ∷ o.done) kids)));
      distinct = distinct-append o.known kids o.distinct once (λ j d c. let w = (kid j).0 c in is_new ((o.closed x j w.0 w.1).1 d));
      opened = λ j c. ⊎_elim (o.opened j)
          (λ k. let w = (kid j).0 k in let s = o.opened x known-here in (s.0 ++ w.0 ∷ [], walk-snoc (opens nodes) x j s.0 w.0 s.1 w.1))
          (Contains-append_cases o.known kids j c);
      root = Contains-append_left o.known kids 0 o.root;
      closed = λ i j f e. (
        λ c. ⊎_elim
            (λ is. Contains-append_right o.known kids j ((kid j).1 (f, ap (λ k. opens nodes k f) is ∙ e)))
            (λ d. Contains-append_left o.known kids j ((o.closed i j f e).0 d))
            (contains-cons x i o.done c),
        λ c. ⊎_elim
            (λ d. contains-tail x i o.done ((o.closed i j f e).1 d))
            (λ k.
            let w = (kid j).0 k in
            let step = λ (a : ℕ) (g : Field) (z : opens nodes a g ≡ Some j). (opens-child nodes o.trie a j g z).1 in
            subst (Contains (x ∷ o.done)) (one_parent nodes o.trie x i j w.0 f (step x w.0 w.1) (step i f e)).0 (contains-head x o.done))
            (Contains-append_cases o.known kids j c),
      );
      long = long ∙ o.long;
      same = λ i n.
          others i (λ e. n (subst (Contains (x ∷ o.done)) (sym e) (contains-head x o.done)))
          ∙ o.same i (λ c. n (contains-tail x i o.done c));
      exact = exact;
      count = omega (arith, o.count);
    }

    pub visited-terminal : (p : List Field) → terminal_at left x ≡ Some p → Visits nodes next (found ++ p ∷ []) (visits + 1) ps
    visited-terminal p is =
        let own : terminal_at nodes x ≡ Some p = rw (← here) is in
        subst (Visits nodes next (found ++ p ∷ []) (visits + 1)) (append-nil ps)
        (visit [] (found ++ p ∷ []) (distinct-nil [] refl)
        (λ j. (λ c. absurd (contains-nil j c), λ w. let none = (opens-child nodes o.trie x j w.0 w.1).0 in absurd (cc)))
        (rw own (IsPermutation-push_more found (filter_map (terminal_at nodes) o.done) _ p o.exact (IsPermutation-refl _))))

    pub visited-children : (es : List (Field × ℕ)) → IsDistinct same_field (keys_of es) → ((f : Field) → lookup (same_field f) es ≡ child_at left x f)
        → terminal_at left x ≡ None → Visits nodes next found (visits + 1) (ps ++ values_of es)
    visited-children es unique steps is =
        visit (values_of es) found
        (distinct-map (λ e. e.1) es (distinct-unmap (λ e. e.0) es (AllPairs-from_IsDistinct same_field-Decides (keys_of es) unique)) (λ d e c k same.
        let key = (one_parent nodes o.trie x x e.1 d.0 e.0 (there d c ∙ ap Some same) (there e k)).1 in λ i. (key i, same i)))
        (λ j. (
          λ c. let w = contains-map (λ (e : Field × ℕ). e.1) es j c in (w.0.0, rw own (there w.0 w.1 ∙ ap Some w.2)),
          λ w. contains-mapped (λ (e : Field × ℕ). e.1) (w.0, j) es (Contains-from_lookup (λ f g. (same_field-Decides f g).0) w.0 j es (step w.0 ∙ (opens-child nodes o.trie x j w.0 w.1).1)),
        ))
        (rw own o.exact)
      where
        own : terminal_at nodes x ≡ None
        own = rw (← here) is

        step : (f : Field) → lookup (same_field f) es ≡ child_at nodes x f
        step f = rw (← here) (steps f)

        there : (e : Field × ℕ) → Contains es e → child_at nodes x e.0 ≡ Some e.1
        there e c = sym (step e.0) ∙ lookup-from_Contains same_field_equiv e.0 e.1 es unique c

-- ---- when no node index is left

-- paths that lead to these nodes
listed : (nodes : List Node) (is : List ℕ) → ((i : ℕ) → Contains is i → IsOpened nodes i) → (ps : List (List Field)) × (map (walk (opens nodes) 0) ps ≡ map Some is)
listed nodes [] h = ([], refl)
listed nodes (i ∷ is) h =
    let s = h i (contains-head i is) in let r = listed nodes is (λ j c. h j (contains-tail i j is c)) in
    (s.0 ∷ r.0, λ k. s.1 k ∷ r.1 k)

module _ {nodes left : List Node} {found : List (List Field)} {visits : ℕ} (o : Visits nodes left found visits []) where
  is_done : (i : ℕ) → IsOpened nodes i → Contains o.done i
  is_done i s = on 0 s.0 (Contains-permutation o.known o.done 0 o.parted o.root) s.1
    where
      on : (j : ℕ) (r : List Field) → Contains o.done j → walk (opens nodes) j r ≡ Some i → Contains o.done i
      on j [] c w = subst (Contains o.done) (same_Some j i w) c
      on j (f ∷ r) c w =
          option_and_then_some (λ k. walk (opens nodes) k r) (opens nodes j f) i w
          (λ k e v. on k r (Contains-permutation o.known o.done k o.parted ((o.closed j k f e).0 c)) v)

  done-opened : (i : ℕ) → Contains o.done i → IsOpened nodes i
  done-opened i c = o.opened i (Contains-permutation o.done o.known i (IsPermutation-sym o.known o.done o.parted) c)

  done-distinct : Distinct o.done
  done-distinct = distinct-moved Decides-eqb o.known o.done o.parted o.distinct

  pub visited-count : IsCountOf (IsBegun (set_of (terminals nodes))) visits
  visited-count =
      let at = walk (opens nodes) 0 in
      let ps = listed nodes o.done done-opened in
      record {
        paths = ps.0;
        distinct = distinct-unmap at ps.0 (subst Distinct (sym ps.1) (distinct-map Some o.done done-distinct (λ i j _ _ e. same_Some i j e)));
        exact = λ q. (
          λ c.
              let w = contains-map Some o.done (at q) (subst (λ os. Contains os (at q)) ps.1 (contains-mapped at q ps.0 c)) in
              (opened-begun nodes o.trie q).0 (w.0, sym w.2),
          λ b.
              let v = (opened-begun nodes o.trie q).1 b in
              let w = contains-map at ps.0 (Some v.0) (subst (λ os. Contains os (Some v.0)) (sym ps.1) (contains-mapped Some v.0 o.done (is_done v.0 (q, v.1)))) in
              subst (Contains ps.0) (o.trie.once w.0 q v.0 (led nodes o.trie 0 v.0 w.0 w.2) (led nodes o.trie 0 v.0 q v.1)) w.1,
        );
        count = omega (arith, o.count, ap length ps.1, length-map ps.0 at, length-map {B = Option ℕ} o.done Some);
      }

  -- what was found are the least paths, each once
  pub found-least : (p : List Field) → Contains found p ↔ IsTrue (set.contains (least (set_of (terminals nodes))) p)
  found-least p =
      let ends = filter_map (terminal_at nodes) o.done in (
        λ c.
            let w = given_by (terminal_at nodes) o.done p (Contains-permutation found ends p o.exact c) in
            (least-opened nodes o.trie p).1 (w.0, ends-opened nodes o.trie p w.0 (done-opened w.0 w.1) w.2, w.2),
        λ h.
            let v = (least-opened nodes o.trie p).0 h in
            Contains-permutation ends found p (IsPermutation-sym found ends o.exact) (contains-given (terminal_at nodes) o.done v.0 p (is_done v.0 (p, v.1)) v.2),
      )

  pub found-set : set_of found ≡ least (set_of (terminals nodes))
  found-set = same_by _ _ (λ q. let f = found-least q in same_from_decides _ _ (from_list-Decides found q) (f.1, f.0))

  pub found-once : Distinct found
  found-once =
      let ends = filter_map (terminal_at nodes) o.done in
      distinct-moved same_path-Decides ends found (IsPermutation-sym found ends o.exact)
      (distinct-given (terminal_at nodes) o.done done-distinct (λ i j q a b.
      let e = sym (o.trie.ends_where_it_leads i q a) ∙ o.trie.ends_where_it_leads j q b in same_Some i j e))
