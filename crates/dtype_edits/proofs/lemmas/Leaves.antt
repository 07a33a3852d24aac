-- SPDX-License-Identifier: Apache-2.0
-- SPDX-FileCopyrightText: Copyright the Vortex contributors

-- The leaves of a type: which they are, that none is a prefix of another, and that the paths of the type are their
-- prefixes.
use Rattle.std.proofs.Common.{◌≡◌, ◌↔◌, ◌||◌, Bool, ℕ, List, [], ◌∷◌, ◌++◌, Some, None, IsTrue, cond, true, false, inl, inr, refl, sym, ap, subst, ◌∙◌, append-nil}
use Rattle.std.specs.FinSet as set
use Rattle.std.specs.List.{Contains, list_any}
use Rattle.std.specs.Str.{bytes_eq}
use Rattle.std.proofs.lemmas.List.Elements.{Contains-append_cases, Contains-append_left, Contains-append_right}
use Rattle.std.proofs.lemmas.List.Folds.{list_any-append}
use Rattle.std.proofs.lemmas.Option.{same_Some}
use Rattle.std.proofs.lemmas.Slice.Eq.{bytes_eq-Decides}
use Rattle.dtype_types.specs.parts.Lookups.{first_named}
use Rattle.dtype_types.specs.tree.Tree.{Tree, Fields, no_items, item, pairs, list, fixed_size_list, struct}
use Rattle.dtype_paths.specs.At.{At, ExistsIn, step}
use Rattle.dtype_paths.specs.Beginning.{Beginning}
use Rattle.dtype_paths.specs.PathOrder.{PathSet, set_of}
use Rattle.dtype_paths.specs.declared.field.Field.{Field}
use Rattle.dtype_paths.specs.declared.field.Field.TheVariants.{Name, ElementType}
use Rattle.dtype_paths.proofs.lemmas.Cases.{by_bool}
use Rattle.dtype_paths.proofs.lemmas.ListMembers.{contains-cons, contains-head, contains-map, contains-mapped, contains-nil}
use Rattle.dtype_paths.proofs.lemmas.SetMembers.{from_list-Decides}
use Rattle.dtype_paths.proofs.lemmas.Stepping.{at_joined, beginning_exists_in}
use Rattle.dtype_paths.proofs.lemmas.Walks.{one_type_at}
use Rattle.dtype_edits.specs.Leaves.{IsLeaf, each_after, field_leaves, leaves}

-- a path among those with one more step is that step before one of them
after_each : (f : Field) (ps : List (List Field)) (p : List Field) → Contains (each_after f ps) p → (q : List Field) × (p ≡ f ∷ q) × Contains ps q
after_each f ps p c = let w = contains-map (λ q. f ∷ q) ps p c in (w.0, sym w.2, w.1)

-- no path but the root is among the root alone
root_alone : (f : Field) (q : List Field) → Contains ([] ∷ []) (f ∷ q) → ⊥
root_alone f q c = elim (contains-cons [] (f ∷ q) [] c) [
  | inl e ↦ cc
  | inr none ↦ contains-nil (f ∷ q) none
]

-- ---- the leaves of fields

-- the first name passes its own test
pub same_name : (n : List ℕ) → bytes_eq n n ≡ true
same_name n = (bytes_eq-Decides n n).1 refl

pub named_first : (n m : List ℕ) (t : Tree) (rest : Fields) → bytes_eq n m ≡ true → first_named (pairs (item n t tt rest)) m ≡ Some t
named_first n m t rest same = ap (λ b. cond b (Some t) (first_named (pairs rest) m)) same

pub named_past : (n m : List ℕ) (t : Tree) (rest : Fields) → bytes_eq n m ≡ false → first_named (pairs (item n t tt rest)) m ≡ first_named (pairs rest) m
named_past n m t rest other = ap (λ b. cond b (Some t) (first_named (pairs rest) m)) other

-- one of two tests fails where neither passes
neither : (a b : Bool) → (a || b) ≡ false → (a ≡ false) × (b ≡ false)
neither true b e = absurd (cc)
neither false b e = (refl, e)

-- a name is new behind one more name exactly where it was and isn't that one
new_behind : (before : List (List ℕ)) (n m : List ℕ) → list_any (λ k. bytes_eq k m) (before ++ n ∷ []) ≡ (list_any (λ k. bytes_eq k m) before || (bytes_eq n m || false))
new_behind before n m = list_any-append (λ k. bytes_eq k m) before (n ∷ [])

-- how a leaf of fields goes on
record LeafOfField (before : List (List ℕ)) (fs : Fields) (p : List Field) : Type 0 where
  name : List ℕ
  rest : List Field
  part : Tree
  path : p ≡ Name name ∷ rest
  new : list_any (λ m. bytes_eq m name) before ≡ false
  at : first_named (pairs fs) name ≡ Some part
  leaf : Contains (leaves part) rest

-- the leaves of a field, none if its name is taken
abbrev own_leaves : List ℕ → Tree → Bool → List (List Field)
own_leaves n t taken = cond taken [] (each_after (Name n) (leaves t))

abbrev taken : List (List ℕ) → List ℕ → Bool
taken before n = list_any (λ m. bytes_eq m n) before

field_leaf : (before : List (List ℕ)) (fs : Fields) (p : List Field) → Contains (field_leaves before fs) p → LeafOfField before fs p
field_leaf before no_items p c = absurd (contains-nil p c)
field_leaf before (item n t _ rest) p c = elim (Contains-append_cases (own_leaves n t (taken before n)) (field_leaves (before ++ n ∷ []) rest) p c) [
  | inl here ↦ by_bool (taken before n)
      (λ yes. absurd (contains-nil p (subst (λ b. Contains (own_leaves n t b) p) yes here)))
      (λ new. let w = after_each (Name n) (leaves t) p (subst (λ b. Contains (own_leaves n t b) p) new here) in
      record { name = n; rest = w.0; part = t; path = w.1; new = new; at = named_first n n t rest (same_name n); leaf = w.2 })
  | inr later ↦
      let k = field_leaf (before ++ n ∷ []) rest p later in
      let both = neither (taken before k.name) (bytes_eq n k.name || false) (sym (new_behind before n k.name) ∙ k.new) in
      let other = neither (bytes_eq n k.name) false both.1 in
      record { name = k.name; rest = k.rest; part = k.part; path = k.path; new = both.0; at = named_past n k.name t rest other.0 ∙ k.at; leaf = k.leaf }
]

leaf_of_field : (before : List (List ℕ)) (fs : Fields) (n : List ℕ) (q : List Field) (x : Tree) → list_any (λ m. bytes_eq m n) before ≡ false → first_named (pairs fs) n ≡ Some x → Contains (leaves x) q → Contains (field_leaves before fs) (Name n ∷ q)
leaf_of_field before no_items n q x new at c = cc
leaf_of_field before (item m t _ rest) n q x new at c = by_bool (bytes_eq m n)
    (λ same.
    let is : m ≡ n = (bytes_eq-Decides m n).0 same in
    let part : t ≡ x = same_Some t x (sym (named_first m n t rest same) ∙ at) in
    let here : Contains (own_leaves n t false) (Name n ∷ q) = contains-mapped (λ p. Name n ∷ p) q (leaves t) (subst (λ z. Contains (leaves z) q) (sym part) c) in
    let mine : Contains (own_leaves m t (taken before m)) (Name n ∷ q) =
    subst (λ z. Contains (own_leaves z t (taken before z)) (Name n ∷ q)) (sym is) (subst (λ b. Contains (own_leaves n t b) (Name n ∷ q)) (sym new) here) in
    Contains-append_left (own_leaves m t (taken before m)) (field_leaves (before ++ m ∷ []) rest) (Name n ∷ q) mine)
    (λ other.
    let still : taken (before ++ m ∷ []) n ≡ false = new_behind before m n ∙ ap (λ b. b || (bytes_eq m n || false)) new ∙ ap (λ b. b || false) other in
    Contains-append_right (own_leaves m t (taken before m)) (field_leaves (before ++ m ∷ []) rest) (Name n ∷ q)
    (leaf_of_field (before ++ m ∷ []) rest n q x still (sym (named_past m n t rest other) ∙ at) c))

-- ---- the leaves after one step

-- each type has a leaf
some_leaf : (t : Tree) → (q : List Field) × Contains (leaves t) q
some_leaf (list t n) = let k = some_leaf t in (ElementType ∷ k.0, contains-mapped (λ p. ElementType ∷ p) k.0 (leaves t) k.1)
some_leaf (fixed_size_list t s n) = let k = some_leaf t in (ElementType ∷ k.0, contains-mapped (λ p. ElementType ∷ p) k.0 (leaves t) k.1)
some_leaf (struct no_items n) = ([], contains-head [] [])
some_leaf (struct (item m t _ rest) n) = let k = some_leaf t in (Name m ∷ k.0, leaf_of_field [] (item m t tt rest) m k.0 t refl (named_first m m t rest (same_name m)) k.1)
some_leaf _ = ([], contains-head [] [])

pub leaf_after : (t x : Tree) (f : Field) (q : List Field) → step t f ≡ Some x → Contains (leaves x) q → Contains (leaves t) (f ∷ q)
leaf_after (struct no_items n) x (Name m) q e c = cc
leaf_after (struct (item k t _ rest) n) x (Name m) q e c = leaf_of_field [] (item k t tt rest) m q x refl e c
leaf_after (list t n) x ElementType q e c = contains-mapped (λ p. ElementType ∷ p) q (leaves t) (subst (λ z. Contains (leaves z) q) (sym (same_Some t x e)) c)
leaf_after (fixed_size_list t k n) x ElementType q e c = contains-mapped (λ p. ElementType ∷ p) q (leaves t) (subst (λ z. Contains (leaves z) q) (sym (same_Some t x e)) c)
leaf_after _ x _ q e c = cc

-- how a leaf of a type goes on after its first step
record LeafAfter (t : Tree) (f : Field) (q : List Field) : Type 0 where
  part : Tree
  at : step t f ≡ Some part
  leaf : Contains (leaves part) q

abbrev head_of : Field → List Field → Field
head_of g [] = g
head_of g (f ∷ q) = f

abbrev tail_of : List Field → List Field
tail_of [] = []
tail_of (f ∷ q) = q

-- the first step of a leaf that begins with g
stepped : (t x : Tree) (f g : Field) (q r : List Field) → f ∷ q ≡ g ∷ r → step t g ≡ Some x → Contains (leaves x) r → LeafAfter t f q
stepped t x f g q r e at c = record {
  part = x;
  at = ap (step t) (ap (head_of g) e) ∙ at;
  leaf = subst (Contains (leaves x)) (sym (ap tail_of e)) c;
}

leaf_step : (t : Tree) (f : Field) (q : List Field) → Contains (leaves t) (f ∷ q) → LeafAfter t f q
leaf_step (list t n) f q c = let w = after_each ElementType (leaves t) (f ∷ q) c in stepped (list t n) t f ElementType q w.0 w.1 refl w.2
leaf_step (fixed_size_list t k n) f q c = let w = after_each ElementType (leaves t) (f ∷ q) c in stepped (fixed_size_list t k n) t f ElementType q w.0 w.1 refl w.2
leaf_step (struct no_items n) f q c = absurd (root_alone f q c)
leaf_step (struct (item m t _ rest) n) f q c =
    let k = field_leaf [] (item m t tt rest) (f ∷ q) c in
    stepped (struct (item m t tt rest) n) k.part f (Name k.name) q k.rest k.path k.at k.leaf
leaf_step _ f q c = absurd (root_alone f q c)

-- the root is a leaf exactly where no step leads further
root_ends : (t : Tree) → Contains (leaves t) [] → (f : Field) → step t f ≡ None
root_ends (list t n) c f = let w = after_each ElementType (leaves t) [] c in let e = w.1 in cc
root_ends (fixed_size_list t k n) c f = let w = after_each ElementType (leaves t) [] c in let e = w.1 in cc
root_ends (struct no_items n) c (Name m) = refl
root_ends (struct no_items n) c ElementType = refl
root_ends (struct (item m t _ rest) n) c f = let k = field_leaf [] (item m t tt rest) [] c in let e = k.path in cc
root_ends _ c f = refl

ends_root : (t : Tree) → ((f : Field) → step t f ≡ None) → Contains (leaves t) []
ends_root (list t n) h = let e = h ElementType in cc
ends_root (fixed_size_list t k n) h = let e = h ElementType in cc
ends_root (struct no_items n) h = contains-head [] []
ends_root (struct (item m t _ rest) n) h = let e : Some t ≡ None = sym (named_first m m t rest (same_name m)) ∙ h (Name m) in cc
ends_root _ h = contains-head [] []

-- ---- which the leaves are

pub leaf_is : (t : Tree) (p : List Field) → Contains (leaves t) p → IsLeaf t p
leaf_is t [] c = record { part = t; at = refl; ends = root_ends t c }
leaf_is t (f ∷ p) c =
    let k = leaf_step t f p c in
    let l = leaf_is k.part p k.leaf in
    record { part = l.part; at = (k.part, k.at, l.at); ends = l.ends }

pub is_leaf : (t : Tree) (p : List Field) → IsLeaf t p → Contains (leaves t) p
is_leaf t [] l = ends_root t (subst (λ x. (f : Field) → step x f ≡ None) (sym l.at) l.ends)
is_leaf t (f ∷ p) l = leaf_after t l.at.0 f p l.at.1 (is_leaf l.at.0 p (record { part = l.part; at = l.at.2; ends = l.ends }))

pub listed_where : (t : Tree) (p : List Field) → Contains (leaves t) p ↔ IsLeaf t p
listed_where t p = (leaf_is t p, is_leaf t p)

-- no leaf is a prefix of another
pub alone : (t : Tree) (p q : List Field) → IsLeaf t p → IsLeaf t q → Beginning p q → p ≡ q
alone t p q a b ([], e) = sym (e ∙ append-nil p)
alone t p q a b (f ∷ rest, e) =
    let j = (at_joined t b.part p (f ∷ rest)).0 (subst (λ r. At t r b.part) e b.at) in
    let same : j.0 ≡ a.part = one_type_at t j.0 a.part p j.1 a.at in
    let ends : step j.0 f ≡ None = ap (λ z. step z f) same ∙ a.ends f in
    let goes : step j.0 f ≡ Some j.2.0 = j.2.1 in
    let no : None ≡ Some j.2.0 = sym ends ∙ goes in cc

-- a path exists exactly where it is a prefix of a leaf
pub leaf_behind : (t : Tree) (p : List Field) → ExistsIn t p → (q : List Field) × IsLeaf t q × Beginning p q
leaf_behind t p x =
    let k = some_leaf x.found in
    let l = leaf_is x.found k.0 k.1 in
    (p ++ k.0, record { part = l.part; at = (at_joined t l.part p k.0).1 (x.found, x.at, l.at); ends = l.ends }, (k.0, refl))

pub exists_before : (t : Tree) (p q : List Field) → IsLeaf t q → Beginning p q → ExistsIn t p
exists_before t p q l b = beginning_exists_in t p q b (record { found = l.part; at = l.at })

pub prefix_of_leaf : (t : Tree) (p : List Field) → ExistsIn t p ↔ ((q : List Field) × IsLeaf t q × Beginning p q)
prefix_of_leaf t p = (leaf_behind t p, λ k. exists_before t p k.0 k.1 k.2)

-- the set of them
pub set_of_leaves : (t : Tree) (s : PathSet) → s ≡ set_of (leaves t) → (p : List Field) → IsTrue (set.contains s p) ↔ IsLeaf t p
set_of_leaves t s e p = (
  λ h. leaf_is t p ((from_list-Decides (leaves t) p).0 (ap (λ z. set.contains z p) (sym e) ∙ h)),
  λ l. ap (λ z. set.contains z p) e ∙ (from_list-Decides (leaves t) p).1 (is_leaf t p l),
)
