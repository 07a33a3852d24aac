-- SPDX-License-Identifier: Apache-2.0
-- SPDX-FileCopyrightText: Copyright the Vortex contributors

-- A type without what some paths lead to: that these paths lead nowhere in it, where the other paths lead, when something
-- is left, and that it is valid where the type is.
use Rattle.std.proofs.Common.{arith, ◌≡◌, ◌↔◌, ℕ, zero, suc, List, [], ◌∷◌, Option, Some, None, IsSome, IfSome, IsTrue, true, false, inl, inr, refl, sym, ap, subst, ◌∙◌}
use Rattle.std.specs.FinSet as set
use Rattle.std.specs.Option.{option_map}
use Rattle.std.specs.Str.{bytes_eq}
use Rattle.std.proofs.lemmas.Option.{same_Some}
use Rattle.std.proofs.lemmas.Slice.Eq.{bytes_eq-Decides}
use Rattle.dtype_types.specs.nullability.Nullable.{nullability}
use Rattle.dtype_types.specs.parts.Lookups.{first_named}
use Rattle.dtype_types.specs.tree.Tree.{Tree, Fields, no_items, item, field, pairs, list, fixed_size_list, struct}
use Rattle.dtype_types.specs.tree.TreeOf.{tree}
use Rattle.dtype_types.specs.tree.Valid.{Valid, ValidItems}
use Rattle.dtype_types.specs.declared.dtype.DType.{DType}
use Rattle.dtype_paths.specs.Along.{along}
use Rattle.dtype_paths.specs.At.{At, ExistsIn, step}
use Rattle.dtype_paths.specs.Covering.{covers}
use Rattle.dtype_paths.specs.Overlaps.{Overlaps}
use Rattle.dtype_paths.specs.PathOrder.{PathSet}
use Rattle.dtype_paths.specs.PathPredicates.{PathPredicate, after_step, after_steps, contains_above, no_path}
use Rattle.dtype_paths.specs.declared.field.Field.{Field}
use Rattle.dtype_paths.specs.declared.field.Field.TheVariants.{Name, ElementType}
use Rattle.dtype_paths.proofs.lemmas.Cases.{by_bool, by_option}
use Rattle.dtype_paths.proofs.lemmas.SetCovers.{covers_word}
use Rattle.dtype_paths.proofs.lemmas.Stepping.{beginning_exists_in}
use Rattle.dtype_paths.proofs.lemmas.Walks.{At-along}
use Rattle.dtype_projection.specs.Projected.{prepend_kept}
use Rattle.dtype_edits.specs.Without.{elements, fields_without, without}

-- ---- without nothing, and without everything

mutual
  pub without_nothing : (t : Tree) → without t no_path ≡ Some t
  without_nothing (list t n) = ap (option_map (λ u. list u n)) (without_nothing t)
  without_nothing (fixed_size_list t k n) = ap (option_map (λ u. fixed_size_list u k n)) (without_nothing t)
  without_nothing (struct fs n) = ap (λ gs. Some (struct gs n)) (fields_without_nothing fs)
  without_nothing _ = refl

  fields_without_nothing : (fs : Fields) → fields_without fs no_path ≡ fs
  fields_without_nothing no_items = refl
  fields_without_nothing (item n t _ rest) = ap (λ o. prepend_kept n o (fields_without rest no_path)) (without_nothing t) ∙ ap (field n t) (fields_without_nothing rest)

pub without_root : (t : Tree) (w : PathPredicate) → w [] ≡ true → without t w ≡ None
without_root t w e = grind (arith, e)

-- ---- what is left out leads nowhere

-- what a step leads to in what is left is what is left of some type
record LeftOf (w : PathPredicate) (f : Field) (y : Tree) : Type 0 where
  whole : Tree
  is : without whole (after_step f w) ≡ Some y

left_field : (fs : Fields) (w : PathPredicate) (m : List ℕ) (y : Tree) → first_named (pairs (fields_without fs w)) m ≡ Some y → LeftOf w (Name m) y
left_field no_items w m y e = cc
left_field (item n t _ rest) w m y e = by_option (without t (after_step (Name n) w))
    (λ none. left_field rest w m y (sym (ap (λ o. first_named (pairs (prepend_kept n o (fields_without rest w))) m) none) ∙ e))
    (λ x is. let there : first_named (pairs (field n x (fields_without rest w))) m ≡ Some y = sym (ap (λ o. first_named (pairs (prepend_kept n o (fields_without rest w))) m) is) ∙ e in
    by_bool (bytes_eq n m)
    (λ same. let at : n ≡ m = (bytes_eq-Decides n m).0 same in
    let found : x ≡ y = grind (arith, there, same) in
    record { whole = t; is = sym (ap (λ k. without t (after_step (Name k) w)) at) ∙ is ∙ ap Some found })
    (λ other. left_field rest w m y (grind (arith, there, other))))

left_step : (t u y : Tree) (w : PathPredicate) (f : Field) → without t w ≡ Some u → step u f ≡ Some y → LeftOf w f y
left_step (list t n) u y w f e s = by_bool (w [])
    (λ root. let q : None ≡ Some u = sym (without_root (list t n) w root) ∙ e in cc)
    (λ root. by_option (without t (after_step ElementType w))
    (λ none. let q : None ≡ Some u = grind (arith, root, none, e) in cc)
    (λ x is. let made : list x n ≡ u = grind (arith, root, is, e) in grind (arith, made, s, is)))
left_step (fixed_size_list t k n) u y w f e s = by_bool (w [])
    (λ root. let q : None ≡ Some u = sym (without_root (fixed_size_list t k n) w root) ∙ e in cc)
    (λ root. by_option (without t (after_step ElementType w))
    (λ none. let q : None ≡ Some u = grind (arith, root, none, e) in cc)
    (λ x is. let made : fixed_size_list x k n ≡ u = grind (arith, root, is, e) in grind (arith, made, s, is)))
left_step (struct fs n) u y w f e s = by_bool (w [])
    (λ root. let q : None ≡ Some u = sym (without_root (struct fs n) w root) ∙ e in cc)
    (λ root. let made : struct (fields_without fs w) n ≡ u = grind (arith, root, e) in grind (arith, made, s, left_field fs w))
left_step t u y w f e s = by_bool (w [])
    (λ root. let q : None ≡ Some u = sym (without_root t w root) ∙ e in cc)
    (λ root. let made : t ≡ u = grind (arith, root, e) in let none = ap (λ z. step z f) made ∙ s in cc)

pub leads_nowhere : (p : List Field) (t u x : Tree) (w : PathPredicate) → without t w ≡ Some u → w p ≡ true → At u p x → ⊥
leads_nowhere [] t u x w e is a = let q : None ≡ Some u = sym (without_root t w is) ∙ e in cc
leads_nowhere (f ∷ p) t u x w e is a =
    let l = left_step t u a.0 w f e a.1 in
    leads_nowhere p l.whole a.0 x (after_step f w) l.is is a.2

-- ---- the other paths lead to what is left of what they led to

left_named : (fs : Fields) (w : PathPredicate) (m : List ℕ) (y v : Tree) → first_named (pairs fs) m ≡ Some y → without y (after_step (Name m) w) ≡ Some v → first_named (pairs (fields_without fs w)) m ≡ Some v
left_named no_items w m y v e is = cc
left_named (item n t _ rest) w m y v e is = by_bool (bytes_eq n m)
    (λ same. let at : n ≡ m = (bytes_eq-Decides n m).0 same in
    let found : t ≡ y = grind (arith, e, same) in
    let kept : without t (after_step (Name n) w) ≡ Some v = ap (λ k. without t (after_step (Name k) w)) at ∙ ap (λ z. without z (after_step (Name m) w)) found ∙ is in
    grind (arith, kept, same))
    (λ other. let later = left_named rest w m y v (grind (arith, e, other)) is in
    by_option (without t (after_step (Name n) w)) (λ none. grind (arith, none, later)) (λ x here. grind (arith, here, later, other)))

-- a step that isn't left out
record Entered (t : Tree) (w : PathPredicate) (f : Field) (v : Tree) : Type 0 where
  left : Tree
  is : without t w ≡ Some left
  leads : step left f ≡ Some v

entered : (t y v : Tree) (w : PathPredicate) (f : Field) → w [] ≡ false → step t f ≡ Some y → without y (after_step f w) ≡ Some v → Entered t w f v
entered (list t n) y v w ElementType root s is =
    let inner : without t (after_step ElementType w) ≡ Some v = ap (λ z. without z (after_step ElementType w)) (same_Some t y s) ∙ is in
    record { left = list v n; is = grind (arith, root, inner); leads = refl }
entered (fixed_size_list t k n) y v w ElementType root s is =
    let inner : without t (after_step ElementType w) ≡ Some v = ap (λ z. without z (after_step ElementType w)) (same_Some t y s) ∙ is in
    record { left = fixed_size_list v k n; is = grind (arith, root, inner); leads = refl }
entered (struct fs n) y v w (Name m) root s is =
    record { left = struct (fields_without fs w) n; is = grind (arith, root); leads = left_named fs w m y v s is }
entered _ y v w _ root s is = cc

-- a path that doesn't begin with one that is left out leads to what is left of what it led to
pub record LeadsIn (t : Tree) (w : PathPredicate) (q : List Field) (v : Tree) : Type 0 where
  pub left : Tree
  pub is : without t w ≡ Some left
  pub at : At left q v

not_root : (w : PathPredicate) (f : Field) (q : List Field) → contains_above w (f ∷ q) ≡ false → (w [] ≡ false) × (contains_above (after_step f w) q ≡ false)
not_root w f q e = grind (arith, e)

pub leads_above : (q : List Field) (t x v : Tree) (w : PathPredicate) → At t q x → contains_above w q ≡ false → without x (after_steps q w) ≡ Some v → LeadsIn t w q v
leads_above [] t x v w a e is = record { left = v; is = ap (λ z. without z w) a ∙ is; at = refl }
leads_above (f ∷ q) t x v w a e is =
    let r = not_root w f q e in
    let below = leads_above q a.0 x v (after_step f w) a.2 r.1 is in
    let k = entered t a.0 below.left w f r.0 a.1 below.is in
    record { left = k.left; is = k.is; at = (below.left, k.leads, below.at) }

-- ---- a path that overlaps none of those leads where it led

-- no contained path overlaps the path
abbrev pub Apart : PathPredicate → List Field → Type 0
Apart w q = (p : List Field) → IsTrue (w p) → Overlaps p q → ⊥

overlaps_after : (f : Field) (p q : List Field) → Overlaps p q → Overlaps (f ∷ p) (f ∷ q)
overlaps_after f p q o = elim o [
  | inl b ↦ inl (b.0, ap (λ z. f ∷ z) b.1)
  | inr b ↦ inr (b.0, ap (λ z. f ∷ z) b.1)
]

apart_after : (f : Field) (q : List Field) (w : PathPredicate) → Apart w (f ∷ q) → Apart (after_step f w) q
apart_after f q w apart p is o = apart (f ∷ p) is (overlaps_after f p q o)

apart_false : (p q : List Field) (w : PathPredicate) → Apart w q → Overlaps p q → w p ≡ false
apart_false p q w apart o = by_bool (w p) (λ is. absurd (apart p is o)) (λ no. no)

none_above : (q : List Field) (w : PathPredicate) → Apart w q → contains_above w q ≡ false
none_above [] w apart = apart_false [] [] w apart (inl ([], refl))
none_above (f ∷ q) w apart =
    let root : w [] ≡ false = apart_false [] (f ∷ q) w apart (inl (f ∷ q, refl)) in
    grind (arith, root, none_above q (after_step f w) (apart_after f q w apart))

none_after : (q p : List Field) (w : PathPredicate) → Apart w q → after_steps q w p ≡ false
none_after [] p w apart = apart_false p [] w apart (inr (p, refl))
none_after (f ∷ q) p w apart = none_after q p (after_step f w) (apart_after f q w apart)

pub leads_beside : (q : List Field) (t x : Tree) (w : PathPredicate) → At t q x → Apart w q → LeadsIn t w q x
leads_beside q t x w a apart =
    let none : after_steps q w ≡ no_path = λ i p. none_after q p w apart i in
    leads_above q t x x w a (none_above q w apart) (ap (without x) none ∙ without_nothing x)

-- ---- nothing is left exactly if an element that isn't below a struct is left out

-- a path of element steps that is left out, and that exists
pub record ElementsOut (t : Tree) (w : PathPredicate) : Type 0 where
  pub steps : ℕ
  pub out : w (elements steps) ≡ true
  pub exists : ExistsIn t (elements steps)

-- at the root, and below one element step
out_at_root : (t : Tree) (w : PathPredicate) → w [] ≡ true → ElementsOut t w
out_at_root t w root = record { steps = zero; out = root; exists = record { found = t; at = refl } }

out_below : (t u : Tree) (w : PathPredicate) → step t ElementType ≡ Some u → ElementsOut u (after_step ElementType w) → ElementsOut t w
out_below t u w s k = record { steps = suc k.steps; out = k.out; exists = record { found = k.exists.found; at = (u, s, k.exists.at) } }

pub elements_out : (t : Tree) (w : PathPredicate) → without t w ≡ None → ElementsOut t w
elements_out (list t n) w e = by_bool (w []) (out_at_root (list t n) w) (λ root.
    let none : without t (after_step ElementType w) ≡ None = by_option (without t (after_step ElementType w)) (λ no. no) (λ x is. let q : None ≡ Some (list x n) = grind (arith, root, is, e) in cc) in
    out_below (list t n) t w refl (elements_out t (after_step ElementType w) none))
elements_out (fixed_size_list t k n) w e = by_bool (w []) (out_at_root (fixed_size_list t k n) w) (λ root.
    let none : without t (after_step ElementType w) ≡ None = by_option (without t (after_step ElementType w)) (λ no. no) (λ x is. let q : None ≡ Some (fixed_size_list x k n) = grind (arith, root, is, e) in cc) in
    out_below (fixed_size_list t k n) t w refl (elements_out t (after_step ElementType w) none))
elements_out (struct fs n) w e = by_bool (w []) (out_at_root (struct fs n) w) (λ root. let q : None ≡ Some (struct (fields_without fs w) n) = grind (arith, root, e) in cc)
elements_out t w e = by_bool (w []) (out_at_root t w) (λ root. let q : None ≡ Some t = grind (arith, root, e) in cc)

pub out_of_elements : (k : ℕ) (t x : Tree) (w : PathPredicate) → w (elements k) ≡ true → At t (elements k) x → without t w ≡ None
out_of_elements zero t x w is a = without_root t w is
out_of_elements (suc k) (list t n) x w is a =
    let inner : without t (after_step ElementType w) ≡ None = ap (λ z. without z (after_step ElementType w)) (same_Some t a.0 a.1) ∙ out_of_elements k a.0 x (after_step ElementType w) is a.2 in
    grind (arith, inner)
out_of_elements (suc k) (fixed_size_list t j n) x w is a =
    let inner : without t (after_step ElementType w) ≡ None = ap (λ z. without z (after_step ElementType w)) (same_Some t a.0 a.1) ∙ out_of_elements k a.0 x (after_step ElementType w) is a.2 in
    grind (arith, inner)
out_of_elements (suc k) _ x w is a = let q = a.1 in cc

-- ---- validity and nullability

mutual
  pub valid_left : (t u : Tree) (w : PathPredicate) → without t w ≡ Some u → Valid t → Valid u
  valid_left (list t n) u w e h = grind (arith, e, h, valid_left t)
  valid_left (fixed_size_list t k n) u w e h = grind (arith, e, h, valid_left t)
  valid_left (struct fs n) u w e h = let inner = valid_fields fs w h in grind (arith, e, inner)
  valid_left t u w e h = grind (arith, e, h)

  valid_fields : (fs : Fields) (w : PathPredicate) → ValidItems fs → ValidItems (fields_without fs w)
  valid_fields no_items w h = h
  valid_fields (item n t _ rest) w h = grind (arith, h, valid_left t, valid_fields rest w)

same_nullability : (t u : Tree) (w : PathPredicate) → w [] ≡ false → without t w ≡ Some u → nullability u ≡ nullability t
same_nullability (list t n) u w root e = by_option (without t (after_step ElementType w))
    (λ none. let q : None ≡ Some u = grind (arith, root, none, e) in cc)
    (λ x is. let made : list x n ≡ u = grind (arith, root, is, e) in ap nullability (sym made))
same_nullability (fixed_size_list t k n) u w root e = by_option (without t (after_step ElementType w))
    (λ none. let q : None ≡ Some u = grind (arith, root, none, e) in cc)
    (λ x is. let made : fixed_size_list x k n ≡ u = grind (arith, root, is, e) in ap nullability (sym made))
same_nullability (struct fs n) u w root e = let made : struct (fields_without fs w) n ≡ u = grind (arith, root, e) in ap nullability (sym made)
same_nullability t u w root e = let made : t ≡ u = grind (arith, root, e) in ap nullability (sym made)

pub nullability_left : (t u : Tree) (w : PathPredicate) → without t w ≡ Some u → nullability u ≡ nullability t
nullability_left t u w e = by_bool (w []) (λ root. let q : None ≡ Some u = sym (without_root t w root) ∙ e in cc) (λ root. same_nullability t u w root e)

-- ---- the laws

pub elements_left_out : (t : Tree) (w : PathPredicate) → without t w ≡ None → (k : ℕ) × IsTrue (w (elements k)) × ExistsIn t (elements k)
elements_left_out t w e = let k = elements_out t w e in (k.steps, k.out, k.exists)

pub path_is_gone : (t u : Tree) (w : PathPredicate) (p : List Field) → without t w ≡ Some u → w p ≡ true → ExistsIn u p → ⊥
path_is_gone t u w p e is x = leads_nowhere p t u x.found w e is x.at

what_leads : (t u v : Tree) (w : PathPredicate) (q : List Field) → without t w ≡ Some u → LeadsIn t w q v → At u q v
what_leads t u v w q e l = subst (λ z. At z q v) (same_Some l.left u (sym l.is ∙ e)) l.at

pub path_above : (t u x v : Tree) (w : PathPredicate) (q : List Field) → without t w ≡ Some u → At t q x → contains_above w q ≡ false → without x (after_steps q w) ≡ Some v → At u q v
path_above t u x v w q e a none is = what_leads t u v w q e (leads_above q t x v w a none is)

pub path_beside : (t u x : Tree) (w : PathPredicate) (q : List Field) → without t w ≡ Some u → At t q x → Apart w q → At u q x
path_beside t u x w q e a apart = what_leads t u x w q e (leads_beside q t x w a apart)

-- ---- the clauses of `without_paths`

-- what holds of the result r, where it is what is left of t without the paths of s
pub clauses : (t : Tree) (s : PathSet) (r : Option DType) → option_map tree r ≡ without t (set.contains s) →
    (IsSome r ↔ ((k : ℕ) → IsTrue (set.contains s (elements k)) → ExistsIn t (elements k) → ⊥))
    × IfSome r (λ u. (q : List Field) → IsTrue (covers s q) → ExistsIn (tree u) q → ⊥)
    × IfSome r (λ u. (q : List Field) → ExistsIn t q → ((p : List Field) → IsTrue (set.contains s p) → Overlaps p q → ⊥) → along (tree u) q ≡ along t q)
    × IfSome r (λ u. nullability (tree u) ≡ nullability t)
    × (Valid t → IfSome r (λ u. Valid (tree u)))
clauses t s None is =
    let k = elements_out t (set.contains s) (sym is) in
    ((λ i. cc, λ no. absurd (no k.steps k.out k.exists)), tt, tt, tt, λ h. tt)
clauses t s (Some u) is = (
  (λ i k out x. let none = is ∙ out_of_elements k t x.found (set.contains s) out x.at in cc, λ no. refl),
  λ q c x. let r = (covers_word s q).0 c in let b = beginning_exists_in (tree u) r.0 q r.2 x in leads_nowhere r.0 t (tree u) b.found (set.contains s) (sym is) r.1 b.at,
  λ q x apart. At-along (tree u) q x.found (path_beside t (tree u) x.found (set.contains s) q (sym is) x.at apart) ∙ sym (At-along t q x.found x.at),
  nullability_left t (tree u) (set.contains s) (sym is),
  valid_left t (tree u) (set.contains s) (sym is),
)
