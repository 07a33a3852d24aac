-- SPDX-License-Identifier: Apache-2.0
-- SPDX-FileCopyrightText: Copyright the Vortex contributors

-- The projection of each kind of type, what holds of each projection, where steps and paths lead in it, which paths exist in
-- it, and that it is valid where the type is.
use Rattle.std.proofs.Common.{arith, ◌≡◌, ◌≢◌, ◌↔◌, IsSome, IsTrue, ℕ, List, [], ◌∷◌, ◌++◌, true, false, Option, Some, None, refl, sym, ap, subst, ◌∙◌, not, ◌&&◌, inl, inr, append-nil}
use Rattle.std.specs.Option.{option_and_then}
use Rattle.std.proofs.lemmas.Bool.{false≢true}
use Rattle.std.proofs.lemmas.Option.{same_Some}
use Rattle.std.specs.Str.{bytes_eq}
use Rattle.std.proofs.lemmas.Slice.Eq.{bytes_eq-Decides}
use Rattle.dtype_base.specs.declared.nullability.Nullability.{Nullability}
use Rattle.dtype_types.specs.parts.Lookups.{first_named}
use Rattle.dtype_types.specs.tree.Tree.{Tree, Fields, no_items, field, pairs, list, fixed_size_list, struct, item}
use Rattle.dtype_types.proofs.lemmas.Lookups.{other_name, taken_same_name}
use Rattle.dtype_paths.specs.Along.{along}
use Rattle.dtype_paths.specs.At.{At, ExistsIn, step}
use Rattle.dtype_paths.specs.PathPredicates.{no_path}
use Rattle.dtype_paths.specs.declared.field.Field.{Field}
use Rattle.dtype_paths.specs.declared.field.Field.TheVariants.{Name, ElementType}
use Rattle.dtype_paths.proofs.lemmas.Cases.{by_bool, by_option}
use Rattle.dtype_projection.specs.Projected.{PathPredicate, after_step, without_field, projected, projected_fields, struct_with, prepend_kept}
use Rattle.dtype_paths.specs.EqualityLaws.{same_field-Decides}
use Rattle.dtype_types.specs.tree.Valid.{Valid, ValidItems}
use Rattle.dtype_paths.specs.Beginning.{Beginning}
use Rattle.dtype_paths.specs.Overlaps.{Overlaps}
use Rattle.dtype_paths.proofs.lemmas.Stepping.{beginning_exists_in}
use Rattle.dtype_paths.proofs.lemmas.Walks.{along-At, At-along}

-- ---- path predicates after a step, and without the paths into a field

-- by whether two names are equal
pub by_name : {P : Type 0} (n m : List ℕ) → (n ≡ m → P) → (n ≢ m → P) → P
by_name n m same other = by_bool (bytes_eq n m) (λ e. same ((bytes_eq-Decides n m).0 e)) (λ e. other (λ q. let t : bytes_eq n m ≡ true = (bytes_eq-Decides n m).1 q in cc))

pub after_without_same : (n : List ℕ) (w : PathPredicate) → after_step (Name n) (without_field n w) ≡ no_path
after_without_same n w = λ i p. ap (λ b. not b && w (Name n ∷ p)) ((same_field-Decides (Name n) (Name n)).1 refl) i

pub after_without_other : (n m : List ℕ) (w : PathPredicate) → n ≢ m → after_step (Name m) (without_field n w) ≡ after_step (Name m) w
after_without_other n m w ne = λ i p. (let same : without_field n w (Name m ∷ p) ≡ w (Name m ∷ p) = grind (arith, ne, (same_field-Decides (Name n) (Name m)).0) in same) i

-- a path of `without_field n w` is one of w, and doesn't step into a field named n
pub without_field_holds : (n : List ℕ) (w : PathPredicate) (f : Field) (p : List Field) → without_field n w (f ∷ p) ≡ true → (Name n ≢ f) × (w (f ∷ p) ≡ true)
without_field_holds n w f p t = grind (arith, t, (same_field-Decides (Name n) f).1)

-- ---- the projection by whether w has the root

pub kept_root : (t : Tree) (w : PathPredicate) → w [] ≡ true → projected t w ≡ Some t
kept_root t w e = grind (arith, e)

pub whole_kept : (t u : Tree) (w : PathPredicate) → w [] ≡ true → projected t w ≡ Some u → t ≡ u
whole_kept t u w e is = same_Some t u (sym (kept_root t w e) ∙ is)

with_is : (n : Nullability) (gs : Fields) (u : Tree) → struct_with n gs ≡ Some u → struct gs n ≡ u
with_is n no_items u e = cc
with_is n (item m t _ gs) u e = same_Some _ u e

-- ---- one walk for all that holds of each projection

-- what has to be shown, kind by kind, for `P` of each projection, and for `Q` of the fields that are kept
pub record ByKind (P : Tree → PathPredicate → Tree → Type 0) (Q : Fields → PathPredicate → Fields → Type 0) : Type 0 where
  pub whole : (t : Tree) (w : PathPredicate) → w [] ≡ true → P t w t
  pub in_list : (t x : Tree) (n : Nullability) (w : PathPredicate) → w [] ≡ false → P t (after_step ElementType w) x → P (list t n) w (list x n)
  pub in_fixed : (t x : Tree) (k : ℕ) (n : Nullability) (w : PathPredicate) → w [] ≡ false → P t (after_step ElementType w) x → P (fixed_size_list t k n) w (fixed_size_list x k n)
  pub in_struct : (fs gs : Fields) (n : Nullability) (w : PathPredicate) → w [] ≡ false → gs ≢ no_items → Q fs w gs → P (struct fs n) w (struct gs n)
  pub none : (w : PathPredicate) → Q no_items w no_items
  pub kept : (n : List ℕ) (t x : Tree) (fs gs : Fields) (w : PathPredicate) → projected t (after_step (Name n) w) ≡ Some x → P t (after_step (Name n) w) x → Q fs (without_field n w) gs → Q (field n t fs) w (field n x gs)
  pub left : (n : List ℕ) (t : Tree) (fs gs : Fields) (w : PathPredicate) → projected t (after_step (Name n) w) ≡ None → gs ≡ projected_fields fs (without_field n w) → Q fs (without_field n w) gs → Q (field n t fs) w gs

module _ (P : Tree → PathPredicate → Tree → Type 0) (Q : Fields → PathPredicate → Fields → Type 0) (s : ByKind P Q) where
  -- by whether the type is kept whole
  by_root : (t u : Tree) (w : PathPredicate) → projected t w ≡ Some u → (w [] ≡ false → P t w u) → P t w u
  by_root t u w e below = by_bool (w []) (λ root. subst (P t w) (whole_kept t u w root e) (s.whole t w root)) below

  mutual
    pub each_projection : (t u : Tree) (w : PathPredicate) → projected t w ≡ Some u → P t w u
    each_projection (list t n) u w e = grind (arith, e, s.whole, s.in_list t, each_projection t)
    each_projection (fixed_size_list t k n) u w e = grind (arith, e, s.whole, s.in_fixed t, each_projection t)
    each_projection (struct fs n) u w e = by_root (struct fs n) u w e (λ root.
        let with : struct_with n (projected_fields fs w) ≡ Some u = rw root at e in
        subst (P (struct fs n) w) (with_is n (projected_fields fs w) u with) (s.in_struct fs (projected_fields fs w) n w root (λ none. grind (arith, none, with)) (each_fields fs w)))
    each_projection t u w e = by_root t u w e (λ root. let q = rw root at e in cc)

    each_fields : (fs : Fields) (w : PathPredicate) → Q fs w (projected_fields fs w)
    each_fields no_items w = s.none w
    each_fields (item n t _ rest) w = grind (arith, s.kept n t, s.left n t rest, each_projection t, each_fields rest (without_field n w))

-- ---- something is kept exactly where a path of w exists

pub named_first : (n m : List ℕ) (t : Tree) (rest : Fields) → n ≢ m → first_named (pairs (field n t rest)) m ≡ first_named (pairs rest) m
named_first n m t rest ne = other_name n m _ _ ne

pub named_itself : (n : List ℕ) (t : Tree) (rest : Fields) → first_named (pairs (field n t rest)) n ≡ Some t
named_itself n t rest = taken_same_name n n _ _ refl

-- a path of w that exists in the type
pub record ExistingPath (t : Tree) (w : PathPredicate) : Type 0 where
  pub path : List Field
  pub holds : w path ≡ true
  pub exists : ExistsIn t path

-- one that steps into a field
record EnteredField (fs : Fields) (w : PathPredicate) : Type 0 where
  name : List ℕ
  child : Tree
  first : first_named (pairs fs) name ≡ Some child
  below : ExistingPath child (after_step (Name name) w)

pub kept_has_path : (t u : Tree) (w : PathPredicate) → projected t w ≡ Some u → ExistingPath t w
kept_has_path = each_projection (λ t w u. ExistingPath t w) (λ fs w gs. gs ≢ no_items → EnteredField fs w) (grind (arith, without_field_holds, named_itself, named_first))

pub projected_nothing : (t : Tree) → projected t no_path ≡ None
projected_nothing t = by_option (projected t no_path) (λ e. e) (λ u is. let l = kept_has_path t u no_path is in let q = l.holds in cc)

-- ---- fields by name

first_there : (n m : List ℕ) (o : Option Tree) (gs : Fields) → n ≢ m → first_named (pairs (prepend_kept n o gs)) m ≡ first_named (pairs gs) m
first_there n m None gs ne = refl
first_there n m (Some u) gs ne = named_first n m u gs ne

-- the name of a field that is left out is absent
absent : (n : List ℕ) (rest : Fields) (w : PathPredicate) → first_named (pairs (projected_fields rest (without_field n w))) n ≡ option_and_then (λ x. projected x (after_step (Name n) (without_field n w))) (first_named (pairs rest) n) → first_named (pairs (projected_fields rest (without_field n w))) n ≡ None
absent n rest w e = grind (arith, e, after_without_same n w, projected_nothing)

-- by a name the projection has the projection of the first field of that name
pub first_kept : (fs : Fields) (w : PathPredicate) (m : List ℕ) → first_named (pairs (projected_fields fs w)) m ≡ option_and_then (λ x. projected x (after_step (Name m) w)) (first_named (pairs fs) m)
first_kept no_items w m = refl
first_kept (item n t _ rest) w m = by_name n m
    (λ e. grind (arith, e, absent n rest w (first_kept rest (without_field n w) n), named_itself n))
    (λ ne. grind (arith, first_there n m (projected t (after_step (Name n) w)) (projected_fields rest (without_field n w)) ne, first_kept rest (without_field n w) m, after_without_other n m w ne, named_first n m t rest ne))

pub absent_kept : (n : List ℕ) (rest : Fields) (w : PathPredicate) → first_named (pairs (projected_fields rest (without_field n w))) n ≡ None
absent_kept n rest w = absent n rest w (first_kept rest (without_field n w) n)

-- ---- a step into the projection

struct_step : (n : Nullability) (gs : Fields) (f : Field) → option_and_then (λ u. step u f) (struct_with n gs) ≡ step (struct gs n) f
struct_step n no_items f = grind arith
struct_step n (item m t _ gs) f = refl

steps_kept : (t : Tree) (w : PathPredicate) (f : Field) → w [] ≡ false → option_and_then (λ u. step u f) (projected t w) ≡ option_and_then (λ x. projected x (after_step f w)) (step t f)
steps_kept (struct fs n) w f root = grind (arith, root, struct_step n (projected_fields fs w), first_kept fs w)
steps_kept t w f root = grind (arith, root)

pub step_kept : (t u : Tree) (w : PathPredicate) (f : Field) → w [] ≡ false → projected t w ≡ Some u → step u f ≡ option_and_then (λ x. projected x (after_step f w)) (step t f)
step_kept t u w f root e = sym (ap (option_and_then (λ x. step x f)) e) ∙ steps_kept t w f root

pub path_is_kept : (p : List Field) (t x : Tree) (w : PathPredicate) → w p ≡ true → At t p x → (u : Tree) × (projected t w ≡ Some u)
path_is_kept [] t x w e a = (t, kept_root t w e)
path_is_kept (f ∷ p) t x w e a = grind (arith, kept_root t w, path_is_kept p a.0 x (after_step f w) e a.2, steps_kept t w f, a)

pub kept_exactly : (t : Tree) (w : PathPredicate) → IsSome (projected t w) ↔ ((p : List Field) × IsTrue (w p) × ExistsIn t p)
kept_exactly t w = (
  λ s. by_option (projected t w) (λ none. absurd (false≢true (subst IsSome none s))) (λ u is. let l = kept_has_path t u w is in (l.path, l.holds, l.exists)),
  λ r. subst IsSome (sym (path_is_kept r.0 t r.2.found w r.1 r.2.at).1) refl,
)

-- ---- what the projection has along a path

steps_join : {A B C : Type 0} (o : Option A) (h : A → Option B) (g : B → Option C) → option_and_then g (option_and_then h o) ≡ option_and_then (λ x. option_and_then g (h x)) o
steps_join o h g = grind (arith)

-- after the first step
pub along_step : (t : Tree) (w : PathPredicate) (f : Field) (p : List Field) → w [] ≡ false → option_and_then (λ u. along u (f ∷ p)) (projected t w) ≡ option_and_then (λ x. option_and_then (λ u. along u p) (projected x (after_step f w))) (step t f)
along_step t w f p root =
    sym (steps_join (projected t w) (λ u. step u f) (λ x. along x p))
    ∙ ap (option_and_then (λ x. along x p)) (steps_kept t w f root)
    ∙ steps_join (step t f) (λ x. projected x (after_step f w)) (λ x. along x p)

-- at or below a path of w it has what the type has
pub along_kept : (p r : List Field) (t : Tree) (w : PathPredicate) → w p ≡ true → option_and_then (λ u. along u (p ++ r)) (projected t w) ≡ along t (p ++ r)
along_kept [] r t w is = grind (arith, kept_root t w is)
along_kept (f ∷ p) r t w is = grind (arith, is, kept_root t w, along_step t w f (p ++ r), λ (x : Tree). along_kept p r x (after_step f w))

-- ---- how paths resolve in the projection

-- paths at or below those of w resolve as in the type
pub kept_as_it_was : (t u : Tree) (w : PathPredicate) (p q : List Field) → projected t w ≡ Some u → w p ≡ true → Beginning p q → along u q ≡ along t q
kept_as_it_was t u w p q e is b = grind (arith, b, e, along_kept p b.0 t w is)

-- ---- no other path exists in the projection

-- the path exists, and overlaps one of w that exists
abbrev Overlapped : Tree → PathPredicate → List Field → Type 0
Overlapped t w q = ExistsIn t q × ((p : List Field) × (w p ≡ true) × ExistsIn t p × Overlaps p q)

overlaps_on : (f : Field) (p q : List Field) → Overlaps p q → Overlaps (f ∷ p) (f ∷ q)
overlaps_on f p q o = grind (arith, o)

pub kept_overlaps : (q : List Field) (t u x : Tree) (w : PathPredicate) → projected t w ≡ Some u → At u q x → Overlapped t w q
kept_overlaps [] t u x w e a =
    let l = kept_has_path t u w e in (record { found = t; at = refl }, (l.path, l.holds, l.exists, inr (l.path, refl)))
kept_overlaps (f ∷ q) t u x w e a = by_bool (w [])
    (λ root. (record { found = x; at = subst (λ z. At z (f ∷ q) x) (sym (whole_kept t u w root e)) a }, ([], root, record { found = t; at = refl }, inl (f ∷ q, refl))))
    (λ root. by_option (step t f)
    (λ none. let s = sym a.1 ∙ step_kept t u w f root e ∙ ap (option_and_then (λ x. projected x (after_step f w))) none in cc)
    (λ y at. let s = sym (sym a.1 ∙ step_kept t u w f root e ∙ ap (option_and_then (λ x. projected x (after_step f w))) at) in
    let r = kept_overlaps q y a.0 x (after_step f w) s a.2 in
    let on : (p : List Field) → ExistsIn y p → ExistsIn t (f ∷ p) = λ p c. record { found = c.found; at = (y, at, c.at) } in
    (on q r.0, (f ∷ r.1.0, r.1.1, on r.1.0 r.1.2, overlaps_on f r.1.0 q r.1.3))))

-- and each path of the type that overlaps one that exists does
still_there : (t u : Tree) (w : PathPredicate) (p q : List Field) → projected t w ≡ Some u → w p ≡ true → Beginning p q → ExistsIn t q → ExistsIn u q
still_there t u w p q e is b x = record { found = x.found; at = along-At u q x.found (kept_as_it_was t u w p q e is b ∙ At-along t q x.found x.at) }

overlapping_kept : (t u : Tree) (w : PathPredicate) (p q : List Field) → projected t w ≡ Some u → w p ≡ true → ExistsIn t p → Overlaps p q → ExistsIn t q → ExistsIn u q
overlapping_kept t u w p q e is there (inl b) x = still_there t u w p q e is b x
overlapping_kept t u w p q e is there (inr b) x = beginning_exists_in u q p b (still_there t u w p p e is ([], sym (append-nil p)) there)

pub exists_in_kept : (t u : Tree) (w : PathPredicate) (q : List Field) → projected t w ≡ Some u
    → ExistsIn u q ↔ Overlapped t w q
exists_in_kept t u w q e = (
  λ x. kept_overlaps q t u x.found w e x.at,
  λ x. overlapping_kept t u w x.1.0 q e x.1.1 x.1.2 x.1.3 x.0,
)

-- ---- the projection of a valid type is valid

pub valid_kept : (t u : Tree) (w : PathPredicate) → projected t w ≡ Some u → Valid t → Valid u
valid_kept = each_projection (λ t w u. Valid t → Valid u) (λ fs w gs. ValidItems fs → ValidItems gs) (grind arith)
