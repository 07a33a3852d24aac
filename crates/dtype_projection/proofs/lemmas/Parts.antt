-- SPDX-License-Identifier: Apache-2.0
-- SPDX-FileCopyrightText: Copyright the Vortex contributors

-- The parts of a type: an order, in which a path leads in a part to a part of what it leads to in the type. The projection
-- is the least part that has the paths, and no other type is. What it depends on, and how projections compose, follows.
use Rattle.std.proofs.Common.{◌≡◌, ℕ, ◌≢◌, ◌≤◌, inl, inr, length, List, [], ◌∷◌, true, IsTrue, Some, None, refl, sym, ap, subst, ◌∙◌, arith, append-nil}
use Rattle.std.specs.FinSet as set
use Rattle.std.specs.Option.{option_and_then}
use Rattle.dtype_types.specs.nullability.Nullable.{nullability}
use Rattle.dtype_types.specs.parts.Lookups.{first_named}
use Rattle.dtype_types.specs.tree.Tree.{Tree, Fields, no_items, field, pairs, list, fixed_size_list, struct, item, rest_of}
use Rattle.dtype_paths.specs.Along.{along}
use Rattle.dtype_paths.specs.At.{At, ExistsIn, step}
use Rattle.dtype_paths.specs.Beginning.{Beginning}
use Rattle.dtype_paths.specs.Covering.{covers, least}
use Rattle.dtype_paths.specs.PathOrder.{PathSet}
use Rattle.dtype_paths.specs.declared.field.Field.{Field}
use Rattle.dtype_paths.specs.declared.field.Field.TheVariants.{Name, ElementType}
use Rattle.dtype_paths.proofs.lemmas.Cases.{by_option}
use Rattle.dtype_paths.proofs.lemmas.SetCovers.{covers_least, covers_member, covers_word}
use Rattle.dtype_paths.proofs.lemmas.Stepping.{beginning_exists}
use Rattle.dtype_paths.proofs.lemmas.Walks.{along-At, At-along, along_joined}
use Rattle.dtype_projection.specs.IsPart.{IsPart, IsPartOfFields, HasPaths, IsLeastPart}
use Rattle.dtype_projection.specs.Projected.{PathPredicate, after_step, without_field, projected, projected_fields}
use Rattle.dtype_projection.proofs.lemmas.Projections.{kept_as_it_was, by_name, after_without_other, without_field_holds, each_projection, absent_kept, named_first, named_itself, kept_has_path, path_is_kept}

-- ---- a type is its own part, and has its parts' nullability

mutual
  pub part_itself : (t : Tree) → IsPart t t
  part_itself (list t n) = (t, refl, part_itself t)
  part_itself (fixed_size_list t k n) = (t, refl, part_itself t)
  part_itself (struct fs n) = (fs, refl, part_itself_fields fs)
  part_itself _ = refl

  part_itself_fields : (fs : Fields) → IsPartOfFields fs fs
  part_itself_fields no_items = refl
  part_itself_fields (item n t _ fs) = inl (t, fs, refl, part_itself t, part_itself_fields fs)

part_nullability : (t u : Tree) → IsPart t u → nullability u ≡ nullability t
part_nullability t u p = grind (arith, p)

-- ---- parts of each other are equal, since a part has no more fields

fewer : (fs gs : Fields) → IsPartOfFields fs gs → length (pairs gs) ≤ length (pairs fs)
fewer no_items gs p = grind (arith, p)
fewer (item n t _ fs) gs p = grind (arith, fewer fs, p)

mutual
  pub parts_equal : (t u : Tree) → IsPart t u → IsPart u t → u ≡ t
  parts_equal (list t n) u p q = grind (arith, parts_equal t, p, q)
  parts_equal (fixed_size_list t k n) u p q = grind (arith, parts_equal t, p, q)
  parts_equal (struct fs n) u p q = grind (arith, fields_equal fs, p, q)
  parts_equal t u p q = p

  fields_equal : (fs gs : Fields) → IsPartOfFields fs gs → IsPartOfFields gs fs → gs ≡ fs
  fields_equal no_items gs p q = p
  fields_equal (item n t _ fs) gs (inr p) q = absurd (omega (arith, fewer fs gs p.0, fewer gs (field n t fs) q))
  fields_equal (item n t _ fs) gs (inl p) q = elim (subst (λ hs. IsPartOfFields hs (field n t fs)) p.2 q) [
    | inr k ↦ absurd (omega (arith, fewer fs p.1 p.4, fewer p.1 (field n t fs) k.0))
    | inl k ↦
        let first : k.0 ≡ t = cc in
        let later : k.1 ≡ fs = sym (ap rest_of k.2) in
        p.2 ∙ (λ i. field n (parts_equal t p.0 p.3 (subst (IsPart p.0) first k.3) i) (fields_equal fs p.1 p.4 (subst (IsPartOfFields p.1) later k.4) i))
  ]

-- ---- a path leads in a part to a part of what it leads to in the type

first_of_part : (fs gs : Fields) (m : List ℕ) (y : Tree) → IsPartOfFields fs gs → first_named (pairs gs) m ≡ Some y → (x : Tree) × (first_named (pairs fs) m ≡ Some x) × IsPart x y
first_of_part no_items gs m y p e = grind (arith, p, e)
first_of_part (item n t _ fs) gs m y (inl p) e = by_name n m
    (λ b. grind (arith, p, e, b, named_itself n))
    (λ ne. let later = first_of_part fs p.1 m y p.4 in grind (arith, p.2, e, named_first n m t fs ne, named_first n m p.0 p.1 ne, later))
first_of_part (item n t _ fs) gs m y (inr p) e =
    let later = first_of_part fs gs m y p.0 e in by_name n m
    (λ b. absurd (grind (arith, p.1, b, e)))
    (λ ne. grind (arith, later, named_first n m t fs ne))

step_of_part : (t u z : Tree) (f : Field) → IsPart t u → step u f ≡ Some z → (x : Tree) × (step t f ≡ Some x) × IsPart x z
step_of_part (struct fs n) u z (Name m) p s = grind (arith, p, s, first_of_part fs)
step_of_part t u z f p s = grind (arith, p, s, part_itself)

pub path_of_part : (t u y : Tree) (q : List Field) → IsPart t u → At u q y → (x : Tree) × At t q x × IsPart x y
path_of_part t u y [] p a = (t, refl, rw (← a) p)
path_of_part t u y (f ∷ q) p a =
    let s = step_of_part t u a.0 f p a.1 in
    grind (arith, s, path_of_part s.0 a.0 y q s.2 a.2)

-- ---- the projection is a part

pub kept_part : (t u : Tree) (w : PathPredicate) → projected t w ≡ Some u → IsPart t u
kept_part = each_projection (λ t w u. IsPart t u) (λ fs w gs. IsPartOfFields fs gs) (record {
  whole = λ t w root. part_itself t;
  in_list = λ t x n w root p. (x, refl, p);
  in_fixed = λ t x k n w root p. (x, refl, p);
  in_struct = λ fs gs n w root some p. (gs, refl, p);
  none = λ w. refl;
  kept = λ n t x fs gs w is p q. inl (x, gs, refl, p, q);
  left = λ n t fs gs w none is q. inr (q, subst (λ hs. first_named (pairs hs) n ≡ None) (sym is) (absent_kept n fs w));
})

pub kept_nullability : (t u : Tree) (w : PathPredicate) → projected t w ≡ Some u → nullability u ≡ nullability t
kept_nullability t u w e = part_nullability t u (kept_part t u w e)

-- ---- a part that has the paths has the same projection

-- the same of fields: along the paths gs have what fs have
abbrev HasFieldPaths : Fields → PathPredicate → Fields → Type 0
HasFieldPaths fs w gs = (m : List ℕ) (q : List Field) → w (Name m ∷ q) ≡ true
    → option_and_then (λ z. along z q) (first_named (pairs gs) m) ≡ option_and_then (λ z. along z q) (first_named (pairs fs) m)

-- after the first field is left out, and its name with it
has_later : (n : List ℕ) (t : Tree) (rest gs hs : Fields) (w : PathPredicate) → ((m : List ℕ) → n ≢ m → first_named (pairs gs) m ≡ first_named (pairs hs) m)
    → HasFieldPaths (field n t rest) w gs → HasFieldPaths rest (without_field n w) hs
has_later n t rest gs hs w same h m q is = grind (arith, without_field_holds n w (Name m) q is, same m, h m q, named_first n m t rest)

-- of fields none of which has a name, leaving out the paths into it changes nothing
without_both : (m n : List ℕ) (w : PathPredicate) (p : List Field) → without_field m (without_field n w) p ≡ without_field n (without_field m w) p
without_both m n w p = grind arith

without_absent : (n : List ℕ) (gs : Fields) (w : PathPredicate) → first_named (pairs gs) n ≡ None → projected_fields gs (without_field n w) ≡ projected_fields gs w
without_absent n no_items w none = refl
without_absent n (item m t _ gs) w none =
    let both : without_field m (without_field n w) ≡ without_field n (without_field m w) = λ i p. without_both m n w p i in
    grind (arith, none, both, named_itself m t gs, after_without_other n m w, without_absent n gs (without_field m w), named_first m n t gs)

mutual
  projected_part : (t x : Tree) (w : PathPredicate) → IsPart t x → HasPaths t w x → projected x w ≡ projected t w
  projected_part (list t n) x w p h = grind (arith, p, h, projected_part t p.0 (after_step ElementType w))
  projected_part (fixed_size_list t k n) x w p h = grind (arith, p, h, projected_part t p.0 (after_step ElementType w))
  projected_part (struct fs n) x w p h = grind (arith, p, h, projected_part_fields fs p.0 w)
  projected_part t x w p h = ap (λ z. projected z w) p

  projected_part_fields : (fs gs : Fields) (w : PathPredicate) → IsPartOfFields fs gs → HasFieldPaths fs w gs → projected_fields gs w ≡ projected_fields fs w
  projected_part_fields no_items gs w p h = ap (λ hs. projected_fields hs w) p
  projected_part_fields (item n t _ fs) gs w (inl p) h =
      let same : HasFieldPaths (field n t fs) w (field n p.0 p.1) = rw p.2 at h in
      let on = projected_part t p.0 (after_step (Name n) w) p.3 (λ q b. rw (named_itself n p.0 p.1, named_itself n t fs) at (same n q b)) in
      grind (arith, p, on, projected_part_fields fs p.1 (without_field n w) p.4 (has_later n t fs (field n p.0 p.1) p.1 w (λ m ne. named_first n m p.0 p.1 ne) same))
  projected_part_fields (item n t _ fs) gs w (inr p) h =
      let none = by_option (projected t (after_step (Name n) w)) (λ e. e) (λ x is.
      let l = kept_has_path t x (after_step (Name n) w) is in
      absurd (grind (arith, p.1, h n l.path, l, named_itself n t fs, At-along t l.path))) in
      grind (arith, none, without_absent n gs w p.1, projected_part_fields fs gs (without_field n w) p.0 (has_later n t fs gs gs w (λ m ne. refl) h))

-- ---- the projection is the least part that has the paths, and no other type is

pub kept_is_least : (t u : Tree) (w : PathPredicate) → projected t w ≡ Some u → IsLeastPart t w u
kept_is_least t u w e = record {
  part = kept_part t u w e;
  has = λ p is. kept_as_it_was t u w p p e is ([], sym (append-nil p));
  least = λ x p h. kept_part x u w (projected_part t x w p h ∙ e);
}

pub least_is_kept : (t u : Tree) (w : PathPredicate) (p : List Field) → w p ≡ true → ExistsIn t p → IsLeastPart t w u → projected t w ≡ Some u
least_is_kept t u w p is x l =
    let k = path_is_kept p t x.found w is x.at in
    let m = kept_is_least t k.0 w k.1 in
    k.1 ∙ ap Some (parts_equal u k.0 (m.least u l.part l.has) (l.least k.0 m.part m.has))

-- ---- so it depends on what the paths cover alone

-- a path of w is a prefix of q
pub record Covered (w : PathPredicate) (q : List Field) : Type 0 where
  pub path : List Field
  pub holds : w path ≡ true
  pub begins : Beginning path q

-- w covers the paths of v that exist in t
pub record CoversIn (t : Tree) (w v : PathPredicate) : Type 0 where
  pub covered : (q : List Field) → v q ≡ true → ExistsIn t q → Covered w q

pub covered_set : (s : PathSet) (q : List Field) → covers s q ≡ true → Covered (set.contains s) q
covered_set s q e = let r = (covers_word s q).0 e in record { path = r.0; holds = r.1; begins = r.2 }

-- then w keeps something
pub covered_is_kept : (t : Tree) (w : PathPredicate) (q : List Field) → Covered w q → ExistsIn t q → (u : Tree) × (projected t w ≡ Some u)
covered_is_kept t w q c x = let a = beginning_exists t x.found c.path q c.begins x.at in path_is_kept c.path t a.0 w c.holds a.1

pub none_of_either : (t : Tree) (w v : PathPredicate) → CoversIn t w v → projected t w ≡ None → projected t v ≡ None
none_of_either t w v c none = by_option (projected t v) (λ e. e) (λ u is. let l = kept_has_path t u v is in grind (arith, none, covered_is_kept t w l.path, c.covered l.path, l))

-- and what has the paths of w has those of v
has_covered : (t x : Tree) (w v : PathPredicate) → CoversIn t w v → IsPart t x → HasPaths t w x → HasPaths t v x
has_covered t x w v c p h q is = by_option (along t q)
    (λ none. by_option (along x q) (λ e. e) (λ y at. let r = path_of_part t x y q p (along-At x q y at) in let e = sym none ∙ At-along t q r.0 r.1 in cc) ∙ sym none)
    (λ z at. grind (arith, along_joined, h, c.covered q is (record { found = z; at = along-At t q z at })))

same_projection : (t : Tree) (w v : PathPredicate) → CoversIn t w v → CoversIn t v w → projected t w ≡ projected t v
same_projection t w v c d = by_option (projected t w)
    (λ none. none ∙ sym (none_of_either t w v c none))
    (λ u is.
    let l = kept_has_path t u w is in
    let k = covered_is_kept t v l.path (d.covered l.path l.holds l.exists) l.exists in
    grind (arith, is, k, kept_is_least t u w is, kept_is_least t k.0 v k.1, parts_equal u k.0, has_covered t u w v c, has_covered t k.0 v w d))

-- sets that cover the same of the type's paths have the same projection
pub same_for_same_coverage : (t : Tree) (r s : PathSet) → ((q : List Field) → ExistsIn t q → covers r q ≡ covers s q) → projected t (set.contains r) ≡ projected t (set.contains s)
same_for_same_coverage t r s a = same_projection t (set.contains r) (set.contains s)
    (record { covered = λ q is e. covered_set r q (a q e ∙ covers_member s q is) })
    (record { covered = λ q is e. covered_set s q (sym (a q e) ∙ covers_member r q is) })

-- so the least paths of a set have the same projection as the set
pub same_for_least : (t : Tree) (s : PathSet) → projected t (set.contains (least s)) ≡ projected t (set.contains s)
same_for_least t s = same_for_same_coverage t (least s) s (λ q e. covers_least s q)

-- ---- and the projection of a projection to what is covered is that of the type

pub projection_of_projection : (t u : Tree) (s r : PathSet) → projected t (set.contains s) ≡ Some u → ((q : List Field) → IsTrue (set.contains r q) → ExistsIn t q → IsTrue (covers s q)) → projected u (set.contains r) ≡ projected t (set.contains r)
projection_of_projection t u s r e c =
    let m = kept_is_least t u (set.contains s) e in
    projected_part t u (set.contains r) m.part (has_covered t u (set.contains s) (set.contains r) (record { covered = λ q is x. covered_set s q (c q is x) }) m.part m.has)

pub projected_once : (t u : Tree) (s : PathSet) → projected t (set.contains s) ≡ Some u → projected u (set.contains s) ≡ Some u
projected_once t u s e = projection_of_projection t u s s e (λ q is x. covers_member s q is) ∙ e
