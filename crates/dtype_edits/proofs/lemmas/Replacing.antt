-- SPDX-License-Identifier: Apache-2.0
-- SPDX-FileCopyrightText: Copyright the Vortex contributors

-- A type with the part at a path replaced: where it exists, where paths lead in it, what replacing again makes, and that
-- it is valid where both types are.
use Rattle.std.proofs.Common.{◌≡◌, ◌≢◌, ◌↔◌, ℕ, List, [], ◌∷◌, ◌++◌, Option, Some, None, IsSome, IfSome, option_and_then, cond, true, false, inl, inr, refl, sym, ap, subst, ◌∙◌}
use Rattle.std.specs.Option.{option_map}
use Rattle.std.specs.Str.{bytes_eq}
use Rattle.std.proofs.lemmas.Bool.{false≢true}
use Rattle.std.proofs.lemmas.Option.{same_Some}
use Rattle.std.proofs.lemmas.Slice.Eq.{bytes_eq-Decides}
use Rattle.dtype_types.specs.parts.Lookups.{first_named}
use Rattle.dtype_types.specs.tree.Tree.{Tree, Fields, no_items, item, field, pairs, list, fixed_size_list, struct}
use Rattle.dtype_types.specs.tree.TreeOf.{tree}
use Rattle.dtype_types.specs.tree.Valid.{Valid, ValidItems}
use Rattle.dtype_types.specs.declared.dtype.DType.{DType}
use Rattle.dtype_paths.specs.Along.{along}
use Rattle.dtype_paths.specs.At.{At, ExistsIn, step}
use Rattle.dtype_paths.specs.Equality.{same_field}
use Rattle.dtype_paths.specs.EqualityLaws.{same_field-Decides}
use Rattle.dtype_paths.specs.Overlaps.{Overlaps}
use Rattle.dtype_paths.specs.declared.field.Field.{Field}
use Rattle.dtype_paths.specs.declared.field.Field.TheVariants.{Name, ElementType}
use Rattle.dtype_paths.proofs.lemmas.Cases.{by_bool, by_option}
use Rattle.dtype_paths.proofs.lemmas.Stepping.{valid_along}
use Rattle.dtype_paths.proofs.lemmas.Walks.{along-At}
use Rattle.dtype_edits.specs.Replaced.{with_field, with_part, replaced}

-- ---- the fields of a struct, by whether the first has the name

-- what `with_field` makes of fields whose first has the name, and of fields whose first has another
at_first : (m n : List ℕ) (u t : Tree) (rest : Fields) → bytes_eq n m ≡ true → with_field m u (field n t rest) ≡ field n u rest
at_first m n u t rest same = ap (λ b. cond b (field n u rest) (field n t (with_field m u rest))) same

past_first : (m n : List ℕ) (u t : Tree) (rest : Fields) → bytes_eq n m ≡ false → with_field m u (field n t rest) ≡ field n t (with_field m u rest)
past_first m n u t rest other = ap (λ b. cond b (field n u rest) (field n t (with_field m u rest))) other

named_first : (m n : List ℕ) (t : Tree) (rest : Fields) → bytes_eq n m ≡ true → first_named (pairs (field n t rest)) m ≡ Some t
named_first m n t rest same = ap (λ b. cond b (Some t) (first_named (pairs rest) m)) same

named_past : (m n : List ℕ) (t : Tree) (rest : Fields) → bytes_eq n m ≡ false → first_named (pairs (field n t rest)) m ≡ first_named (pairs rest) m
named_past m n t rest other = ap (λ b. cond b (Some t) (first_named (pairs rest) m)) other

-- the name finds the new type
found_field : (m : List ℕ) (u x : Tree) (fs : Fields) → first_named (pairs fs) m ≡ Some x → first_named (pairs (with_field m u fs)) m ≡ Some u
found_field m u x no_items e = cc
found_field m u x (item n t _ rest) e = by_bool (bytes_eq n m)
    (λ same. ap (λ gs. first_named (pairs gs) m) (at_first m n u t rest same) ∙ named_first m n u rest same)
    (λ other. ap (λ gs. first_named (pairs gs) m) (past_first m n u t rest other) ∙ named_past m n t (with_field m u rest) other
    ∙ found_field m u x rest (sym (named_past m n t rest other) ∙ e))

-- and each other name what it found
other_field : (m k : List ℕ) (u : Tree) (fs : Fields) → m ≢ k → first_named (pairs (with_field m u fs)) k ≡ first_named (pairs fs) k
other_field m k u no_items ne = refl
other_field m k u (item n t _ rest) ne = by_bool (bytes_eq n m)
    (λ same. let is = (bytes_eq-Decides n m).0 same in
    let apart : bytes_eq n k ≡ false = by_bool (bytes_eq n k) (λ both. absurd (ne (sym is ∙ (bytes_eq-Decides n k).0 both))) (λ no. no) in
    ap (λ gs. first_named (pairs gs) k) (at_first m n u t rest same) ∙ named_past k n u rest apart ∙ sym (named_past k n t rest apart))
    (λ other. ap (λ gs. first_named (pairs gs) k) (past_first m n u t rest other) ∙ ap (cond (bytes_eq n k) (Some t)) (other_field m k u rest ne))

-- with the type that the name finds, the fields are as they were
same_field_again : (m : List ℕ) (x : Tree) (fs : Fields) → first_named (pairs fs) m ≡ Some x → with_field m x fs ≡ fs
same_field_again m x no_items e = refl
same_field_again m x (item n t _ rest) e = by_bool (bytes_eq n m)
    (λ same. at_first m n x t rest same ∙ ap (λ z. field n z rest) (sym (same_Some t x (sym (named_first m n t rest same) ∙ e))))
    (λ other. past_first m n x t rest other ∙ ap (field n t) (same_field_again m x rest (sym (named_past m n t rest other) ∙ e)))

-- of two types one after another the last counts
last_field : (m : List ℕ) (u v : Tree) (fs : Fields) → with_field m v (with_field m u fs) ≡ with_field m v fs
last_field m u v no_items = refl
last_field m u v (item n t _ rest) = by_bool (bytes_eq n m)
    (λ same. ap (with_field m v) (at_first m n u t rest same) ∙ at_first m n v u rest same ∙ sym (at_first m n v t rest same))
    (λ other. ap (with_field m v) (past_first m n u t rest other) ∙ past_first m n v t (with_field m u rest) other
    ∙ ap (field n t) (last_field m u v rest) ∙ sym (past_first m n v t rest other))

valid_field : (m : List ℕ) (u : Tree) (fs : Fields) → ValidItems fs → Valid u → ValidItems (with_field m u fs)
valid_field m u no_items h v = h
valid_field m u (item n t _ rest) h v = by_bool (bytes_eq n m)
    (λ same. subst ValidItems (sym (at_first m n u t rest same)) (v, h.1))
    (λ other. subst ValidItems (sym (past_first m n u t rest other)) (h.0, valid_field m u rest h.1 v))

-- ---- the part after one step

pub step_there : (t x u : Tree) (f : Field) → step t f ≡ Some x → step (with_part t f u) f ≡ Some u
step_there (struct fs n) x u (Name m) e = found_field m u x fs e
step_there (list t n) x u ElementType e = refl
step_there (fixed_size_list t k n) x u ElementType e = refl
step_there _ x u _ e = cc

pub step_beside : (t u : Tree) (f g : Field) → f ≢ g → step (with_part t f u) g ≡ step t g
step_beside (struct fs n) u (Name m) (Name k) ne = other_field m k u fs (λ e. ne (ap Name e))
step_beside (struct fs n) u (Name m) ElementType ne = refl
step_beside (struct fs n) u ElementType g ne = refl
step_beside (list t n) u ElementType ElementType ne = absurd (ne refl)
step_beside (list t n) u ElementType (Name k) ne = refl
step_beside (list t n) u (Name m) g ne = refl
step_beside (fixed_size_list t s n) u ElementType ElementType ne = absurd (ne refl)
step_beside (fixed_size_list t s n) u ElementType (Name k) ne = refl
step_beside (fixed_size_list t s n) u (Name m) g ne = refl
step_beside _ u f g ne = refl

part_again : (t x : Tree) (f : Field) → step t f ≡ Some x → with_part t f x ≡ t
part_again (struct fs n) x (Name m) e = ap (λ gs. struct gs n) (same_field_again m x fs e)
part_again (list t n) x ElementType e = ap (λ z. list z n) (sym (same_Some t x e))
part_again (fixed_size_list t k n) x ElementType e = ap (λ z. fixed_size_list z k n) (sym (same_Some t x e))
part_again _ x _ e = cc

last_part : (t u v : Tree) (f : Field) → with_part (with_part t f u) f v ≡ with_part t f v
last_part (struct fs n) u v (Name m) = ap (λ gs. struct gs n) (last_field m u v fs)
last_part (struct fs n) u v ElementType = refl
last_part (list t n) u v ElementType = refl
last_part (list t n) u v (Name m) = refl
last_part (fixed_size_list t k n) u v ElementType = refl
last_part (fixed_size_list t k n) u v (Name m) = refl
last_part _ u v f = refl

valid_part : (t u : Tree) (f : Field) → Valid t → Valid u → Valid (with_part t f u)
valid_part (struct fs n) u (Name m) h v = valid_field m u fs h v
valid_part (list t n) u ElementType h v = v
valid_part (fixed_size_list t k n) u ElementType h v = (h.0, v)
valid_part _ u _ h v = h

-- ---- the part at a path

-- how the part at a path of at least one step is replaced
record Taken (t r u : Tree) (f : Field) (p : List Field) : Type 0 where
  part : Tree
  made : Tree
  at : step t f ≡ Some part
  below : replaced part p u ≡ Some made
  is : with_part t f made ≡ r

taken : (t r u : Tree) (f : Field) (p : List Field) → replaced t (f ∷ p) u ≡ Some r → Taken t r u f p
taken t r u f p e =
    let from = λ (o : Option Tree). option_and_then (λ x. option_map (with_part t f) (replaced x p u)) o in
    by_option (step t f)
    (λ none. let q : None ≡ Some r = sym (ap from none) ∙ e in cc)
    (λ x is. by_option (replaced x p u)
    (λ none. let q : None ≡ Some r = sym (ap from is ∙ ap (option_map (with_part t f)) none) ∙ e in cc)
    (λ y below. record {
      part = x;
      made = y;
      at = is;
      below = below;
      is = same_Some (with_part t f y) r (sym (ap from is ∙ ap (option_map (with_part t f)) below) ∙ e);
    }))

-- a part is replaced exactly where there is one
pub exists_where : (t r u : Tree) (p : List Field) → replaced t p u ≡ Some r → ExistsIn t p
exists_where t r u [] e = record { found = t; at = refl }
exists_where t r u (f ∷ p) e =
    let k = taken t r u f p e in
    let b = exists_where k.part k.made u p k.below in
    record { found = b.found; at = (k.part, k.at, b.at) }

pub replaced_where : (t x u : Tree) (p : List Field) → At t p x → (r : Tree) × (replaced t p u ≡ Some r)
replaced_where t x u [] a = (u, refl)
replaced_where t x u (f ∷ p) a =
    let b = replaced_where a.0 x u p a.2 in
    (with_part t f b.0, ap (option_and_then (λ y. option_map (with_part t f) (replaced y p u))) a.1 ∙ ap (option_map (with_part t f)) b.1)

-- the path leads to the new type
pub leads_there : (t r u : Tree) (p : List Field) → replaced t p u ≡ Some r → along r p ≡ Some u
leads_there t r u [] e = sym e
leads_there t r u (f ∷ p) e =
    let k = taken t r u f p e in
    sym (ap (λ z. along z (f ∷ p)) k.is)
    ∙ ap (option_and_then (λ x. along x p)) (step_there t k.part k.made f k.at)
    ∙ leads_there k.part k.made u p k.below

-- no overlap after the same step
apart_after : (f g : Field) (p q : List Field) → f ≡ g → ¬ (Overlaps (f ∷ p) (g ∷ q)) → ¬ (Overlaps p q)
apart_after f g p q is apart o = elim o [
  | inl b ↦ apart (inl (b.0, ap (λ z. z ∷ q) (sym is) ∙ ap (λ z. f ∷ z) b.1))
  | inr b ↦ apart (inr (b.0, ap (λ z. z ∷ p) is ∙ ap (λ z. g ∷ z) b.1))
]

-- a path beside it leads where it led
pub leads_beside : (t r u : Tree) (p q : List Field) → replaced t p u ≡ Some r → ¬ (Overlaps p q) → along r q ≡ along t q
leads_beside t r u [] q e apart = absurd (apart (inl (q, refl)))
leads_beside t r u (f ∷ p) [] e apart = absurd (apart (inr (f ∷ p, refl)))
leads_beside t r u (f ∷ p) (g ∷ q) e apart =
    let k = taken t r u f p e in
    let after = λ (o : Option Tree). option_and_then (λ x. along x q) o in
    by_bool (same_field f g)
    (λ s. let is = (same_field-Decides f g).0 s in
    sym (ap (λ z. along z (g ∷ q)) k.is)
    ∙ ap (λ h. after (step (with_part t f k.made) h)) (sym is)
    ∙ ap after (step_there t k.part k.made f k.at)
    ∙ leads_beside k.part k.made u p q k.below (apart_after f g p q is apart)
    ∙ sym (ap after (ap (step t) (sym is) ∙ k.at)))
    (λ no. sym (ap (λ z. along z (g ∷ q)) k.is) ∙ ap after (step_beside t k.made f g (λ e. false≢true (sym no ∙ (same_field-Decides f g).1 e))))

-- at a prefix of it, there is what was there with the rest of the path replaced
pub leads_above : (t r u : Tree) (q p : List Field) → replaced t (q ++ p) u ≡ Some r → along r q ≡ option_and_then (λ x. replaced x p u) (along t q)
leads_above t r u [] p e = sym e
leads_above t r u (f ∷ q) p e =
    let k = taken t r u f (q ++ p) e in
    sym (ap (λ z. along z (f ∷ q)) k.is)
    ∙ ap (option_and_then (λ x. along x q)) (step_there t k.part k.made f k.at)
    ∙ leads_above k.part k.made u q p k.below
    ∙ sym (ap (λ o. option_and_then (λ x. replaced x p u) (option_and_then (λ x. along x q) o)) k.at)

-- with what is there, the type is as it was
pub replaced_by_itself : (t x : Tree) (p : List Field) → At t p x → replaced t p x ≡ Some t
replaced_by_itself t x [] a = ap Some (sym a)
replaced_by_itself t x (f ∷ p) a =
    ap (option_and_then (λ y. option_map (with_part t f) (replaced y p x))) a.1
    ∙ ap (option_map (with_part t f)) (replaced_by_itself a.0 x p a.2)
    ∙ ap Some (part_again t a.0 f a.1)

-- of two one after another the last counts
pub replaced_again : (t r u v : Tree) (p : List Field) → replaced t p u ≡ Some r → replaced r p v ≡ replaced t p v
replaced_again t r u v [] e = refl
replaced_again t r u v (f ∷ p) e =
    let k = taken t r u f p e in
    sym (ap (λ z. replaced z (f ∷ p) v) k.is)
    ∙ ap (option_and_then (λ x. option_map (with_part (with_part t f k.made) f) (replaced x p v))) (step_there t k.part k.made f k.at)
    ∙ ap (option_map (with_part (with_part t f k.made) f)) (replaced_again k.part k.made u v p k.below)
    ∙ ap (λ (g : Tree → Tree). option_map g (replaced k.part p v)) (λ i z. last_part t k.made z f i)
    ∙ sym (ap (option_and_then (λ x. option_map (with_part t f) (replaced x p v))) k.at)

pub replaced_valid : (t r u : Tree) (p : List Field) → replaced t p u ≡ Some r → Valid t → Valid u → Valid r
replaced_valid t r u [] e h v = subst Valid (same_Some u r e) v
replaced_valid t r u (f ∷ p) e h v =
    let k = taken t r u f p e in
    let inner = valid_along t (f ∷ []) k.part h (k.part, k.at, refl) in
    subst Valid k.is (valid_part t k.made f h (replaced_valid k.part k.made u p k.below inner v))

-- what holds of the result r of replacing the part of t at p by u
pub clauses : (t u : Tree) (p : List Field) (r : Option DType) → option_map tree r ≡ replaced t p u →
    (IsSome r ↔ ExistsIn t p)
    × IfSome r (λ d. At (tree d) p u)
    × IfSome r (λ d. (q : List Field) → ¬ (Overlaps p q) → along (tree d) q ≡ along t q)
    × (Valid t → Valid u → IfSome r (λ d. Valid (tree d)))
clauses t u p None is = ((λ i. cc, λ x. let w = replaced_where t x.found u p x.at in let q = is ∙ w.1 in cc), tt, tt, λ h v. tt)
clauses t u p (Some d) is = (
  (λ i. exists_where t (tree d) u p (sym is), λ x. refl),
  along-At (tree d) p u (leads_there t (tree d) u p (sym is)),
  λ q. leads_beside t (tree d) u p q (sym is),
  replaced_valid t (tree d) u p (sym is),
)
