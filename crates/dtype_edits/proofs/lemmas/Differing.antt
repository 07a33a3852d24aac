-- SPDX-License-Identifier: Apache-2.0
-- SPDX-FileCopyrightText: Copyright the Vortex contributors

-- The differences of two types: that there are none exactly if the types are equal, to which types their paths lead, and
-- that no two paths overlap.
use Rattle.std.proofs.Common.{◌≡◌, ◌≢◌, ◌↔◌, ◌&&◌, ◌||◌, ◌==◌, Bool, ℕ, List, [], ◌∷◌, ◌++◌, Option, Some, None, cond, true, false, inl, inr, map, option_and_then, refl, sym, ap, subst, ◌∙◌, arith, get_or}
use Rattle.std.specs.Cmp.Lexicographic.{pointwise}
use Rattle.std.specs.List.{AllPairs, Contains, filter}
use Rattle.std.specs.Option.{is_none, is_some}
use Rattle.std.specs.Str.{bytes_eq}
use Rattle.std.proofs.lemmas.Bool.Decides.{Decides-eqb}
use Rattle.std.proofs.lemmas.List.Elements.{Contains-append_cases}
use Rattle.std.proofs.lemmas.List.Kept.{AllPairs-cons}
use Rattle.std.proofs.lemmas.Option.{get_or_from_slice_get, same_Some, slice_get-get_or}
use Rattle.std.proofs.lemmas.Slice.Eq.{bytes_eq-Decides}
use Rattle.dtype_base.specs.declared.nullability.Nullability.{Nullability}
use Rattle.dtype_base.specs.declared.nullability.Nullability.TheVariants.{NonNullable, Nullable}
use Rattle.dtype_types.specs.equality.Equality.{same_by}
use Rattle.dtype_types.specs.equality.EqualityLaws.{equal_under-Decides}
use Rattle.dtype_types.specs.parts.Lookups.{field_names, first_named}
use Rattle.dtype_types.specs.tree.Erase.{erase, erase_items}
use Rattle.dtype_types.specs.tree.Tree.{Tree, Fields, no_items, item, pairs, rest_of, list, fixed_size_list, struct}
use Rattle.dtype_types.proofs.lemmas.Equality.{names_Decide}
use Rattle.dtype_types.proofs.lemmas.Lookups.{other_name, taken_same_name}
use Rattle.dtype_types.proofs.lemmas.Presence.{among_is_placed, placed_is_named}
use Rattle.dtype_paths.specs.Along.{along}
use Rattle.dtype_paths.specs.Overlaps.{Overlaps}
use Rattle.dtype_paths.specs.declared.field.Field.{Field}
use Rattle.dtype_paths.specs.declared.field.Field.TheVariants.{Name, ElementType}
use Rattle.dtype_paths.proofs.lemmas.Cases.{by_bool, by_option}
use Rattle.dtype_paths.proofs.lemmas.ListMembers.{contains-cons, contains-head, contains-map, contains-nil, contains-tail}
use Rattle.dtype_edits.specs.Differences.{Difference, added, allowed, by_name, common_names, differences, each_below, in_field, in_fields, no_repeats, nothing_ignored, nullability_ignored, same_nullability, seen, whole}
use Rattle.dtype_edits.specs.declared.difference.Ignoring.{Ignoring}
use Rattle.dtype_edits.proofs.DifferenceTests.{same_mark}

-- ---- tests

both : (a b : Bool) → a ≡ true → b ≡ true → (a && b) ≡ true
both a b e f = ap (λ x. x && b) e ∙ f

pub each : (a b : Bool) → (a && b) ≡ true → (a ≡ true) × (b ≡ true)
each true b e = (refl, e)
each false b e = cc

none_is : {A : Type 0} (o : Option A) → is_none o ≡ true → o ≡ None
none_is None e = refl
none_is (Some a) e = cc

some_is : {A : Type 0} (o : Option A) (a : A) → o ≡ Some a → is_none o ≡ true → ⊥
some_is None a e n = cc
some_is (Some b) a e n = cc

no_both : {A : Type 0} (xs ys : List A) → xs ++ ys ≡ [] → (xs ≡ []) × (ys ≡ [])
no_both [] ys e = (refl, e)
no_both (x ∷ xs) ys e = cc

-- ---- two types as a whole

-- two types are the same as they are compared, which depends on whether nullabilities are ignored
abbrev Same : Bool → Tree → Tree → Type 0
Same b t u = cond b (erase t) t ≡ cond b (erase u) u

abbrev SameItems : Bool → Fields → Fields → Type 0
SameItems b fs gs = cond b (erase_items fs) fs ≡ cond b (erase_items gs) gs

whole_none : (i : Ignoring) (t u : Tree) → Same i.nullability t u → whole i t u ≡ []
whole_none i t u e = ap (λ b. cond b [] (([], (Some t, Some u)) ∷ [])) ((equal_under-Decides (seen i t) (seen i u)).1 e)

none_whole : (i : Ignoring) (t u : Tree) → whole i t u ≡ [] → Same i.nullability t u
none_whole i t u e = by_bool (same_by (seen i) t u)
    (λ yes. (equal_under-Decides (seen i t) (seen i u)).0 yes)
    (λ no. let k : ([], (Some t, Some u)) ∷ [] ≡ [] = sym (ap (λ b. cond b [] (([], (Some t, Some u)) ∷ [])) no) ∙ e in cc)

pub marks : (m n : Nullability) → same_nullability m n ≡ true → m ≡ n
marks NonNullable NonNullable e = refl
marks Nullable Nullable e = refl
marks NonNullable Nullable e = cc
marks Nullable NonNullable e = cc

list_same : (b : Bool) (t u : Tree) (m n : Nullability) → (b || same_nullability m n) ≡ true → Same b t u → Same b (list t m) (list u n)
list_same true t u m n a e = ap (λ x. list x NonNullable) e
list_same false t u m n a e = ap (λ x. list x m) e ∙ ap (list u) (marks m n a)

list_parts : (b : Bool) (t u : Tree) (m n : Nullability) → Same b (list t m) (list u n) → ((b || same_nullability m n) ≡ true) × Same b t u
list_parts true t u m n e = (refl, cc)
list_parts false t u m n e = (same_mark m n (cc), cc)

sized_same : (b : Bool) (t u : Tree) (j k : ℕ) (m n : Nullability) → (b || same_nullability m n) ≡ true → j ≡ k → Same b t u → Same b (fixed_size_list t j m) (fixed_size_list u k n)
sized_same true t u j k m n a size e = ap (λ x. fixed_size_list x j NonNullable) e ∙ ap (λ z. fixed_size_list (erase u) z NonNullable) size
sized_same false t u j k m n a size e = ap (λ x. fixed_size_list x j m) e ∙ ap (λ z. fixed_size_list u z m) size ∙ ap (fixed_size_list u k) (marks m n a)

sized_parts : (b : Bool) (t u : Tree) (j k : ℕ) (m n : Nullability) → Same b (fixed_size_list t j m) (fixed_size_list u k n) → ((b || same_nullability m n) ≡ true) × (j ≡ k) × Same b t u
sized_parts true t u j k m n e = (refl, cc, cc)
sized_parts false t u j k m n e = (same_mark m n (cc), cc, cc)

struct_same : (b : Bool) (fs gs : Fields) (m n : Nullability) → (b || same_nullability m n) ≡ true → SameItems b fs gs → Same b (struct fs m) (struct gs n)
struct_same true fs gs m n a e = ap (λ x. struct x NonNullable) e
struct_same false fs gs m n a e = ap (λ x. struct x m) e ∙ ap (struct gs) (marks m n a)

struct_parts : (b : Bool) (fs gs : Fields) (m n : Nullability) → Same b (struct fs m) (struct gs n) → SameItems b fs gs
struct_parts true fs gs m n e = cc
struct_parts false fs gs m n e = cc

items_same : (b : Bool) (m n : List ℕ) (t u : Tree) (fs gs : Fields) → m ≡ n → Same b t u → SameItems b fs gs → SameItems b (item m t tt fs) (item n u tt gs)
items_same true m n t u fs gs name e rest = cc (name, e, rest)
items_same false m n t u fs gs name e rest = cc (name, e, rest)

items_parts : (b : Bool) (m n : List ℕ) (t u : Tree) (fs gs : Fields) → SameItems b (item m t tt fs) (item n u tt gs) → (m ≡ n) × Same b t u × SameItems b fs gs
items_parts true m n t u fs gs e = (cc, cc, ap rest_of e)
items_parts false m n t u fs gs e = (cc, cc, ap rest_of e)

not_empty : (b : Bool) (n : List ℕ) (t : Tree) (fs : Fields) → SameItems b no_items (item n t tt fs) → ⊥
not_empty true n t fs e = cc
not_empty false n t fs e = cc

not_longer : (b : Bool) (n : List ℕ) (t : Tree) (fs : Fields) → SameItems b (item n t tt fs) no_items → ⊥
not_longer true n t fs e = cc
not_longer false n t fs e = cc

none_below : (f : Field) (ds : List Difference) → each_below f ds ≡ [] → ds ≡ []
none_below f [] e = refl
none_below f (d ∷ ds) e = cc

-- ---- names

same : (m n : List ℕ) → m ≡ n → bytes_eq m n ≡ true
same m n e = (bytes_eq-Decides m n).1 e

-- a name that a list lacks isn't that of its first field, and the others lack it
lacked : (p : List ℕ × Tree) (ps : List (List ℕ × Tree)) (n : List ℕ) → first_named (p ∷ ps) n ≡ None → (p.0 ≢ n) × (first_named ps n ≡ None)
lacked p ps n none = by_bool (bytes_eq p.0 n)
    (λ yes. let k : Some p.1 ≡ None = sym (ap (λ b. cond b (Some p.1) (first_named ps n)) yes) ∙ none in cc)
    (λ no. let rest : first_named ps n ≡ None = sym (ap (λ b. cond b (Some p.1) (first_named ps n)) no) ∙ none in
    ((λ e. let k : true ≡ false = sym (same p.0 n e) ∙ no in cc), rest))

-- every field is in the other struct if none is removed
none_removed : (i : Ignoring) (fs gs : Fields) → in_fields i fs gs ≡ [] → common_names (pairs fs) (pairs gs) ≡ field_names (pairs fs)
none_removed i no_items gs e = refl
none_removed i (item n t _ fs) gs e =
    let parts = no_both (in_field n t (λ u. differences i t u) (first_named (pairs gs) n)) (in_fields i fs gs) e in
    by_option (first_named (pairs gs) n)
    (λ none. let k : in_field n t (λ u. differences i t u) None ≡ [] = sym (ap (in_field n t (λ u. differences i t u)) none) ∙ parts.0 in cc)
    (λ u some.
    ap (λ o. cond (is_some o) (n ∷ common_names (pairs fs) (pairs gs)) (common_names (pairs fs) (pairs gs))) some
    ∙ ap (λ ns. n ∷ ns) (none_removed i fs gs parts.1))

none_added : (fs gs : List (List ℕ × Tree)) → added fs gs ≡ [] → common_names gs fs ≡ field_names gs
none_added fs [] e = refl
none_added fs (g ∷ gs) e = by_option (first_named fs g.0)
    (λ none. let k : (Name g.0 ∷ [], (None, Some g.1)) ∷ added fs gs ≡ [] =
    sym (ap (λ o. map (λ h. (Name h.0 ∷ [], (None, Some h.1))) (cond (is_none o) (g ∷ filter (λ h. is_none (first_named fs h.0)) gs) (filter (λ h. is_none (first_named fs h.0)) gs))) none) ∙ e in cc)
    (λ u some.
    let rest : added fs gs ≡ [] =
    sym (ap (λ o. map (λ h. (Name h.0 ∷ [], (None, Some h.1))) (cond (is_none o) (g ∷ filter (λ h. is_none (first_named fs h.0)) gs) (filter (λ h. is_none (first_named fs h.0)) gs))) some) ∙ e in
    ap (λ o. cond (is_some o) (g.0 ∷ common_names gs fs) (common_names gs fs)) some ∙ ap (λ ns. g.0 ∷ ns) (none_added fs gs rest))

-- nothing is added if the names are the same
named_by : (fs : List (List ℕ × Tree)) (n : List ℕ) → Contains (field_names fs) n → is_none (first_named fs n) ≡ false
named_by fs n c = flip (first_named fs n) (placed_is_named fs n ∙ among_is_placed (field_names fs) n c)
  where
    flip : {A : Type 0} (o : Option A) → is_some o ≡ true → is_none o ≡ false
    flip None e = cc
    flip (Some a) e = refl

none_lacked : (fs gs : List (List ℕ × Tree)) → ((n : List ℕ) → Contains (field_names gs) n → is_none (first_named fs n) ≡ false) → added fs gs ≡ []
none_lacked fs [] h = refl
none_lacked fs (g ∷ gs) h =
    ap (λ b. map (λ k. (Name k.0 ∷ [], (None, Some k.1))) (cond b (g ∷ filter (λ k. is_none (first_named fs k.0)) gs) (filter (λ k. is_none (first_named fs k.0)) gs))) (h g.0 (contains-head g.0 (field_names gs)))
    ∙ none_lacked fs gs (λ n c. h n (contains-tail g.0 n (field_names gs) c))

-- equal fields have the same names
same_names : (b : Bool) (fs gs : Fields) → SameItems b fs gs → field_names (pairs fs) ≡ field_names (pairs gs)
same_names b no_items no_items e = refl
same_names b (item m t _ fs) (item n u _ gs) e =
    let k = items_parts b m n t u fs gs e in
    ap (λ z. z ∷ field_names (pairs fs)) k.0 ∙ ap (λ ns. n ∷ ns) (same_names b fs gs k.2)
same_names b no_items (item n u _ gs) e = absurd (not_empty b n u gs e)
same_names b (item m t _ fs) no_items e = absurd (not_longer b m t fs e)

-- fields with other names are compared with the fields after one
drop_first : (i : Ignoring) (n : List ℕ) (u : Tree) (fs gs : Fields) → first_named (pairs fs) n ≡ None → in_fields i fs (item n u tt gs) ≡ in_fields i fs gs
drop_first i n u no_items gs none = refl
drop_first i n u (item m t _ fs) gs none =
    let k = lacked (m, t) (pairs fs) n none in
    ap (λ o. in_field m t (λ x. differences i t x) o ++ in_fields i fs (item n u tt gs)) (other_name n m (Some u) (first_named (pairs gs) m) (λ e. k.0 (sym e)))
    ∙ ap (λ ds. in_field m t (λ x. differences i t x) (first_named (pairs gs) m) ++ ds) (drop_first i n u fs gs k.1)

-- two structs of the same names, field by field
one_by_one : (i : Ignoring) (m n : List ℕ) (t u : Tree) (fs gs : Fields) → m ≡ n → first_named (pairs fs) m ≡ None
    → in_fields i (item m t tt fs) (item n u tt gs) ≡ each_below (Name m) (differences i t u) ++ in_fields i fs gs
one_by_one i m n t u fs gs e none =
    ap (λ o. in_field m t (λ x. differences i t x) o ++ in_fields i fs (item n u tt gs)) (taken_same_name n m (Some u) (first_named (pairs gs) m) (sym e))
    ∙ ap (λ ds. each_below (Name m) (differences i t u) ++ ds) (drop_first i n u fs gs (ap (first_named (pairs fs)) (sym e) ∙ none))

head_name : (m n : List ℕ) (ms ns : List (List ℕ)) → m ∷ ms ≡ n ∷ ns → (m ≡ n) × (ms ≡ ns)
head_name m n ms ns e = (cc, cc)

-- ---- no difference, by a rule for the nullabilities

pub struct_differences : (i : Ignoring) (fs gs : Fields) (m n : Nullability) (b : Bool) → (allowed i m n && by_name i (pairs fs) (pairs gs)) ≡ b
    → differences i (struct fs m) (struct gs n) ≡ cond b (in_fields i fs gs ++ added (pairs fs) (pairs gs)) (whole i (struct fs m) (struct gs n))
struct_differences i fs gs m n b e = ap (λ c. cond c (in_fields i fs gs ++ added (pairs fs) (pairs gs)) (whole i (struct fs m) (struct gs n))) e

pub list_differences : (i : Ignoring) (t u : Tree) (m n : Nullability) (b : Bool) → allowed i m n ≡ b
    → differences i (list t m) (list u n) ≡ cond b (each_below ElementType (differences i t u)) (whole i (list t m) (list u n))
list_differences i t u m n b e = ap (λ c. cond c (each_below ElementType (differences i t u)) (whole i (list t m) (list u n))) e

pub sized_differences : (i : Ignoring) (t u : Tree) (j k : ℕ) (m n : Nullability) (b : Bool) → (allowed i m n && (j == k)) ≡ b
    → differences i (fixed_size_list t j m) (fixed_size_list u k n) ≡ cond b (each_below ElementType (differences i t u)) (whole i (fixed_size_list t j m) (fixed_size_list u k n))
sized_differences i t u j k m n b e = ap (λ c. cond c (each_below ElementType (differences i t u)) (whole i (fixed_size_list t j m) (fixed_size_list u k n))) e

-- what the test of names says
pub record ByName (i : Ignoring) (fs gs : List (List ℕ × Tree)) : Type 0 where
  pub first : no_repeats fs ≡ true
  pub second : no_repeats gs ≡ true
  pub ordered : (i.order || pointwise bytes_eq (common_names fs gs) (common_names gs fs)) ≡ true

pub by_name_is : (i : Ignoring) (fs gs : List (List ℕ × Tree)) → by_name i fs gs ≡ true → ByName i fs gs
by_name_is i fs gs e =
    let a = each (no_repeats fs) (no_repeats gs && (i.order || pointwise bytes_eq (common_names fs gs) (common_names gs fs))) e in
    let b = each (no_repeats gs) (i.order || pointwise bytes_eq (common_names fs gs) (common_names gs fs)) a.1 in
    record { first = a.0; second = b.0; ordered = b.1 }

in_order : (i : Ignoring) (fs gs : List (List ℕ × Tree)) → i.order ≡ false → ByName i fs gs → common_names fs gs ≡ common_names gs fs
in_order i fs gs counts h =
    (names_Decide (common_names fs gs) (common_names gs fs) (pointwise bytes_eq (common_names fs gs) (common_names gs fs)) refl).0
    (sym (ap (λ b. b || pointwise bytes_eq (common_names fs gs) (common_names gs fs)) counts) ∙ h.ordered)

mutual
  equal_if_none : (i : Ignoring) → i.order ≡ false → (t u : Tree) → differences i t u ≡ [] → Same i.nullability t u
  equal_if_none i o (list t m) (list u n) h = by_bool (allowed i m n)
      (λ yes. list_same i.nullability t u m n yes (equal_if_none i o t u (none_below ElementType (differences i t u) (sym (list_differences i t u m n true yes) ∙ h))))
      (λ no. none_whole i (list t m) (list u n) (sym (list_differences i t u m n false no) ∙ h))
  equal_if_none i o (fixed_size_list t j m) (fixed_size_list u k n) h = by_bool (allowed i m n && (j == k))
      (λ yes.
      let tests = each (allowed i m n) (j == k) yes in
      sized_same i.nullability t u j k m n tests.0 ((Decides-eqb j k).0 tests.1) (equal_if_none i o t u (none_below ElementType (differences i t u) (sym (sized_differences i t u j k m n true yes) ∙ h))))
      (λ no. none_whole i (fixed_size_list t j m) (fixed_size_list u k n) (sym (sized_differences i t u j k m n false no) ∙ h))
  equal_if_none i o (struct fs m) (struct gs n) h = by_bool (allowed i m n && by_name i (pairs fs) (pairs gs))
      (λ yes.
      let tests = each (allowed i m n) (by_name i (pairs fs) (pairs gs)) yes in
      let named = by_name_is i (pairs fs) (pairs gs) tests.1 in
      let none = no_both (in_fields i fs gs) (added (pairs fs) (pairs gs)) (sym (struct_differences i fs gs m n true yes) ∙ h) in
      let names : field_names (pairs fs) ≡ field_names (pairs gs) = sym (none_removed i fs gs none.0) ∙ in_order i (pairs fs) (pairs gs) o named ∙ none_added (pairs fs) (pairs gs) none.1 in
      struct_same i.nullability fs gs m n tests.0 (items_equal_if_none i o fs gs names named.first none.0))
      (λ no. none_whole i (struct fs m) (struct gs n) (sym (struct_differences i fs gs m n false no) ∙ h))
  equal_if_none i o t u h = none_whole i t u h

  items_equal_if_none : (i : Ignoring) → i.order ≡ false → (fs gs : Fields) → field_names (pairs fs) ≡ field_names (pairs gs) → no_repeats (pairs fs) ≡ true → in_fields i fs gs ≡ [] → SameItems i.nullability fs gs
  items_equal_if_none i o no_items no_items names once h = refl
  items_equal_if_none i o (item m t _ fs) (item n u _ gs) names once h =
      let name = head_name m n (field_names (pairs fs)) (field_names (pairs gs)) names in
      let alone = each (is_none (first_named (pairs fs) m)) (no_repeats (pairs fs)) once in
      let none = no_both (each_below (Name m) (differences i t u)) (in_fields i fs gs) (sym (one_by_one i m n t u fs gs name.0 (none_is (first_named (pairs fs) m) alone.0)) ∙ h) in
      items_same i.nullability m n t u fs gs name.0
      (equal_if_none i o t u (none_below (Name m) (differences i t u) none.0))
      (items_equal_if_none i o fs gs name.1 alone.1 none.1)
  items_equal_if_none i o _ _ names once h = cc

mutual
  none_if_equal : (i : Ignoring) (t u : Tree) → Same i.nullability t u → differences i t u ≡ []
  none_if_equal i (list t m) (list u n) h =
      let k = list_parts i.nullability t u m n h in
      list_differences i t u m n true k.0 ∙ ap (each_below ElementType) (none_if_equal i t u k.1)
  none_if_equal i (fixed_size_list t j m) (fixed_size_list u k n) h =
      let e = sized_parts i.nullability t u j k m n h in
      sized_differences i t u j k m n true (both (allowed i m n) (j == k) e.0 ((Decides-eqb j k).1 e.1)) ∙ ap (each_below ElementType) (none_if_equal i t u e.2)
  none_if_equal i (struct fs m) (struct gs n) h = by_bool (allowed i m n && by_name i (pairs fs) (pairs gs))
      (λ yes.
      let tests = each (allowed i m n) (by_name i (pairs fs) (pairs gs)) yes in
      let equal = struct_parts i.nullability fs gs m n h in
      let names = same_names i.nullability fs gs equal in
      struct_differences i fs gs m n true yes
      ∙ ap (λ ds. ds ++ added (pairs fs) (pairs gs)) (no_items_if_equal i fs gs (by_name_is i (pairs fs) (pairs gs) tests.1).first equal)
      ∙ none_lacked (pairs fs) (pairs gs) (λ k c. named_by (pairs fs) k (subst (λ ns. Contains ns k) (sym names) c)))
      (λ no. struct_differences i fs gs m n false no ∙ whole_none i (struct fs m) (struct gs n) h)
  none_if_equal i t u h = whole_none i t u h

  no_items_if_equal : (i : Ignoring) (fs gs : Fields) → no_repeats (pairs fs) ≡ true → SameItems i.nullability fs gs → in_fields i fs gs ≡ []
  no_items_if_equal i no_items gs once h = refl
  no_items_if_equal i (item m t _ fs) (item n u _ gs) once h =
      let k = items_parts i.nullability m n t u fs gs h in
      let alone = each (is_none (first_named (pairs fs) m)) (no_repeats (pairs fs)) once in
      one_by_one i m n t u fs gs k.0 (none_is (first_named (pairs fs) m) alone.0)
      ∙ ap (λ ds. each_below (Name m) ds ++ in_fields i fs gs) (none_if_equal i t u k.1)
      ∙ no_items_if_equal i fs gs alone.1 k.2
  no_items_if_equal i (item m t _ fs) no_items once h = absurd (not_longer i.nullability m t fs h)

-- ---- no difference, of equal types

pub none_of_equal : (t u : Tree) → differences nothing_ignored t u ≡ [] ↔ t ≡ u
none_of_equal t u = (λ e. equal_if_none nothing_ignored refl t u e, λ e. none_if_equal nothing_ignored t u e)

pub none_of_erased : (t u : Tree) → differences nullability_ignored t u ≡ [] ↔ erase t ≡ erase u
none_of_erased t u = (λ e. equal_if_none nullability_ignored refl t u e, λ e. none_if_equal nullability_ignored t u e)

-- ---- where the paths lead

-- the types at the path of a difference are those that it has, and they differ
abbrev pub LeadsBoth : Tree → Tree → Difference → Type 0
LeadsBoth t u d = (along t d.0 ≡ d.1.0) × (along u d.0 ≡ d.1.1) × (d.1.0 ≢ d.1.1)

-- types that are listed as a whole are different
whole_differs : (i : Ignoring) (t u : Tree) → same_by (seen i) t u ≡ false → Some t ≢ Some u
whole_differs i t u other e = let k : true ≡ false = sym ((equal_under-Decides (seen i t) (seen i u)).1 (ap (seen i) (same_Some t u e))) ∙ other in cc

whole_leads : (i : Ignoring) (t u : Tree) (d : Difference) → Contains (whole i t u) d → LeadsBoth t u d
whole_leads i t u d c = by_bool (same_by (seen i) t u)
    (λ yes. absurd (contains-nil d (subst (λ b. Contains (cond b [] (([], (Some t, Some u)) ∷ [])) d) yes c)))
    (λ no. elim (contains-cons ([], (Some t, Some u)) d [] (subst (λ b. Contains (cond b [] (([], (Some t, Some u)) ∷ [])) d) no c)) [
      | inl e ↦ subst (λ k. LeadsBoth t u k) e (refl, refl, whole_differs i t u no)
      | inr none ↦ absurd (contains-nil d none)
    ])

-- a difference in a field: how its path begins, and where the rest leads
record InField (fs gs : Fields) (d : Difference) : Type 0 where
  name : List ℕ
  rest : List Field
  part : Tree
  path : d.0 ≡ Name name ∷ rest
  at : first_named (pairs fs) name ≡ Some part
  before : option_and_then (λ x. along x rest) (first_named (pairs fs) name) ≡ d.1.0
  after : option_and_then (λ x. along x rest) (first_named (pairs gs) name) ≡ d.1.1
  differ : d.1.0 ≢ d.1.1

one_of_filter : {X : Type 0} (p : X → Bool) (xs : List X) (x : X) → Contains (filter p xs) x → Contains xs x × (p x ≡ true)
one_of_filter p [] x c = absurd (contains-nil x c)
one_of_filter p (y ∷ ys) x c = by_bool (p y)
    (λ yes. elim (contains-cons y x (filter p ys) (subst (λ b. Contains (cond b (y ∷ filter p ys) (filter p ys)) x) yes c)) [
      | inl e ↦ (subst (Contains (y ∷ ys)) e (contains-head y ys), ap p (sym e) ∙ yes)
      | inr later ↦ let k = one_of_filter p ys x later in (contains-tail y x ys k.0, k.1)
    ])
    (λ no. let k = one_of_filter p ys x (subst (λ b. Contains (cond b (y ∷ filter p ys) (filter p ys)) x) no c) in (contains-tail y x ys k.0, k.1))

found_once : (gs : List (List ℕ × Tree)) (g : List ℕ × Tree) → no_repeats gs ≡ true → Contains gs g → first_named gs g.0 ≡ Some g.1
found_once [] g once c = absurd (contains-nil g c)
found_once (h ∷ gs) g once c =
    let alone = each (is_none (first_named gs h.0)) (no_repeats gs) once in
    elim (contains-cons h g gs c) [
      | inl e ↦ taken_same_name h.0 g.0 (Some h.1) (first_named gs g.0) (ap (λ k. k.0) e) ∙ ap (λ k. Some k.1) e
      | inr later ↦
          let at = found_once gs g alone.1 later in
          other_name h.0 g.0 (Some h.1) (first_named gs g.0) (λ e. some_is (first_named gs h.0) g.1 (ap (first_named gs) e ∙ at) alone.0) ∙ at
    ]

mutual
  difference_leads : (i : Ignoring) (t u : Tree) (d : Difference) → Contains (differences i t u) d → LeadsBoth t u d
  difference_leads i (list t m) (list u n) d c = by_bool (allowed i m n)
      (λ yes.
      let w = contains-map (λ k. (ElementType ∷ k.0, k.1)) (differences i t u) d (subst (λ ds. Contains ds d) (list_differences i t u m n true yes) c) in
      subst (λ k. LeadsBoth (list t m) (list u n) k) w.2 (difference_leads i t u w.0 w.1))
      (λ no. whole_leads i (list t m) (list u n) d (subst (λ ds. Contains ds d) (list_differences i t u m n false no) c))
  difference_leads i (fixed_size_list t j m) (fixed_size_list u k n) d c = by_bool (allowed i m n && (j == k))
      (λ yes.
      let w = contains-map (λ z. (ElementType ∷ z.0, z.1)) (differences i t u) d (subst (λ ds. Contains ds d) (sized_differences i t u j k m n true yes) c) in
      subst (λ z. LeadsBoth (fixed_size_list t j m) (fixed_size_list u k n) z) w.2 (difference_leads i t u w.0 w.1))
      (λ no. whole_leads i (fixed_size_list t j m) (fixed_size_list u k n) d (subst (λ ds. Contains ds d) (sized_differences i t u j k m n false no) c))
  difference_leads i (struct fs m) (struct gs n) d c = by_bool (allowed i m n && by_name i (pairs fs) (pairs gs))
      (λ yes.
      let tests = each (allowed i m n) (by_name i (pairs fs) (pairs gs)) yes in
      let named = by_name_is i (pairs fs) (pairs gs) tests.1 in
      elim (Contains-append_cases (in_fields i fs gs) (added (pairs fs) (pairs gs)) d (subst (λ ds. Contains ds d) (struct_differences i fs gs m n true yes) c)) [
        | inl kept ↦
            let k = field_leads i fs gs d named.first kept in
            (ap (along (struct fs m)) k.path ∙ k.before, ap (along (struct gs n)) k.path ∙ k.after, k.differ)
        | inr new ↦
            let w = contains-map (λ g. (Name g.0 ∷ [], (None, Some g.1))) (filter (λ g. is_none (first_named (pairs fs) g.0)) (pairs gs)) d new in
            let there = one_of_filter (λ g. is_none (first_named (pairs fs) g.0)) (pairs gs) w.0 w.1 in
            subst (λ z. LeadsBoth (struct fs m) (struct gs n) z) w.2
            (ap (option_and_then (λ x. along x [])) (none_is (first_named (pairs fs) w.0.0) there.1), ap (option_and_then (λ x. along x [])) (found_once (pairs gs) w.0 named.second there.0), λ e. cc)
      ])
      (λ no. whole_leads i (struct fs m) (struct gs n) d (subst (λ ds. Contains ds d) (struct_differences i fs gs m n false no) c))
  difference_leads i t u d c = whole_leads i t u d c

  field_leads : (i : Ignoring) (fs gs : Fields) (d : Difference) → no_repeats (pairs fs) ≡ true → Contains (in_fields i fs gs) d → InField fs gs d
  field_leads i no_items gs d once c = absurd (contains-nil d c)
  field_leads i (item n t _ fs) gs d once c =
      let alone = each (is_none (first_named (pairs fs) n)) (no_repeats (pairs fs)) once in
      elim (Contains-append_cases (in_field n t (λ u. differences i t u) (first_named (pairs gs) n)) (in_fields i fs gs) d c) [
        | inl here ↦
            let mine = taken_same_name n n (Some t) (first_named (pairs fs) n) refl in
            by_option (first_named (pairs gs) n)
            (λ none. elim (contains-cons (Name n ∷ [], (Some t, None)) d [] (subst (λ o. Contains (in_field n t (λ u. differences i t u) o) d) none here)) [
              | inl e ↦ record { name = n; rest = []; part = t; path = sym (ap (λ k. k.0) e); at = mine; before = ap (option_and_then (λ x. along x [])) mine ∙ ap (λ k. k.1.0) e; after = ap (option_and_then (λ x. along x [])) none ∙ ap (λ k. k.1.1) e; differ = subst (λ k. k.1.0 ≢ k.1.1) e (λ z. cc) }
              | inr never ↦ absurd (contains-nil d never)
            ])
            (λ u some.
            let w = contains-map (λ k. (Name n ∷ k.0, k.1)) (differences i t u) d (subst (λ o. Contains (in_field n t (λ x. differences i t x) o) d) some here) in
            let leads = difference_leads i t u w.0 w.1 in
            record {
              name = n;
              rest = w.0.0;
              part = t;
              path = sym (ap (λ k. k.0) w.2);
              at = mine;
              before = ap (option_and_then (λ x. along x w.0.0)) mine ∙ leads.0 ∙ ap (λ k. k.1.0) w.2;
              after = ap (option_and_then (λ x. along x w.0.0)) some ∙ leads.1 ∙ ap (λ k. k.1.1) w.2;
              differ = subst (λ k. k.1.0 ≢ k.1.1) w.2 leads.2;
            })
        | inr later ↦
            let k = field_leads i fs gs d alone.1 later in
            let past : first_named (pairs (item n t tt fs)) k.name ≡ first_named (pairs fs) k.name =
            other_name n k.name (Some t) (first_named (pairs fs) k.name) (λ e. some_is (first_named (pairs fs) n) k.part (ap (first_named (pairs fs)) e ∙ k.at) alone.0) in
            record { name = k.name; rest = k.rest; part = k.part; path = k.path; at = past ∙ k.at; before = ap (option_and_then (λ x. along x k.rest)) past ∙ k.before; after = k.after; differ = k.differ }
      ]

pub leads_before : (i : Ignoring) (t u : Tree) (p : List Field) (x y : Option Tree) → Contains (differences i t u) (p, (x, y)) → along t p ≡ x
leads_before i t u p x y c = (difference_leads i t u (p, (x, y)) c).0

pub leads_after : (i : Ignoring) (t u : Tree) (p : List Field) (x y : Option Tree) → Contains (differences i t u) (p, (x, y)) → along u p ≡ y
leads_after i t u p x y c = (difference_leads i t u (p, (x, y)) c).1

pub they_differ : (i : Ignoring) (t u : Tree) (p : List Field) (x y : Option Tree) → Contains (differences i t u) (p, (x, y)) → x ≢ y
they_differ i t u p x y c = (difference_leads i t u (p, (x, y)) c).2

-- ---- no two paths overlap

abbrev Apart : Difference → Difference → Type 0
Apart d e = ¬ (Overlaps d.0 e.0)

-- each difference is apart from all later ones
abbrev AllApart : List Difference → Type 0
AllApart [] = Unit {0}
AllApart (d ∷ ds) = ((e : Difference) → Contains ds e → Apart d e) × AllApart ds

one_is_apart : (d : Difference) → AllApart (d ∷ [])
one_is_apart d = (λ e c. absurd (contains-nil e c), tt)

all_pairs : (ds : List Difference) → AllApart ds → AllPairs Apart ds
all_pairs [] h = λ i j d before within. absurd (omega (arith, before, within))
all_pairs (d ∷ ds) h = AllPairs-cons Apart d ds
    (λ k e within. h.0 (get_or ds k e) (k, within, get_or_from_slice_get ds k (get_or ds k e) (get_or ds k e) (slice_get-get_or ds k e within)))
    (all_pairs ds h.1)

apart_joined : (ds es : List Difference) → AllApart ds → AllApart es → ((d e : Difference) → Contains ds d → Contains es e → Apart d e) → AllApart (ds ++ es)
apart_joined [] es h k across = k
apart_joined (d ∷ ds) es h k across = (
  λ z c. elim (Contains-append_cases ds es z c) [
    | inl a ↦ h.0 z a
    | inr b ↦ across d z (contains-head d ds) b
  ],
  apart_joined ds es h.1 k (λ x y a b. across x y (contains-tail d x ds a) b),
)

abbrev after_first : List Field → List Field
after_first [] = []
after_first (f ∷ p) = p

apart_after : (f : Field) (d e : Difference) → Apart d e → Apart (f ∷ d.0, d.1) (f ∷ e.0, e.1)
apart_after f d e h = λ o. elim o [
  | inl b ↦ h (inl (b.0, ap after_first b.1))
  | inr b ↦ h (inr (b.0, ap after_first b.1))
]

apart_below : (f : Field) (ds : List Difference) → AllApart ds → AllApart (each_below f ds)
apart_below f [] h = tt
apart_below f (d ∷ ds) h = (
  λ e c. let w = contains-map (λ k. (f ∷ k.0, k.1)) ds e c in subst (λ k. Apart (f ∷ d.0, d.1) k) w.2 (apart_after f d w.0 (h.0 w.0 w.1)),
  apart_below f ds h.1,
)

-- the path begins with a name
record Begins (n : List ℕ) (d : Difference) : Type 0 where
  rest : List Field
  path : d.0 ≡ Name n ∷ rest

names_apart : (m n : List ℕ) (d e : Difference) → Begins m d → Begins n e → m ≢ n → Apart d e
names_apart m n d e b c ne = λ o. elim o [
  | inl k ↦ let is : Name n ∷ c.rest ≡ (Name m ∷ b.rest) ++ k.0 = sym c.path ∙ k.1 ∙ ap (λ p. p ++ k.0) b.path in ne (cc)
  | inr k ↦ let is : Name m ∷ b.rest ≡ (Name n ∷ c.rest) ++ k.0 = sym b.path ∙ k.1 ∙ ap (λ p. p ++ k.0) c.path in ne (cc)
]

field_begins : (i : Ignoring) (n : List ℕ) (t : Tree) (o : Option Tree) (d : Difference) → Contains (in_field n t (λ u. differences i t u) o) d → Begins n d
field_begins i n t None d c = elim (contains-cons (Name n ∷ [], (Some t, None)) d [] c) [
  | inl e ↦ record { rest = []; path = sym (ap (λ k. k.0) e) }
  | inr never ↦ absurd (contains-nil d never)
]
field_begins i n t (Some u) d c =
    let w = contains-map (λ k. (Name n ∷ k.0, k.1)) (differences i t u) d c in record { rest = w.0.0; path = sym (ap (λ k. k.0) w.2) }

-- how a difference of fields begins: with the name of one of them
record BeginsIn (ps : List (List ℕ × Tree)) (d : Difference) : Type 0 where
  name : List ℕ
  begins : Begins name d
  there : is_none (first_named ps name) ≡ false

abbrev begins_in_first : (p : List ℕ × Tree) (ps : List (List ℕ × Tree)) (d : Difference) → Begins p.0 d → BeginsIn (p ∷ ps) d
begins_in_first p ps d b = record { name = p.0; begins = b; there = ap is_none (taken_same_name p.0 p.0 (Some p.1) (first_named ps p.0) refl) }

abbrev begins_in_rest : (p : List ℕ × Tree) (ps : List (List ℕ × Tree)) (d : Difference) → BeginsIn ps d → BeginsIn (p ∷ ps) d
begins_in_rest p ps d b = record {
  name = b.name;
  begins = b.begins;
  there = by_bool (bytes_eq p.0 b.name)
      (λ yes. ap (λ k. is_none (cond k (Some p.1) (first_named ps b.name))) yes)
      (λ no. ap (λ k. is_none (cond k (Some p.1) (first_named ps b.name))) no ∙ b.there);
}

fields_begin : (i : Ignoring) (fs gs : Fields) (d : Difference) → Contains (in_fields i fs gs) d → BeginsIn (pairs fs) d
fields_begin i no_items gs d c = absurd (contains-nil d c)
fields_begin i (item n t _ fs) gs d c = elim (Contains-append_cases (in_field n t (λ u. differences i t u) (first_named (pairs gs) n)) (in_fields i fs gs) d c) [
  | inl here ↦ begins_in_first (n, t) (pairs fs) d (field_begins i n t (first_named (pairs gs) n) d here)
  | inr later ↦ begins_in_rest (n, t) (pairs fs) d (fields_begin i fs gs d later)
]

-- one field that is added, or none
pub added_more : (fs gs : List (List ℕ × Tree)) (g : List ℕ × Tree) (b : Bool) → is_none (first_named fs g.0) ≡ b → added fs (g ∷ gs) ≡ cond b ((Name g.0 ∷ [], (None, Some g.1)) ∷ added fs gs) (added fs gs)
added_more fs gs g true e = ap (λ c. map (λ h. (Name h.0 ∷ [], (None, Some h.1))) (cond c (g ∷ filter (λ h. is_none (first_named fs h.0)) gs) (filter (λ h. is_none (first_named fs h.0)) gs))) e
added_more fs gs g false e = ap (λ c. map (λ h. (Name h.0 ∷ [], (None, Some h.1))) (cond c (g ∷ filter (λ h. is_none (first_named fs h.0)) gs) (filter (λ h. is_none (first_named fs h.0)) gs))) e

-- how a difference of an added field begins: with a name of `gs` that `fs` lacks
record BeginsAdded (fs gs : List (List ℕ × Tree)) (d : Difference) : Type 0 where
  within : BeginsIn gs d
  new : is_none (first_named fs within.name) ≡ true

added_begins : (fs gs : List (List ℕ × Tree)) (d : Difference) → Contains (added fs gs) d → BeginsAdded fs gs d
added_begins fs [] d c = absurd (contains-nil d c)
added_begins fs (g ∷ gs) d c = by_bool (is_none (first_named fs g.0))
    (λ yes. elim (contains-cons (Name g.0 ∷ [], (None, Some g.1)) d (added fs gs) (subst (λ ds. Contains ds d) (added_more fs gs g true yes) c)) [
      | inl e ↦ record { within = begins_in_first g gs d (record { rest = []; path = sym (ap (λ k. k.0) e) }); new = yes }
      | inr later ↦ let k = added_begins fs gs d later in record { within = begins_in_rest g gs d k.within; new = k.new }
    ])
    (λ no. let k = added_begins fs gs d (subst (λ ds. Contains ds d) (added_more fs gs g false no) c) in record { within = begins_in_rest g gs d k.within; new = k.new })

other_than : (ps : List (List ℕ × Tree)) (m n : List ℕ) → is_none (first_named ps m) ≡ true → is_none (first_named ps n) ≡ false → m ≢ n
other_than ps m n lacks has = λ e. let k : true ≡ false = sym lacks ∙ ap (λ z. is_none (first_named ps z)) e ∙ has in cc

added_apart : (fs gs : List (List ℕ × Tree)) → no_repeats gs ≡ true → AllApart (added fs gs)
added_apart fs [] once = tt
added_apart fs (g ∷ gs) once =
    let alone = each (is_none (first_named gs g.0)) (no_repeats gs) once in
    by_bool (is_none (first_named fs g.0))
    (λ yes. subst AllApart (sym (added_more fs gs g true yes)) (
      λ e c.
          let k = added_begins fs gs e c in
          names_apart g.0 k.within.name (Name g.0 ∷ [], (None, Some g.1)) e (record { rest = []; path = refl }) k.within.begins (other_than gs g.0 k.within.name alone.0 k.within.there),
      added_apart fs gs alone.1,
    ))
    (λ no. subst AllApart (sym (added_more fs gs g false no)) (added_apart fs gs alone.1))

whole_apart : (i : Ignoring) (t u : Tree) → AllApart (whole i t u)
whole_apart i t u = by_bool (same_by (seen i) t u)
    (λ yes. subst (λ b. AllApart (cond b [] (([], (Some t, Some u)) ∷ []))) (sym yes) tt)
    (λ no. subst (λ b. AllApart (cond b [] (([], (Some t, Some u)) ∷ []))) (sym no) (one_is_apart ([], (Some t, Some u))))

field_apart : (i : Ignoring) (n : List ℕ) (t : Tree) → ((u : Tree) → AllApart (differences i t u)) → (o : Option Tree) → AllApart (in_field n t (λ u. differences i t u) o)
field_apart i n t h None = one_is_apart (Name n ∷ [], (Some t, None))
field_apart i n t h (Some u) = apart_below (Name n) (differences i t u) (h u)

mutual
  differences_apart : (i : Ignoring) (t u : Tree) → AllApart (differences i t u)
  differences_apart i (list t m) (list u n) = by_bool (allowed i m n)
      (λ yes. subst AllApart (sym (list_differences i t u m n true yes)) (apart_below ElementType (differences i t u) (differences_apart i t u)))
      (λ no. subst AllApart (sym (list_differences i t u m n false no)) (whole_apart i (list t m) (list u n)))
  differences_apart i (fixed_size_list t j m) (fixed_size_list u k n) = by_bool (allowed i m n && (j == k))
      (λ yes. subst AllApart (sym (sized_differences i t u j k m n true yes)) (apart_below ElementType (differences i t u) (differences_apart i t u)))
      (λ no. subst AllApart (sym (sized_differences i t u j k m n false no)) (whole_apart i (fixed_size_list t j m) (fixed_size_list u k n)))
  differences_apart i (struct fs m) (struct gs n) = by_bool (allowed i m n && by_name i (pairs fs) (pairs gs))
      (λ yes.
      let tests = each (allowed i m n) (by_name i (pairs fs) (pairs gs)) yes in
      let named = by_name_is i (pairs fs) (pairs gs) tests.1 in
      subst AllApart (sym (struct_differences i fs gs m n true yes))
      (apart_joined (in_fields i fs gs) (added (pairs fs) (pairs gs)) (fields_apart i fs gs named.first) (added_apart (pairs fs) (pairs gs) named.second)
      (λ d e a b.
      let k = fields_begin i fs gs d a in
      let l = added_begins (pairs fs) (pairs gs) e b in
      names_apart k.name l.within.name d e k.begins l.within.begins (λ z. other_than (pairs fs) l.within.name k.name l.new k.there (sym z)))))
      (λ no. subst AllApart (sym (struct_differences i fs gs m n false no)) (whole_apart i (struct fs m) (struct gs n)))
  differences_apart i t u = whole_apart i t u

  fields_apart : (i : Ignoring) (fs gs : Fields) → no_repeats (pairs fs) ≡ true → AllApart (in_fields i fs gs)
  fields_apart i no_items gs once = tt
  fields_apart i (item n t _ fs) gs once =
      let alone = each (is_none (first_named (pairs fs) n)) (no_repeats (pairs fs)) once in
      apart_joined (in_field n t (λ u. differences i t u) (first_named (pairs gs) n)) (in_fields i fs gs) (field_apart i n t (λ u. differences_apart i t u) (first_named (pairs gs) n)) (fields_apart i fs gs alone.1)
      (λ d e a b.
      let k = fields_begin i fs gs e b in
      names_apart n k.name d e (field_begins i n t (first_named (pairs gs) n) d a) k.begins (other_than (pairs fs) n k.name alone.0 k.there))

pub no_two_overlap : (i : Ignoring) (t u : Tree) → AllPairs (λ d e. ¬ (Overlaps d.0 e.0)) (differences i t u)
no_two_overlap i t u = all_pairs (differences i t u) (differences_apart i t u)
