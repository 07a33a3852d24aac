-- SPDX-License-Identifier: Apache-2.0
-- SPDX-FileCopyrightText: Copyright the Vortex contributors

-- Where no difference is listed, the two types are alike.
use Rattle.std.proofs.Common.{◌≡◌, ◌&&◌, ◌==◌, ℕ, List, [], ◌∷◌, ◌++◌, Option, Some, None, cond, true, false, inl, inr, option_and_then, refl, sym, ap, subst, ◌∙◌}
use Rattle.std.specs.List.{Contains}
use Rattle.std.specs.Option.{is_none}
use Rattle.std.specs.Str.{bytes_eq}
use Rattle.std.proofs.lemmas.Bool.Decides.{Decides-eqb}
use Rattle.std.proofs.lemmas.List.Elements.{Contains-append_left, Contains-append_right}
use Rattle.std.proofs.lemmas.Option.{same_Some}
use Rattle.std.proofs.lemmas.Slice.Eq.{bytes_eq-Decides}
use Rattle.dtype_types.specs.equality.Equality.{same_by}
use Rattle.dtype_types.specs.equality.EqualityLaws.{equal_under-Decides}
use Rattle.dtype_types.specs.parts.Lookups.{first_named}
use Rattle.dtype_types.specs.tree.Tree.{Tree, Fields, no_items, item, pairs, list, fixed_size_list, struct}
use Rattle.dtype_paths.specs.Along.{along}
use Rattle.dtype_paths.specs.Beginning.{Beginning}
use Rattle.dtype_paths.specs.declared.field.Field.{Field}
use Rattle.dtype_paths.specs.declared.field.Field.TheVariants.{Name, ElementType}
use Rattle.dtype_paths.proofs.lemmas.Cases.{by_bool, by_option}
use Rattle.dtype_paths.proofs.lemmas.ListMembers.{contains-head, contains-mapped, contains-tail}
use Rattle.dtype_edits.specs.Alike.{AlikeThere, AreAlike}
use Rattle.dtype_edits.specs.Differences.{Difference, added, allowed, by_name, differences, each_below, in_field, in_fields, nothing_ignored, seen, whole}
use Rattle.dtype_edits.proofs.DifferenceSteps.{distinct_tested}
use Rattle.dtype_edits.proofs.lemmas.Differing.{added_more, by_name_is, each, list_differences, marks, sized_differences, struct_differences}

-- no difference is listed at a prefix of the path
abbrev pub Unlisted : List Difference → List Field → Type 0
Unlisted ds p = (d : Difference) → Contains ds d → ¬ (Beginning d.0 p)

-- ---- equal types are alike at each path

alike_itself : (t : Tree) → AreAlike t t
alike_itself (list t m) = refl
alike_itself (fixed_size_list t k m) = (refl, refl)
alike_itself (struct fs m) = inr refl
alike_itself t = refl

there_itself : (o : Option Tree) → AlikeThere o o
there_itself None = tt
there_itself (Some t) = alike_itself t

-- the whole types aren't listed, so they are equal
whole_alike : (t u : Tree) (p : List Field) → Unlisted (whole nothing_ignored t u) p → t ≡ u
whole_alike t u p h =
    let all : Difference = ([], (Some t, Some u)) in
    by_bool (same_by (seen nothing_ignored) t u)
    (λ yes. (equal_under-Decides t u).0 yes)
    (λ other. absurd (h all (subst (λ b. Contains {X = Difference} (cond b [] (all ∷ [])) all) (sym other) (contains-head all [])) (p, refl)))

equal_alike : (t u : Tree) (p : List Field) → t ≡ u → AlikeThere (along t p) (along u p)
equal_alike t u p e = subst (λ z. AlikeThere (along t p) (along z p)) e (there_itself (along t p))

-- ---- one step

unlisted_after : (f : Field) (ds : List Difference) (p : List Field) → Unlisted (each_below f ds) (f ∷ p) → Unlisted ds p
unlisted_after f ds p h = λ d c b. h (f ∷ d.0, d.1) (contains-mapped (λ k. (f ∷ k.0, k.1)) d ds c) (b.0, ap (λ q. f ∷ q) b.1)

-- the differences of a field are among those of all
among_fields : (fs gs : Fields) (n : List ℕ) (t : Tree) (d : Difference) → first_named (pairs fs) n ≡ Some t
    → Contains (in_field n t (λ u. differences nothing_ignored t u) (first_named (pairs gs) n)) d → Contains (in_fields nothing_ignored fs gs) d
among_fields no_items gs n t d at c = cc
among_fields (item m x _ fs) gs n t d at c =
    let own : List Difference = in_field m x (λ u. differences nothing_ignored x u) (first_named (pairs gs) m) in
    by_bool (bytes_eq m n)
    (λ yes.
    let name : m ≡ n = (bytes_eq-Decides m n).0 yes in
    let part : x ≡ t = same_Some x t (sym (ap (λ b. cond b (Some x) (first_named (pairs fs) n)) yes) ∙ at) in
    Contains-append_left own (in_fields nothing_ignored fs gs) d
    (subst (λ k. Contains (in_field k x (λ u. differences nothing_ignored x u) (first_named (pairs gs) k)) d) (sym name)
    (subst (λ k. Contains (in_field n k (λ u. differences nothing_ignored k u) (first_named (pairs gs) n)) d) (sym part) c)))
    (λ no. Contains-append_right own (in_fields nothing_ignored fs gs) d
    (among_fields fs gs n t d (sym (ap (λ b. cond b (Some x) (first_named (pairs fs) n)) no) ∙ at) c))

-- a field that only the second struct has is among those that are added
among_added : (fs gs : List (List ℕ × Tree)) (n : List ℕ) (u : Tree) → is_none (first_named fs n) ≡ true → first_named gs n ≡ Some u → Contains (added fs gs) (Name n ∷ [], (None, Some u))
among_added fs [] n u lacks at = cc
among_added fs (g ∷ gs) n u lacks at = by_bool (bytes_eq g.0 n)
    (λ yes.
    let name : g.0 ≡ n = (bytes_eq-Decides g.0 n).0 yes in
    let part : Some g.1 ≡ Some u = sym (ap (λ b. cond b (Some g.1) (first_named gs n)) yes) ∙ at in
    let is : (Name g.0 ∷ [], (None, Some g.1)) ≡ (Name n ∷ [], (None, Some u)) = ap (λ k. (Name k ∷ [], (None, Some g.1))) name ∙ ap (λ k. (Name n ∷ [], (None, k))) part in
    subst (λ ds. Contains ds (Name n ∷ [], (None, Some u))) (sym (added_more fs gs g true (ap (λ k. is_none (first_named fs k)) name ∙ lacks)))
    (subst (Contains ((Name g.0 ∷ [], (None, Some g.1)) ∷ added fs gs)) is (contains-head (Name g.0 ∷ [], (None, Some g.1)) (added fs gs))))
    (λ no.
    let later = among_added fs gs n u lacks (sym (ap (λ b. cond b (Some g.1) (first_named gs n)) no) ∙ at) in
    by_bool (is_none (first_named fs g.0))
    (λ new. subst (λ ds. Contains ds (Name n ∷ [], (None, Some u))) (sym (added_more fs gs g true new)) (contains-tail (Name g.0 ∷ [], (None, Some g.1)) (Name n ∷ [], (None, Some u)) (added fs gs) later))
    (λ known. subst (λ ds. Contains ds (Name n ∷ [], (None, Some u))) (sym (added_more fs gs g false known)) later))

-- ---- all types

-- the two types themselves
alike_here : (t u : Tree) → Unlisted (differences nothing_ignored t u) [] → AreAlike t u
alike_here (list t m) (list u n) h = by_bool (allowed nothing_ignored m n)
    (λ yes. marks m n yes)
    (λ other. subst (AreAlike (list t m)) (whole_alike (list t m) (list u n) [] (subst (λ ds. Unlisted ds []) (list_differences nothing_ignored t u m n false other) h)) (alike_itself (list t m)))
alike_here (fixed_size_list t j m) (fixed_size_list u k n) h = by_bool (allowed nothing_ignored m n && (j == k))
    (λ yes. let tests = each (allowed nothing_ignored m n) (j == k) yes in (marks m n tests.0, (Decides-eqb j k).0 tests.1))
    (λ other. subst (AreAlike (fixed_size_list t j m)) (whole_alike (fixed_size_list t j m) (fixed_size_list u k n) [] (subst (λ ds. Unlisted ds []) (sized_differences nothing_ignored t u j k m n false other) h)) (alike_itself (fixed_size_list t j m)))
alike_here (struct fs m) (struct gs n) h = by_bool (allowed nothing_ignored m n && by_name nothing_ignored (pairs fs) (pairs gs))
    (λ yes.
    let tests = each (allowed nothing_ignored m n) (by_name nothing_ignored (pairs fs) (pairs gs)) yes in
    let named = by_name_is nothing_ignored (pairs fs) (pairs gs) tests.1 in
    inl (marks m n tests.0, distinct_tested (pairs fs) named.first, distinct_tested (pairs gs) named.second))
    (λ other. inr (whole_alike (struct fs m) (struct gs n) [] (subst (λ ds. Unlisted ds []) (struct_differences nothing_ignored fs gs m n false other) h)))
alike_here t u h = subst (AreAlike t) (whole_alike t u [] h) (alike_itself t)

-- the parts of two structs at a path that begins with a name, by the types of the fields of this name
in_structs : (fs gs : Fields) (x : List ℕ) (q : List Field) → Unlisted (in_fields nothing_ignored fs gs ++ added (pairs fs) (pairs gs)) (Name x ∷ q)
    → ((t u : Tree) → Unlisted (differences nothing_ignored t u) q → AlikeThere (along t q) (along u q))
    → AlikeThere (option_and_then (λ y. along y q) (first_named (pairs fs) x)) (option_and_then (λ y. along y q) (first_named (pairs gs) x))
in_structs fs gs x q h below = by_option (first_named (pairs fs) x)
    (λ none. by_option (first_named (pairs gs) x)
    (λ neither. subst (λ o. AlikeThere (option_and_then (λ y. along y q) (first_named (pairs fs) x)) (option_and_then (λ y. along y q) o)) (sym neither)
    (subst (λ o. AlikeThere (option_and_then (λ y. along y q) o) None) (sym none) tt))
    (λ u new.
    let d : Difference = (Name x ∷ [], (None, Some u)) in
    absurd (h d (Contains-append_right (in_fields nothing_ignored fs gs) (added (pairs fs) (pairs gs)) d (among_added (pairs fs) (pairs gs) x u (ap is_none none) new)) (q, refl))))
    (λ t some. by_option (first_named (pairs gs) x)
    (λ gone.
    let d : Difference = (Name x ∷ [], (Some t, None)) in
    absurd (h d (Contains-append_left (in_fields nothing_ignored fs gs) (added (pairs fs) (pairs gs)) d
    (among_fields fs gs x t d some (subst (λ o. Contains (in_field x t (λ u. differences nothing_ignored t u) o) d) (sym gone) (contains-head d [])))) (q, refl)))
    (λ u two.
    let inside : Unlisted (each_below (Name x) (differences nothing_ignored t u)) (Name x ∷ q) =
    λ d c b. h d (Contains-append_left (in_fields nothing_ignored fs gs) (added (pairs fs) (pairs gs)) d
    (among_fields fs gs x t d some (subst (λ o. Contains (in_field x t (λ z. differences nothing_ignored t z) o) d) (sym two) c))) b in
    subst (λ o. AlikeThere (option_and_then (λ y. along y q) (first_named (pairs fs) x)) (option_and_then (λ y. along y q) o)) (sym two)
    (subst (λ o. AlikeThere (option_and_then (λ y. along y q) o) (along u q)) (sym some)
    (below t u (unlisted_after (Name x) (differences nothing_ignored t u) q inside)))))

pub unlisted_alike : (t u : Tree) (p : List Field) → Unlisted (differences nothing_ignored t u) p → AlikeThere (along t p) (along u p)
unlisted_alike t u [] h = alike_here t u h
unlisted_alike (list t m) (list u n) (ElementType ∷ q) h = by_bool (allowed nothing_ignored m n)
    (λ yes. unlisted_alike t u q (unlisted_after ElementType (differences nothing_ignored t u) q (subst (λ ds. Unlisted ds (ElementType ∷ q)) (list_differences nothing_ignored t u m n true yes) h)))
    (λ other. equal_alike (list t m) (list u n) (ElementType ∷ q) (whole_alike (list t m) (list u n) (ElementType ∷ q) (subst (λ ds. Unlisted ds (ElementType ∷ q)) (list_differences nothing_ignored t u m n false other) h)))
unlisted_alike (list t m) (list u n) (Name x ∷ q) h = tt
unlisted_alike (fixed_size_list t j m) (fixed_size_list u k n) (ElementType ∷ q) h = by_bool (allowed nothing_ignored m n && (j == k))
    (λ yes. unlisted_alike t u q (unlisted_after ElementType (differences nothing_ignored t u) q (subst (λ ds. Unlisted ds (ElementType ∷ q)) (sized_differences nothing_ignored t u j k m n true yes) h)))
    (λ other. equal_alike (fixed_size_list t j m) (fixed_size_list u k n) (ElementType ∷ q) (whole_alike (fixed_size_list t j m) (fixed_size_list u k n) (ElementType ∷ q) (subst (λ ds. Unlisted ds (ElementType ∷ q)) (sized_differences nothing_ignored t u j k m n false other) h)))
unlisted_alike (fixed_size_list t j m) (fixed_size_list u k n) (Name x ∷ q) h = tt
unlisted_alike (struct fs m) (struct gs n) (Name x ∷ q) h = by_bool (allowed nothing_ignored m n && by_name nothing_ignored (pairs fs) (pairs gs))
    (λ yes. in_structs fs gs x q (subst (λ ds. Unlisted ds (Name x ∷ q)) (struct_differences nothing_ignored fs gs m n true yes) h) (λ t u k. unlisted_alike t u q k))
    (λ other. equal_alike (struct fs m) (struct gs n) (Name x ∷ q) (whole_alike (struct fs m) (struct gs n) (Name x ∷ q) (subst (λ ds. Unlisted ds (Name x ∷ q)) (struct_differences nothing_ignored fs gs m n false other) h)))
unlisted_alike (struct fs m) (struct gs n) (ElementType ∷ q) h = tt
unlisted_alike t u (f ∷ q) h = equal_alike t u (f ∷ q) (whole_alike t u (f ∷ q) h)
