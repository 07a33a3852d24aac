-- SPDX-License-Identifier: Apache-2.0
-- SPDX-FileCopyrightText: Copyright the Vortex contributors

-- The tests whether a tag repeats, and whether a union can have these variants.
use Rattle.std.proofs.Common.{◌≡◌, ◌≢◌, ◌⊎◌, ◌==◌, ℕ, suc, List, [], ◌∷◌, Bool, true, false, Some, None, length, refl, sym, ap, subst, ◌∙◌, inl, inr}
use Rattle.std.specs.Option.{is_none}
use Rattle.std.specs.List.{AllByRecursion, IsDistinct, list_all}
use Rattle.std.specs.Str.{bytes_eq}
use Rattle.std.proofs.Math.Bool.{not}
use Rattle.std.proofs.lemmas.Bool.{false≢true}
use Rattle.std.proofs.lemmas.Bool.Decides.{Decides-eqb}
use Rattle.std.proofs.lemmas.Map.Made.{AllPairs-from_IsDistinct, IsDistinct-from_AllPairs}
use Rattle.std.proofs.lemmas.Slice.Eq.{bytes_eq-Decides}
use Rattle.dtype_base.specs.Distinct.{Distinct}
use Rattle.dtype_base.specs.declared.vortex_error.VortexError.{VortexError}
use Rattle.dtype_base.specs.declared.vortex_error.VortexError.TheVariants.{UnionTypesLength, UnionTagsLength, UnionEmpty, UnionTagsRepeat, UnionNamesRepeat}
use Rattle.dtype_types.specs.parts.Lookups.{first_named, variant_names}
use Rattle.dtype_types.specs.parts.Unions.{AreVariants, MakesUnion, UnionError}
use Rattle.dtype_types.specs.tree.Tree.{Tree, Variants, no_items, item, pairs, triples}
use Rattle.dtype_types.proofs.lemmas.ValidLists.{variants_are}
use Rattle.dtype_merging.specs.MergedColumns.{all_differ, can_be_variants, no_repeats, own_tags, tags_differ}
use Rattle.dtype_merging.specs.ReadsAs.{HasOwnTags, OwnTags, keyed, tags}
use Rattle.dtype_merging.proofs.lemmas.Finding.{agrees_rest, both_true, by_bool, by_place, finds_first, finds_later, no_repeats_rest, true_both}

-- ---- items that differ by a test

not_true : (b : Bool) → not b ≡ true → b ≡ false
not_true true e = absurd (false≢true e)
not_true false e = refl

module _ {X : Type 0} (same : X → X → Bool) where
  apart_tested : (x : X) (ys : List X) → list_all (λ y. not (same x y)) ys ≡ true → AllByRecursion (λ y. same x y ≡ false) ys
  apart_tested x [] e = tt
  apart_tested x (y ∷ ys) e = let h = both_true (not (same x y)) (list_all (λ z. not (same x z)) ys) e in (not_true (same x y) h.0, apart_tested x ys h.1)

  tested_apart : (x : X) (ys : List X) → AllByRecursion (λ y. same x y ≡ false) ys → list_all (λ y. not (same x y)) ys ≡ true
  tested_apart x [] h = refl
  tested_apart x (y ∷ ys) h = true_both (not (same x y)) (list_all (λ z. not (same x z)) ys) (ap not h.0) (tested_apart x ys h.1)

  differ_tested : (xs : List X) → all_differ same xs ≡ true → IsDistinct same xs
  unfolding IsDistinct
  differ_tested [] e = tt
  differ_tested (x ∷ xs) e = let h = both_true (list_all (λ y. not (same x y)) xs) (all_differ same xs) e in (apart_tested x xs h.0, differ_tested xs h.1)

  tested_differ : (xs : List X) → IsDistinct same xs → all_differ same xs ≡ true
  unfolding IsDistinct
  tested_differ [] d = refl
  tested_differ (x ∷ xs) d = true_both (list_all (λ y. not (same x y)) xs) (all_differ same xs) (tested_apart x xs d.0) (tested_differ xs d.1)

-- ---- tags

pub tags_tested : (vs : Variants) → tags_differ vs ≡ true → Distinct (tags vs)
tags_tested vs e = AllPairs-from_IsDistinct Decides-eqb (tags vs) (differ_tested (λ f g. f == g) (tags vs) e)

pub tested_tags : (vs : Variants) → Distinct (tags vs) → tags_differ vs ≡ true
tested_tags vs d = tested_differ (λ f g. f == g) (tags vs) (IsDistinct-from_AllPairs Decides-eqb (tags vs) d)

-- the first tag isn't among the others where no tag repeats, and none of the others repeats
pub first_tag_alone : (n : List ℕ) (t : Tree) (f : ℕ) (vs : Variants) → tags_differ (item n t f vs) ≡ true → (list_all (λ g. not (f == g)) (tags vs) ≡ true) × (tags_differ vs ≡ true)
first_tag_alone n t f vs e = both_true (list_all (λ g. not (f == g)) (tags vs)) (tags_differ vs) e

-- ---- variants as fields

pub own_tested : (vs : Variants) → own_tags vs ≡ true → HasOwnTags vs
own_tested no_items e = absurd (false≢true e)
own_tested (item n t f vs) e = (λ none. cc, tags_tested (item n t f vs) e)

pub tested_own : (vs : Variants) → HasOwnTags vs → own_tags vs ≡ true
tested_own no_items h = absurd (h.0 refl)
tested_own (item n t f vs) h = tested_tags (item n t f vs) h.1

pub own_or_not : (vs ws : Variants) → OwnTags vs ws ⊎ (¬ OwnTags vs ws)
own_or_not vs ws =
    by_bool (own_tags vs)
    (λ e. by_bool (own_tags ws)
    (λ f. inl (own_tested vs e, own_tested ws f))
    (λ f. inr (λ d. false≢true (sym f ∙ tested_own ws d.1))))
    (λ e. inr (λ d. false≢true (sym e ∙ tested_own vs d.0)))

pub own_along : (vs ws : Variants) → tags vs ≡ tags ws → HasOwnTags vs → HasOwnTags ws
own_along vs ws e h = (λ none. h.0 (e ∙ none), subst Distinct e h.1)

-- a tag that no variant has finds no variant
pub tag_apart : (f : ℕ) (n : List ℕ) (vs : Variants) → list_all (λ g. not (f == g)) (tags vs) ≡ true → first_named (pairs (keyed vs)) (f ∷ n) ≡ None
tag_apart f n no_items e = refl
tag_apart f n (item m u g vs) e =
    let h = both_true (not (f == g)) (list_all (λ z. not (f == z)) (tags vs)) e in
    finds_later (g ∷ m) (f ∷ n) u (pairs (keyed vs)) (λ q. let same : f ≡ g = cc in false≢true (ap not (sym ((Decides-eqb f g).1 same)) ∙ h.0)) ∙ tag_apart f n vs h.1

pub keys_alone : (vs : Variants) → tags_differ vs ≡ true → no_repeats (pairs (keyed vs)) ≡ true
keys_alone no_items e = refl
keys_alone (item n t f vs) e =
    let h = first_tag_alone n t f vs e in
    true_both (is_none (first_named (pairs (keyed vs)) (f ∷ n))) (no_repeats (pairs (keyed vs))) (ap is_none (tag_apart f n vs h.0)) (keys_alone vs h.1)

pub own_keys : (vs : Variants) → HasOwnTags vs → no_repeats (pairs (keyed vs)) ≡ true
own_keys vs h = keys_alone vs (tested_tags vs h.1)

pub any_key : (vs : Variants) → tags vs ≢ [] → (k : List ℕ) × (t : Tree) × (first_named (pairs (keyed vs)) k ≡ Some t)
any_key no_items ne = absurd (ne refl)
any_key (item n t f vs) ne = (f ∷ n, t, finds_first (f ∷ n) (f ∷ n) t (pairs (keyed vs)) refl)

pub has_key : (vs : Variants) (k : List ℕ) (t : Tree) → first_named (pairs (keyed vs)) k ≡ Some t → tags vs ≢ []
has_key no_items k t is none = cc
has_key (item n u f vs) k t is none = cc

-- ---- the variants of a union

named_alone : (ns : List (List ℕ)) → all_differ bytes_eq ns ≡ true → Distinct ns
named_alone ns e = AllPairs-from_IsDistinct bytes_eq-Decides ns (differ_tested bytes_eq ns e)

alone_named : (ns : List (List ℕ)) → Distinct ns → all_differ bytes_eq ns ≡ true
alone_named ns d = tested_differ bytes_eq ns (IsDistinct-from_AllPairs bytes_eq-Decides ns d)

as_many_names : (vs : Variants) → length (variant_names (triples vs)) ≡ length (triples vs)
as_many_names no_items = refl
as_many_names (item n t f vs) = ap suc (as_many_names vs)

as_many_tags : (vs : Variants) → length (variant_names (triples vs)) ≡ length (tags vs)
as_many_tags no_items = refl
as_many_tags (item n t f vs) = ap suc (as_many_tags vs)

-- what `try_new` accepts passes the test
pub accepted_tested : (vs : Variants) → MakesUnion (variant_names (triples vs)) (length (triples vs)) (tags vs) → can_be_variants vs ≡ true
accepted_tested no_items h = absurd (h.0.2 refl)
accepted_tested (item n t f vs) h =
    let all = item n t f vs in
    true_both (all_differ bytes_eq (variant_names (triples all))) (tags_differ all) (alone_named (variant_names (triples all)) h.2) (tested_tags all h.1)

-- and what passes the test is accepted
pub tested_accepted : (vs : Variants) → can_be_variants vs ≡ true → MakesUnion (variant_names (triples vs)) (length (triples vs)) (tags vs)
tested_accepted no_items e = absurd (false≢true e)
tested_accepted (item n t f vs) e =
    let all = item n t f vs in
    let h = both_true (all_differ bytes_eq (variant_names (triples all))) (tags_differ all) e in
    ((as_many_names all, as_many_tags all, λ none. cc), tags_tested all h.1, named_alone (variant_names (triples all)) h.0)

pub variants_tested : (vs : Variants) → can_be_variants vs ≡ true → Distinct (tags vs)
variants_tested vs e = (tested_accepted vs e).1

pub can_own : (vs : Variants) → can_be_variants vs ≡ true → HasOwnTags vs
can_own no_items e = absurd (false≢true e)
can_own (item n t f vs) e = (λ none. cc, variants_tested (item n t f vs) e)

pub tested_variants : (vs : Variants) → AreVariants vs → can_be_variants vs ≡ true
tested_variants vs h = accepted_tested vs (variants_are vs h).0

-- ---- variants among those of a union

-- a tag has one name
one_name : (us : Variants) (f : ℕ) (n m : List ℕ) (x y : Tree) → tags_differ us ≡ true → first_named (pairs (keyed us)) (f ∷ n) ≡ Some x → first_named (pairs (keyed us)) (f ∷ m) ≡ Some y → n ≡ m
one_name no_items f n m x y d a b = cc
one_name (item k t g us) f n m x y d a b =
    let h = first_tag_alone k t g us d in
    by_place (g ∷ k) (f ∷ n) t x (pairs (keyed us)) a
    (λ e is. by_place (g ∷ k) (f ∷ m) t y (pairs (keyed us)) b
    (λ e' is'. cc)
    (λ ne later. let tag : f ≡ g = cc in let none = tag_apart g m us h.0 in let some = ap (λ z. first_named (pairs (keyed us)) (z ∷ m)) (sym tag) ∙ later in cc))
    (λ ne later. by_place (g ∷ k) (f ∷ m) t y (pairs (keyed us)) b
    (λ e' is'. let tag : f ≡ g = cc in let none = tag_apart g n us h.0 in let some = ap (λ z. first_named (pairs (keyed us)) (z ∷ n)) (sym tag) ∙ later in cc)
    (λ ne' later'. one_name us f n m x y h.1 later later'))

tag_once : (f : ℕ) (n : List ℕ) (y : Tree) (rest us : Variants) → tags_differ us ≡ true → first_named (pairs (keyed us)) (f ∷ n) ≡ Some y → first_named (pairs (keyed rest)) (f ∷ n) ≡ None
    → no_repeats (pairs (keyed rest)) ≡ true → ((k : List ℕ) (x : Tree) → first_named (pairs (keyed rest)) k ≡ Some x → (z : Tree) × (first_named (pairs (keyed us)) k ≡ Some z)) → list_all (λ g. not (f == g)) (tags rest) ≡ true
tag_once f n y no_items us d at none alone each = refl
tag_once f n y (item m u g rest) us d at none alone each =
    let r = no_repeats_rest (g ∷ m, u) (pairs (keyed rest)) alone in
    let s = each (g ∷ m) u (finds_first (g ∷ m) (g ∷ m) u (pairs (keyed rest)) refl) in
    let other : (g ∷ m) ≢ (f ∷ n) = λ q. let some = finds_first (g ∷ m) (f ∷ n) u (pairs (keyed rest)) q in cc in
    true_both (not (f == g)) (list_all (λ z. not (f == z)) (tags rest))
    (by_bool (f == g)
    (λ same.
    let tag : f ≡ g = (Decides-eqb f g).0 same in
    let name : n ≡ m = one_name us f n m y s.0 d at (ap (λ z. first_named (pairs (keyed us)) (z ∷ m)) tag ∙ s.1) in absurd (other (cc)))
    (λ ne. ap not ne))
    (tag_once f n y rest us d at (sym (finds_later (g ∷ m) (f ∷ n) u (pairs (keyed rest)) other) ∙ none) r.1 (λ k x is. each k x (agrees_rest (g ∷ m) u (pairs (keyed rest)) ((g ∷ m, u) ∷ pairs (keyed rest)) r.0 (λ k y e. e) k x is)))

tags_alone : (all us : Variants) → tags_differ us ≡ true → no_repeats (pairs (keyed all)) ≡ true
    → ((k : List ℕ) (x : Tree) → first_named (pairs (keyed all)) k ≡ Some x → (z : Tree) × (first_named (pairs (keyed us)) k ≡ Some z)) → tags_differ all ≡ true
tags_alone no_items us d alone each = refl
tags_alone (item n t f rest) us d alone each =
    let r = no_repeats_rest (f ∷ n, t) (pairs (keyed rest)) alone in
    let s = each (f ∷ n) t (finds_first (f ∷ n) (f ∷ n) t (pairs (keyed rest)) refl) in
    let behind : (k : List ℕ) (x : Tree) → first_named (pairs (keyed rest)) k ≡ Some x → (z : Tree) × (first_named (pairs (keyed us)) k ≡ Some z) = λ k x is. each k x (agrees_rest (f ∷ n) t (pairs (keyed rest)) ((f ∷ n, t) ∷ pairs (keyed rest)) r.0 (λ k y e. e) k x is) in
    true_both (list_all (λ g. not (f == g)) (tags rest)) (tags_differ rest) (tag_once f n s.0 rest us d s.1 r.0 r.1 behind) (tags_alone rest us d r.1 behind)

-- a name has one tag
name_apart : (f : ℕ) (n : List ℕ) (vs : Variants) → list_all (λ m. not (bytes_eq n m)) (variant_names (triples vs)) ≡ true → first_named (pairs (keyed vs)) (f ∷ n) ≡ None
name_apart f n no_items e = refl
name_apart f n (item m u g vs) e =
    let h = both_true (not (bytes_eq n m)) (list_all (λ z. not (bytes_eq n z)) (variant_names (triples vs))) e in
    finds_later (g ∷ m) (f ∷ n) u (pairs (keyed vs)) (λ q. let same : n ≡ m = cc in false≢true (ap not (sym ((bytes_eq-Decides n m).1 same)) ∙ h.0)) ∙ name_apart f n vs h.1

one_tag : (us : Variants) (f g : ℕ) (n : List ℕ) (x y : Tree) → all_differ bytes_eq (variant_names (triples us)) ≡ true → first_named (pairs (keyed us)) (f ∷ n) ≡ Some x → first_named (pairs (keyed us)) (g ∷ n) ≡ Some y → f ≡ g
one_tag no_items f g n x y d a b = cc
one_tag (item k t i us) f g n x y d a b =
    let h = both_true (list_all (λ z. not (bytes_eq k z)) (variant_names (triples us))) (all_differ bytes_eq (variant_names (triples us))) d in
    by_place (i ∷ k) (f ∷ n) t x (pairs (keyed us)) a
    (λ e is. by_place (i ∷ k) (g ∷ n) t y (pairs (keyed us)) b
    (λ e' is'. cc)
    (λ ne later. let name : n ≡ k = cc in let none = name_apart g k us h.0 in let some = ap (λ z. first_named (pairs (keyed us)) (g ∷ z)) (sym name) ∙ later in cc))
    (λ ne later. by_place (i ∷ k) (g ∷ n) t y (pairs (keyed us)) b
    (λ e' is'. let name : n ≡ k = cc in let none = name_apart f k us h.0 in let some = ap (λ z. first_named (pairs (keyed us)) (f ∷ z)) (sym name) ∙ later in cc)
    (λ ne' later'. one_tag us f g n x y h.1 later later'))

name_once : (f : ℕ) (n : List ℕ) (y : Tree) (rest us : Variants) → all_differ bytes_eq (variant_names (triples us)) ≡ true → first_named (pairs (keyed us)) (f ∷ n) ≡ Some y → first_named (pairs (keyed rest)) (f ∷ n) ≡ None
    → no_repeats (pairs (keyed rest)) ≡ true → ((k : List ℕ) (x : Tree) → first_named (pairs (keyed rest)) k ≡ Some x → (z : Tree) × (first_named (pairs (keyed us)) k ≡ Some z))
    → list_all (λ m. not (bytes_eq n m)) (variant_names (triples rest)) ≡ true
name_once f n y no_items us d at none alone each = refl
name_once f n y (item m u g rest) us d at none alone each =
    let r = no_repeats_rest (g ∷ m, u) (pairs (keyed rest)) alone in
    let s = each (g ∷ m) u (finds_first (g ∷ m) (g ∷ m) u (pairs (keyed rest)) refl) in
    let other : (g ∷ m) ≢ (f ∷ n) = λ q. let some = finds_first (g ∷ m) (f ∷ n) u (pairs (keyed rest)) q in cc in
    true_both (not (bytes_eq n m)) (list_all (λ z. not (bytes_eq n z)) (variant_names (triples rest)))
    (by_bool (bytes_eq n m)
    (λ same.
    let name : n ≡ m = (bytes_eq-Decides n m).0 same in
    let tag : f ≡ g = one_tag us f g n y s.0 d at (ap (λ z. first_named (pairs (keyed us)) (g ∷ z)) name ∙ s.1) in absurd (other (cc)))
    (λ ne. ap not ne))
    (name_once f n y rest us d at (sym (finds_later (g ∷ m) (f ∷ n) u (pairs (keyed rest)) other) ∙ none) r.1 (λ k x is. each k x (agrees_rest (g ∷ m) u (pairs (keyed rest)) ((g ∷ m, u) ∷ pairs (keyed rest)) r.0 (λ k y e. e) k x is)))

names_alone : (all us : Variants) → all_differ bytes_eq (variant_names (triples us)) ≡ true → no_repeats (pairs (keyed all)) ≡ true
    → ((k : List ℕ) (x : Tree) → first_named (pairs (keyed all)) k ≡ Some x → (z : Tree) × (first_named (pairs (keyed us)) k ≡ Some z)) → all_differ bytes_eq (variant_names (triples all)) ≡ true
names_alone no_items us d alone each = refl
names_alone (item n t f rest) us d alone each =
    let r = no_repeats_rest (f ∷ n, t) (pairs (keyed rest)) alone in
    let s = each (f ∷ n) t (finds_first (f ∷ n) (f ∷ n) t (pairs (keyed rest)) refl) in
    let behind : (k : List ℕ) (x : Tree) → first_named (pairs (keyed rest)) k ≡ Some x → (z : Tree) × (first_named (pairs (keyed us)) k ≡ Some z) = λ k x is. each k x (agrees_rest (f ∷ n) t (pairs (keyed rest)) ((f ∷ n, t) ∷ pairs (keyed rest)) r.0 (λ k y e. e) k x is) in
    true_both (list_all (λ m. not (bytes_eq n m)) (variant_names (triples rest))) (all_differ bytes_eq (variant_names (triples rest))) (name_once f n s.0 rest us d s.1 r.0 r.1 behind) (names_alone rest us d r.1 behind)

-- variants, each of which is among those of a union, can be those of a union
pub can_be : (all us : Variants) → can_be_variants us ≡ true → tags all ≢ [] → no_repeats (pairs (keyed all)) ≡ true
    → ((k : List ℕ) (x : Tree) → first_named (pairs (keyed all)) k ≡ Some x → (z : Tree) × (first_named (pairs (keyed us)) k ≡ Some z)) → can_be_variants all ≡ true
can_be no_items us v ne alone each = absurd (ne refl)
can_be (item n t f rest) us v ne alone each =
    let all = item n t f rest in
    let d = tested_accepted us v in
    true_both (all_differ bytes_eq (variant_names (triples all))) (tags_differ all) (names_alone all us (alone_named (variant_names (triples us)) d.2) alone each) (tags_alone all us (tested_tags us d.1) alone each)

-- the variants of a union have tags of their own
pub valid_own : (us : Variants) → AreVariants us → own_tags us ≡ true
valid_own no_items h = absurd ((variants_are no_items h).0.0.2 refl)
valid_own (item n t f us) h = tested_tags (item n t f us) (variants_are (item n t f us) h).0.1

-- an error of `try_new` means that there is no such union
unaccepted : (ns : List (List ℕ)) (k : ℕ) (gs : List ℕ) (e : VortexError) → UnionError ns k gs e → ¬ MakesUnion ns k gs
unaccepted ns k gs UnionTypesLength u m = u m.0.0
unaccepted ns k gs UnionTagsLength u m = u.1 m.0.1
unaccepted ns k gs UnionEmpty u m = m.0.2 u.2
unaccepted ns k gs UnionTagsRepeat u m = u.1 m.1
unaccepted ns k gs UnionNamesRepeat u m = u.2 m.2
unaccepted ns k gs _ u m = absurd u

pub refused_tested : (vs : Variants) (e : VortexError) → UnionError (variant_names (triples vs)) (length (triples vs)) (tags vs) e → can_be_variants vs ≡ false
refused_tested vs e u = by_bool (can_be_variants vs) (λ test. absurd (unaccepted (variant_names (triples vs)) (length (triples vs)) (tags vs) e u (tested_accepted vs test))) (λ test. test)
