-- SPDX-License-Identifier: Apache-2.0
-- SPDX-FileCopyrightText: Copyright the Vortex contributors

-- Variants, with their tags or with none.
use Rattle.std.proofs.Common.{◌≡◌, ℕ, suc, ◌<◌, ◌≤◌, Bool, true, false, cond, not, ◌&&◌, ◌==◌, List, [], ◌∷◌, ◌++◌, length, Option, Some, None, refl, sym, ap, subst, ◌∙◌, arith, inl, inr}
use Rattle.std.specs.Prelude.{◌⊎◌, nat_lt, nat_eq, map}
use Rattle.std.specs.List.{list_any, list_all, range_with_len, AllByRecursion, IsDistinct, zip}
use Rattle.std.specs.Str.{bytes_eq}
use Rattle.std.proofs.lemmas.Bool.{eqb-true, eq-eqb}
use Rattle.std.proofs.lemmas.Bool.Decides.{nat_tests, Decides-eqb}
use Rattle.std.proofs.lemmas.Slice.Eq.{bytes_eq-Decides}
use Rattle.std.proofs.lemmas.List.{length-map, map_push, append-nil}
use Rattle.std.proofs.lemmas.List.Elements.{All-from_recursion, recursion_from_All}
use Rattle.std.proofs.lemmas.List.FromFn.{length-range_with_len, get_or-range_with_len}
use Rattle.std.proofs.lemmas.Map.Made.{AllPairs-from_IsDistinct, IsDistinct-from_AllPairs}
use Rattle.std.proofs.lemmas.Map.Keys.{IsDistinct-head, IsDistinct-tail}
use Rattle.dtype_base.specs.Bytes.{Bytes}
use Rattle.dtype_types.specs.tree.Tree.{Tree, Variants, variants, triples, a_union, no_items, item}
use Rattle.dtype_types.specs.tree.Valid.{Valid, ValidItems}
use Rattle.dtype_types.specs.parts.Lookups.{variant_names, variant_tags}
use Rattle.dtype_types.specs.parts.Unions.{AreConsecutive, AreVariants, MakesUnion}
use Rattle.dtype_types.proofs.lemmas.TreeLaws.{triples_variants}
use Rattle.dtype_base.specs.declared.vortex_error.VortexError.{VortexError}
use Rattle.dtype_base.specs.declared.vortex_error.VortexError.TheVariants.{OutOfMemory, UnionTypesLength, UnionTagsLength, UnionEmpty, UnionTooMany, UnionTagsRepeat, UnionNamesRepeat}
use Rattle.dtype_types.specs.declared.dtype.DType.{DType}
use Rattle.dtype_types.specs.declared.union_variants.UnionVariants.{UnionVariants}
use Rattle.dtype_types.specs.tree.TreeOf.{tree, variant_list, variants_of}
use Rattle.dtype_types.specs.parts.Unions.{HasUnionLengths, UnionError}
use Rattle.dtype_text.specs.declared.fault.Fault.{Fault}
use Rattle.dtype_text.specs.declared.unions.Variant.{Variant}
use Rattle.dtype_text.specs.Read.{IsMemory}
use Rattle.dtype_text.specs.Views.{read_variant, read_variants}
use Rattle.dtype_text.specs.Outcome.{Outcome, got, misspelled, refused, Answers, Stops}
use Rattle.dtype_text.specs.Unions.{differ, is_empty, makes_union, union_error, made_union, written_tags, tagged, union_at}
use Rattle.dtype_text.specs.Chosen.{chosen}
use Rattle.dtype_text.specs.Grammar.{Lang, SpellsItems, RefusesVariants, levels, levels_of_items}
use Rattle.dtype_text.proofs.Words.{both}
use Rattle.dtype_text.proofs.TypeFacts.{false_unless}
use Rattle.dtype_text.specs.Within.{variant_text}
use Rattle.dtype_text.proofs.Ends.{Stop, refusal, depth, Ends}
use Rattle.dtype_text.proofs.Sequences.{sequence, Good, behind_comma}

-- ---- which variants make a union

apart : {A : Type 0} (same : A → A → Bool) (x : A) (xs : List A) → not (list_any (same x) xs) ≡ true → AllByRecursion (λ y. same x y ≡ false) xs
apart same x [] e = tt
apart same x (y ∷ ys) e = split (same x y) refl (apart same x ys) where
  split : (b : Bool) → same x y ≡ b → (not (list_any (same x) ys) ≡ true → AllByRecursion (λ z. same x z ≡ false) ys) → AllByRecursion (λ z. same x z ≡ false) (y ∷ ys)
  split true t more = let clash : false ≡ true = rw t at e in absurd cc
  split false t more = (t, more (rw t at e))

none_same : {A : Type 0} (same : A → A → Bool) (x : A) (xs : List A) → AllByRecursion (λ y. same x y ≡ false) xs → list_any (same x) xs ≡ false
none_same same x [] h = refl
none_same same x (y ∷ ys) h = rw (h.0, none_same same x ys h.1) refl

differ_distinct : {A : Type 0} (same : A → A → Bool) (xs : List A) → differ same xs ≡ true → IsDistinct same xs
unfolding IsDistinct
differ_distinct same [] e = tt
differ_distinct same (x ∷ xs) e =
    let h = both (not (list_any (same x) xs)) (differ same xs) e in
    (apart same x xs h.0, differ_distinct same xs h.1)

distinct_differ : {A : Type 0} (same : A → A → Bool) (xs : List A) → IsDistinct same xs → differ same xs ≡ true
distinct_differ same [] d = refl
distinct_differ same (x ∷ xs) d = rw (none_same same x xs (IsDistinct-head same x xs d), distinct_differ same xs (IsDistinct-tail same x xs d)) refl

small : (g : ℕ) → nat_lt g 256 ≡ true → g < 256
small g e = grind (arith, nat_tests)

is_small : (g : ℕ) → g < 256 → nat_lt g 256 ≡ true
is_small g e = grind (arith, nat_tests)

bytes_of : (gs : List ℕ) → list_all (λ g. nat_lt g 256) gs ≡ true → AllByRecursion (λ g. g < 256) gs
bytes_of [] e = tt
bytes_of (g ∷ gs) e = let h = both (nat_lt g 256) (list_all (λ g. nat_lt g 256) gs) e in (small g h.0, bytes_of gs h.1)

of_bytes : (gs : List ℕ) → AllByRecursion (λ g. g < 256) gs → list_all (λ g. nat_lt g 256) gs ≡ true
of_bytes [] h = refl
of_bytes (g ∷ gs) h = rw (is_small g h.0, of_bytes gs h.1) refl

abbrev Makes_union : List (List ℕ × (Tree × ℕ)) → Type 0
Makes_union us = MakesUnion (variant_names us) (length us) (variant_tags us) × Bytes (variant_tags us)

pub test_makes : (us : List (List ℕ × (Tree × ℕ))) → makes_union us ≡ true → Makes_union us
test_makes [] e = absurd cc
test_makes (u ∷ us) e =
    let gs = variant_tags (u ∷ us) in
    let ns = variant_names (u ∷ us) in
    let a = both (list_all (λ g. nat_lt g 256) gs) (differ nat_eq gs && differ bytes_eq ns) e in
    let b = both (differ nat_eq gs) (differ bytes_eq ns) a.1 in
    let names : length ns ≡ length (u ∷ us) = length-map (u ∷ us) (λ v. v.0) in
    let tags : length gs ≡ length (u ∷ us) = length-map (u ∷ us) (λ v. v.1.1) in (
      (
        (names, names ∙ sym tags, λ no_. cc),
        AllPairs-from_IsDistinct Decides-eqb gs (differ_distinct nat_eq gs b.0),
        AllPairs-from_IsDistinct bytes_eq-Decides ns (differ_distinct bytes_eq ns b.1),
      ),
      All-from_recursion (λ g. g < 256) gs (bytes_of gs a.0),
    )

pub makes_test : (us : List (List ℕ × (Tree × ℕ))) → Makes_union us → makes_union us ≡ true
makes_test [] h = absurd (h.0.0.2 refl)
makes_test (u ∷ us) h =
    let gs = variant_tags (u ∷ us) in
    let ns = variant_names (u ∷ us) in
    let a : list_all (λ g. nat_lt g 256) gs ≡ true = of_bytes gs (recursion_from_All (λ g. g < 256) gs h.1) in
    let b : differ nat_eq gs ≡ true = distinct_differ nat_eq gs (IsDistinct-from_AllPairs Decides-eqb gs h.0.1) in
    let c : differ bytes_eq ns ≡ true = distinct_differ bytes_eq ns (IsDistinct-from_AllPairs bytes_eq-Decides ns h.0.2) in
    rw (a, b, c) refl

-- the error of variants that make no union
error_has : (us : List (List ℕ × (Tree × ℕ))) → makes_union us ≡ false
    → (Bytes (variant_tags us) × UnionError (variant_names us) (length us) (variant_tags us) (union_error us)) ⊎ ((Bytes (variant_tags us) → ⊥) × (union_error us ≡ UnionTooMany))
unfolding union_error
error_has [] none = inl (All-from_recursion (λ g. g < 256) [] tt, (refl, refl, refl))
error_has (u ∷ us) none = small (list_all (λ g. nat_lt g 256) gs) refl where
  gs : List ℕ
  gs = variant_tags (u ∷ us)

  ns : List (List ℕ)
  ns = variant_names (u ∷ us)

  names : length ns ≡ length (u ∷ us)
  names = length-map (u ∷ us) (λ v. v.0)

  tags : length gs ≡ length (u ∷ us)
  tags = length-map (u ∷ us) (λ v. v.1.1)

  Goal : Type 0
  Goal = (Bytes gs × UnionError ns (length (u ∷ us)) gs (union_error (u ∷ us))) ⊎ ((Bytes gs → ⊥) × (union_error (u ∷ us) ≡ UnionTooMany))

  named : (c : Bool) → differ bytes_eq ns ≡ c → list_all (λ g. nat_lt g 256) gs ≡ true → differ nat_eq gs ≡ true → Goal
  named true t s d = let clash : true ≡ false = sym (rw (s, d, t) refl) ∙ none in absurd cc
  named false t s d =
      rw (s, d)
      (inl (
        All-from_recursion (λ g. g < 256) gs (bytes_of gs s),
        (
          (names, names ∙ sym tags, λ no_. cc),
          AllPairs-from_IsDistinct Decides-eqb gs (differ_distinct nat_eq gs d),
          λ all. let clash : true ≡ false = sym (distinct_differ bytes_eq ns (IsDistinct-from_AllPairs bytes_eq-Decides ns all)) ∙ t in absurd cc,
        ),
      ))

  tagged_apart : (c : Bool) → differ nat_eq gs ≡ c → list_all (λ g. nat_lt g 256) gs ≡ true → Goal
  tagged_apart true t s = named (differ bytes_eq ns) refl s t
  tagged_apart false t s =
      rw (s, t)
      (inl (
        All-from_recursion (λ g. g < 256) gs (bytes_of gs s),
        (
          (names, names ∙ sym tags, λ no_. cc),
          λ all. let clash : true ≡ false = sym (distinct_differ nat_eq gs (IsDistinct-from_AllPairs Decides-eqb gs all)) ∙ t in absurd cc,
        ),
      ))

  small : (c : Bool) → list_all (λ g. nat_lt g 256) gs ≡ c → Goal
  small true t = tagged_apart (differ nat_eq gs) refl t
  small false t = rw t (inr (λ bytes. let clash : true ≡ false = sym (of_bytes gs (recursion_from_All (λ g. g < 256) gs bytes)) ∙ t in absurd cc, refl))

-- the error that the library returns is that one
error_of : (us : List (List ℕ × (Tree × ℕ))) (v : VortexError) → Bytes (variant_tags us) → UnionError (variant_names us) (length us) (variant_tags us) v → union_error us ≡ v
unfolding union_error
error_of [] UnionTypesLength bytes h = absurd (h refl)
error_of [] UnionTagsLength bytes h = absurd (h.1 refl)
error_of [] UnionEmpty bytes h = refl
error_of [] UnionTagsRepeat bytes h = absurd (h.0.2 refl)
error_of [] UnionNamesRepeat bytes h = absurd (h.0.2 refl)
error_of [] _ bytes h = absurd h
error_of (u ∷ us) UnionTypesLength bytes h = absurd (h (length-map (u ∷ us) (λ v. v.0)))
error_of (u ∷ us) UnionTagsLength bytes h = absurd (h.1 (length-map (u ∷ us) (λ v. v.0) ∙ sym (length-map (u ∷ us) (λ v. v.1.1))))
error_of (u ∷ us) UnionEmpty bytes h = absurd cc
error_of (u ∷ us) UnionTagsRepeat bytes h =
    let gs = variant_tags (u ∷ us) in
    let a : list_all (λ g. nat_lt g 256) gs ≡ true = of_bytes gs (recursion_from_All (λ g. g < 256) gs bytes) in
    let b : differ nat_eq gs ≡ false = false_unless (differ nat_eq gs) (λ d. h.1 (AllPairs-from_IsDistinct Decides-eqb gs (differ_distinct nat_eq gs d))) in
    rw (a, b) refl
error_of (u ∷ us) UnionNamesRepeat bytes h =
    let gs = variant_tags (u ∷ us) in
    let a : list_all (λ g. nat_lt g 256) gs ≡ true = of_bytes gs (recursion_from_All (λ g. g < 256) gs bytes) in
    let b : differ nat_eq gs ≡ true = distinct_differ nat_eq gs (IsDistinct-from_AllPairs Decides-eqb gs h.1) in
    rw (a, b) refl
error_of (u ∷ us) _ bytes h = absurd h

too_many_of : (us : List (List ℕ × (Tree × ℕ))) → (Bytes (variant_tags us) → ⊥) → union_error us ≡ UnionTooMany
unfolding union_error
too_many_of [] h = absurd (h (All-from_recursion (λ g. g < 256) [] tt))
too_many_of (u ∷ us) h =
    let gs = variant_tags (u ∷ us) in
    let a : list_all (λ g. nat_lt g 256) gs ≡ false = false_unless (list_all (λ g. nat_lt g 256) gs) (λ t. h (All-from_recursion (λ g. g < 256) gs (bytes_of gs t))) in
    rw a refl

-- the variants that are made, or that none are
pub made_is : (us : List (List ℕ × (Tree × ℕ))) (made : Variants) → made_union us ≡ got made → (variants us ≡ made) × Makes_union us
unfolding made_union
made_is us made e = split (makes_union us) refl where
  split : (b : Bool) → makes_union us ≡ b → (variants us ≡ made) × Makes_union us
  split true t = (let is : got (variants us) ≡ got made = rw t at e in cc, test_makes us t)
  split false t = let is : refused (union_error us) ≡ got made = rw t at e in absurd cc

-- ---- the texts of variants

abbrev Read : Type 0
Read = List ℕ × (Tree × Option ℕ)

untagged_spelled : (vs : List Read) (tags : List ℕ) → is_empty (written_tags vs) ≡ true → length tags ≡ length vs → (x : List ℕ) → sequence variant_text vs x → SpellsItems {h = a_union} false (variants (tagged vs tags)) x
untagged_spelled [] tags none len x h = h
untagged_spelled (v ∷ vs) [] none len x h = absurd (omega (arith, len))
untagged_spelled ((n, (t, Some g)) ∷ vs) (k ∷ ks) none len x h = absurd cc
untagged_spelled ((n, (t, None)) ∷ []) (k ∷ ks) none len x h = h
untagged_spelled ((n, (t, None)) ∷ w ∷ vs) (k ∷ []) none len x h = absurd (omega (arith, len))
untagged_spelled ((n, (t, None)) ∷ w ∷ vs) (k ∷ l ∷ ks) none len x h =
    behind_comma (variant_text (n, (t, None))) (sequence variant_text (w ∷ vs)) (SpellsItems {h = a_union} false (variants (tagged (w ∷ vs) (l ∷ ks)))) (λ y s. untagged_spelled (w ∷ vs) (l ∷ ks) none (omega (arith, len)) y s) x h

-- no more tags are written than there are variants
written_most : (vs : List Read) → length (written_tags vs) ≤ length vs
written_most [] = omega arith
written_most ((n, (t, None)) ∷ vs) = omega (arith, written_most vs)
written_most ((n, (t, Some g)) ∷ vs) = omega (arith, written_most vs)

tagged_spelled : (vs : List Read) → length (written_tags vs) ≡ length vs → (x : List ℕ) → sequence variant_text vs x → SpellsItems {h = a_union} true (variants (tagged vs (written_tags vs))) x
tagged_spelled [] len x h = h
tagged_spelled ((n, (t, None)) ∷ vs) len x h = absurd (omega (arith, len, written_most vs))
tagged_spelled ((n, (t, Some g)) ∷ []) len x h = h
tagged_spelled ((n, (t, Some g)) ∷ (m, (u, None)) ∷ vs) len x h = absurd (omega (arith, len, written_most vs))
tagged_spelled ((n, (t, Some g)) ∷ (m, (u, Some k)) ∷ vs) len x h =
    let rest = (m, (u, Some k)) ∷ vs in
    behind_comma (variant_text (n, (t, Some g))) (sequence variant_text rest) (SpellsItems {h = a_union} true (variants (tagged rest (written_tags rest)))) (λ y s. tagged_spelled ((m, (u, Some k)) ∷ vs) (omega (arith, len)) y s) x h

good_variants : (deep : ℕ) (vs : List Read) (tags : List ℕ) → length tags ≡ length vs → Good (λ v. (levels v.1.0 < deep) × Valid v.1.0) vs → (levels_of_items (variants (tagged vs tags)) ≤ deep) × ValidItems (variants (tagged vs tags))
good_variants deep [] tags len h = (omega arith, tt)
good_variants deep (v ∷ vs) [] len h = absurd (omega (arith, len))
good_variants deep (v ∷ vs) (k ∷ ks) len h = let more = good_variants deep vs ks (omega (arith, len)) h.1 in (omega (arith, h.0.0, more.0), (h.0.1, more.1))

tags_tagged : (vs : List Read) (tags : List ℕ) → length tags ≡ length vs → variant_tags (tagged vs tags) ≡ tags
tags_tagged [] [] len = refl
tags_tagged [] (k ∷ ks) len = absurd (omega (arith, len))
tags_tagged (v ∷ vs) [] len = absurd (omega (arith, len))
tags_tagged (v ∷ vs) (k ∷ ks) len = ap (λ (gs : List ℕ). k ∷ gs) (tags_tagged vs ks (omega (arith, len)))

-- the texts of the variants of a union
abbrev pub SpellsVariants : Variants → Lang
SpellsVariants us x = SpellsItems true us x ⊎ (AreConsecutive (variant_tags (triples us)) × SpellsItems false us x)

abbrev Union_is : ℕ → Variants → List ℕ → Type 0
Union_is deep us x = SpellsVariants us x × (levels_of_items us ≤ deep) × (AreVariants us × ValidItems us)

are_variants : (us : List (List ℕ × (Tree × ℕ))) → Makes_union us → AreVariants (variants us)
unfolding AreVariants
are_variants us h = subst (λ (ts : List (List ℕ × (Tree × ℕ))). Makes_union ts) (sym (triples_variants us)) h

-- the tags of variants without tags
counted_tags : (vs : List Read) → AreConsecutive (variant_tags (triples (variants (tagged vs (range_with_len 0 (length vs))))))
counted_tags vs =
    let tags = range_with_len 0 (length vs) in
    let len : length tags ≡ length vs = length-range_with_len 0 (length vs) in
    let are : variant_tags (triples (variants (tagged vs tags))) ≡ tags = ap variant_tags (triples_variants (tagged vs tags)) ∙ tags_tagged vs tags len in
    are ∙ ap (range_with_len 0) (sym (ap length are ∙ len))

pub union_spelled : (deep : ℕ) (vs : List Read) (made : Variants) → union_at vs ≡ got made → Good (λ v. (levels v.1.0 < deep) × Valid v.1.0) vs → (x : List ℕ) → sequence variant_text vs x → Union_is deep made x
unfolding union_at
union_spelled deep vs made e good x h = split (is_empty (written_tags vs)) refl where
  with_tags : (tags : List ℕ) → length tags ≡ length vs → made_union (tagged vs tags) ≡ got made → SpellsVariants (variants (tagged vs tags)) x → Union_is deep made x
  with_tags tags len e s =
      let m = made_is (tagged vs tags) made e in
      let g = good_variants deep vs tags len good in
      subst (λ (us : Variants). Union_is deep us x) m.0 (s, g.0, (are_variants (tagged vs tags) m.1, g.1))

  all_tagged : (b : Bool) → (length (written_tags vs) == length vs) ≡ b → is_empty (written_tags vs) ≡ false → Union_is deep made x
  all_tagged true t f =
      let len : length (written_tags vs) ≡ length vs = eqb-true (length (written_tags vs)) (length vs) t in
      with_tags (written_tags vs) len (rw (f, t) at e) (inl (tagged_spelled vs len x h))
  all_tagged false t f = let no_ : misspelled ≡ got made = rw (f, t) at e in absurd cc

  split : (b : Bool) → is_empty (written_tags vs) ≡ b → Union_is deep made x
  split true t =
      let tags = range_with_len 0 (length vs) in
      let len : length tags ≡ length vs = length-range_with_len 0 (length vs) in
      with_tags tags len (rw t at e) (inr (counted_tags vs, untagged_spelled vs tags t len x h))
  split false t = all_tagged (length (written_tags vs) == length vs) refl t

-- ---- variants that make no union

-- a union of these texts is refused, and never too deep
pub record RefusedUnion (x : List ℕ) (e : VortexError) : Type 0 where
  pub made : Variants
  pub spelled : SpellsVariants made x
  pub refuses : RefusesVariants made e

abbrev pub StopsUnion : List ℕ → Stop → Type 0
StopsUnion x (refusal e) = RefusedUnion x e
StopsUnion x (depth l) = ⊥

made_ends : (us : List (List ℕ × (Tree × ℕ))) (x : List ℕ) → SpellsVariants (variants us) x → Ends (StopsUnion x) (made_union us)
unfolding made_union
made_ends us x s = split (makes_union us) refl where
  Has : List (List ℕ × (Tree × ℕ)) → Type 0
  Has ts = (Bytes (variant_tags ts) × UnionError (variant_names ts) (length ts) (variant_tags ts) (union_error us)) ⊎ ((Bytes (variant_tags ts) → ⊥) × (union_error us ≡ UnionTooMany))

  split : (b : Bool) → makes_union us ≡ b → Ends (StopsUnion x) (made_union us)
  split true t = rw t tt
  split false t = rw t (record { made = variants us; spelled = s; refuses = subst Has (sym (triples_variants us)) (error_has us t) })

pub union_ends : (vs : List Read) (x : List ℕ) → sequence variant_text vs x → Ends (StopsUnion x) (union_at vs)
unfolding union_at
union_ends vs x h = split (is_empty (written_tags vs)) refl where
  all_tagged : (b : Bool) → (length (written_tags vs) == length vs) ≡ b → is_empty (written_tags vs) ≡ false → Ends (StopsUnion x) (union_at vs)
  all_tagged true t f = rw (f, t) (made_ends (tagged vs (written_tags vs)) x (inl (tagged_spelled vs (eqb-true (length (written_tags vs)) (length vs) t) x h)))
  all_tagged false t f = rw (f, t) tt

  split : (b : Bool) → is_empty (written_tags vs) ≡ b → Ends (StopsUnion x) (union_at vs)
  split true t =
      let tags = range_with_len 0 (length vs) in
      rw t (made_ends (tagged vs tags) x (inr (counted_tags vs, untagged_spelled vs tags t (length-range_with_len 0 (length vs)) x h)))
  split false t = all_tagged (length (written_tags vs) == length vs) refl t

-- ---- the variants of a union, as they are read

-- each with its tag, or each without
abbrev pub as_read : Bool → Variants → List Read
as_read tags no_items = []
as_read true (item n t g us) = (n, (t, Some g)) ∷ as_read true us
as_read false (item n t g us) = (n, (t, None)) ∷ as_read false us

pub spelled_tagged : (us : Variants) (x : List ℕ) → SpellsItems {h = a_union} true us x → sequence variant_text (as_read true us) x
spelled_tagged no_items x h = h
spelled_tagged (item n t g no_items) x h = h
spelled_tagged (item n t g (item m u k us)) x h =
    behind_comma (variant_text (n, (t, Some g))) (SpellsItems {h = a_union} true (item m u k us)) (sequence variant_text (as_read true (item m u k us))) (λ y s. spelled_tagged (item m u k us) y s) x h

pub spelled_untagged : (us : Variants) (x : List ℕ) → SpellsItems {h = a_union} false us x → sequence variant_text (as_read false us) x
spelled_untagged no_items x h = h
spelled_untagged (item n t g no_items) x h = h
spelled_untagged (item n t g (item m u k us)) x h =
    behind_comma (variant_text (n, (t, None))) (SpellsItems {h = a_union} false (item m u k us)) (sequence variant_text (as_read false (item m u k us))) (λ y s. spelled_untagged (item m u k us) y s) x h

tags_read : (us : Variants) → written_tags (as_read true us) ≡ variant_tags (triples us)
tags_read no_items = refl
tags_read (item n t g us) = ap (λ (gs : List ℕ). g ∷ gs) (tags_read us)

no_tags_read : (us : Variants) → written_tags (as_read false us) ≡ []
no_tags_read no_items = refl
no_tags_read (item n t g us) = no_tags_read us

length_read : (tags : Bool) (us : Variants) → length (as_read tags us) ≡ length (triples us)
length_read tags no_items = refl
length_read true (item n t g us) = ap suc (length_read true us)
length_read false (item n t g us) = ap suc (length_read false us)

tagged_read : (tags : Bool) (us : Variants) → tagged (as_read tags us) (variant_tags (triples us)) ≡ triples us
tagged_read tags no_items = refl
tagged_read true (item n t g us) = ap (λ (ts : List (List ℕ × (Tree × ℕ))). (n, (t, g)) ∷ ts) (tagged_read true us)
tagged_read false (item n t g us) = ap (λ (ts : List (List ℕ × (Tree × ℕ))). (n, (t, g)) ∷ ts) (tagged_read false us)

variants_triples : (us : Variants) → variants (triples us) ≡ us
variants_triples no_items = refl
variants_triples (item n t g us) = ap (λ (ws : Variants). item n t g ws) (variants_triples us)

-- the union is made, or refused if the variants make none
abbrev Answers_union : Variants → Outcome Variants → Type 0
Answers_union us r = Answers us (AreVariants us) (RefusesVariants us) 0 0 r

made_again : (us : Variants) → Answers_union us (made_union (triples us))
unfolding made_union AreVariants
made_again us = split (makes_union (triples us)) refl where
  split : (b : Bool) → makes_union (triples us) ≡ b → Answers_union us (made_union (triples us))
  split true t = rw t (variants_triples us, test_makes (triples us) t, omega arith)
  split false t = rw t (λ h. let clash : false ≡ true = sym t ∙ makes_test (triples us) h in absurd cc, error_has (triples us) t)

pub untagged_again : (us : Variants) → AreConsecutive (variant_tags (triples us)) → Answers_union us (union_at (as_read false us))
unfolding union_at
untagged_again us consecutive =
    let none : is_empty (written_tags (as_read false us)) ≡ true = ap is_empty (no_tags_read us) in
    let len : length (as_read false us) ≡ length (variant_tags (triples us)) = length_read false us ∙ sym (length-map (triples us) (λ v. v.1.1)) in
    let tags : range_with_len 0 (length (as_read false us)) ≡ variant_tags (triples us) = ap (range_with_len 0) len ∙ sym consecutive in
    let all : tagged (as_read false us) (range_with_len 0 (length (as_read false us))) ≡ triples us = ap (tagged (as_read false us)) tags ∙ tagged_read false us in
    rw (none, all) (made_again us)

pub tagged_again : (us : Variants) → Answers_union us (union_at (as_read true us))
unfolding union_at
tagged_again no_items = made_again no_items
tagged_again (item n t g us) =
    let vs = as_read true (item n t g us) in
    let tags : written_tags vs ≡ variant_tags (triples (item n t g us)) = tags_read (item n t g us) in
    let len : length (written_tags vs) ≡ length vs = ap length tags ∙ length-map (triples (item n t g us)) (λ v. v.1.1) ∙ sym (length_read true (item n t g us)) in
    let test : (length (written_tags vs) == length vs) ≡ true = eq-eqb (length (written_tags vs)) (length vs) len in
    let all : tagged vs (written_tags vs) ≡ triples (item n t g us) = ap (tagged vs) tags ∙ tagged_read true (item n t g us) in
    rw (test, all) (made_again (item n t g us))

-- ---- what the library makes

zip_names : (ns : List (List ℕ)) (ts : List Tree) (gs : List ℕ) → length ns ≡ length ts → length ns ≡ length gs → variant_names (zip ns (zip ts gs)) ≡ ns
zip_names [] ts gs e f = refl
zip_names (n ∷ ns) [] gs e f = absurd (omega (arith, e))
zip_names (n ∷ ns) (t ∷ ts) [] e f = absurd (omega (arith, f))
zip_names (n ∷ ns) (t ∷ ts) (g ∷ gs) e f = ap (λ (ms : List (List ℕ)). n ∷ ms) (zip_names ns ts gs (omega (arith, e)) (omega (arith, f)))

zip_tags : (ns : List (List ℕ)) (ts : List Tree) (gs : List ℕ) → length ns ≡ length ts → length ns ≡ length gs → variant_tags (zip ns (zip ts gs)) ≡ gs
zip_tags [] [] [] e f = refl
zip_tags [] (t ∷ ts) gs e f = absurd (omega (arith, e))
zip_tags [] ts (g ∷ gs) e f = absurd (omega (arith, f))
zip_tags (n ∷ ns) [] gs e f = absurd (omega (arith, e))
zip_tags (n ∷ ns) (t ∷ ts) [] e f = absurd (omega (arith, f))
zip_tags (n ∷ ns) (t ∷ ts) (g ∷ gs) e f = ap (λ (hs : List ℕ). g ∷ hs) (zip_tags ns ts gs (omega (arith, e)) (omega (arith, f)))

-- names, types and tags make a union if their variants do
pub zipped_makes : (ns : List (List ℕ)) (ts : List Tree) (gs : List ℕ) → length ns ≡ length ts → length ns ≡ length gs → MakesUnion ns (length ts) gs → Bytes gs → Makes_union (zip ns (zip ts gs))
zipped_makes ns ts gs e f made bytes =
    let us = zip ns (zip ts gs) in
    let names = zip_names ns ts gs e f in
    let tags = zip_tags ns ts gs e f in
    let len : length us ≡ length ts = sym (length-map us (λ v. v.0)) ∙ ap (λ (ms : List (List ℕ)). length ms) names ∙ e in
    subst (λ (hs : List ℕ). MakesUnion (variant_names us) (length us) hs × Bytes hs) (sym tags)
    (subst (λ (ms : List (List ℕ)). MakesUnion ms (length us) gs × Bytes gs) (sym names)
    (subst (λ (k : ℕ). MakesUnion ns k gs × Bytes gs) (sym len) (made, bytes)))

pub makes_zipped : (ns : List (List ℕ)) (ts : List Tree) (gs : List ℕ) → length ns ≡ length ts → length ns ≡ length gs → Makes_union (zip ns (zip ts gs)) → MakesUnion ns (length ts) gs × Bytes gs
makes_zipped ns ts gs e f h =
    let us = zip ns (zip ts gs) in
    let names = zip_names ns ts gs e f in
    let tags = zip_tags ns ts gs e f in
    let len : length us ≡ length ts = sym (length-map us (λ v. v.0)) ∙ ap (λ (ms : List (List ℕ)). length ms) names ∙ e in
    subst (λ (k : ℕ). MakesUnion ns k gs × Bytes gs) len
    (subst (λ (ms : List (List ℕ)). MakesUnion ms (length us) gs × Bytes gs) names
    (subst (λ (hs : List ℕ). MakesUnion (variant_names us) (length us) hs × Bytes hs) tags h))

-- a union that was made, and one that was refused
pub made_of : (u : UnionVariants) (us : List (List ℕ × (Tree × ℕ))) → variant_list u ≡ us → Makes_union us → made_union us ≡ got (variants_of u)
unfolding made_union
made_of u us e h = rw (makes_test us h) (ap (λ (ws : List (List ℕ × (Tree × ℕ))). got (variants ws)) (sym e))

refused_if : (us : List (List ℕ × (Tree × ℕ))) (v : VortexError) → (Makes_union us → ⊥) → union_error us ≡ v → made_union us ≡ refused v
unfolding made_union
refused_if us v h e = split (makes_union us) refl where
  split : (b : Bool) → makes_union us ≡ b → made_union us ≡ refused v
  split true t = absurd (h (test_makes us t))
  split false t = rw (t, e) refl

zipped_error : (ns : List (List ℕ)) (ts : List Tree) (gs : List ℕ) (v : VortexError) → length ns ≡ length ts → length ns ≡ length gs → Bytes gs → UnionError ns (length ts) gs v → union_error (zip ns (zip ts gs)) ≡ v
zipped_error ns ts gs v e f bytes h =
    let us = zip ns (zip ts gs) in
    let names = zip_names ns ts gs e f in
    let tags = zip_tags ns ts gs e f in
    let len : length us ≡ length ts = sym (length-map us (λ v. v.0)) ∙ ap (λ (ms : List (List ℕ)). length ms) names ∙ e in
    error_of us v (subst Bytes (sym tags) bytes)
    (subst (λ (hs : List ℕ). UnionError (variant_names us) (length us) hs v) (sym tags)
    (subst (λ (ms : List (List ℕ)). UnionError ms (length us) gs v) (sym names)
    (subst (λ (k : ℕ). UnionError ns k gs v) (sym len) h)))

pub refused_of : (ns : List (List ℕ)) (ts : List Tree) (gs : List ℕ) (v : VortexError) → length ns ≡ length ts → length ns ≡ length gs → Bytes gs → UnionError ns (length ts) gs v → made_union (zip ns (zip ts gs)) ≡ refused v
refused_of ns ts gs v e f bytes h = refused_if (zip ns (zip ts gs)) v (λ m. contrary v h (makes_zipped ns ts gs e f m).0) (zipped_error ns ts gs v e f bytes h) where
  contrary : (v : VortexError) → UnionError ns (length ts) gs v → MakesUnion ns (length ts) gs → ⊥
  contrary UnionTypesLength h m = h e
  contrary UnionTagsLength h m = h.1 f
  contrary UnionEmpty h m = m.0.2 h.2
  contrary UnionTagsRepeat h m = h.1 m.1
  contrary UnionNamesRepeat h m = h.2 m.2
  contrary _ h m = h

-- the error of the library, as a fault
stops_as : (v : VortexError) (f : Fault) (r : Outcome Variants) → IsMemory v f → ((v ≡ OutOfMemory) ⊎ (r ≡ refused v)) → Stops f r
stops_as v f r is h = elim h [
  | inl m ↦ subst (λ (g : Fault). Stops g r) (sym (subst (λ (w : VortexError). IsMemory w f) m is)) tt
  | inr no_ ↦ other v is no_
] where
  other : (v : VortexError) → IsMemory v f → r ≡ refused v → Stops f r
  other OutOfMemory is h = subst (λ (g : Fault). Stops g r) (sym is) tt
  other _ is h = subst (λ (g : Fault). Stops g r) (sym is) h

-- the tags 0, 1, 2 and so on are bytes unless they are too many
consecutive_bytes : (n : ℕ) → n ≤ 256 → Bytes (range_with_len 0 n)
consecutive_bytes n le k d lt =
    let small : k < n = omega (arith, lt, length-range_with_len 0 n) in
    omega (arith, get_or-range_with_len 0 n k d small, small, le)

le_or_lt : (a b : ℕ) → (a ≤ b) ⊎ (b < a)
le_or_lt a b = grind arith

consecutive_small : (n : ℕ) → Bytes (range_with_len 0 n) → n ≤ 256
consecutive_small n h = elim (le_or_lt n 256) [
  | inl le ↦ le
  | inr lt ↦ absurd (omega (arith, h 256 0 (omega (arith, lt, length-range_with_len 0 n)), get_or-range_with_len 0 n 256 0 lt))
]

-- what `try_new` returns
pub made_tagged : (u : UnionVariants) (ns : List (List ℕ)) (ds : List DType) (gs : List ℕ) → length ns ≡ length ds → length ns ≡ length gs → variant_list u ≡ zip ns (zip (map tree ds) gs) → MakesUnion ns (length ds) gs → Bytes gs
    → made_union (zip ns (zip (map tree ds) gs)) ≡ got (variants_of u)
made_tagged u ns ds gs e f is made bytes =
    let len : length (map tree ds) ≡ length ds = length-map ds tree in
    made_of u (zip ns (zip (map tree ds) gs)) is (zipped_makes ns (map tree ds) gs (e ∙ sym len) f (subst (λ (k : ℕ). MakesUnion ns k gs) (sym len) made) bytes)

pub refused_tagged : (ns : List (List ℕ)) (ds : List DType) (gs : List ℕ) (v : VortexError) (f : Fault) → length ns ≡ length ds → length ns ≡ length gs → Bytes gs → IsMemory v f
    → ((v ≡ OutOfMemory) × HasUnionLengths ns (length ds) gs) ⊎ UnionError ns (length ds) gs v → Stops f (made_union (zip ns (zip (map tree ds) gs)))
refused_tagged ns ds gs v f e g bytes is h =
    let len : length (map tree ds) ≡ length ds = length-map ds tree in
    stops_as v f (made_union (zip ns (zip (map tree ds) gs))) is
    (elim h [
      | inl m ↦ inl m.0
      | inr no_ ↦ inr (refused_of ns (map tree ds) gs v (e ∙ sym len) g bytes (subst (λ (k : ℕ). UnionError ns k gs v) (sym len) no_))
    ])

-- what `new` returns
pub made_untagged : (u : UnionVariants) (ns : List (List ℕ)) (ds : List DType) → length ns ≡ length ds → variant_list u ≡ zip ns (zip (map tree ds) (range_with_len 0 (length ns))) → MakesUnion ns (length ds) (range_with_len 0 (length ns)) → (256 < length ns → ⊥)
    → made_union (zip ns (zip (map tree ds) (range_with_len 0 (length ns)))) ≡ got (variants_of u)
made_untagged u ns ds e is made few =
    made_tagged u ns ds (range_with_len 0 (length ns)) e (sym (length-range_with_len 0 (length ns))) is made (consecutive_bytes (length ns) (at_most few)) where
      at_most : (256 < length ns → ⊥) → length ns ≤ 256
      at_most few = grind (arith, few)

pub refused_untagged : (ns : List (List ℕ)) (ds : List DType) (v : VortexError) (f : Fault) → length ns ≡ length ds → IsMemory v f → (256 < length ns → v ≡ UnionTooMany) → (length ns ≤ 256 → (v ≡ OutOfMemory) ⊎ UnionError ns (length ds) (range_with_len 0 (length ns)) v)
    → Stops f (made_union (zip ns (zip (map tree ds) (range_with_len 0 (length ns)))))
refused_untagged ns ds v f e is too_many h =
    let gs = range_with_len 0 (length ns) in
    let len : length (map tree ds) ≡ length ds = length-map ds tree in
    let tags : length ns ≡ length gs = sym (length-range_with_len 0 (length ns)) in
    stops_as v f (made_union (zip ns (zip (map tree ds) gs))) is
    (elim (le_or_lt (length ns) 256) [
      | inr many ↦
          let us = zip ns (zip (map tree ds) gs) in
          let no_bytes : Bytes gs → ⊥ = λ bytes. absurd (omega (arith, many, consecutive_small (length ns) bytes)) in
          inr (refused_if us v (λ m. no_bytes (makes_zipped ns (map tree ds) gs (e ∙ sym len) tags m).1)
          (too_many_of us (λ bytes. no_bytes (subst Bytes (zip_tags ns (map tree ds) gs (e ∙ sym len) tags) bytes)) ∙ sym (too_many many)))
      | inl few ↦ elim (h few) [
        | inl m ↦ inl m
        | inr no_ ↦ inr (refused_of ns (map tree ds) gs v (e ∙ sym len) tags (consecutive_bytes (length ns) few) (subst (λ (k : ℕ). UnionError ns k gs v) (sym len) no_))
      ]
    ])

pub ruleset makes = (made_tagged, refused_tagged, made_untagged, refused_untagged)

-- ---- the parts of variants, one by one

pub names_push : (ns : List (List ℕ)) (vs : List Variant) (v : Variant) → ns ≡ map (λ (w : Read). w.0) (read_variants vs) → ns ++ v.name ∷ [] ≡ map (λ (w : Read). w.0) (read_variants (vs ++ v ∷ []))
names_push ns vs v e = ap (λ (ms : List (List ℕ)). ms ++ v.name ∷ []) e ∙ sym (one_more vs) where
  one_more : (vs : List Variant) → map (λ (w : Read). w.0) (read_variants (vs ++ v ∷ [])) ≡ map (λ (w : Read). w.0) (read_variants vs) ++ v.name ∷ []
  one_more [] = refl
  one_more (w ∷ vs) = ap (λ (ms : List (List ℕ)). w.name ∷ ms) (one_more vs)

pub types_push : (ds : List DType) (vs : List Variant) (v : Variant) → map tree ds ≡ map (λ (w : Read). w.1.0) (read_variants vs) → map tree (ds ++ v.dtype ∷ []) ≡ map (λ (w : Read). w.1.0) (read_variants (vs ++ v ∷ []))
types_push ds vs v e = map_push tree ds v.dtype ∙ ap (λ (ts : List Tree). ts ++ tree v.dtype ∷ []) e ∙ sym (one_more vs) where
  one_more : (vs : List Variant) → map (λ (w : Read). w.1.0) (read_variants (vs ++ v ∷ [])) ≡ map (λ (w : Read). w.1.0) (read_variants vs) ++ tree v.dtype ∷ []
  one_more [] = refl
  one_more (w ∷ vs) = ap (λ (ts : List Tree). tree w.dtype ∷ ts) (one_more vs)

-- the tags that are written, and one more, or no more
tags_all : (vs : List Read) (v : Read) → written_tags (vs ++ v ∷ []) ≡ written_tags vs ++ written_tags (v ∷ [])
tags_all [] v = refl
tags_all ((n, (t, None)) ∷ vs) v = tags_all vs v
tags_all ((n, (t, Some g)) ∷ vs) v = ap (λ (gs : List ℕ). g ∷ gs) (tags_all vs v)

last_tag : (v : Read) (o : Option ℕ) → v.1.1 ≡ o → written_tags (v ∷ []) ≡ written_tags ((v.0, (v.1.0, o)) ∷ [])
last_tag v o e = ap (λ (p : Option ℕ). written_tags ((v.0, (v.1.0, p)) ∷ [])) e

pub tag_push : (gs : List ℕ) (vs : List Variant) (v : Variant) (g : ℕ) → gs ≡ written_tags (read_variants vs) → v.tag ≡ Some g → gs ++ g ∷ [] ≡ written_tags (read_variants (vs ++ v ∷ []))
tag_push gs vs v g e is =
    ap (λ (hs : List ℕ). hs ++ g ∷ []) e ∙ sym (ap written_tags (map_push read_variant vs v) ∙ tags_all (read_variants vs) (read_variant v) ∙ ap (λ (hs : List ℕ). written_tags (read_variants vs) ++ hs) (last_tag (read_variant v) (Some g) is))

pub no_tag_push : (gs : List ℕ) (vs : List Variant) (v : Variant) → gs ≡ written_tags (read_variants vs) → v.tag ≡ None → gs ≡ written_tags (read_variants (vs ++ v ∷ []))
no_tag_push gs vs v e is =
    e ∙ sym (append-nil (written_tags (read_variants vs))) ∙ sym (ap written_tags (map_push read_variant vs v) ∙ tags_all (read_variants vs) (read_variant v) ∙ ap (λ (hs : List ℕ). written_tags (read_variants vs) ++ hs) (last_tag (read_variant v) None is))

pub counted : (ns : List (List ℕ)) (ds : List DType) (vs : List Variant) → ns ≡ map (λ (w : Read). w.0) (read_variants vs) → map tree ds ≡ map (λ (w : Read). w.1.0) (read_variants vs) → length ns ≡ length ds
counted ns ds vs e f =
    ap (λ (ms : List (List ℕ)). length ms) e ∙ length-map (read_variants vs) (λ (w : Read). w.0) ∙ sym (length-map (read_variants vs) (λ (w : Read). w.1.0)) ∙ sym (ap (λ (ts : List Tree). length ts) f) ∙ length-map ds tree

pub ruleset parts = (names_push, types_push, tag_push, no_tag_push, counted)

-- what is chosen of the parts of variants is what is read of them
pub chosen_is : (vs : List Read) (ns : List (List ℕ)) (ts : List Tree) (gs : List ℕ) → ns ≡ map (λ (w : Read). w.0) vs → ts ≡ map (λ (w : Read). w.1.0) vs → gs ≡ written_tags vs → chosen ns ts gs ≡ union_at vs
unfolding union_at chosen
chosen_is vs ns ts gs e f g = ap (λ (ms : List (List ℕ)). chosen ms ts gs) e ∙ ap (λ (us : List Tree). chosen (map (λ (w : Read). w.0) vs) us gs) f ∙ ap (λ (hs : List ℕ). chosen (map (λ (w : Read). w.0) vs) (map (λ (w : Read). w.1.0) vs) hs) g
    ∙ ap (λ (k : ℕ). cond (is_empty (written_tags vs)) (made_union (tagged vs (range_with_len 0 k))) (cond (length (written_tags vs) == k) (made_union (tagged vs (written_tags vs))) misspelled)) (length-map vs (λ (w : Read). w.0))
