-- SPDX-License-Identifier: Apache-2.0
-- SPDX-FileCopyrightText: Copyright the Vortex contributors

-- The test whether a type can be read as another returns true exactly if it can.
use Rattle.std.proofs.Common.{◌≡◌, ◌&&◌, ◌||◌, ℕ, List, [], ◌∷◌, Bool, true, false, Option, Some, None, IsSomeAnd, refl, sym, ap, subst, ◌∙◌, inl, inr}
use Rattle.std.specs.Bool.{Decides}
use Rattle.std.specs.Option.{is_some}
use Rattle.std.proofs.lemmas.Bool.{false≢true}
use Rattle.std.proofs.lemmas.Bool.Decides.{Decides-and, Decides-eqb, Decides-like}
use Rattle.std.proofs.lemmas.Slice.Eq.{bytes_eq-Decides}
use Rattle.dtype_base.specs.Nullability.{either}
use Rattle.dtype_base.specs.declared.nullability.Nullability.{Nullability}
use Rattle.dtype_base.specs.declared.nullability.Nullability.TheVariants.{NonNullable, Nullable}
use Rattle.dtype_types.specs.equality.Equality.{same_by}
use Rattle.dtype_types.specs.equality.EqualityLaws.{equal_under-Decides}
use Rattle.dtype_types.specs.nullability.Merged.{merge, merged}
use Rattle.dtype_types.specs.nullability.Nullable.{IsNullable, nullability}
use Rattle.dtype_types.specs.nullability.Sub.{Allows, Sub}
use Rattle.dtype_types.specs.parts.Lookups.{first_named}
use Rattle.dtype_types.specs.tree.Tree.{Tree, Fields, Variants, no_items, item, pairs, null, primitive, decimal, list, fixed_size_list, map_of, struct, union, extension}
use Rattle.dtype_types.proofs.lemmas.Merging.{merged_least, under_some, under_where}
use Rattle.dtype_types.proofs.lemmas.Order.{sub_antisymmetric, sub_reflexive}
use Rattle.dtype_merging.specs.MergedColumns.{no_repeats, own_tags}
use Rattle.dtype_merging.specs.ReadsAs.{EachBeside, EachFound, EachTagged, NoRepeats, OwnTags, ReadsAs, ReadsPlain, StaySorted, keyed}
use Rattle.dtype_merging.specs.declared.widening.Widening.{Widening}
use Rattle.dtype_merging.specs.private.Readable.{allowed, beside_readable, found_readable, further_nullable, is_and, is_null_allowed, is_subset, kept_sorted, readable, tagged_readable}
use Rattle.dtype_merging.proofs.lemmas.Finding.{Pairs, agrees_rest, both_true, by_bool, by_option, by_place, finds_first, no_repeats_rest, true_both}
use Rattle.dtype_merging.proofs.lemmas.Merging.{pick_false, pick_true}
use Rattle.dtype_merging.proofs.lemmas.Repeats.{distinct_tested, repeats_tested}
use Rattle.dtype_merging.proofs.lemmas.Variants.{own_tested, tested_own}

-- ---- nullabilities and flags

pub nulls-Decides : (n : Nullability) → Decides (is_null_allowed n) (n ≡ Nullable)
nulls-Decides NonNullable = (λ e. absurd (false≢true e), λ e. cc)
nulls-Decides Nullable = (λ e. refl, λ e. refl)

allowed-Decides : (m n : Nullability) → Decides (allowed m n) (Allows m n)
allowed-Decides NonNullable n = (λ e h. cc, λ h. refl)
allowed-Decides Nullable NonNullable = (λ e. absurd (false≢true e), λ h. let never = h refl in cc)
allowed-Decides Nullable Nullable = (λ e h. refl, λ h. refl)

sorted-Decides : (x : Bool) (t : Tree) (y : Bool) (u : Tree) → Decides (kept_sorted x t y u) (StaySorted x t y u)
sorted-Decides x t false u = (λ e h. absurd (false≢true h), λ h. refl)
sorted-Decides x t true u = (
  λ e h. let all = both_true (x && true) (is_some (merged t u)) e in ((both_true x true all.0).0, (under_where either t u).0 all.1),
  λ h. let k = h refl in true_both (x && true) (is_some (merged t u)) (true_both x true k.0 refl) ((under_where either t u).1 k.1),
)

pub subset-Decides : (t u : Tree) → Decides (is_subset t u) (Sub t u)
subset-Decides t u = (
  λ e. by_option (merged t u)
      (λ none. absurd (false≢true (sym (ap (is_and (λ c. same_by (λ x. x) c u)) none) ∙ e)))
      (λ c some.
      let same : c ≡ u = (equal_under-Decides c u).0 (sym (ap (is_and (λ c. same_by (λ x. x) c u)) some) ∙ e) in
      subst (Sub t) same (merged_least t u c some).first),
  λ h.
      let c = merge either t u in
      let some : merged t u ≡ Some c = under_some either t u h.erased in
      let up = merged_least t u c some in
      let same : c ≡ u = sub_antisymmetric c u (up.least u h (sub_reflexive u)) up.second in
      ap (is_and (λ c. same_by (λ x. x) c u)) some ∙ (equal_under-Decides c u).1 same,
)

-- ---- further fields

further_one : (fs gs : Pairs) (g : List ℕ × Tree) → first_named gs g.0 ≡ None → ((n : List ℕ) (u : Tree) → first_named fs n ≡ None → first_named (g ∷ gs) n ≡ Some u → IsNullable u)
    → (first_named fs g.0 ≡ None → IsNullable g.1) × ((n : List ℕ) (u : Tree) → first_named fs n ≡ None → first_named gs n ≡ Some u → IsNullable u)
further_one fs gs g alone h = (
  λ none. h g.0 g.1 none (finds_first g.0 g.0 g.1 gs refl),
  λ n u none is. h n u none (agrees_rest g.0 g.1 gs (g ∷ gs) alone (λ k y e. e) n u is),
)

one_further : (fs : Pairs) (n : List ℕ) (u : Tree) → Decides (is_some (first_named fs n) || is_null_allowed (nullability u)) (first_named fs n ≡ None → IsNullable u)
one_further fs n u = by_option (first_named fs n)
    (λ none. subst (λ o. Decides (is_some o || is_null_allowed (nullability u)) (o ≡ None → IsNullable u)) (sym none) (Decides-like _ (λ h _. h) (λ h. h refl) (nulls-Decides (nullability u))))
    (λ t some. subst (λ o. Decides (is_some o || is_null_allowed (nullability u)) (o ≡ None → IsNullable u)) (sym some) (λ e none. cc, λ h. refl))

further-Decides : (fs gs : Pairs) → no_repeats gs ≡ true → Decides (further_nullable fs gs) ((n : List ℕ) (u : Tree) → first_named fs n ≡ None → first_named gs n ≡ Some u → IsNullable u)
further-Decides fs [] d = (λ e n u none is. cc, λ h. refl)
further-Decides fs (g ∷ gs) d =
    let r = no_repeats_rest g gs d in
    Decides-like _
    (λ h n u none is. by_place g.0 n g.1 u gs is
    (λ name type. subst IsNullable type (h.0 (ap (first_named fs) name ∙ none)))
    (λ ne later. h.1 n u none later))
    (λ h. further_one fs gs g r.0 h)
    (Decides-and _ _ (one_further fs g.0 g.1) (further-Decides fs gs r.1))

-- ---- types

-- what a name finds
found_is : (P : Tree → Type 0) (f : Tree → Bool) → ((u : Tree) → Decides (f u) (P u)) → (o : Option Tree) → Decides (is_and f o) (IsSomeAnd o P)
found_is P f d None = (λ e. absurd (false≢true e), λ h. absurd h)
found_is P f d (Some u) = d u

-- two structs, from what is done with their fields
structs-Decides : (wide : Widening) (fs gs : Fields) (m n : Nullability) → Decides (found_readable wide fs gs) (EachFound (ReadsPlain wide) Allows StaySorted IsNullable (Unit {0}) fs gs)
    → Decides (beside_readable wide fs gs) (EachBeside (ReadsPlain wide) Allows StaySorted IsNullable (Unit {0}) fs gs) → Decides (readable wide (struct fs m) (struct gs n)) (ReadsAs wide (struct fs m) (struct gs n))
structs-Decides wide fs gs m n go also =
    let test = no_repeats (pairs fs) && no_repeats (pairs gs) in
    let by_name = found_readable wide fs gs && further_nullable (pairs fs) (pairs gs) in
    let in_order = beside_readable wide fs gs in
    by_bool test
    (λ tested.
    let both = both_true (no_repeats (pairs fs)) (no_repeats (pairs gs)) tested in
    let d : NoRepeats fs gs = (distinct_tested (pairs fs) both.0, distinct_tested (pairs gs) both.1) in
    subst (λ b. Decides (allowed m n && b) (ReadsAs wide (struct fs m) (struct gs n))) (sym (pick_true test by_name in_order tested))
    (Decides-like _
    (λ h. inl (d, h.0, h.1.0, h.1.1))
    (λ h. elim h [ inl s ↦ (s.1, (s.2, s.3)) | inr s ↦ absurd (s.0 d) ])
    (Decides-and _ _ (allowed-Decides m n) (Decides-and _ _ go (further-Decides (pairs fs) (pairs gs) both.1)))))
    (λ differ.
    let d : ¬ NoRepeats fs gs = repeats_tested fs gs differ in
    subst (λ b. Decides (allowed m n && b) (ReadsAs wide (struct fs m) (struct gs n))) (sym (pick_false test by_name in_order differ))
    (Decides-like _
    (λ h. inr (d, h.0, h.1))
    (λ h. elim h [ inl s ↦ absurd (d s.0) | inr s ↦ (s.1, s.2) ])
    (Decides-and _ _ (allowed-Decides m n) also)))

-- two unions
unions-Decides : (wide : Widening) (vs ws : Variants) (m n : Nullability) → Decides (tagged_readable wide vs (keyed ws)) (EachTagged (ReadsPlain wide) Allows StaySorted IsNullable (Unit {0}) vs (keyed ws))
    → Decides (readable wide (union vs m) (union ws n)) (ReadsAs wide (union vs m) (union ws n))
unions-Decides wide vs ws m n go =
    let test = own_tags vs && own_tags ws in
    let by_tag = allowed m n && tagged_readable wide vs (keyed ws) in
    let whole = is_subset (union vs m) (union ws n) in
    by_bool test
    (λ tested.
    let both = both_true (own_tags vs) (own_tags ws) tested in
    let d : OwnTags vs ws = (own_tested vs both.0, own_tested ws both.1) in
    subst (λ b. Decides b (ReadsAs wide (union vs m) (union ws n))) (sym (pick_true test by_tag whole tested))
    (Decides-like _
    (λ h. inl (d, h.0, h.1, λ k u none is. tt))
    (λ h. elim h [ inl s ↦ (s.1, s.2) | inr s ↦ absurd (s.0 d) ])
    (Decides-and _ _ (allowed-Decides m n) go)))
    (λ repeat.
    let d : ¬ OwnTags vs ws = λ o. false≢true (sym repeat ∙ true_both (own_tags vs) (own_tags ws) (tested_own vs o.0) (tested_own ws o.1)) in
    subst (λ b. Decides b (ReadsAs wide (union vs m) (union ws n))) (sym (pick_false test by_tag whole repeat))
    (Decides-like _
    (λ h. inr (d, h))
    (λ h. elim h [ inl s ↦ absurd (d s.0) | inr s ↦ s.1 ])
    (subset-Decides (union vs m) (union ws n))))

mutual
  pub readable_Decides : (wide : Widening) (t u : Tree) → Decides (readable wide t u) (ReadsAs wide t u)
  readable_Decides wide (list t m) (list u n) = Decides-and _ _ (allowed-Decides m n) (readable_Decides wide t u)
  readable_Decides wide (fixed_size_list t j m) (fixed_size_list u k n) =
      Decides-like _ (λ h. (h.0, h.1.0, h.1.1)) (λ h. (h.0, (h.1, h.2))) (Decides-and _ _ (Decides-eqb j k) (Decides-and _ _ (allowed-Decides m n) (readable_Decides wide t u)))
  readable_Decides wide (map_of t v x m) (map_of u w y n) =
      Decides-like _ (λ h. (h.1.0, h.0, h.1.1.0, h.1.1.1)) (λ h. (h.1, (h.0, (h.2, h.3))))
      (Decides-and _ _ (allowed-Decides m n) (Decides-and _ _ (sorted-Decides x t y u) (Decides-and _ _ (readable_Decides wide t u) (readable_Decides wide v w))))
  readable_Decides wide (struct fs m) (struct gs n) = structs-Decides wide fs gs m n (found-Decides wide fs gs) (beside-Decides wide fs gs)
  readable_Decides wide (union vs m) (union ws n) = unions-Decides wide vs ws m n (tagged-Decides wide vs (keyed ws))
  readable_Decides wide (extension i a t) (extension j b u) =
      Decides-like _ (λ h. (h.0, h.1.0, h.1.1)) (λ h. (h.0, (h.1, h.2))) (Decides-and _ _ (bytes_eq-Decides i j) (Decides-and _ _ (bytes_eq-Decides a b) (readable_Decides wide t u)))
  readable_Decides wide (primitive p m) (primitive q n) = Decides-and _ _ (λ e. record { reads = e }, λ h. h.reads) (allowed-Decides m n)
  readable_Decides wide (decimal d m) (decimal e n) = Decides-and _ _ (λ e. record { reads = e }, λ h. h.reads) (allowed-Decides m n)
  readable_Decides wide null u = nulls-Decides (nullability u)
  readable_Decides wide t u = subset-Decides t u

  found-Decides : (wide : Widening) (fs gs : Fields) → Decides (found_readable wide fs gs) (EachFound (ReadsPlain wide) Allows StaySorted IsNullable (Unit {0}) fs gs)
  found-Decides wide no_items gs = (λ e. tt, λ h. refl)
  found-Decides wide (item n t _ fs) gs = Decides-and _ _ (found_is (ReadsAs wide t) (λ u. readable wide t u) (λ u. readable_Decides wide t u) (first_named (pairs gs) n)) (found-Decides wide fs gs)

  tagged-Decides : (wide : Widening) (vs : Variants) (gs : Fields) → Decides (tagged_readable wide vs gs) (EachTagged (ReadsPlain wide) Allows StaySorted IsNullable (Unit {0}) vs gs)
  tagged-Decides wide no_items gs = (λ e. tt, λ h. refl)
  tagged-Decides wide (item n t f vs) gs = Decides-and _ _ (found_is (ReadsAs wide t) (λ u. readable wide t u) (λ u. readable_Decides wide t u) (first_named (pairs gs) (f ∷ n))) (tagged-Decides wide vs gs)

  beside-Decides : (wide : Widening) (fs gs : Fields) → Decides (beside_readable wide fs gs) (EachBeside (ReadsPlain wide) Allows StaySorted IsNullable (Unit {0}) fs gs)
  beside-Decides wide no_items no_items = (λ e. tt, λ h. refl)
  beside-Decides wide (item m t _ fs) (item n u _ gs) =
      Decides-like _ (λ h. (h.0, refl, h.1.0, h.1.1)) (λ h. (h.0, (h.2, h.3))) (Decides-and _ _ (bytes_eq-Decides m n) (Decides-and _ _ (readable_Decides wide t u) (beside-Decides wide fs gs)))
  beside-Decides wide no_items (item n u _ gs) = (λ e. absurd (false≢true e), λ h. absurd h)
  beside-Decides wide (item m t _ fs) no_items = (λ e. absurd (false≢true e), λ h. absurd h)
