-- SPDX-License-Identifier: Apache-2.0
-- SPDX-FileCopyrightText: Copyright the Vortex contributors

-- The columns of a merged struct: which a name finds, and that no name repeats. And a type that is made nullable.
use Rattle.std.proofs.Common.{◌≡◌, ℕ, List, [], ◌∷◌, ◌++◌, cond, if◌then◌else◌, map, true, Option, Some, None, IsSome, refl, sym, ap, subst, ◌∙◌, inl, inr}
use Rattle.std.specs.List.{filter}
use Rattle.std.specs.Option.{is_none, is_some, option_and_then}
use Rattle.std.proofs.lemmas.Option.{same_Some}
use Rattle.dtype_base.specs.Distinct.{Distinct}
use Rattle.dtype_base.specs.declared.nullability.Nullability.TheVariants.{Nullable}
use Rattle.dtype_types.specs.nullability.Nullable.{IsNullable, set_null}
use Rattle.dtype_types.specs.nullability.Sub.{Allows}
use Rattle.dtype_types.specs.parts.Lookups.{field_names, first_named}
use Rattle.dtype_types.specs.tree.Tree.{Tree, Fields, Variants, no_items, item, pairs, fields, null, bool, primitive, decimal, utf8, binary, list, fixed_size_list, map_of, struct, union, variant, extension}
use Rattle.dtype_types.proofs.lemmas.JoinedFields.{named_before, named_behind}
use Rattle.dtype_types.proofs.lemmas.Nullabilities.{set_is}
use Rattle.dtype_types.proofs.lemmas.Order.{below_nullable}
use Rattle.dtype_types.proofs.lemmas.TreeLaws.{pairs_of}
use Rattle.dtype_merging.specs.ReadsAs.{ReadsAs, ReadsPlain, StaySorted, keyed, names}
use Rattle.dtype_merging.specs.MergedColumns.{further, further_variants, joined, made_nullable, no_repeats, or_tree}
use Rattle.dtype_merging.specs.declared.widening.Widening.{Widening}
use Rattle.dtype_merging.proofs.lemmas.Finding.{Pairs, agrees_rest, by_name, by_option, by_place, finds_first, finds_later, no_repeats_rest, true_both}
use Rattle.dtype_merging.proofs.lemmas.Order.{of_extension, of_fixed, of_list, of_map, of_struct, of_union}
use Rattle.dtype_merging.proofs.lemmas.Reading.{plain_kinds, reads_kind, sub_reads}
use Rattle.dtype_merging.proofs.lemmas.Repeats.{distinct_tested, tested_distinct}

-- ---- a type that is made nullable

pub made_set : (t : Tree) → set_null t Nullable ≡ Some (made_nullable t)
made_set (extension i b s) =
    let f : set_null (extension i b s) Nullable ≡ Some (extension i b (made_nullable s)) = ap (option_and_then (λ x. Some (extension i b x))) (made_set s) in
    f ∙ ap Some (sym (ap (or_tree (extension i b s)) f))
made_set _ = refl

pub made_in_storage : (i b : List ℕ) (s : Tree) → made_nullable (extension i b s) ≡ extension i b (made_nullable s)
made_in_storage i b s = ap (or_tree (extension i b s)) (ap (option_and_then (λ x. Some (extension i b x))) (made_set s))

pub made_above : (wide : Widening) (t : Tree) → ReadsAs wide t (made_nullable t)
made_above wide t = sub_reads wide t (made_nullable t) (below_nullable t (made_nullable t) (made_set t))

pub made_is : (t : Tree) → IsNullable (made_nullable t)
made_is t = set_is t (made_nullable t) Nullable (made_set t)

-- a nullable type as which a type can be read is one as which the type made nullable can be read
pub made_least : (wide : Widening) (t y : Tree) → ReadsAs wide t y → IsNullable y → ReadsAs wide (made_nullable t) y
made_least wide null y h e = h
made_least wide (bool m) (bool n) h e = record { erased = h.erased; nullable = λ z. e }
made_least wide (primitive p m) (primitive q n) h e = (h.0, λ z. e)
made_least wide (decimal p m) (decimal q n) h e = (h.0, λ z. e)
made_least wide (utf8 m) (utf8 n) h e = record { erased = h.erased; nullable = λ z. e }
made_least wide (binary m) (binary n) h e = record { erased = h.erased; nullable = λ z. e }
made_least wide (variant m) (variant n) h e = record { erased = h.erased; nullable = λ z. e }
made_least wide (union vs m) y h e =
    let i = of_union (ReadsPlain wide) Allows StaySorted IsNullable (Unit {0}) (plain_kinds wide) vs m y h in
    let at = subst IsNullable i.2 e in
    subst (ReadsAs wide (union vs Nullable)) (sym i.2) (elim i.3 [
      | inl s ↦ inl (s.0, λ z. at, s.2, s.3)
      | inr s ↦ inr (s.0, record { erased = s.1.erased; nullable = (λ z. at, s.1.nullable.1) })
    ])
made_least wide (list t m) y h e =
    let i = of_list (ReadsPlain wide) Allows StaySorted IsNullable (Unit {0}) (plain_kinds wide) t m y h in
    let at = subst IsNullable i.2 e in subst (ReadsAs wide (list t Nullable)) (sym i.2) (λ z. at, i.4)
made_least wide (fixed_size_list t j m) y h e =
    let i = of_fixed (ReadsPlain wide) Allows StaySorted IsNullable (Unit {0}) (plain_kinds wide) t j m y h in
    let at = subst IsNullable i.2 e in subst (ReadsAs wide (fixed_size_list t j Nullable)) (sym i.2) (refl, λ z. at, i.4)
made_least wide (map_of t v x m) y h e =
    let i = of_map (ReadsPlain wide) Allows StaySorted IsNullable (Unit {0}) (plain_kinds wide) t v x m y h in
    let at = subst IsNullable i.4 e in subst (ReadsAs wide (map_of t v x Nullable)) (sym i.4) (i.5, λ z. at, i.7, i.8)
made_least wide (struct fs m) y h e =
    let i = of_struct (ReadsPlain wide) Allows StaySorted IsNullable (Unit {0}) (plain_kinds wide) fs m y h in
    let at = subst IsNullable i.2 e in
    subst (ReadsAs wide (struct fs Nullable)) (sym i.2) (elim i.3 [
      | inl s ↦ inl (s.0, λ z. at, s.2, s.3)
      | inr s ↦ inr (s.0, λ z. at, s.2)
    ])
made_least wide (extension i b t) y h e =
    let p = of_extension (ReadsPlain wide) Allows StaySorted IsNullable (Unit {0}) (plain_kinds wide) i b t y h in
    let at = subst IsNullable p.1 e in
    subst (λ z. ReadsAs wide z y) (sym (made_in_storage i b t)) (subst (ReadsAs wide (extension i b (made_nullable t))) (sym p.1) (refl, refl, made_least wide t p.0 p.2 at))
made_least wide t y h e = let kinds = reads_kind wide t y refl h in cc

-- ---- columns side by side with fields

-- the columns have the names of the fields, and P is true of each name, the type of the field and that of the column
abbrev pub Rows : (List ℕ → Tree → Tree → Type 0) → Fields → Pairs → Type 0
Rows P no_items [] = Unit {0}
Rows P (item n t _ fs) (p ∷ ps) = (p.0 ≡ n) × P n t p.1 × Rows P fs ps
Rows P _ _ = ⊥

module _ (P : List ℕ → Tree → Tree → Type 0) where
  pub row_at : (fs : Fields) (ps : Pairs) → Rows P fs ps → (n : List ℕ) (t : Tree) → first_named (pairs fs) n ≡ Some t → (x : Tree) × (first_named ps n ≡ Some x) × P n t x
  row_at no_items [] h n t is = cc
  row_at (item m u _ fs) (p ∷ ps) h n t is = by_place m n u t (pairs fs) is
      (λ e same. (p.1, finds_first p.0 n p.1 ps (h.0 ∙ e), subst (λ z. P n z p.1) same (subst (λ z. P z u p.1) e h.1)))
      (λ ne later. let r = row_at fs ps h.2 n t later in (r.0, finds_later p.0 n p.1 ps (λ q. ne (sym h.0 ∙ q)) ∙ r.1, r.2))
  row_at no_items (p ∷ ps) h n t is = absurd h
  row_at (item m u _ fs) [] h n t is = absurd h

  pub row_none : (fs : Fields) (ps : Pairs) → Rows P fs ps → (n : List ℕ) → first_named (pairs fs) n ≡ None → first_named ps n ≡ None
  row_none no_items [] h n none = refl
  row_none (item m u _ fs) (p ∷ ps) h n none = by_name m n
      (λ e. let some = finds_first m n u (pairs fs) e in cc)
      (λ ne. finds_later p.0 n p.1 ps (λ q. ne (sym h.0 ∙ q)) ∙ row_none fs ps h.2 n (sym (finds_later m n u (pairs fs) ne) ∙ none))
  row_none no_items (p ∷ ps) h n none = absurd h
  row_none (item m u _ fs) [] h n none = absurd h

  pub row_back : (fs : Fields) (ps : Pairs) → Rows P fs ps → (n : List ℕ) (x : Tree) → first_named ps n ≡ Some x → (t : Tree) × (first_named (pairs fs) n ≡ Some t) × P n t x
  row_back fs ps h n x is = by_option (first_named (pairs fs) n)
      (λ none. let empty = row_none fs ps h n none in cc)
      (λ t at. let r = row_at fs ps h n t at in (t, at, subst (P n t) (same_Some r.0 x (sym r.1 ∙ is)) r.2))

  pub row_names : (fs : Fields) (ps : Pairs) → Rows P fs ps → field_names ps ≡ names fs
  row_names no_items [] h = refl
  row_names (item m u _ fs) (p ∷ ps) h = cc (h.0, row_names fs ps h.2)
  row_names no_items (p ∷ ps) h = absurd h
  row_names (item m u _ fs) [] h = absurd h

  pub row_repeats : (fs : Fields) (ps : Pairs) → Rows P fs ps → no_repeats (pairs fs) ≡ true → no_repeats ps ≡ true
  row_repeats fs ps h d = tested_distinct ps (subst Distinct (sym (row_names fs ps h)) (distinct_tested (pairs fs) d))

-- ---- further columns

pub further_kept : (fs gs : Pairs) (g : List ℕ × Tree) → first_named fs g.0 ≡ None → further fs (g ∷ gs) ≡ (g.0, made_nullable g.1) ∷ further fs gs
further_kept fs gs g e = ap (λ o. map (λ (h : List ℕ × Tree). (h.0, made_nullable h.1)) (cond (is_none o) (g ∷ filter (λ h. is_none (first_named fs h.0)) gs) (filter (λ h. is_none (first_named fs h.0)) gs))) e

pub further_left : (fs gs : Pairs) (g : List ℕ × Tree) (t : Tree) → first_named fs g.0 ≡ Some t → further fs (g ∷ gs) ≡ further fs gs
further_left fs gs g t e = ap (λ o. map (λ (h : List ℕ × Tree). (h.0, made_nullable h.1)) (cond (is_none o) (g ∷ filter (λ h. is_none (first_named fs h.0)) gs) (filter (λ h. is_none (first_named fs h.0)) gs))) e

-- a name that the first list has finds no further column
pub further_skips : (fs gs : Pairs) (n : List ℕ) (t : Tree) → first_named fs n ≡ Some t → first_named (further fs gs) n ≡ None
further_skips fs [] n t e = refl
further_skips fs (g ∷ gs) n t e = by_option (first_named fs g.0)
    (λ none. ap (λ ps. first_named ps n) (further_kept fs gs g none) ∙ finds_later g.0 n (made_nullable g.1) (further fs gs) (λ q. let some = ap (first_named fs) q ∙ e in cc) ∙ further_skips fs gs n t e)
    (λ u some. ap (λ ps. first_named ps n) (further_left fs gs g u some) ∙ further_skips fs gs n t e)

-- and so does one that the second list lacks
pub further_lacks : (fs gs : Pairs) (n : List ℕ) → first_named gs n ≡ None → first_named (further fs gs) n ≡ None
further_lacks fs [] n e = refl
further_lacks fs (g ∷ gs) n e = by_name g.0 n
    (λ same. let some = finds_first g.0 n g.1 gs same in cc)
    (λ ne.
    let rest = further_lacks fs gs n (sym (finds_later g.0 n g.1 gs ne) ∙ e) in
    by_option (first_named fs g.0)
    (λ none. ap (λ ps. first_named ps n) (further_kept fs gs g none) ∙ finds_later g.0 n (made_nullable g.1) (further fs gs) ne ∙ rest)
    (λ u some. ap (λ ps. first_named ps n) (further_left fs gs g u some) ∙ rest))

-- any other finds the type in the second, made nullable
pub further_finds : (fs gs : Pairs) (n : List ℕ) (u : Tree) → first_named fs n ≡ None → first_named gs n ≡ Some u → first_named (further fs gs) n ≡ Some (made_nullable u)
further_finds fs [] n u e is = cc
further_finds fs (g ∷ gs) n u e is = by_place g.0 n g.1 u gs is
    (λ same type. ap (λ ps. first_named ps n) (further_kept fs gs g (ap (first_named fs) same ∙ e)) ∙ finds_first g.0 n (made_nullable g.1) (further fs gs) same ∙ ap (λ t. Some (made_nullable t)) type)
    (λ ne later.
    let rest = further_finds fs gs n u e later in
    by_option (first_named fs g.0)
    (λ none. ap (λ ps. first_named ps n) (further_kept fs gs g none) ∙ finds_later g.0 n (made_nullable g.1) (further fs gs) ne ∙ rest)
    (λ t some. ap (λ ps. first_named ps n) (further_left fs gs g t some) ∙ rest))

pub further_back : (fs gs : Pairs) (n : List ℕ) (x : Tree) → first_named (further fs gs) n ≡ Some x → (u : Tree) × (first_named fs n ≡ None) × (first_named gs n ≡ Some u) × (x ≡ made_nullable u)
further_back fs gs n x is = by_option (first_named gs n)
    (λ none. let empty = further_lacks fs gs n none in cc)
    (λ u at. by_option (first_named fs n)
    (λ none. (u, none, at, same_Some x (made_nullable u) (sym is ∙ further_finds fs gs n u none at)))
    (λ t some. let empty = further_skips fs gs n t some in cc))

pub further_repeats : (fs gs : Pairs) → no_repeats gs ≡ true → no_repeats (further fs gs) ≡ true
further_repeats fs [] d = refl
further_repeats fs (g ∷ gs) d =
    let r = no_repeats_rest g gs d in
    let rest = further_repeats fs gs r.1 in
    by_option (first_named fs g.0)
    (λ none. ap no_repeats (further_kept fs gs g none) ∙ true_both (is_none (first_named (further fs gs) g.0)) (no_repeats (further fs gs)) (ap is_none (further_lacks fs gs g.0 r.0)) rest)
    (λ u some. ap no_repeats (further_left fs gs g u some) ∙ rest)

-- ---- further variants

pub kept_variant : (fs : Fields) (n : List ℕ) (u : Tree) (g : ℕ) (ws : Variants) → first_named (pairs fs) (g ∷ n) ≡ None → further_variants fs (item n u g ws) ≡ item n u g (further_variants fs ws)
kept_variant fs n u g ws e = ap (λ o. if is_some o then further_variants fs ws else item n u g (further_variants fs ws)) e

pub left_variant : (fs : Fields) (n : List ℕ) (u : Tree) (g : ℕ) (ws : Variants) (t : Tree) → first_named (pairs fs) (g ∷ n) ≡ Some t → further_variants fs (item n u g ws) ≡ further_variants fs ws
left_variant fs n u g ws t e = ap (λ o. if is_some o then further_variants fs ws else item n u g (further_variants fs ws)) e

pub variant_skips : (fs : Fields) (ws : Variants) (k : List ℕ) (t : Tree) → first_named (pairs fs) k ≡ Some t → first_named (pairs (keyed (further_variants fs ws))) k ≡ None
variant_skips fs no_items k t e = refl
variant_skips fs (item n u g ws) k t e = by_option (first_named (pairs fs) (g ∷ n))
    (λ none. ap (λ vs. first_named (pairs (keyed vs)) k) (kept_variant fs n u g ws none)
    ∙ finds_later (g ∷ n) k u (pairs (keyed (further_variants fs ws))) (λ q. let some = ap (first_named (pairs fs)) q ∙ e in cc) ∙ variant_skips fs ws k t e)
    (λ v some. ap (λ vs. first_named (pairs (keyed vs)) k) (left_variant fs n u g ws v some) ∙ variant_skips fs ws k t e)

pub variant_finds : (fs : Fields) (ws : Variants) (k : List ℕ) → first_named (pairs fs) k ≡ None → first_named (pairs (keyed (further_variants fs ws))) k ≡ first_named (pairs (keyed ws)) k
variant_finds fs no_items k e = refl
variant_finds fs (item n u g ws) k e = by_option (first_named (pairs fs) (g ∷ n))
    (λ none. ap (λ vs. first_named (pairs (keyed vs)) k) (kept_variant fs n u g ws none)
    ∙ by_name (g ∷ n) k
    (λ same. finds_first (g ∷ n) k u (pairs (keyed (further_variants fs ws))) same ∙ sym (finds_first (g ∷ n) k u (pairs (keyed ws)) same))
    (λ ne. finds_later (g ∷ n) k u (pairs (keyed (further_variants fs ws))) ne ∙ variant_finds fs ws k e ∙ sym (finds_later (g ∷ n) k u (pairs (keyed ws)) ne)))
    (λ v some. ap (λ vs. first_named (pairs (keyed vs)) k) (left_variant fs n u g ws v some) ∙ variant_finds fs ws k e
    ∙ sym (finds_later (g ∷ n) k u (pairs (keyed ws)) (λ q. let none = ap (first_named (pairs fs)) q ∙ e in cc)))

pub variant_back : (fs : Fields) (ws : Variants) (k : List ℕ) (x : Tree) → first_named (pairs (keyed (further_variants fs ws))) k ≡ Some x → (first_named (pairs fs) k ≡ None) × (first_named (pairs (keyed ws)) k ≡ Some x)
variant_back fs ws k x is = by_option (first_named (pairs fs) k)
    (λ none. (none, sym (variant_finds fs ws k none) ∙ is))
    (λ t some. let empty = variant_skips fs ws k t some in cc)

pub variants_repeat : (fs : Fields) (ws : Variants) → no_repeats (pairs (keyed ws)) ≡ true → no_repeats (pairs (keyed (further_variants fs ws))) ≡ true
variants_repeat fs no_items d = refl
variants_repeat fs (item n u g ws) d =
    let r = no_repeats_rest (g ∷ n, u) (pairs (keyed ws)) d in
    let rest = variants_repeat fs ws r.1 in
    by_option (first_named (pairs fs) (g ∷ n))
    (λ none. ap (λ vs. no_repeats (pairs (keyed vs))) (kept_variant fs n u g ws none)
    ∙ true_both (is_none (first_named (pairs (keyed (further_variants fs ws))) (g ∷ n))) (no_repeats (pairs (keyed (further_variants fs ws)))) (ap is_none (variant_finds fs ws (g ∷ n) none ∙ r.0)) rest)
    (λ v some. ap (λ vs. no_repeats (pairs (keyed vs))) (left_variant fs n u g ws v some) ∙ rest)

-- no further variants, if the first union has each variant of the second
pub variants_none : (fs : Fields) (ws : Variants) → ((k : List ℕ) (u : Tree) → first_named (pairs (keyed ws)) k ≡ Some u → (t : Tree) × (first_named (pairs fs) k ≡ Some t)) → further_variants fs ws ≡ no_items
variants_none fs no_items h = refl
variants_none fs (item n u g ws) h =
    let s = h (g ∷ n) u (finds_first (g ∷ n) (g ∷ n) u (pairs (keyed ws)) refl) in
    left_variant fs n u g ws s.0 s.1 ∙ variants_none fs ws (λ k v is. by_name (g ∷ n) k (λ e. (s.0, sym (ap (first_named (pairs fs)) e) ∙ s.1)) (λ ne. h k v (finds_later (g ∷ n) k u (pairs (keyed ws)) ne ∙ is)))

pub keyed_joined : (us ws : Variants) → pairs (keyed (joined us ws)) ≡ pairs (keyed us) ++ pairs (keyed ws)
keyed_joined no_items ws = refl
keyed_joined (item n t f us) ws = ap (λ ps. (f ∷ n, t) ∷ ps) (keyed_joined us ws)

pub joined_nothing : (us : Variants) → joined us no_items ≡ us
joined_nothing no_items = refl
joined_nothing (item n t f us) = ap (item n t f) (joined_nothing us)

-- ---- columns and further columns together

pub found_before : (ps qs : Pairs) (n : List ℕ) (x : Tree) → first_named ps n ≡ Some x → first_named (ps ++ qs) n ≡ Some x
found_before ps qs n x e = named_before ps qs n (subst IsSome (sym e) refl) ∙ e

pub found_behind : (ps qs : Pairs) (n : List ℕ) (x : Tree) → first_named ps n ≡ None → first_named qs n ≡ Some x → first_named (ps ++ qs) n ≡ Some x
found_behind ps qs n x e f = named_behind ps qs n e ∙ f

pub joined_repeats : (ps qs : Pairs) → no_repeats ps ≡ true → no_repeats qs ≡ true → ((n : List ℕ) (x : Tree) → first_named ps n ≡ Some x → first_named qs n ≡ None) → no_repeats (ps ++ qs) ≡ true
joined_repeats [] qs d e apart = e
joined_repeats (p ∷ ps) qs d e apart =
    let r = no_repeats_rest p ps d in
    true_both (is_none (first_named (ps ++ qs) p.0)) (no_repeats (ps ++ qs))
    (ap is_none (named_behind ps qs p.0 r.0 ∙ apart p.0 p.1 (finds_first p.0 p.0 p.1 ps refl)))
    (joined_repeats ps qs r.1 e (λ n x is. apart n x (agrees_rest p.0 p.1 ps (p ∷ ps) r.0 (λ k y at. at) n x is)))

-- what a name finds in a struct of these columns
pub in_struct : (qs : Pairs) (n : List ℕ) (o : Option Tree) → first_named qs n ≡ o → first_named (pairs (fields qs)) n ≡ o
in_struct qs n o e = ap (λ z. first_named z n) (pairs_of qs) ∙ e

pub of_columns : (qs : Pairs) (n : List ℕ) (o : Option Tree) → first_named (pairs (fields qs)) n ≡ o → first_named qs n ≡ o
of_columns qs n o e = ap (λ z. first_named z n) (sym (pairs_of qs)) ∙ e

pub distinct_columns : (qs : Pairs) → no_repeats qs ≡ true → Distinct (names (fields qs))
distinct_columns qs d = distinct_tested (pairs (fields qs)) (ap no_repeats (pairs_of qs) ∙ d)
