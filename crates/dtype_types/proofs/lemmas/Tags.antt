-- SPDX-License-Identifier: Apache-2.0
-- SPDX-FileCopyrightText: Copyright the Vortex contributors

-- The tags of a valid union: each is at one position.
use Rattle.std.proofs.Common.{◌≡◌, ℕ, ◌<◌, ◌≤◌, ◌==◌, Bool, true, inl, inr, List, length, get_or, slice_get, Option, Some, None, IfSome, IsSome, ◌↔◌, Contains, cond, refl, ap, subst, sym, ◌∙◌, arith, IsTrue}
use Rattle.std.specs.List.{position, position_or_len, range_with_len}
use Rattle.std.specs.Option.{is_some}
use Rattle.std.proofs.lemmas.List.{get_or_default, length-map}
use Rattle.std.proofs.lemmas.Bool.{cases_lt, false≢true, lt-ltb, false_from_ne_true}
use Rattle.std.proofs.lemmas.List.FromFn.{get_or-range_with_len, length-range_with_len}
use Rattle.std.proofs.lemmas.List.Quantifiers.{position-Some}
use Rattle.std.proofs.lemmas.List.Sums.{fails_before_first, position_or_len_is}
use Rattle.std.proofs.lemmas.Option.{slice_get-get_or, slice_get_past, slice_get_within, slice_get_read, get_or_from_slice_get}
use Rattle.dtype_base.specs.Distinct.{Distinct}
use Rattle.dtype_types.proofs.lemmas.TreeLaws.{triples_variants}
use Rattle.dtype_types.proofs.lemmas.ValidLists.{variants_are}
use Rattle.dtype_types.specs.tree.Tree.{Tree, triples, variants}
use Rattle.dtype_types.specs.parts.Unions.{AreConsecutive, are_consecutive}
use Rattle.dtype_types.specs.tree.Valid.{ValidVariants}
use Rattle.dtype_types.specs.parts.Lookups.{variant_tags}
use Rattle.dtype_types.specs.tree.TreeOf.{variants_of, variant_list}
use Rattle.std.specs.Cmp.Lexicographic.{bytes_decides}
use Rattle.std.proofs.lemmas.Bool.Decides.{Decides-eqb, same_from_decides}
use Rattle.dtype_types.specs.declared.union_variants.UnionVariants.{UnionVariants}

pub position_of_tag : (u : UnionVariants) → ValidVariants (variants_of u) → (i tag : ℕ) → slice_get (variant_tags (variant_list u)) i ≡ Some tag → position (λ g. g == tag) (variant_tags (variant_list u)) ≡ Some i
position_of_tag u h i tag here =
    let gs = variant_tags (variant_list u) in
    let within = slice_get_within gs i tag here in
    let is = get_or_from_slice_get gs i tag 0 here in
    let apart : Distinct gs = subst (λ vs. Distinct (variant_tags vs)) (triples_variants (variant_list u)) (variants_are _ h.0).0.1 in
    let first = position_or_len_is (λ g. g == tag) gs i 0 (omega arith)
    (λ k before. false_from_ne_true _ (λ e. apart k i 0 before within ((Decides-eqb _ _).0 e ∙ sym is)))
    (λ _. (Decides-eqb _ _).1 is) in
    rw first (ap (λ b. cond b (Some i) None) (lt-ltb i (length gs) within))

pub position_within : (u : UnionVariants) (f : ℕ → Bool) (r : Option ℕ) → r ≡ position f (variant_tags (variant_list u)) → IfSome r (λ i. i < length (variant_list u))
position_within u f None e = tt
position_within u f (Some i) e = omega (arith, (position-Some f (variant_tags (variant_list u)) i 0 (sym e)).0, length-map (variant_list u) (λ c. c.1.1))

-- whether a variant has a tag, and which it is
among_passes : (gs : List ℕ) (tag : ℕ) → Contains gs tag → is_some (position (λ g. g == tag) gs) ≡ true
among_passes gs tag c = elim (cases_lt (position_or_len (λ g. g == tag) gs) (length gs)) [
  | inl within ↦ ap (λ b. is_some (cond b (Some (position_or_len (λ g. g == tag) gs)) None)) (lt-ltb _ (length gs) within)
  | inr none ↦ absurd (false≢true (sym (fails_before_first (λ g. g == tag) gs c.0 tag (omega (arith, none, c.1))) ∙ ap (λ g. g == tag) c.2 ∙ (Decides-eqb tag tag).1 refl))
]

pub tag_is_there : (gs : List ℕ) (tag : ℕ) (r : Option ℕ) → r ≡ position (λ g. g == tag) gs → IsSome r ↔ Contains gs tag
tag_is_there gs tag None e = (λ h. absurd (false≢true h), λ c. ap is_some e ∙ among_passes gs tag c)
tag_is_there gs tag (Some i) e =
    let at = position-Some (λ g. g == tag) gs i tag (sym e) in
    (λ h. (i, at.0, (Decides-eqb _ _).0 at.1), λ c. refl)

pub tag_is_at : (gs : List ℕ) (tag : ℕ) (r : Option ℕ) → r ≡ position (λ g. g == tag) gs → IfSome r (λ i. slice_get gs i ≡ Some tag)
tag_is_at gs tag None e = tt
tag_is_at gs tag (Some i) e =
    let at = position-Some (λ g. g == tag) gs i tag (sym e) in
    slice_get-get_or gs i tag at.0 ∙ ap Some ((Decides-eqb _ _).0 at.1)

-- the tag read at a position
pub tag_read : (gs hs : List ℕ) (i : ℕ) → hs ≡ gs → i < length gs → slice_get gs i ≡ Some (get_or hs i 0)
tag_read gs hs i e w = slice_get_read gs (length gs) i (get_or hs i 0) refl w (ap (λ xs. get_or xs i 0) e ∙ get_or_default gs i 0 (get_or hs i 0) w)

-- tags that are 0, 1, 2 and so on, however many
pub consecutive_tags : (gs : List ℕ) (n : ℕ) → gs ≡ range_with_len 0 n → AreConsecutive gs
consecutive_tags gs n e = e ∙ ap (range_with_len 0) (sym (ap length e ∙ length-range_with_len 0 n))

-- such a tag is its position
pub consecutive_at : (gs : List ℕ) → AreConsecutive gs → (i d : ℕ) → i < length gs → get_or gs i d ≡ i
consecutive_at gs c i d within = ap (λ xs. get_or xs i d) c ∙ get_or-range_with_len 0 (length gs) i d within ∙ omega arith

pub consecutive_tag_at : (gs : List ℕ) (i tag : ℕ) → AreConsecutive gs → slice_get gs i ≡ Some tag → tag ≡ i
consecutive_tag_at gs i tag c e = sym (get_or_from_slice_get gs i tag 0 e) ∙ consecutive_at gs c i 0 (slice_get_within gs i tag e)

-- and those below their number are there, and no others
pub consecutive_below : (vs : List (List ℕ × (Tree × ℕ))) (g : ℕ) → AreConsecutive (variant_tags vs) → Contains (variant_tags vs) g → g < length vs
consecutive_below vs g c h = omega (arith, sym h.2 ∙ consecutive_at (variant_tags vs) c h.0 g h.1, h.1, length-map vs (λ v. v.1.1))

pub consecutive_among : (vs : List (List ℕ × (Tree × ℕ))) (g : ℕ) → AreConsecutive (variant_tags vs) → g < length vs → Contains (variant_tags vs) g
consecutive_among vs g c h =
    let within : g < length (variant_tags vs) = omega (arith, h, length-map vs (λ v. v.1.1)) in
    (g, within, consecutive_at (variant_tags vs) c g g within)

pub no_tag_past : (vs : List (List ℕ × (Tree × ℕ))) (i : ℕ) → length vs ≤ i → slice_get (variant_tags vs) i ≡ None
no_tag_past vs i h = slice_get_past (variant_tags vs) i (omega (arith, h, length-map vs (λ v. v.1.1)))

-- where the tags are consecutive, the test of a union's text holds
pub told_by_test : (vs : List (List ℕ × (Tree × ℕ))) (b : Bool) → (IsTrue b ↔ AreConsecutive (variant_tags vs)) → b ≡ are_consecutive (variant_tags (triples (variants vs)))
told_by_test vs b h = let gs = variant_tags vs in same_from_decides b _ h (bytes_decides gs (range_with_len 0 (length gs))) ∙ ap (λ ws. are_consecutive (variant_tags ws)) (sym (triples_variants vs))

pub ruleset tags = (position_of_tag, position_within, consecutive_tags, consecutive_tag_at, consecutive_below, consecutive_among, no_tag_past)
