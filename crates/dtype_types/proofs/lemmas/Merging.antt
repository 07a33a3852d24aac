-- SPDX-License-Identifier: Apache-2.0
-- SPDX-FileCopyrightText: Copyright the Vortex contributors

-- What is merged and what is intersected of two types: where there is such a type, that it is the least above or the
-- greatest below, that it is valid, its values, and that both are commutative, associative, idempotent and monotone and
-- absorb one another.
use Rattle.std.proofs.Common.{◌≡◌, ◌≢◌, ◌↔◌, ◌∙◌, Option, Some, None, IsSome, IfSome, option_and_then, refl, sym, ap, subst}
use Rattle.std.specs.Option.{option_map}
use Rattle.std.proofs.lemmas.Bool.{cond_both, false≢true}
use Rattle.std.proofs.lemmas.Option.{same_Some}
use Rattle.dtype_base.specs.Nullability.{either}
use Rattle.dtype_base.specs.declared.nullability.Nullability.{Nullability}
use Rattle.dtype_base.specs.declared.nullability.Nullability.TheVariants.{NonNullable, Nullable}
use Rattle.dtype_types.specs.declared.dtype.DType.{DType}
use Rattle.dtype_types.specs.declared.dtype.equality.NullabilityRule.TheVariants.{Ignored}
use Rattle.dtype_types.specs.declared.dtype.nullability_bounds.MergeRule.{MergeRule}
use Rattle.dtype_types.specs.declared.dtype.nullability_bounds.MergeRule.TheVariants.{Either, Both}
use Rattle.dtype_types.specs.equality.Equality.{equal_under}
use Rattle.dtype_types.specs.equality.EqualityLaws.{equal_erased-Decides}
use Rattle.dtype_types.specs.nullability.Merged.{Rule, both, merge, merge_items, merged_under, merged, intersected, IsLeastAbove, IsGreatestBelow, rule_of}
use Rattle.dtype_types.specs.nullability.Nullable.{nullability}
use Rattle.dtype_types.specs.nullability.Sub.{Sub}
use Rattle.dtype_types.specs.tree.Erase.{erase, erase_items}
use Rattle.dtype_types.specs.tree.Tree.{Tree, item, null, list, fixed_size_list, map_of, struct, union, extension, Holder, Items, rest_of}
use Rattle.dtype_types.specs.tree.TreeOf.{tree}
use Rattle.dtype_types.specs.tree.Valid.{Valid, ValidItems}
use Rattle.dtype_types.specs.values.Value.{Value, IncludedIn, Of}
use Rattle.dtype_types.proofs.OwnTags.{are_variants_also}
use Rattle.dtype_types.proofs.lemmas.Bounds.{Relation, Bounds, InOrder, erase_merge, commutes, associates, bound_in_order, after_itself, upwards, downwards, below, above, least_either, greatest_both}
use Rattle.dtype_types.proofs.lemmas.BoundValues.{least_values}
use Rattle.dtype_types.proofs.lemmas.Order.{sub_transitive}
use Rattle.dtype_types.proofs.lemmas.SubValues.{of_both, sub_values}

-- ---- valid types

-- under a rule that keeps a key non-nullable: `Needs` is what the second type has to be valid for. As in `Bounds` the last
-- clause holds for the kinds that have no parts too.
module _ (r : Rule) (Needs : Type 0) (key : (n : Nullability) → (Needs → n ≡ NonNullable) → r NonNullable n ≡ NonNullable) (nulls : r Nullable Nullable ≡ Nullable) where
  nullability_merge : (a b : Tree) → erase a ≡ erase b → nullability (merge r a b) ≡ r (nullability a) (nullability b)
  nullability_merge null null e = sym nulls
  nullability_merge (extension i a t) (extension j b u) e = nullability_merge t u (cc)
  nullability_merge _ null e = cc
  nullability_merge _ _ e = cc

  mutual
    valid_merge : (a b : Tree) → erase a ≡ erase b → Valid a → (Needs → Valid b) → Valid (merge r a b)
    valid_merge (list t m) (list u n) e h k = valid_merge t u (cc) h k
    valid_merge (fixed_size_list t i m) (fixed_size_list u j n) e h k = (h.0, valid_merge t u (cc) h.1 (λ z. (k z).1))
    valid_merge (map_of t v x m) (map_of u w y n) e h k =
        (nullability_merge t u (cc) ∙ ap (λ z. r z (nullability u)) h.0 ∙ key (nullability u) (λ z. (k z).0), valid_merge t u (cc) h.1 (λ z. (k z).1), valid_merge v w (cc) h.2 (λ z. (k z).2))
    valid_merge (struct fs m) (struct gs n) e h k = valid_merge_items fs gs (cc) h k
    valid_merge (union vs m) (union ws n) e h k = (are_variants_also vs (merge_items r vs ws) (cc (erase_merge r (union vs m) (union ws n) e)) h.0, valid_merge_items vs ws (cc) h.1 (λ z. (k z).1))
    valid_merge (extension i a t) (extension j b u) e h k = (h.0, valid_merge t u (cc) h.1 (λ z. (k z).1))
    valid_merge _ (list u n) e h k = h
    valid_merge _ _ e h k = h

    valid_merge_items : {h : Holder} (xs ys : Items h) → erase_items xs ≡ erase_items ys → ValidItems xs → (Needs → ValidItems ys) → ValidItems (merge_items r xs ys)
    valid_merge_items (item m t f xs) (item n u g ys) e h k = (valid_merge t u (cc) h.0 (λ z. (k z).0), valid_merge_items xs ys (ap rest_of e) h.1 (λ z. (k z).1))
    valid_merge_items _ _ e h k = tt

-- ---- where there is one, under either rule

module _ (r : Rule) where
  -- a fact of what is merged, by whether the types are equal but for nullabilities
  by_erased : (a b : Tree) (P : Option Tree → Type 0) → (erase a ≡ erase b → P (Some (merge r a b))) → (erase a ≢ erase b → P None) → P (merged_under r a b)
  by_erased a b P same differ =
      let test = equal_erased-Decides a b in
      cond_both (equal_under Ignored a b) (Some (merge r a b)) None P (λ is. same (test.0 is)) (λ is. differ (λ e. false≢true (sym is ∙ test.1 e)))

  pub under_some : (a b : Tree) → erase a ≡ erase b → merged_under r a b ≡ Some (merge r a b)
  under_some a b e = by_erased a b (λ o. o ≡ Some (merge r a b)) (λ _. refl) (λ d. absurd (d e))

  pub under_none : (a b : Tree) → erase a ≢ erase b → merged_under r a b ≡ None
  under_none a b d = by_erased a b (λ o. o ≡ None) (λ e. absurd (d e)) (λ _. refl)

  pub under_where : (a b : Tree) → IsSome (merged_under r a b) ↔ (erase a ≡ erase b)
  under_where a b = by_erased a b (λ o. IsSome o ↔ (erase a ≡ erase b)) (λ e. (λ _. e, λ _. refl)) (λ d. (λ s. absurd (false≢true s), λ e. absurd (d e)))

  -- where there is one, it is what is merged of types that are equal but for nullabilities
  under_is : (a b c : Tree) (P : Tree → Type 0) → (erase a ≡ erase b → P (merge r a b)) → merged_under r a b ≡ Some c → P c
  under_is a b c P f = by_erased a b (λ o. o ≡ Some c → P c) (λ e is. subst P (same_Some (merge r a b) c is) (f e)) (λ d is. cc)

  -- the same of what a call returns
  pub given_under : (a b : Tree) (o : Option DType) → option_map tree o ≡ merged_under r a b → IsSome o ↔ (erase a ≡ erase b)
  given_under a b None is = subst (λ p. IsSome p ↔ (erase a ≡ erase b)) (sym is) (under_where a b)
  given_under a b (Some d) is = subst (λ p. IsSome p ↔ (erase a ≡ erase b)) (sym is) (under_where a b)

  given_is : (a b : Tree) (P : Tree → Type 0) → ((c : Tree) → merged_under r a b ≡ Some c → P c) → (o : Option DType) → option_map tree o ≡ merged_under r a b → IfSome o (λ d. P (tree d))
  given_is a b P f None is = tt
  given_is a b P f (Some d) is = f (tree d) (sym is)

module _ {A : Relation} {r : Rule} (bounds : Bounds A r) where
  under_in_order : (a b : Tree) → InOrder A a b → merged_under r a b ≡ Some b
  under_in_order a b h = under_some r a b h.0 ∙ ap Some (bound_in_order bounds a b h)

  under_commutes : (a b : Tree) → merged_under r a b ≡ merged_under r b a
  under_commutes a b = by_erased r a b (λ o. o ≡ merged_under r b a)
      (λ e. ap Some (commutes bounds a b e) ∙ sym (under_some r b a (sym e)))
      (λ d. sym (under_none r b a (λ e. d (sym e))))

  under_associates : (a b c : Tree) → option_and_then (λ x. merged_under r x c) (merged_under r a b) ≡ option_and_then (merged_under r a) (merged_under r b c)
  under_associates a b c = by_erased r a b (λ o. option_and_then (λ x. merged_under r x c) o ≡ option_and_then (merged_under r a) (merged_under r b c))
      (λ e. by_erased r b c (λ o. merged_under r (merge r a b) c ≡ option_and_then (merged_under r a) o)
      (λ f. under_some r (merge r a b) c (erase_merge r a b e ∙ e ∙ f) ∙ ap Some (associates bounds a b c e f) ∙ sym (under_some r a (merge r b c) (e ∙ sym (erase_merge r b c f))))
      (λ d. under_none r (merge r a b) c (λ f. d (sym e ∙ sym (erase_merge r a b e) ∙ f))))
      (λ d. by_erased r b c (λ o. None ≡ option_and_then (merged_under r a) o)
      (λ f. sym (under_none r a (merge r b c) (λ e. d (e ∙ erase_merge r b c f))))
      (λ n. refl))

-- ---- the least type above two

pub merged_least : (a b c : Tree) → merged a b ≡ Some c → IsLeastAbove a b c
merged_least a b c = under_is either a b c (IsLeastAbove a b) (least_either a b)

pub merged_valid : (a b c : Tree) → merged a b ≡ Some c → Valid a → Valid b → Valid c
merged_valid a b c = under_is either a b c (λ c. Valid a → Valid b → Valid c)
    (λ e h k. valid_merge either (Unit {0}) (λ n same. ap (either NonNullable) (same tt)) refl a b e h (λ _. k))

pub values_first : (a b c : Tree) → merged a b ≡ Some c → IncludedIn a c
values_first a b c e = sub_values a c (merged_least a b c e).first

pub values_second : (a b c : Tree) → merged a b ≡ Some c → IncludedIn b c
values_second a b c e = sub_values b c (merged_least a b c e).second

pub merged_least_values : (a b c d : Tree) → merged a b ≡ Some c → Valid a → Valid b → Valid d → IncludedIn a d → IncludedIn b d → IncludedIn c d
merged_least_values a b c d e h k x = under_is either a b c (λ c. IncludedIn a d → IncludedIn b d → IncludedIn c d) (λ same. least_values a b same h k d x) e

pub merged_commutes : (a b : Tree) → merged a b ≡ merged b a
merged_commutes = under_commutes upwards

pub merged_associates : (a b c : Tree) → option_and_then (λ x. merged x c) (merged a b) ≡ option_and_then (merged a) (merged b c)
merged_associates = under_associates upwards

pub merged_above : (a b : Tree) → Sub a b → merged a b ≡ Some b
merged_above a b h = under_in_order upwards a b (below a b h)

pub merged_below : (a b : Tree) → Sub b a → merged a b ≡ Some a
merged_below a b h = merged_commutes a b ∙ merged_above b a h

pub merged_same : (a : Tree) → merged a a ≡ Some a
merged_same a = under_in_order upwards a a (after_itself upwards a)

pub given_least : (a b : Tree) (o : Option DType) → option_map tree o ≡ merged a b → IfSome o (λ c. IsLeastAbove a b (tree c))
given_least a b = given_is either a b (IsLeastAbove a b) (merged_least a b)

pub given_valid : (a b : Tree) (o : Option DType) → option_map tree o ≡ merged a b → Valid a → Valid b → IfSome o (λ c. Valid (tree c))
given_valid a b o is h k = given_is either a b Valid (λ c e. merged_valid a b c e h k) o is

pub given_values : (a b : Tree) (o : Option DType) → option_map tree o ≡ merged a b → IfSome o (λ c. IncludedIn a (tree c) × IncludedIn b (tree c))
given_values a b = given_is either a b (λ c. IncludedIn a c × IncludedIn b c) (λ c e. (values_first a b c e, values_second a b c e))

pub ruleset merging = (under_where, merged_least, merged_valid, merged_commutes, merged_associates, merged_same, merged_below, values_first, values_second, given_under, given_least, given_valid, given_values)

-- ---- the greatest type below two

pub intersected_greatest : (a b c : Tree) → intersected a b ≡ Some c → IsGreatestBelow a b c
intersected_greatest a b c = under_is both a b c (IsGreatestBelow a b) (greatest_both a b)

pub intersected_commutes : (a b : Tree) → intersected a b ≡ intersected b a
intersected_commutes = under_commutes downwards

pub intersected_associates : (a b c : Tree) → option_and_then (λ x. intersected x c) (intersected a b) ≡ option_and_then (intersected a) (intersected b c)
intersected_associates = under_associates downwards

pub intersected_valid : (a b c : Tree) → intersected a b ≡ Some c → Valid a → Valid c
intersected_valid a b c = under_is both a b c (λ c. Valid a → Valid c)
    (λ e h. valid_merge both ⊥ (λ n _. refl) refl a b e h (λ z. absurd z))

pub intersected_valid_second : (a b c : Tree) → intersected a b ≡ Some c → Valid b → Valid c
intersected_valid_second a b c e = intersected_valid b a c (intersected_commutes b a ∙ e)

pub values_in_first : (a b c : Tree) → intersected a b ≡ Some c → IncludedIn c a
values_in_first a b c e = sub_values c a (intersected_greatest a b c e).first

pub values_in_second : (a b c : Tree) → intersected a b ≡ Some c → IncludedIn c b
values_in_second a b c e = sub_values c b (intersected_greatest a b c e).second

-- its values are exactly those that both have
pub intersected_values : (a b c : Tree) → intersected a b ≡ Some c → Valid a → (v : Value) → Of v c ↔ (Of v a × Of v b)
intersected_values a b c e h v = (
  λ o. (values_in_first a b c e v o, values_in_second a b c e v o),
  λ o. under_is both a b c (Of v) (λ same. of_both a b same h v o.0 o.1) e,
)

pub intersected_above : (a b : Tree) → Sub b a → intersected a b ≡ Some b
intersected_above a b h = under_in_order downwards a b (above b a h)

pub intersected_below : (a b : Tree) → Sub a b → intersected a b ≡ Some a
intersected_below a b h = intersected_commutes a b ∙ intersected_above b a h

pub intersected_same : (a : Tree) → intersected a a ≡ Some a
intersected_same a = under_in_order downwards a a (after_itself downwards a)

pub given_greatest : (a b : Tree) (o : Option DType) → option_map tree o ≡ intersected a b → IfSome o (λ c. IsGreatestBelow a b (tree c))
given_greatest a b = given_is both a b (IsGreatestBelow a b) (intersected_greatest a b)

pub given_valid_below : (a b : Tree) (o : Option DType) → option_map tree o ≡ intersected a b → Valid a → IfSome o (λ c. Valid (tree c))
given_valid_below a b o is h = given_is both a b Valid (λ c e. intersected_valid a b c e h) o is

pub given_values_in : (a b : Tree) (o : Option DType) → option_map tree o ≡ intersected a b → IfSome o (λ c. IncludedIn (tree c) a × IncludedIn (tree c) b)
given_values_in a b = given_is both a b (λ c. IncludedIn c a × IncludedIn c b) (λ c e. (values_in_first a b c e, values_in_second a b c e))

pub ruleset intersecting = (under_where, intersected_greatest, intersected_valid, intersected_valid_second, intersected_commutes, intersected_associates, intersected_same, intersected_below, intersected_above, values_in_first, values_in_second, given_under, given_greatest, given_valid_below, given_values_in)

-- ---- both

pub merged_absorbs : (a b : Tree) → erase a ≡ erase b → option_and_then (merged a) (intersected a b) ≡ Some a
merged_absorbs a b e = ap (option_and_then (merged a)) (under_some both a b e) ∙ merged_below a (merge both a b) (greatest_both a b e).first

pub intersected_absorbs : (a b : Tree) → erase a ≡ erase b → option_and_then (intersected a) (merged a b) ≡ Some a
intersected_absorbs a b e = ap (option_and_then (intersected a)) (under_some either a b e) ∙ intersected_below a (merge either a b) (least_either a b e).first

pub merged_monotone : (a b c d x y : Tree) → Sub a b → Sub c d → merged a c ≡ Some x → merged b d ≡ Some y → Sub x y
merged_monotone a b c d x y h k e f =
    let l = merged_least b d y f in
    (merged_least a c x e).least y (sub_transitive a b y h l.first) (sub_transitive c d y k l.second)

pub intersected_monotone : (a b c d x y : Tree) → Sub a b → Sub c d → intersected a c ≡ Some x → intersected b d ≡ Some y → Sub x y
intersected_monotone a b c d x y h k e f =
    let l = intersected_greatest a c x e in
    (intersected_greatest b d y f).greatest x (sub_transitive x a b l.first h) (sub_transitive x c d l.second k)

pub rule_commutes : (m : MergeRule) (a b : Tree) → merged_under (rule_of m) a b ≡ merged_under (rule_of m) b a
rule_commutes Either = merged_commutes
rule_commutes Both = intersected_commutes
