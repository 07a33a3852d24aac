-- SPDX-License-Identifier: Apache-2.0
-- SPDX-FileCopyrightText: Copyright the Vortex contributors

-- The bounds of two types in the order by nullability, once for both rules. What is merged under a rule differs from the two in
-- nullability alone, and what the rule makes of two nullabilities holds at each node. So a rule that makes bounds in an order of
-- nullabilities makes bounds in that order of types, which is `Sub` or the other way around, and the two rules make a lattice.
use Rattle.std.proofs.Common.{◌≡◌, ◌∙◌, ◌↔◌, refl, sym, ap, subst, inl, inr}
use Rattle.dtype_base.specs.Nullability.{either}
use Rattle.dtype_base.specs.declared.nullability.Nullability.{Nullability}
use Rattle.dtype_base.specs.declared.nullability.Nullability.TheVariants.{NonNullable, Nullable}
use Rattle.dtype_types.specs.equality.EqualityLaws.{equal_by, everywhere, reflexive}
use Rattle.dtype_types.specs.nullability.Merged.{Rule, both, merge, merge_items, IsLeastAbove, IsGreatestBelow}
use Rattle.dtype_types.specs.nullability.Sub.{Sub, Allows, Wherever, WhereverItems}
use Rattle.dtype_types.specs.tree.Erase.{erase, erase_items}
use Rattle.dtype_types.specs.tree.Tree.{Tree, no_items, item, list, fixed_size_list, map_of, struct, union, extension, Holder, Items, rest_of}
use Rattle.dtype_types.proofs.lemmas.NullValues.{allows_either, either_nullable}

-- ---- nothing but nullabilities is changed

-- Here and below the last clause holds for the kinds that have no parts, and for two types of unequal kinds. The clauses
-- for a list before it are there for this: they make the checker look at each kind of the second type, and of the third.

module _ (r : Rule) where
  mutual
    pub erase_merge : (a b : Tree) → erase a ≡ erase b → erase (merge r a b) ≡ erase a
    erase_merge (list t m) (list u n) e = cc (erase_merge t u (cc))
    erase_merge (fixed_size_list t j m) (fixed_size_list u k n) e = cc (erase_merge t u (cc))
    erase_merge (map_of t v x m) (map_of u w y n) e = cc (erase_merge t u (cc), erase_merge v w (cc))
    erase_merge (struct fs m) (struct gs n) e = cc (erase_merge_items fs gs (cc))
    erase_merge (union vs m) (union ws n) e = cc (erase_merge_items vs ws (cc))
    erase_merge (extension i a t) (extension j b u) e = cc (erase_merge t u (cc))
    erase_merge _ (list u n) e = cc
    erase_merge _ _ e = cc

    erase_merge_items : {h : Holder} (xs ys : Items h) → erase_items xs ≡ erase_items ys → erase_items (merge_items r xs ys) ≡ erase_items xs
    erase_merge_items (item m t f xs) (item n u g ys) e = cc (erase_merge t u (cc), erase_merge_items xs ys (ap rest_of e))
    erase_merge_items _ _ e = cc

-- ---- and what the rule makes of two nullabilities holds at each node

abbrev pub Relation : Type 1
Relation = Nullability → Nullability → Type 0

-- from what holds of the two, of a third and the first, and of the third and the second
module _ (O P Q R : Relation) (r : Rule) (makes : (l m n : Nullability) → O m n → P l m → Q l n → R l (r m n)) where
  mutual
    of_three : (c a b : Tree) → Wherever O a b → Wherever P c a → Wherever Q c b → Wherever R c (merge r a b)
    of_three (list t l) (list u m) (list v n) o p q = (makes l m n o.0 p.0 q.0, of_three t u v o.1 p.1 q.1)
    of_three (fixed_size_list t _ l) (fixed_size_list u _ m) (fixed_size_list v _ n) o p q = (makes l m n o.0 p.0 q.0, of_three t u v o.1 p.1 q.1)
    of_three (map_of t t' _ l) (map_of u u' _ m) (map_of v v' _ n) o p q = (makes l m n o.0 p.0 q.0, of_three t u v o.1 p.1 q.1, of_three t' u' v' o.2 p.2 q.2)
    of_three (struct fs l) (struct gs m) (struct hs n) o p q = (makes l m n o.0 p.0 q.0, items_of_three fs gs hs o.1 p.1 q.1)
    of_three (union fs l) (union gs m) (union hs n) o p q = (makes l m n o.0 p.0 q.0, items_of_three fs gs hs o.1 p.1 q.1)
    of_three (extension _ _ t) (extension _ _ u) (extension _ _ v) o p q = of_three t u v o p q
    of_three _ (list u m) _ o p q = search
    of_three _ _ (list v n) o p q = search
    of_three _ _ _ o p q = first_of (search, search makes)

    items_of_three : {h : Holder} (zs xs ys : Items h) → WhereverItems O xs ys → WhereverItems P zs xs → WhereverItems Q zs ys → WhereverItems R zs (merge_items r xs ys)
    items_of_three no_items no_items no_items o p q = tt
    items_of_three (item _ t _ zs) (item _ u _ xs) (item _ v _ ys) o p q = (of_three t u v o.0 p.0 q.0, items_of_three zs xs ys o.1 p.1 q.1)
    items_of_three _ _ _ o p q = search

abbrev Any : Relation
Any m n = Unit {0}

abbrev Same : Relation
Same m n = m ≡ n

abbrev pub Turned : Relation → Relation
Turned R m n = R n m

any : (a b : Tree) → erase a ≡ erase b → Wherever Any a b
any = everywhere Any (λ m n. tt)

same : (a : Tree) → Wherever Same a a
same = reflexive Same (λ n. refl)

from_first : (R : Relation) (r : Rule) → ((m n : Nullability) → R m (r m n)) → (a b : Tree) → erase a ≡ erase b → Wherever R a (merge r a b)
from_first R r holds a b e = of_three Any Same Any R r (λ l m n o p q. subst (λ k. R k (r m n)) (sym p) (holds m n)) a a b (any a b e) (same a) (any a b e)

from_second : (R : Relation) (r : Rule) → ((m n : Nullability) → R n (r m n)) → (a b : Tree) → erase a ≡ erase b → Wherever R b (merge r a b)
from_second R r holds a b e = of_three Any Any Same R r (λ l m n o p q. subst (λ k. R k (r m n)) (sym q) (holds m n)) b a b (any a b e) (any b a (sym e)) (same b)

-- the rule that takes the first gives that one
first_is : (a b : Tree) → erase a ≡ erase b → a ≡ merge (λ m n. m) a b
first_is a b e =
    let alike = erase_merge (λ m n. m) a b e in
    equal_by Same Any (λ m n e _. e) a _ (sym alike) (from_first Same (λ m n. m) (λ m n. refl) a b e) (any _ a alike)

turned : (R : Relation) (a b : Tree) → erase a ≡ erase b → Wherever R a b → Wherever (Turned R) b a
turned R a b e h =
    subst (Wherever (Turned R) b) (sym (first_is a b e))
    (of_three R Any Same (Turned R) (λ m n. m) (λ l m n o p q. subst (R m) (sym q) o) b a b h (any b a (sym e)) (same b))

-- ---- a rule that makes bounds in an order of nullabilities

pub record Bounds (A : Relation) (r : Rule) : Type 0 where
  pub same_is : (n : Nullability) → A n n
  pub goes_on : (l m n : Nullability) → A l m → A m n → A l n
  pub only : (m n : Nullability) → A m n → A n m → m ≡ n
  pub first : (m n : Nullability) → A m (r m n)
  pub second : (m n : Nullability) → A n (r m n)
  pub least : (l m n : Nullability) → A m l → A n l → A (r m n) l

-- types that are equal but for nullabilities, which are in that order at each node
abbrev pub InOrder : Relation → Tree → Tree → Type 0
InOrder A a b = (erase a ≡ erase b) × Wherever A a b

module _ {A : Relation} {r : Rule} (bounds : Bounds A r) where
  pub after_itself : (a : Tree) → InOrder A a a
  after_itself a = (refl, reflexive A bounds.same_is a)

  pub after_more : (a b c : Tree) → InOrder A a b → InOrder A b c → InOrder A a c
  after_more a b c h k =
      let e = h.0 ∙ k.0 in
      let more = of_three (Turned A) Any A A (λ m n. m) (λ l m n o p q. bounds.goes_on l n m q o) a c b (turned A b c k.0 k.1) (any a c e) h.1 in
      (e, subst (Wherever A a) (sym (first_is c b (sym k.0))) more)

  pub equal_in_order : (a b : Tree) → InOrder A a b → InOrder A b a → a ≡ b
  equal_in_order a b h k = equal_by A A bounds.only a b h.0 h.1 k.1

  pub after_first : (a b : Tree) → erase a ≡ erase b → InOrder A a (merge r a b)
  after_first a b e = (sym (erase_merge r a b e), from_first A r bounds.first a b e)

  pub after_second : (a b : Tree) → erase a ≡ erase b → InOrder A b (merge r a b)
  after_second a b e = (sym e ∙ sym (erase_merge r a b e), from_second A r bounds.second a b e)

  pub before_others : (a b c : Tree) → InOrder A a c → InOrder A b c → InOrder A (merge r a b) c
  before_others a b c h k =
      let e = h.0 ∙ sym k.0 in
      let same_kind = erase_merge r a b e ∙ h.0 in
      (same_kind, turned (Turned A) c (merge r a b) (sym same_kind) (of_three Any (Turned A) (Turned A) (Turned A) r (λ l m n o p q. bounds.least l m n p q) c a b (any a b e) (turned A a c h.0 h.1) (turned A b c k.0 k.1)))

  pub commutes : (a b : Tree) → erase a ≡ erase b → merge r a b ≡ merge r b a
  commutes a b e = equal_in_order _ _ (within a b e) (within b a (sym e))
    where
      within : (a b : Tree) → erase a ≡ erase b → InOrder A (merge r a b) (merge r b a)
      within a b e = before_others a b (merge r b a) (after_second b a (sym e)) (after_first b a (sym e))

  pub associates : (a b c : Tree) → erase a ≡ erase b → erase b ≡ erase c → merge r (merge r a b) c ≡ merge r a (merge r b c)
  associates a b c e f =
      let ab = merge r a b in
      let bc = merge r b c in
      let left : erase ab ≡ erase c = erase_merge r a b e ∙ e ∙ f in
      let right : erase a ≡ erase bc = e ∙ sym (erase_merge r b c f) in
      let after_ab = after_first ab c left in
      let after_bc = after_second a bc right in
      equal_in_order (merge r ab c) (merge r a bc)
      (before_others ab c _ (before_others a b _ (after_first a bc right) (after_more b bc _ (after_first b c f) after_bc)) (after_more c bc _ (after_second b c f) after_bc))
      (before_others a bc _ (after_more a ab _ (after_first a b e) after_ab) (before_others b c _ (after_more b ab _ (after_second a b e) after_ab) (after_second ab c left)))

  pub bound_in_order : (a b : Tree) → InOrder A a b → merge r a b ≡ b
  bound_in_order a b h = equal_in_order _ _ (before_others a b b h (after_itself b)) (after_second a b h.0)

-- ---- the two rules

equal : (m n : Nullability) → Allows m n → Allows n m → m ≡ n
equal Nullable n h k = sym (h refl)
equal NonNullable Nullable h k = k refl
equal NonNullable NonNullable h k = refl

pub upwards : Bounds Allows either
upwards = record {
  same_is = λ n h. h;
  goes_on = λ l m n f g h. g (f h);
  only = equal;
  first = allows_either;
  second = λ m n h. (either_nullable m n).1 (inr h);
  least = λ l m n f g h. elim ((either_nullable m n).0 h) [ inl e ↦ f e | inr e ↦ g e ];
}

both_nullable : (m n : Nullability) → (both m n ≡ Nullable) ↔ ((m ≡ Nullable) × (n ≡ Nullable))
both_nullable NonNullable n = (λ e. cc, λ p. p.0)
both_nullable Nullable n = (λ e. (refl, e), λ p. p.1)

pub downwards : Bounds (Turned Allows) both
downwards = record {
  same_is = λ n h. h;
  goes_on = λ l m n f g h. f (g h);
  only = λ m n f g. equal m n g f;
  first = λ m n h. ((both_nullable m n).0 h).0;
  second = λ m n h. ((both_nullable m n).0 h).1;
  least = λ l m n f g h. (both_nullable m n).1 (f h, g h);
}

-- ---- `Sub` is that order

pub below : (a b : Tree) → Sub a b → InOrder Allows a b
below a b h = (h.erased, h.nullable)

pub above : (a b : Tree) → Sub a b → InOrder (Turned Allows) b a
above a b h = (sym h.erased, turned Allows a b h.erased h.nullable)

pub sub_upwards : (a b : Tree) → InOrder Allows a b → Sub a b
sub_upwards a b h = record { erased = h.0; nullable = h.1 }

sub_downwards : (a b : Tree) → InOrder (Turned Allows) b a → Sub a b
sub_downwards a b h = record { erased = sym h.0; nullable = turned (Turned Allows) b a h.0 h.1 }

pub upper_of : (a b : Tree) → Sub a b → merge either a b ≡ b
upper_of a b h = bound_in_order upwards a b (below a b h)

pub least_either : (a b : Tree) → erase a ≡ erase b → IsLeastAbove a b (merge either a b)
least_either a b e = record {
  first = sub_upwards _ _ (after_first upwards a b e);
  second = sub_upwards _ _ (after_second upwards a b e);
  least = λ c h k. sub_upwards _ _ (before_others upwards a b c (below a c h) (below b c k));
}

pub greatest_both : (a b : Tree) → erase a ≡ erase b → IsGreatestBelow a b (merge both a b)
greatest_both a b e = record {
  first = sub_downwards _ _ (after_first downwards a b e);
  second = sub_downwards _ _ (after_second downwards a b e);
  greatest = λ c h k. sub_downwards _ _ (before_others downwards a b c (above c a h) (above c b k));
}
