-- SPDX-License-Identifier: Apache-2.0
-- SPDX-FileCopyrightText: Copyright the Vortex contributors

-- `ReadsAs` is an order up to the order of columns, and a subset of a type can be read as the type.
use Rattle.std.proofs.Common.{◌≡◌, ℕ, List, ◌∷◌, Bool, true, false, Some, None, refl, sym, ap, subst, ◌∙◌, inl, inr}
use Rattle.std.specs.Option.{option_map}
use Rattle.std.proofs.lemmas.Bool.{false≢true}
use Rattle.std.proofs.lemmas.Option.{same_Some}
use Rattle.dtype_base.specs.declared.nullability.Nullability.{Nullability}
use Rattle.dtype_types.specs.nullability.Nullable.{IsNullable}
use Rattle.dtype_types.specs.nullability.Sub.{Sub, Allows, NullableWhereverItems}
use Rattle.dtype_types.specs.parts.Lookups.{first_named}
use Rattle.dtype_types.specs.tree.Erase.{erase, erase_items}
use Rattle.dtype_types.specs.tree.Kinds.{kind}
use Rattle.dtype_types.specs.tree.Tree.{Tree, Fields, Variants, Holder, Items, no_items, item, pairs, null, primitive, decimal, list, fixed_size_list, map_of, struct, union, extension, first_tag, rest_of}
use Rattle.dtype_types.proofs.lemmas.Bounds.{upwards}
use Rattle.dtype_types.proofs.lemmas.Order.{above_nullable, sub_antisymmetric, sub_reflexive, sub_transitive}
use Rattle.dtype_merging.specs.ReadsAs.{EachBeside, EachFound, EachTagged, ReadsAs, ReadsPlain, SameColumns, SameOrder, StaySorted, keyed, tags}
use Rattle.dtype_merging.specs.MergedColumns.{no_repeats}
use Rattle.dtype_merging.specs.declared.widening.Widening.{Widening}
use Rattle.dtype_merging.proofs.lemmas.Beside.{name_or, type_or}
use Rattle.dtype_merging.proofs.lemmas.Finding.{Agrees, agrees_first, agrees_rest, by_name, by_option, finds_first, finds_later, found, no_repeats_rest, of_some_and, some_and, to_found}
use Rattle.dtype_merging.proofs.lemmas.Numbers.{decimal_back, decimal_itself, decimal_more, decimal_same, ptype_back, ptype_itself, ptype_more, ptype_same}
use Rattle.dtype_merging.proofs.lemmas.Variants.{own_keys, own_or_not}
use Rattle.dtype_merging.proofs.lemmas.Order.{alike_itself, alike_kind, alike_more, alike_plain, is_null, null_kind, of_extension, of_fixed, of_list, of_map, of_struct, of_union, plain, plain_alike, plain_kind, subset_kind}
use Rattle.dtype_merging.proofs.lemmas.Repeats.{repeat_or_not, tested_distinct}

-- ---- what is erased

kind_erased : (t : Tree) → kind (erase t) ≡ kind t
kind_erased (list t n) = refl
kind_erased _ = refl

pub erased_kind : (t u : Tree) → erase t ≡ erase u → kind t ≡ kind u
erased_kind t u e = sym (kind_erased t) ∙ ap kind e ∙ kind_erased u

named_erased : (fs : Fields) (n : List ℕ) → first_named (pairs (erase_items fs)) n ≡ option_map erase (first_named (pairs fs) n)
named_erased no_items n = refl
named_erased (item m t _ fs) n = by_name m n
    (λ e. finds_first m n (erase t) (pairs (erase_items fs)) e ∙ sym (ap (option_map erase) (finds_first m n t (pairs fs) e)))
    (λ ne. finds_later m n (erase t) (pairs (erase_items fs)) ne ∙ named_erased fs n ∙ sym (ap (option_map erase) (finds_later m n t (pairs fs) ne)))

-- a name that finds nothing in one struct finds nothing in one that differs in nullabilities alone
pub erased_lacks : (fs gs : Fields) (n : List ℕ) → erase_items fs ≡ erase_items gs → first_named (pairs fs) n ≡ None → first_named (pairs gs) n ≡ None
erased_lacks fs gs n e none = by_option (first_named (pairs gs) n) (λ is. is)
    (λ u is.
    let both : option_map erase (first_named (pairs fs) n) ≡ option_map erase (first_named (pairs gs) n) = sym (named_erased fs n) ∙ ap (λ hs. first_named (pairs hs) n) e ∙ named_erased gs n in
    let some : None ≡ Some (erase u) = sym (ap (option_map erase) none) ∙ both ∙ ap (option_map erase) is in cc)

-- ---- the two relations between types without parts

pub sub_kind : (t u : Tree) → Sub t u → kind t ≡ kind u
sub_kind t u h = erased_kind t u h.erased

same_kind : (t u : Tree) → is_null t ≡ false → t ≡ u → kind t ≡ kind u
same_kind t u s e = ap kind e

-- what is neither null nor a type of numbers is read as what it is a subset of
pub plain_sub : (wide : Widening) (t u : Tree) → subset_kind (kind t) ≡ true → ReadsPlain wide t u → Sub t u
plain_sub wide null u s h = absurd (false≢true s)
plain_sub wide (primitive p m) u s h = absurd (false≢true s)
plain_sub wide (decimal d m) u s h = absurd (false≢true s)
plain_sub wide t u s h = h

pub plain_kinds : (wide : Widening) (t u : Tree) → is_null t ≡ false → ReadsPlain wide t u → kind t ≡ kind u
plain_kinds wide null u s h = absurd (false≢true (sym s))
plain_kinds wide (primitive p m) (primitive q n) s h = refl
plain_kinds wide (primitive p m) u s h = sub_kind (primitive p m) u h
plain_kinds wide (decimal d m) (decimal e n) s h = refl
plain_kinds wide (decimal d m) u s h = sub_kind (decimal d m) u h
plain_kinds wide t u s h = sub_kind t u h

plain_itself : (wide : Widening) (t : Tree) → ReadsPlain wide t t
plain_itself wide null = refl
plain_itself wide (primitive p m) = (record { reads = ptype_itself wide p }, λ e. e)
plain_itself wide (decimal d m) = (record { reads = decimal_itself wide d }, λ e. e)
plain_itself wide t = sub_reflexive t

plain_nullable : (wide : Widening) (t u : Tree) → ReadsPlain wide t u → IsNullable t → IsNullable u
plain_nullable wide null u h e = h
plain_nullable wide (primitive p m) (primitive q n) h e = h.1 e
plain_nullable wide (primitive p m) u h e = above_nullable (primitive p m) u h e
plain_nullable wide (decimal c m) (decimal d n) h e = h.1 e
plain_nullable wide (decimal c m) u h e = above_nullable (decimal c m) u h e
plain_nullable wide t u h e = above_nullable t u h e

-- a type of the same kind isn't null either
pub not_null : (t u : Tree) → kind t ≡ kind u → is_null t ≡ false → is_null u ≡ false
not_null t u e s = sym (ap null_kind e) ∙ s

allows_more : (l m n : Nullability) → Allows l m → Allows m n → Allows l n
allows_more l m n f g h = g (f h)

-- ---- the flags of maps

sorted_more : (x y z : Bool) (t u v : Tree) → StaySorted x t y u → StaySorted y u z v → StaySorted x t z v
sorted_more x y z t u v f g e = let second = g e in let first = f second.0 in (first.0, first.1 ∙ second.1)

same_order_more : (x y z : Bool) (t u v : Tree) → SameOrder x t y u → SameOrder y u z v → SameOrder x t z v
same_order_more x y z t u v f g = (f.0 ∙ g.0, λ e. f.1 (g.0 ∙ e) ∙ g.1 e)

flags_back : (x y : Bool) → (y ≡ true → x ≡ true) → (x ≡ true → y ≡ true) → x ≡ y
flags_back true y f g = sym (g refl)
flags_back false true f g = f refl
flags_back false false f g = refl

-- ---- what can be read as what

abbrev Same : Tree → Tree → Type 0
Same t u = t ≡ u

abbrev Equal : Nullability → Nullability → Type 0
Equal m n = m ≡ n

abbrev Never : Tree → Type 0
Never t = ⊥

pub reads_kind : (wide : Widening) (t u : Tree) → is_null t ≡ false → ReadsAs wide t u → kind t ≡ kind u
reads_kind wide = alike_kind (ReadsPlain wide) Allows StaySorted IsNullable (Unit {0}) (plain_kinds wide)

pub reads_itself : (wide : Widening) (t : Tree) → ReadsAs wide t t
reads_itself wide = alike_itself (ReadsPlain wide) Allows StaySorted IsNullable (Unit {0}) (plain_kinds wide) (plain_itself wide) (λ n h. h) (λ x t e. (e, refl))

pub same_itself : (t : Tree) → SameColumns t t
same_itself = alike_itself Same Equal SameOrder Never ⊥ same_kind (λ t. refl) (λ n. refl) (λ x t. (refl, λ e. refl))

-- what a nullable type can be read as is nullable
pub reads_nullable : (wide : Widening) (t u : Tree) → ReadsAs wide t u → IsNullable t → IsNullable u
reads_nullable wide (list t m) u h e = let i = of_list (ReadsPlain wide) Allows StaySorted IsNullable (Unit {0}) (plain_kinds wide) t m u h in subst IsNullable (sym i.2) (i.3 e)
reads_nullable wide (fixed_size_list t j m) u h e = let i = of_fixed (ReadsPlain wide) Allows StaySorted IsNullable (Unit {0}) (plain_kinds wide) t j m u h in subst IsNullable (sym i.2) (i.3 e)
reads_nullable wide (map_of t v x m) u h e = let i = of_map (ReadsPlain wide) Allows StaySorted IsNullable (Unit {0}) (plain_kinds wide) t v x m u h in subst IsNullable (sym i.4) (i.6 e)
reads_nullable wide (struct fs m) u h e =
    let i = of_struct (ReadsPlain wide) Allows StaySorted IsNullable (Unit {0}) (plain_kinds wide) fs m u h in
    subst IsNullable (sym i.2) (elim i.3 [ inl s ↦ s.1 e | inr s ↦ s.1 e ])
reads_nullable wide (union vs m) u h e =
    let i = of_union (ReadsPlain wide) Allows StaySorted IsNullable (Unit {0}) (plain_kinds wide) vs m u h in
    subst IsNullable (sym i.2) (elim i.3 [ inl s ↦ s.1 e | inr s ↦ above_nullable (union vs m) (union i.0 i.1) s.1 e ])
reads_nullable wide (extension i b t) u h e = let p = of_extension (ReadsPlain wide) Allows StaySorted IsNullable (Unit {0}) (plain_kinds wide) i b t u h in subst IsNullable (sym p.1) (reads_nullable wide t p.0 p.2 e)
reads_nullable wide null u h e = h
reads_nullable wide t u h e = plain_nullable wide t u (alike_plain (ReadsPlain wide) Allows StaySorted IsNullable (Unit {0}) t u refl h) e

-- two readings one after another, of which the first is of a type without parts
plainly_more : (wide : Widening) (t u v : Tree) → ReadsPlain wide t u → ReadsPlain wide u v → ReadsPlain wide t v
plainly_more wide null u v h g = plain_nullable wide u v g h
plainly_more wide (primitive p l) (primitive q m) (primitive r n) h g = (record { reads = ptype_more wide p q r h.0.reads g.0.reads }, allows_more l m n h.1 g.1)
plainly_more wide (primitive p l) (primitive q m) v h g = let k = sub_kind (primitive q m) v g in cc
plainly_more wide (primitive p l) u v h g = let k = sub_kind (primitive p l) u h in cc
plainly_more wide (decimal c l) (decimal d m) (decimal e n) h g = (record { reads = decimal_more wide c d e h.0.reads g.0.reads }, allows_more l m n h.1 g.1)
plainly_more wide (decimal c l) (decimal d m) v h g = let k = sub_kind (decimal d m) v g in cc
plainly_more wide (decimal c l) u v h g = let k = sub_kind (decimal c l) u h in cc
plainly_more wide t u v h g = sub_transitive t u v h (plain_sub wide u v (sym (ap subset_kind (sub_kind t u h))) g)

reads_after : (wide : Widening) (t u v : Tree) → plain t ≡ true → ReadsPlain wide t u → ReadsAs wide u v → ReadsPlain wide t v
reads_after wide null u v p h g = reads_nullable wide u v g h
reads_after wide t u v p h g =
    let s = plain_kinds wide t u refl h in plainly_more wide t u v h (alike_plain (ReadsPlain wide) Allows StaySorted IsNullable (Unit {0}) u v (sym (ap plain_kind s) ∙ p) g)

same_after : (t u v : Tree) → plain t ≡ true → t ≡ u → SameColumns u v → t ≡ v
same_after t u v p e g = e ∙ alike_plain Same Equal SameOrder Never ⊥ u v (sym (ap plain e) ∙ p) g

tags_erased : (vs : Variants) → tags (erase_items vs) ≡ tags vs
tags_erased no_items = refl
tags_erased (item n t f vs) = ap (λ ks. f ∷ ks) (tags_erased vs)

pub read_tags : (wide : Widening) (vs ws : Variants) (m n : Nullability) → ReadsPlain wide (union vs m) (union ws n) → tags vs ≡ tags ws
read_tags wide vs ws m n h = let e = h.erased in let f : erase_items vs ≡ erase_items ws = cc in sym (tags_erased vs) ∙ ap tags f ∙ tags_erased ws

same_tags : (vs ws : Variants) (m n : Nullability) → union vs m ≡ union ws n → tags vs ≡ tags ws
same_tags vs ws m n e = let f : vs ≡ ws = cc in ap tags f

pub reads_more : (wide : Widening) (t u v : Tree) → ReadsAs wide t u → ReadsAs wide u v → ReadsAs wide t v
reads_more wide = alike_more (ReadsPlain wide) Allows StaySorted IsNullable (Unit {0}) (plain_kinds wide) (plainly_more wide) allows_more sorted_more (reads_nullable wide) (reads_after wide) (read_tags wide)

pub same_more : (t u v : Tree) → SameColumns t u → SameColumns u v → SameColumns t v
same_more = alike_more Same Equal SameOrder Never ⊥ same_kind (λ t u v e f. e ∙ f) (λ l m n e f. e ∙ f) same_order_more (λ t u h e. absurd e) same_after same_tags

-- ---- a subset can be read as what it is a subset of

mutual
  pub sub_reads : (wide : Widening) (t u : Tree) → Sub t u → ReadsAs wide t u
  sub_reads wide (list t m) (list u n) h = let e = h.erased in (h.nullable.0, sub_reads wide t u (record { erased = cc; nullable = h.nullable.1 }))
  sub_reads wide (list t m) u h = let e = sub_kind (list t m) u h in cc
  sub_reads wide (fixed_size_list t j m) (fixed_size_list u i n) h = let e = h.erased in (cc, h.nullable.0, sub_reads wide t u (record { erased = cc; nullable = h.nullable.1 }))
  sub_reads wide (fixed_size_list t j m) u h = let e = sub_kind (fixed_size_list t j m) u h in cc
  sub_reads wide (map_of t v x m) (map_of u w y n) h =
      let e = h.erased in
      let keys : erase t ≡ erase u = cc in
      let flags : x ≡ y = cc in
      (λ sorted. (flags ∙ sorted, keys), h.nullable.0, sub_reads wide t u (record { erased = keys; nullable = h.nullable.1 }), sub_reads wide v w (record { erased = cc; nullable = h.nullable.2 }))
  sub_reads wide (map_of t v x m) u h = let e = sub_kind (map_of t v x m) u h in cc
  sub_reads wide (struct fs m) (struct gs n) h =
      let e = h.erased in
      let f : erase_items fs ≡ erase_items gs = cc in
      elim (repeat_or_not fs gs) [
        | inl d ↦ inl (
          d,
          h.nullable.0,
          sub_found wide fs gs gs f h.nullable.1 (tested_distinct (pairs gs) d.1) (λ k t is. is),
          λ k u none is. let lacks = erased_lacks fs gs k f none in cc,
        )
        | inr d ↦ inr (d, h.nullable.0, sub_beside wide fs gs f h.nullable.1)
      ]
  sub_reads wide (struct fs m) u h = let e = sub_kind (struct fs m) u h in cc
  sub_reads wide (union vs m) (union ws n) h =
      let e = h.erased in
      let f : erase_items vs ≡ erase_items ws = cc in
      elim (own_or_not vs ws) [
        | inl d ↦ inl (d, h.nullable.0, sub_tagged wide vs ws (keyed ws) f h.nullable.1 (own_keys ws d.1) (λ k t is. is), λ k u none is. tt)
        | inr d ↦ inr (d, h)
      ]
  sub_reads wide (union vs m) u h = let e = sub_kind (union vs m) u h in cc
  sub_reads wide (extension i b t) (extension j c u) h = let e = h.erased in (cc, cc, sub_reads wide t u (record { erased = cc; nullable = h.nullable }))
  sub_reads wide (extension i b t) u h = let e = sub_kind (extension i b t) u h in cc
  sub_reads wide null u h = above_nullable null u h refl
  sub_reads wide (primitive p m) (primitive q n) h = let e = h.erased in (record { reads = ptype_same wide p q (cc) }, h.nullable)
  sub_reads wide (decimal c m) (decimal d n) h = let e = h.erased in (record { reads = decimal_same wide c d (cc) }, h.nullable)
  sub_reads wide t u h = h

  sub_found : (wide : Widening) (fs gs hs : Fields) → erase_items fs ≡ erase_items gs → NullableWhereverItems fs gs → no_repeats (pairs gs) ≡ true → Agrees (pairs gs) (pairs hs) → EachFound (ReadsPlain wide) Allows StaySorted IsNullable (Unit {0}) fs hs
  sub_found wide no_items gs hs e h d a = tt
  sub_found wide (item m t _ fs) no_items hs e h d a = cc
  sub_found wide (item m t _ fs) (item n u _ gs) hs e h d a =
      let name : n ≡ m = cc in
      let type : erase t ≡ erase u = cc in
      let r = no_repeats_rest (n, u) (pairs gs) d in (
        of_some_and (ReadsAs wide t) (first_named (pairs hs) m) u (ap (first_named (pairs hs)) (sym name) ∙ agrees_first n u (pairs gs) (pairs hs) a) (sub_reads wide t u (record { erased = type; nullable = h.0 })),
        sub_found wide fs gs hs (ap rest_of e) h.1 r.1 (agrees_rest n u (pairs gs) (pairs hs) r.0 a),
      )

  sub_tagged : (wide : Widening) (vs ws : Variants) (hs : Fields) → erase_items vs ≡ erase_items ws → NullableWhereverItems vs ws → no_repeats (pairs (keyed ws)) ≡ true → Agrees (pairs (keyed ws)) (pairs hs) → EachTagged (ReadsPlain wide) Allows StaySorted IsNullable (Unit {0}) vs hs
  sub_tagged wide no_items ws hs e h d a = tt
  sub_tagged wide (item m t f vs) no_items hs e h d a = cc
  sub_tagged wide (item m t f vs) (item n u g ws) hs e h d a =
      let name : m ≡ n = ap (name_or m) e in
      let tag : f ≡ g = ap (first_tag f) e in
      let key : (g ∷ n) ≡ (f ∷ m) = ap (λ z. z ∷ n) (sym tag) ∙ ap (λ z. f ∷ z) (sym name) in
      let r = no_repeats_rest (g ∷ n, u) (pairs (keyed ws)) d in (
        of_some_and (ReadsAs wide t) (first_named (pairs hs) (f ∷ m)) u (ap (first_named (pairs hs)) (sym key) ∙ agrees_first (g ∷ n) u (pairs (keyed ws)) (pairs hs) a)
            (sub_reads wide t u (record { erased = ap (type_or (erase t)) e; nullable = h.0 })),
        sub_tagged wide vs ws hs (ap rest_of e) h.1 r.1 (agrees_rest (g ∷ n) u (pairs (keyed ws)) (pairs hs) r.0 a),
      )

  sub_beside : (wide : Widening) {h : Holder} (xs ys : Items h) → erase_items xs ≡ erase_items ys → NullableWhereverItems xs ys → EachBeside (ReadsPlain wide) Allows StaySorted IsNullable (Unit {0}) xs ys
  sub_beside wide no_items no_items e h = tt
  sub_beside wide (item m t f xs) (item n u g ys) e h =
      (ap (name_or m) e, ap (first_tag f) e, sub_reads wide t u (record { erased = ap (type_or (erase t)) e; nullable = h.0 }), sub_beside wide xs ys (ap rest_of e) h.1)
  sub_beside wide no_items (item n u g ys) e h = absurd h
  sub_beside wide (item m t f xs) no_items e h = absurd h

-- ---- types of which each can be read as the other

null_back : (wide : Widening) (u : Tree) → ReadsAs wide u null → null ≡ u
null_back wide null g = refl
null_back wide u g = let k = reads_kind wide u null refl g in cc

-- two structs, from what is done with their fields
structs_back : (wide : Widening) (fs gs : Fields) (m n : Nullability) → (EachFound (ReadsPlain wide) Allows StaySorted IsNullable (Unit {0}) fs gs → no_repeats (pairs fs) ≡ true → EachFound (ReadsPlain wide) Allows StaySorted IsNullable (Unit {0}) gs fs → EachFound Same Equal SameOrder Never ⊥ fs gs)
    → (EachBeside (ReadsPlain wide) Allows StaySorted IsNullable (Unit {0}) fs gs → EachBeside (ReadsPlain wide) Allows StaySorted IsNullable (Unit {0}) gs fs → EachBeside Same Equal SameOrder Never ⊥ fs gs)
    → ReadsAs wide (struct fs m) (struct gs n) → ReadsAs wide (struct gs n) (struct fs m) → SameColumns (struct fs m) (struct gs n)
structs_back wide fs gs m n go also (inl h) (inl g) = inl (
  h.0,
  upwards.only m n h.1 g.1,
  go h.2 (tested_distinct (pairs fs) h.0.0) g.2,
  λ k u none is. let s = found (ReadsPlain wide) Allows StaySorted IsNullable (Unit {0}) gs fs g.2 k u is in let at = s.1 in cc,
)
structs_back wide fs gs m n go also (inl h) (inr g) = absurd (g.0 (h.0.1, h.0.0))
structs_back wide fs gs m n go also (inr h) (inl g) = absurd (h.0 (g.0.1, g.0.0))
structs_back wide fs gs m n go also (inr h) (inr g) = inr (h.0, upwards.only m n h.1 g.1, also h.2 g.2)

-- two unions
unions_back : (wide : Widening) (vs ws : Variants) (m n : Nullability) → (EachTagged (ReadsPlain wide) Allows StaySorted IsNullable (Unit {0}) vs (keyed ws) → no_repeats (pairs (keyed vs)) ≡ true → EachTagged (ReadsPlain wide) Allows StaySorted IsNullable (Unit {0}) ws (keyed vs) → EachTagged Same Equal SameOrder Never ⊥ vs (keyed ws))
    → ReadsAs wide (union vs m) (union ws n) → ReadsAs wide (union ws n) (union vs m) → SameColumns (union vs m) (union ws n)
unions_back wide vs ws m n go (inl h) (inl g) = inl (
  h.0,
  upwards.only m n h.1 g.1,
  go h.2 (own_keys vs h.0.0) g.2,
  λ k u none is. let s = found (ReadsPlain wide) Allows StaySorted IsNullable (Unit {0}) (keyed ws) (keyed vs) (to_found (ReadsPlain wide) Allows StaySorted IsNullable (Unit {0}) ws (keyed vs) g.2) k u is in let at = s.1 in cc,
)
unions_back wide vs ws m n go (inl h) (inr g) = absurd (g.0 (h.0.1, h.0.0))
unions_back wide vs ws m n go (inr h) (inl g) = absurd (h.0 (g.0.1, g.0.0))
unions_back wide vs ws m n go (inr h) (inr g) = inr (h.0, sub_antisymmetric (union vs m) (union ws n) h.1 g.1)

mutual
  pub reads_back : (wide : Widening) (t u : Tree) → ReadsAs wide t u → ReadsAs wide u t → SameColumns t u
  reads_back wide (list t m) u h g =
      let i = of_list (ReadsPlain wide) Allows StaySorted IsNullable (Unit {0}) (plain_kinds wide) t m u h in
      let back = subst (λ z. ReadsAs wide z (list t m)) i.2 g in
      subst (SameColumns (list t m)) (sym i.2) (upwards.only m i.1 i.3 back.0, reads_back wide t i.0 i.4 back.1)
  reads_back wide (fixed_size_list t j m) u h g =
      let i = of_fixed (ReadsPlain wide) Allows StaySorted IsNullable (Unit {0}) (plain_kinds wide) t j m u h in
      let back = subst (λ z. ReadsAs wide z (fixed_size_list t j m)) i.2 g in
      subst (SameColumns (fixed_size_list t j m)) (sym i.2) (refl, upwards.only m i.1 i.3 back.1, reads_back wide t i.0 i.4 back.2)
  reads_back wide (map_of t v x m) u h g =
      let i = of_map (ReadsPlain wide) Allows StaySorted IsNullable (Unit {0}) (plain_kinds wide) t v x m u h in
      let back = subst (λ z. ReadsAs wide z (map_of t v x m)) i.4 g in
      let order : SameOrder x t i.2 i.0 = (flags_back x i.2 (λ e. (i.5 e).0) (λ e. (back.0 e).0), λ e. (i.5 e).1) in
      subst (SameColumns (map_of t v x m)) (sym i.4) (order, upwards.only m i.3 i.6 back.1, reads_back wide t i.0 i.7 back.2, reads_back wide v i.1 i.8 back.3)
  reads_back wide (struct fs m) u h g =
      let i = of_struct (ReadsPlain wide) Allows StaySorted IsNullable (Unit {0}) (plain_kinds wide) fs m u h in
      let back = subst (λ z. ReadsAs wide z (struct fs m)) i.2 g in
      subst (SameColumns (struct fs m)) (sym i.2) (structs_back wide fs i.0 m i.1 (λ f d g. found_back wide fs i.0 fs f d (λ k t is. is) g) (beside_back wide fs i.0) i.3 back)
  reads_back wide (union vs m) u h g =
      let i = of_union (ReadsPlain wide) Allows StaySorted IsNullable (Unit {0}) (plain_kinds wide) vs m u h in
      let back = subst (λ z. ReadsAs wide z (union vs m)) i.2 g in
      subst (SameColumns (union vs m)) (sym i.2) (unions_back wide vs i.0 m i.1 (λ f d g. tagged_back wide vs i.0 (keyed vs) f d (λ k t is. is) g) i.3 back)
  reads_back wide (extension i b t) u h g =
      let p = of_extension (ReadsPlain wide) Allows StaySorted IsNullable (Unit {0}) (plain_kinds wide) i b t u h in
      let back = subst (λ z. ReadsAs wide z (extension i b t)) p.1 g in
      subst (SameColumns (extension i b t)) (sym p.1) (refl, refl, reads_back wide t p.0 p.2 back.2)
  reads_back wide null u h g = null_back wide u g
  reads_back wide (primitive p m) (primitive q n) h g = ap (λ r. primitive r m) (ptype_back wide p q h.0.reads g.0.reads) ∙ ap (primitive q) (upwards.only m n h.1 g.1)
  reads_back wide (decimal c m) (decimal d n) h g = ap (λ r. decimal r m) (decimal_back wide c d h.0.reads g.0.reads) ∙ ap (decimal d) (upwards.only m n h.1 g.1)
  reads_back wide (primitive p m) u h g = let k = reads_kind wide (primitive p m) u refl h in cc
  reads_back wide (decimal c m) u h g = let k = reads_kind wide (decimal c m) u refl h in cc
  reads_back wide t u h g =
      let at = alike_plain (ReadsPlain wide) Allows StaySorted IsNullable (Unit {0}) t u refl h in
      let kinds = sub_kind t u at in
      let back = alike_plain (ReadsPlain wide) Allows StaySorted IsNullable (Unit {0}) u t (sym (ap plain_kind kinds)) g in
      plain_alike Same Equal SameOrder Never ⊥ t u refl (sub_antisymmetric t u at (plain_sub wide u t (sym (ap subset_kind kinds)) back))

  found_back : (wide : Widening) (fs gs hs : Fields) → EachFound (ReadsPlain wide) Allows StaySorted IsNullable (Unit {0}) fs gs → no_repeats (pairs fs) ≡ true → Agrees (pairs fs) (pairs hs) → EachFound (ReadsPlain wide) Allows StaySorted IsNullable (Unit {0}) gs hs → EachFound Same Equal SameOrder Never ⊥ fs gs
  found_back wide no_items gs hs h d a g = tt
  found_back wide (item n t _ fs) gs hs h d a g =
      let s = some_and (ReadsAs wide t) (first_named (pairs gs) n) h.0 in
      let r = found (ReadsPlain wide) Allows StaySorted IsNullable (Unit {0}) gs hs g n s.0 s.1 in
      let same = same_Some r.0 t (sym r.1 ∙ agrees_first n t (pairs fs) (pairs hs) a) in
      let rest = no_repeats_rest (n, t) (pairs fs) d in
      (of_some_and (SameColumns t) (first_named (pairs gs) n) s.0 s.1 (reads_back wide t s.0 s.2 (subst (ReadsAs wide s.0) same r.2)), found_back wide fs gs hs h.1 rest.1 (agrees_rest n t (pairs fs) (pairs hs) rest.0 a) g)

  tagged_back : (wide : Widening) (vs ws : Variants) (hs : Fields) → EachTagged (ReadsPlain wide) Allows StaySorted IsNullable (Unit {0}) vs (keyed ws) → no_repeats (pairs (keyed vs)) ≡ true → Agrees (pairs (keyed vs)) (pairs hs) → EachTagged (ReadsPlain wide) Allows StaySorted IsNullable (Unit {0}) ws hs → EachTagged Same Equal SameOrder Never ⊥ vs (keyed ws)
  tagged_back wide no_items ws hs h d a g = tt
  tagged_back wide (item n t f vs) ws hs h d a g =
      let s = some_and (ReadsAs wide t) (first_named (pairs (keyed ws)) (f ∷ n)) h.0 in
      let r = found (ReadsPlain wide) Allows StaySorted IsNullable (Unit {0}) (keyed ws) hs (to_found (ReadsPlain wide) Allows StaySorted IsNullable (Unit {0}) ws hs g) (f ∷ n) s.0 s.1 in
      let same = same_Some r.0 t (sym r.1 ∙ agrees_first (f ∷ n) t (pairs (keyed vs)) (pairs hs) a) in
      let rest = no_repeats_rest (f ∷ n, t) (pairs (keyed vs)) d in (
        of_some_and (SameColumns t) (first_named (pairs (keyed ws)) (f ∷ n)) s.0 s.1 (reads_back wide t s.0 s.2 (subst (ReadsAs wide s.0) same r.2)),
        tagged_back wide vs ws hs h.1 rest.1 (agrees_rest (f ∷ n) t (pairs (keyed vs)) (pairs hs) rest.0 a) g,
      )

  beside_back : (wide : Widening) {h : Holder} (xs ys : Items h) → EachBeside (ReadsPlain wide) Allows StaySorted IsNullable (Unit {0}) xs ys → EachBeside (ReadsPlain wide) Allows StaySorted IsNullable (Unit {0}) ys xs → EachBeside Same Equal SameOrder Never ⊥ xs ys
  beside_back wide no_items no_items h g = tt
  beside_back wide (item m t f xs) (item n u e ys) h g = (h.0, h.1, reads_back wide t u h.2 g.2, beside_back wide xs ys h.3 g.3)
  beside_back wide no_items (item n u e ys) h g = absurd h
  beside_back wide (item m t f xs) no_items h g = absurd h

-- ---- types that are the same up to the order of columns can be read as each other

mutual
  pub same_reads : (wide : Widening) (t u : Tree) → SameColumns t u → ReadsAs wide t u
  same_reads wide (list t m) u h =
      let i = of_list Same Equal SameOrder Never ⊥ same_kind t m u h in
      subst (ReadsAs wide (list t m)) (sym i.2) (subst (Allows m) i.3 (λ z. z), same_reads wide t i.0 i.4)
  same_reads wide (fixed_size_list t j m) u h =
      let i = of_fixed Same Equal SameOrder Never ⊥ same_kind t j m u h in
      subst (ReadsAs wide (fixed_size_list t j m)) (sym i.2) (refl, subst (Allows m) i.3 (λ z. z), same_reads wide t i.0 i.4)
  same_reads wide (map_of t v x m) u h =
      let i = of_map Same Equal SameOrder Never ⊥ same_kind t v x m u h in
      subst (ReadsAs wide (map_of t v x m)) (sym i.4) (λ e. (i.5.0 ∙ e, i.5.1 e), subst (Allows m) i.6 (λ z. z), same_reads wide t i.0 i.7, same_reads wide v i.1 i.8)
  same_reads wide (struct fs m) u h =
      let i = of_struct Same Equal SameOrder Never ⊥ same_kind fs m u h in
      subst (ReadsAs wide (struct fs m)) (sym i.2) (elim i.3 [
        | inl s ↦ inl (s.0, subst (Allows m) s.1 (λ z. z), same_found wide fs i.0 s.2, λ k v none is. absurd (s.3 k v none is))
        | inr s ↦ inr (s.0, subst (Allows m) s.1 (λ z. z), same_beside wide fs i.0 s.2)
      ])
  same_reads wide (union vs m) u h =
      let i = of_union Same Equal SameOrder Never ⊥ same_kind vs m u h in
      subst (ReadsAs wide (union vs m)) (sym i.2)
      (elim i.3 [
        | inl s ↦ inl (s.0, subst (Allows m) s.1 (λ z. z), same_tagged wide vs (keyed i.0) s.2, λ k v none is. tt)
        | inr s ↦ inr (s.0, subst (Sub (union vs m)) s.1 (sub_reflexive (union vs m)))
      ])
  same_reads wide (extension i b t) u h =
      let p = of_extension Same Equal SameOrder Never ⊥ same_kind i b t u h in
      subst (ReadsAs wide (extension i b t)) (sym p.1) (refl, refl, same_reads wide t p.0 p.2)
  same_reads wide null u h = subst IsNullable h refl
  same_reads wide (primitive p m) u h = subst (ReadsAs wide (primitive p m)) h (record { reads = ptype_itself wide p }, λ e. e)
  same_reads wide (decimal d m) u h = subst (ReadsAs wide (decimal d m)) h (record { reads = decimal_itself wide d }, λ e. e)
  same_reads wide t u h = plain_alike (ReadsPlain wide) Allows StaySorted IsNullable (Unit {0}) t u refl (subst (Sub t) (alike_plain Same Equal SameOrder Never ⊥ t u refl h) (sub_reflexive t))

  same_found : (wide : Widening) (fs gs : Fields) → EachFound Same Equal SameOrder Never ⊥ fs gs → EachFound (ReadsPlain wide) Allows StaySorted IsNullable (Unit {0}) fs gs
  same_found wide no_items gs h = tt
  same_found wide (item n t _ fs) gs h =
      let s = some_and (SameColumns t) (first_named (pairs gs) n) h.0 in
      (of_some_and (ReadsAs wide t) (first_named (pairs gs) n) s.0 s.1 (same_reads wide t s.0 s.2), same_found wide fs gs h.1)

  same_tagged : (wide : Widening) (vs : Variants) (gs : Fields) → EachTagged Same Equal SameOrder Never ⊥ vs gs → EachTagged (ReadsPlain wide) Allows StaySorted IsNullable (Unit {0}) vs gs
  same_tagged wide no_items gs h = tt
  same_tagged wide (item n t f vs) gs h =
      let s = some_and (SameColumns t) (first_named (pairs gs) (f ∷ n)) h.0 in
      (of_some_and (ReadsAs wide t) (first_named (pairs gs) (f ∷ n)) s.0 s.1 (same_reads wide t s.0 s.2), same_tagged wide vs gs h.1)

  same_beside : (wide : Widening) {h : Holder} (xs ys : Items h) → EachBeside Same Equal SameOrder Never ⊥ xs ys → EachBeside (ReadsPlain wide) Allows StaySorted IsNullable (Unit {0}) xs ys
  same_beside wide no_items no_items h = tt
  same_beside wide (item m t f xs) (item n u e ys) h = (h.0, h.1, same_reads wide t u h.2, same_beside wide xs ys h.3)
  same_beside wide no_items (item n u e ys) h = absurd h
  same_beside wide (item m t f xs) no_items h = absurd h
