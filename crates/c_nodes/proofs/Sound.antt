-- SPDX-License-Identifier: Apache-2.0
-- SPDX-FileCopyrightText: Copyright the Vortex contributors

-- What is read is flat.
use Rattle.std.proofs.Common.{◌≡◌, ℕ, ℤ, zero, suc, ◌<◌, ◌≤◌, List, [], ◌∷◌, ◌++◌, length, map, take, drop, Bool, true, false, Option, Some, None, Result, Ok, Err, refl, sym, ap, subst, ◌∙◌, append_assoc, append-nil, arith, cond}
use Rattle.std.specs.Prelude.{nat_lt}
use Rattle.std.specs.List.{flat_map}
use Rattle.std.specs.Str.{is_utf8}
use Rattle.std.proofs.lemmas.List.{take-append-drop, length-take-le}
use Rattle.std.proofs.lemmas.Bool.Decides.{Decides-ltb}
use Rattle.dtype_messages.specs.Message.{Message, Child, messages, missing, null, bool, primitive, decimal, utf8, binary, list, fixed_size_list, map_of, struct, union, variant, extension, absent, present}
use Rattle.c_nodes.specs.Depth.{depth, depth_child, depth_all}
use Rattle.c_nodes.specs.Flat.{flat_nodes, flat_texts, part_nodes, part_texts, all_nodes, all_texts, count, is_present, has_bytes, bytes_nodes, bytes_texts, text_node, tag_node}
use Rattle.c_nodes.specs.Kinds.{node_of, kind_of}
use Rattle.c_nodes.specs.Read.{Left, Reader, ◌>>=◌, kind_or_fault, kind_in, kind_at, bytes_at, text_of, text_at, name_at, tag_of, tag_at, metadata_at, times, child_by, list_by, fixed_by, map_by, struct_by, union_by, extension_by, after_kind, message_by, part_at, all_of, read_flat}
use Rattle.c_nodes.specs.Texts.{AreUtf8, HasTexts, ChildHasTexts, AllHaveTexts, IsFlat}
use Rattle.c_nodes.specs.declared.fault.NodeFault.{NodeFault}
use Rattle.c_nodes.specs.declared.fault.NodeFault.TheVariants.{NotUtf8, OutOfRange}
use Rattle.c_nodes.specs.declared.kind.NodeKind.{NodeKind}
use Rattle.c_nodes.specs.declared.kind.NodeKind.TheVariants as k
use Rattle.c_nodes.specs.declared.node.Node.{Node}
use Rattle.c_nodes.proofs.NodeKinds.{kind_sound}

-- the value of a step that did not fail
pub bind_ok : {A B : Type 0} (r : Result A NodeFault) (f : A → Result B NodeFault) (y : B) → (r >>= f) ≡ Ok y → (x : A) × (r ≡ Ok x) × (f x ≡ Ok y)
bind_ok (Ok x) f y e = (x, refl, e)
bind_ok (Err g) f y e = absurd cc

abbrev pub returned : {A : Type 0} → A → Result A NodeFault
returned x = Ok x

pub ok_is : {A : Type 0} (x y : A) → returned x ≡ returned y → x ≡ y
ok_is x y e = cc

-- what was taken stood before what is left
abbrev pub Takes : List Node → List ℕ → Left → Left → Type 0
Takes nodes texts before after = (before.0 ≡ nodes ++ after.0) × (before.1 ≡ texts ++ after.1)

takes_none : (l : Left) → Takes [] [] l l
takes_none l = (refl, refl)

takes_both : (ns ms : List Node) (ts us : List ℕ) (a b c : Left) → Takes ns ts a b → Takes ms us b c → Takes (ns ++ ms) (ts ++ us) a c
takes_both ns ms ts us a b c f g =
    (f.0 ∙ ap (λ r. ns ++ r) g.0 ∙ simp append_assoc refl, f.1 ∙ ap (λ r. ts ++ r) g.1 ∙ simp append_assoc refl)

-- the node of the kind that is read
pub kind_takes : (l : Left) (x : NodeKind × Left) → kind_at l ≡ Ok x → Takes (node_of x.0 ∷ []) [] l x.1
unfolding kind_at
kind_takes (nodes, texts) x e = by_node nodes e where
  by_kind : (n : Node) (ns : List Node) (o : Option NodeKind) → kind_of n ≡ o → kind_or_fault o (ns, texts) ≡ Ok x → Takes (node_of x.0 ∷ []) [] (n ∷ ns, texts) x.1
  by_kind n ns None is f = absurd cc
  by_kind n ns (Some j) is f =
      let same = ok_is (j, (ns, texts)) x f in
      subst (λ (y : NodeKind × Left). Takes (node_of y.0 ∷ []) [] (n ∷ ns, texts) y.1) same (ap (λ m. m ∷ ns) (kind_sound n j is), refl)

  by_node : (ns : List Node) → kind_in ns texts ≡ Ok x → Takes (node_of x.0 ∷ []) [] (ns, texts) x.1
  by_node [] f = absurd cc
  by_node (n ∷ ns) f = by_kind n ns (kind_of n) refl f

at_least : (a b : ℕ) → (a < b → ⊥) → b ≤ a
at_least a b h = omega (arith, h)

pub bytes_take : (n : ℕ) (l : Left) (x : List ℕ × Left) → bytes_at n l ≡ Ok x → Takes [] x.0 l x.1 × (length x.0 ≡ n)
unfolding bytes_at
bytes_take n l x e = split (nat_lt (length l.1) n) refl e where
  split : (b : Bool) → nat_lt (length l.1) n ≡ b → cond b (Err OutOfRange) (Ok (take n l.1, (l.0, drop n l.1))) ≡ Ok x → Takes [] x.0 l x.1 × (length x.0 ≡ n)
  split true is f = absurd cc
  split false is f =
      let same = ok_is (take n l.1, (l.0, drop n l.1)) x f in
      let enough : length l.1 < n → ⊥ = λ lt. let yes_ = (Decides-ltb (length l.1) n).1 lt in cc in
      subst (λ (y : List ℕ × Left). Takes [] y.0 l y.1 × (length y.0 ≡ n)) same
      ((refl, sym (take-append-drop n l.1)), length-take-le n l.1 (at_least (length l.1) n enough))

pub text_takes : (l : Left) (x : List ℕ × Left) → text_at l ≡ Ok x → Takes (text_node x.0 ∷ []) x.0 l x.1
unfolding text_at
text_takes l x e =
    let b = bind_ok (kind_at l) (λ k. text_of k.0 k.1) x e in
    by_kind b.0.0 b.0.1 (kind_takes l b.0 b.1) b.2 where
      by_kind : (j : NodeKind) (r : Left) → Takes (node_of j ∷ []) [] l r → text_of j r ≡ Ok x → Takes (text_node x.0 ∷ []) x.0 l x.1
      by_kind (k.Text n) r t f =
          let g = bytes_take n r x f in
          let whole = takes_both (node_of (k.Text n) ∷ []) [] [] x.0 l r x.1 t g.0 in
          subst (λ (i : ℕ). Takes (node_of (k.Text i) ∷ []) x.0 l x.1) (sym g.1) whole
      by_kind k.Missing r t f = absurd cc
      by_kind k.Null r t f = absurd cc
      by_kind (k.Bool g) r t f = absurd cc
      by_kind (k.Primitive p g) r t f = absurd cc
      by_kind (k.Decimal p s g) r t f = absurd cc
      by_kind (k.Utf8 g) r t f = absurd cc
      by_kind (k.Binary g) r t f = absurd cc
      by_kind (k.List h g) r t f = absurd cc
      by_kind (k.FixedSizeList h n g) r t f = absurd cc
      by_kind (k.Map a b o g) r t f = absurd cc
      by_kind (k.Struct a b g) r t f = absurd cc
      by_kind (k.Union a b c g) r t f = absurd cc
      by_kind (k.Variant g) r t f = absurd cc
      by_kind (k.Extension a b) r t f = absurd cc
      by_kind (k.Tag n) r t f = absurd cc

pub name_takes : (l : Left) (x : List ℕ × Left) → name_at l ≡ Ok x → Takes (text_node x.0 ∷ []) x.0 l x.1 × (is_utf8 x.0 ≡ true)
unfolding name_at
name_takes l x e =
    let b = bind_ok (text_at l) (λ t. cond (is_utf8 t.0) (Ok t) (Err NotUtf8)) x e in
    split b.0 (is_utf8 b.0.0) refl b.1 b.2 where
      split : (y : List ℕ × Left) (u : Bool) → is_utf8 y.0 ≡ u → text_at l ≡ Ok y → cond u (Ok y) (Err NotUtf8) ≡ Ok x → Takes (text_node x.0 ∷ []) x.0 l x.1 × (is_utf8 x.0 ≡ true)
      split y true is f g = subst (λ (z : List ℕ × Left). Takes (text_node z.0 ∷ []) z.0 l z.1 × (is_utf8 z.0 ≡ true)) (ok_is y x g) (text_takes l y f, is)
      split y false is f g = absurd cc

pub tag_takes : (l : Left) (x : ℤ × Left) → tag_at l ≡ Ok x → Takes (tag_node x.0 ∷ []) [] l x.1
unfolding tag_at
tag_takes l x e =
    let b = bind_ok (kind_at l) (λ k. tag_of k.0 k.1) x e in
    by_kind b.0.0 b.0.1 (kind_takes l b.0 b.1) b.2 where
      by_kind : (j : NodeKind) (r : Left) → Takes (node_of j ∷ []) [] l r → tag_of j r ≡ Ok x → Takes (tag_node x.0 ∷ []) [] l x.1
      by_kind (k.Tag n) r t f = subst (λ (y : ℤ × Left). Takes (tag_node y.0 ∷ []) [] l y.1) (ok_is (n, r) x f) t
      by_kind k.Missing r t f = absurd cc
      by_kind k.Null r t f = absurd cc
      by_kind (k.Bool g) r t f = absurd cc
      by_kind (k.Primitive p g) r t f = absurd cc
      by_kind (k.Decimal p s g) r t f = absurd cc
      by_kind (k.Utf8 g) r t f = absurd cc
      by_kind (k.Binary g) r t f = absurd cc
      by_kind (k.List h g) r t f = absurd cc
      by_kind (k.FixedSizeList h n g) r t f = absurd cc
      by_kind (k.Map a b o g) r t f = absurd cc
      by_kind (k.Struct a b g) r t f = absurd cc
      by_kind (k.Union a b c g) r t f = absurd cc
      by_kind (k.Variant g) r t f = absurd cc
      by_kind (k.Extension a b) r t f = absurd cc
      by_kind (k.Text n) r t f = absurd cc

pub metadata_takes : (h : Bool) (l : Left) (x : Option (List ℕ) × Left) → metadata_at h l ≡ Ok x → Takes (bytes_nodes x.0) (bytes_texts x.0) l x.1 × (has_bytes x.0 ≡ h)
unfolding metadata_at
metadata_takes false l x e = subst (λ (y : Option (List ℕ) × Left). Takes (bytes_nodes y.0) (bytes_texts y.0) l y.1 × (has_bytes y.0 ≡ false)) (ok_is (None, l) x e) (takes_none l, refl)
metadata_takes true l x e =
    let b = bind_ok (text_at l) (λ t. Ok (Some t.0, t.1)) x e in
    subst (λ (y : Option (List ℕ) × Left). Takes (bytes_nodes y.0) (bytes_texts y.0) l y.1 × (has_bytes y.0 ≡ true)) (ok_is (Some b.0.0, b.0.1) x b.2) (text_takes l b.0 b.1, refl)

pub names_take : (n : ℕ) (l : Left) (x : List (List ℕ) × Left) → times n name_at l ≡ Ok x → Takes (map text_node x.0) (flat_map (λ t. t) x.0) l x.1 × (length x.0 ≡ n) × AreUtf8 x.0
names_take zero l x e = subst (λ (y : List (List ℕ) × Left). Takes (map text_node y.0) (flat_map (λ t. t) y.0) l y.1 × (length y.0 ≡ 0) × AreUtf8 y.0) (ok_is ([], l) x e) (takes_none l, refl, tt)
names_take (suc n) l x e =
    let a = bind_ok (name_at l) _ x e in
    let b = bind_ok (times n name_at a.0.1) (λ xs. Ok (a.0.0 ∷ xs.0, xs.1)) x a.2 in
    let first = name_takes l a.0 a.1 in
    let rest = names_take n a.0.1 b.0 b.1 in
    subst (λ (y : List (List ℕ) × Left). Takes (map text_node y.0) (flat_map (λ t. t) y.0) l y.1 × (length y.0 ≡ suc n) × AreUtf8 y.0) (ok_is (a.0.0 ∷ b.0.0, b.0.1) x b.2)
    (takes_both (text_node a.0.0 ∷ []) (map text_node b.0.0) a.0.0 (flat_map (λ t. t) b.0.0) l a.0.1 b.0.1 first.0 rest.0, ap suc rest.1, (first.1, rest.2))

pub tags_take : (n : ℕ) (l : Left) (x : List ℤ × Left) → times n tag_at l ≡ Ok x → Takes (map tag_node x.0) [] l x.1 × (length x.0 ≡ n)
tags_take zero l x e = subst (λ (y : List ℤ × Left). Takes (map tag_node y.0) [] l y.1 × (length y.0 ≡ 0)) (ok_is ([], l) x e) (takes_none l, refl)
tags_take (suc n) l x e =
    let a = bind_ok (tag_at l) _ x e in
    let b = bind_ok (times n tag_at a.0.1) (λ xs. Ok (a.0.0 ∷ xs.0, xs.1)) x a.2 in
    let rest = tags_take n a.0.1 b.0 b.1 in
    subst (λ (y : List ℤ × Left). Takes (map tag_node y.0) [] l y.1 × (length y.0 ≡ suc n)) (ok_is (a.0.0 ∷ b.0.0, b.0.1) x b.2)
    (takes_both (tag_node a.0.0 ∷ []) (map tag_node b.0.0) [] [] l a.0.1 b.0.1 (tag_takes l a.0 a.1) rest.0, ap suc rest.1)

-- ---- messages

-- a message that was taken, with fewer than so many levels below it
abbrev pub IsTaken : ℕ → Left → Message × Left → Type 0
IsTaken deep l x = Takes (flat_nodes x.0) (flat_texts x.0) l x.1 × (depth x.0 < deep) × HasTexts x.0

-- what reads messages soundly
abbrev pub IsSound : ℕ → Reader Message → Type 0
IsSound deep part = (l : Left) (x : Message × Left) → part l ≡ Ok x → IsTaken deep l x

module _ (part : Reader Message) (deep : ℕ) (sound : IsSound deep part) where
  abbrev pub ChildTaken : Bool → Left → Child × Left → Type 0
  ChildTaken h l x = Takes (part_nodes x.0) (part_texts x.0) l x.1 × (is_present x.0 ≡ h) × (depth_child x.0 ≤ deep) × ChildHasTexts x.0

  pub child_takes : (h : Bool) (l : Left) (x : Child × Left) → child_by part h l ≡ Ok x → ChildTaken h l x
  unfolding child_by
  child_takes false l x e = subst (ChildTaken false l) (ok_is (absent, l) x e) (takes_none l, refl, omega arith, tt)
  child_takes true l x e =
      let b = bind_ok (part l) (λ m. Ok (present m.0, m.1)) x e in
      let m = sound l b.0 b.1 in
      subst (ChildTaken true l) (ok_is (present b.0.0, b.0.1) x b.2) (m.0, refl, omega (arith, m.1), m.2)

  abbrev pub AllTaken : ℕ → Left → List Message × Left → Type 0
  AllTaken n l x = Takes (all_nodes (messages x.0)) (all_texts (messages x.0)) l x.1 × (count (messages x.0) ≡ n) × (depth_all (messages x.0) ≤ deep) × AllHaveTexts (messages x.0)

  pub all_take : (n : ℕ) (l : Left) (x : List Message × Left) → times n part l ≡ Ok x → AllTaken n l x
  all_take zero l x e = subst (AllTaken 0 l) (ok_is ([], l) x e) (takes_none l, refl, omega arith, tt)
  all_take (suc n) l x e =
      let a = bind_ok (part l) _ x e in
      let b = bind_ok (times n part a.0.1) (λ xs. Ok (a.0.0 ∷ xs.0, xs.1)) x a.2 in
      let m = sound l a.0 a.1 in
      let rest = all_take n a.0.1 b.0 b.1 in
      subst (AllTaken (suc n) l) (ok_is (a.0.0 ∷ b.0.0, b.0.1) x b.2)
      (takes_both (flat_nodes a.0.0) (all_nodes (messages b.0.0)) (flat_texts a.0.0) (all_texts (messages b.0.0)) l a.0.1 b.0.1 m.0 rest.0, omega (arith, rest.1), omega (arith, m.1, rest.2), (m.2, rest.3))

  -- a message that was taken, behind its first node
  abbrev pub Whole : Left → Message × Left → Type 0
  Whole l x = Takes (flat_nodes x.0) (flat_texts x.0) l x.1 × (depth x.0 ≤ deep) × HasTexts x.0

  module _ (l r : Left) (x : Message × Left) where
    leaf : (m : Message) → Whole l (m, r) → returned (m, r) ≡ Ok x → Whole l x
    leaf m w f = subst (Whole l) (ok_is (m, r) x f) w

    list_takes : (h f : Bool) → Takes (node_of (k.List h f) ∷ []) [] l r → list_by part h f r ≡ Ok x → Whole l x
    unfolding list_by
    list_takes h f t e =
        let b = bind_ok (child_by part h r) _ x e in
        let c = child_takes h r b.0 b.1 in
        let g : Takes (node_of (k.List (is_present b.0.0) f) ∷ []) [] l r = subst (λ i. Takes (node_of (k.List i f) ∷ []) [] l r) (sym c.1) t in
        subst (Whole l) (ok_is (list b.0.0 f, b.0.1) x b.2) (takes_both (node_of (k.List (is_present b.0.0) f) ∷ []) (part_nodes b.0.0) [] (part_texts b.0.0) l r b.0.1 g c.0, c.2, c.3)

    fixed_takes : (h : Bool) (n : ℕ) (f : Bool) → Takes (node_of (k.FixedSizeList h n f) ∷ []) [] l r → fixed_by part h n f r ≡ Ok x → Whole l x
    unfolding fixed_by
    fixed_takes h n f t e =
        let b = bind_ok (child_by part h r) _ x e in
        let c = child_takes h r b.0 b.1 in
        let g : Takes (node_of (k.FixedSizeList (is_present b.0.0) n f) ∷ []) [] l r = subst (λ i. Takes (node_of (k.FixedSizeList i n f) ∷ []) [] l r) (sym c.1) t in
        subst (Whole l) (ok_is (fixed_size_list b.0.0 n f, b.0.1) x b.2) (takes_both (node_of (k.FixedSizeList (is_present b.0.0) n f) ∷ []) (part_nodes b.0.0) [] (part_texts b.0.0) l r b.0.1 g c.0, c.2, c.3)

    map_takes : (h i o f : Bool) → Takes (node_of (k.Map h i o f) ∷ []) [] l r → map_by part h i o f r ≡ Ok x → Whole l x
    unfolding map_by
    map_takes h i o f t e =
        let a = bind_ok (child_by part h r) _ x e in
        let b = bind_ok (child_by part i a.0.1) (λ v. Ok (map_of a.0.0 v.0 o f, v.1)) x a.2 in
        let c = child_takes h r a.0 a.1 in
        let d = child_takes i a.0.1 b.0 b.1 in
        let g : Takes (node_of (k.Map (is_present a.0.0) (is_present b.0.0) o f) ∷ []) [] l r = subst (λ j. Takes (node_of (k.Map j (is_present b.0.0) o f) ∷ []) [] l r) (sym c.1) (subst (λ j. Takes (node_of (k.Map h j o f) ∷ []) [] l r) (sym d.1) t) in
        let parts = takes_both (part_nodes a.0.0) (part_nodes b.0.0) (part_texts a.0.0) (part_texts b.0.0) r a.0.1 b.0.1 c.0 d.0 in
        subst (Whole l) (ok_is (map_of a.0.0 b.0.0 o f, b.0.1) x b.2) (takes_both (node_of (k.Map (is_present a.0.0) (is_present b.0.0) o f) ∷ []) (part_nodes a.0.0 ++ part_nodes b.0.0) [] (part_texts a.0.0 ++ part_texts b.0.0) l r b.0.1 g parts, omega (arith, c.2, d.2), (c.3, d.3))

    struct_takes : (n m : ℕ) (f : Bool) → Takes (node_of (k.Struct n m f) ∷ []) [] l r → struct_by part n m f r ≡ Ok x → Whole l x
    unfolding struct_by
    struct_takes n m f t e =
        let a = bind_ok (times n name_at r) _ x e in
        let b = bind_ok (times m part a.0.1) (λ ms. Ok (struct a.0.0 (messages ms.0) f, ms.1)) x a.2 in
        let c = names_take n r a.0 a.1 in
        let d = all_take m a.0.1 b.0 b.1 in
        let ns = a.0.0 in
        let ms = messages b.0.0 in
        let g : Takes (node_of (k.Struct (length ns) (count ms) f) ∷ []) [] l r = subst (λ j. Takes (node_of (k.Struct j (count ms) f) ∷ []) [] l r) (sym c.1) (subst (λ j. Takes (node_of (k.Struct n j f) ∷ []) [] l r) (sym d.1) t) in
        let parts = takes_both (map text_node ns) (all_nodes ms) (flat_map (λ t. t) ns) (all_texts ms) r a.0.1 b.0.1 c.0 d.0 in
        subst (Whole l) (ok_is (struct ns ms f, b.0.1) x b.2) (takes_both (node_of (k.Struct (length ns) (count ms) f) ∷ []) (map text_node ns ++ all_nodes ms) [] (flat_map (λ t. t) ns ++ all_texts ms) l r b.0.1 g parts, d.2, (c.2, d.3))

    union_takes : (n i m : ℕ) (f : Bool) → Takes (node_of (k.Union n i m f) ∷ []) [] l r → union_by part n i m f r ≡ Ok x → Whole l x
    unfolding union_by
    union_takes n i m f t e =
        let a = bind_ok (times n name_at r) _ x e in
        let h = bind_ok (times i tag_at a.0.1) _ x a.2 in
        let b = bind_ok (times m part h.0.1) (λ ms. Ok (union a.0.0 (messages ms.0) h.0.0 f, ms.1)) x h.2 in
        let c = names_take n r a.0 a.1 in
        let j = tags_take i a.0.1 h.0 h.1 in
        let d = all_take m h.0.1 b.0 b.1 in
        let ns = a.0.0 in
        let gs = h.0.0 in
        let ms = messages b.0.0 in
        let g : Takes (node_of (k.Union (length ns) (length gs) (count ms) f) ∷ []) [] l r =
        subst (λ p. Takes (node_of (k.Union p (length gs) (count ms) f) ∷ []) [] l r) (sym c.1) (subst (λ p. Takes (node_of (k.Union n p (count ms) f) ∷ []) [] l r) (sym j.1) (subst (λ p. Takes (node_of (k.Union n i p f) ∷ []) [] l r) (sym d.1) t)) in
        let later = takes_both (map tag_node gs) (all_nodes ms) [] (all_texts ms) a.0.1 h.0.1 b.0.1 j.0 d.0 in
        let parts = takes_both (map text_node ns) (map tag_node gs ++ all_nodes ms) (flat_map (λ t. t) ns) (all_texts ms) r a.0.1 b.0.1 c.0 later in
        subst (Whole l) (ok_is (union ns ms gs f, b.0.1) x b.2) (takes_both (node_of (k.Union (length ns) (length gs) (count ms) f) ∷ []) (map text_node ns ++ (map tag_node gs ++ all_nodes ms)) [] (flat_map (λ t. t) ns ++ all_texts ms) l r b.0.1 g parts, d.2, (c.2, d.3))

    extension_takes : (h i : Bool) → Takes (node_of (k.Extension h i) ∷ []) [] l r → extension_by part h i r ≡ Ok x → Whole l x
    unfolding extension_by
    extension_takes h i t e =
        let a = bind_ok (name_at r) _ x e in
        let m = bind_ok (metadata_at i a.0.1) _ x a.2 in
        let b = bind_ok (child_by part h m.0.1) (λ s. Ok (extension a.0.0 s.0 m.0.0, s.1)) x m.2 in
        let c = name_takes r a.0 a.1 in
        let j = metadata_takes i a.0.1 m.0 m.1 in
        let d = child_takes h m.0.1 b.0 b.1 in
        let g : Takes (node_of (k.Extension (is_present b.0.0) (has_bytes m.0.0)) ∷ []) [] l r = subst (λ p. Takes (node_of (k.Extension p (has_bytes m.0.0)) ∷ []) [] l r) (sym d.1) (subst (λ p. Takes (node_of (k.Extension h p) ∷ []) [] l r) (sym j.1) t) in
        let later = takes_both (bytes_nodes m.0.0) (part_nodes b.0.0) (bytes_texts m.0.0) (part_texts b.0.0) a.0.1 m.0.1 b.0.1 j.0 d.0 in
        let parts = takes_both (text_node a.0.0 ∷ []) (bytes_nodes m.0.0 ++ part_nodes b.0.0) a.0.0 (bytes_texts m.0.0 ++ part_texts b.0.0) r a.0.1 b.0.1 c.0 later in
        subst (Whole l) (ok_is (extension a.0.0 b.0.0 m.0.0, b.0.1) x b.2) (takes_both (node_of (k.Extension (is_present b.0.0) (has_bytes m.0.0)) ∷ []) (text_node a.0.0 ∷ (bytes_nodes m.0.0 ++ part_nodes b.0.0)) [] (a.0.0 ++ (bytes_texts m.0.0 ++ part_texts b.0.0)) l r b.0.1 g parts, d.2, (c.1, d.3))

    kind_then : (j : NodeKind) → Takes (node_of j ∷ []) [] l r → after_kind part j r ≡ Ok x → Whole l x
    unfolding after_kind
    kind_then k.Missing t f = leaf missing (t, omega arith, tt) f
    kind_then k.Null t f = leaf null (t, omega arith, tt) f
    kind_then (k.Bool g) t f = leaf (bool g) (t, omega arith, tt) f
    kind_then (k.Primitive p g) t f = leaf (primitive p g) (t, omega arith, tt) f
    kind_then (k.Decimal p s g) t f = leaf (decimal p s g) (t, omega arith, tt) f
    kind_then (k.Utf8 g) t f = leaf (utf8 g) (t, omega arith, tt) f
    kind_then (k.Binary g) t f = leaf (binary g) (t, omega arith, tt) f
    kind_then (k.List h g) t f = list_takes h g t f
    kind_then (k.FixedSizeList h n g) t f = fixed_takes h n g t f
    kind_then (k.Map h i o g) t f = map_takes h i o g t f
    kind_then (k.Struct n m g) t f = struct_takes n m g t f
    kind_then (k.Union n i m g) t f = union_takes n i m g t f
    kind_then (k.Variant g) t f = leaf (variant g) (t, omega arith, tt) f
    kind_then (k.Extension h i) t f = extension_takes h i t f
    kind_then (k.Text n) t f = absurd cc
    kind_then (k.Tag n) t f = absurd cc

  pub message_takes : (l : Left) (x : Message × Left) → message_by part l ≡ Ok x → Whole l x
  unfolding message_by
  message_takes l x e =
      let b = bind_ok (kind_at l) (λ j. after_kind part j.0 j.1) x e in
      kind_then l b.0.1 x b.0.0 (kind_takes l b.0 b.1) b.2

pub part_sound : (deep : ℕ) → IsSound deep (part_at deep)
part_sound zero l x e = absurd cc
part_sound (suc n) l x e =
    let m = message_takes (part_at n) n (part_sound n) l x e in
    (m.0, omega (arith, m.1), m.2)

pub read_is_flat : (nodes : List Node) (texts : List ℕ) (m : Message) → read_flat nodes texts ≡ Ok m → IsFlat nodes texts m
unfolding read_flat
read_is_flat nodes texts m e =
    let b = bind_ok (message_by (part_at 128) (nodes, texts)) all_of m e in
    finish b.0.0 b.0.1.0 b.0.1.1 (message_takes (part_at 128) 128 (part_sound 128) (nodes, texts) b.0 b.1) b.2 where
      finish : (r : Message) (ns : List Node) (ts : List ℕ) → (Takes (flat_nodes r) (flat_texts r) (nodes, texts) (ns, ts) × (depth r ≤ 128) × HasTexts r) → all_of (r, (ns, ts)) ≡ Ok m → IsFlat nodes texts m
      finish r [] [] w f =
          subst (IsFlat nodes texts) (ok_is r m f) (record { nodes = sym (w.0.0 ∙ append-nil (flat_nodes r)); texts = sym (w.0.1 ∙ append-nil (flat_texts r)); levels = w.1; names = w.2 })
      finish r (n ∷ ns) [] w f = absurd cc
      finish r [] (t ∷ ts) w f = absurd cc
      finish r (n ∷ ns) (t ∷ ts) w f = absurd cc
