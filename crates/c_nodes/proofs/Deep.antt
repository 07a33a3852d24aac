-- SPDX-License-Identifier: Apache-2.0
-- SPDX-FileCopyrightText: Copyright the Vortex contributors

-- What is read is too deep only if more than 128 nodes are of kinds that may have parts.
use Rattle.std.proofs.Common.{◌≡◌, ◌∙◌, ℕ, zero, suc, ◌<◌, ◌≤◌, List, [], ◌∷◌, ◌++◌, Bool, true, false, Option, Some, None, Result, Ok, Err, refl, ap, cond, arith, length, take, drop}
use Rattle.std.specs.Prelude.{nat_lt}
use Rattle.std.specs.Str.{is_utf8}
use Rattle.dtype_messages.specs.Message.{Message, Child, messages, list, fixed_size_list, map_of, struct, union, extension, present}
use Rattle.c_nodes.specs.Depth.{holders}
use Rattle.c_nodes.specs.Flat.{text_node}
use Rattle.c_nodes.specs.Kinds.{node_of, kind_of}
use Rattle.c_nodes.specs.Read.{Left, Reader, ◌>>=◌, kind_or_fault, kind_at, bytes_at, text_of, text_at, name_at, tag_of, tag_at, metadata_at, times, child_by, list_by, fixed_by, map_by, struct_by, union_by, extension_by, after_kind, message_by, part_at, all_of, read_flat}
use Rattle.c_nodes.specs.declared.fault.NodeFault.{NodeFault}
use Rattle.c_nodes.specs.declared.fault.NodeFault.TheVariants.{NotUtf8, TooDeep, OutOfRange}
use Rattle.c_nodes.specs.declared.kind.NodeKind.{NodeKind}
use Rattle.c_nodes.specs.declared.kind.NodeKind.TheVariants as k
use Rattle.c_nodes.specs.declared.node.Node.{Node}
use Rattle.c_nodes.proofs.Lists.{holders_both}
use Rattle.c_nodes.proofs.Sound.{IsSound, kind_takes, name_takes, names_take, tags_take, metadata_takes, child_takes, all_take, part_sound}

-- what is left has no more nodes that may have parts
fewer : (ns before after : List Node) → before ≡ ns ++ after → holders after ≤ holders before
fewer ns before after e = omega (arith, ap holders e, holders_both ns after)

abbrev failed : (A : Type 0) → NodeFault → Result A NodeFault
failed A e = Err e

err_is : {A : Type 0} (g h : NodeFault) → failed A g ≡ failed A h → g ≡ h
err_is g h e = cc

abbrev Never : {A : Type 0} → Result A NodeFault → Type 0
Never r = r ≡ Err TooDeep → ⊥

bind_never : {A B : Type 0} (r : Result A NodeFault) (f : A → Result B NodeFault) → Never r → ((x : A) → Never (f x)) → Never (r >>= f)
bind_never (Ok x) f h g e = g x e
bind_never (Err v) f h g e = h (ap Err (err_is v TooDeep e))

kind_never : (l : Left) → Never (kind_at l)
unfolding kind_at
kind_never ([], texts) e = absurd cc
kind_never (n ∷ ns, texts) e = by_kind (kind_of n) e where
  by_kind : (o : Option NodeKind) → Never (kind_or_fault o (ns, texts))
  by_kind None f = absurd cc
  by_kind (Some j) f = absurd cc

unless_short : (b : Bool) (x : List ℕ × Left) → Never (cond b (Err OutOfRange) (Ok x))
unless_short true x f = absurd cc
unless_short false x f = absurd cc

bytes_never : (n : ℕ) (l : Left) → Never (bytes_at n l)
unfolding bytes_at
bytes_never n l = unless_short (nat_lt (length l.1) n) (take n l.1, (l.0, drop n l.1))

text_of_never : (j : NodeKind) (r : Left) → Never (text_of j r)
text_of_never (k.Text n) r e = bytes_never n r e
text_of_never k.Missing r e = absurd cc
text_of_never k.Null r e = absurd cc
text_of_never (k.Bool g) r e = absurd cc
text_of_never (k.Primitive p g) r e = absurd cc
text_of_never (k.Decimal p s g) r e = absurd cc
text_of_never (k.Utf8 g) r e = absurd cc
text_of_never (k.Binary g) r e = absurd cc
text_of_never (k.List h g) r e = absurd cc
text_of_never (k.FixedSizeList h n g) r e = absurd cc
text_of_never (k.Map a b o g) r e = absurd cc
text_of_never (k.Struct a b g) r e = absurd cc
text_of_never (k.Union a b c g) r e = absurd cc
text_of_never (k.Variant g) r e = absurd cc
text_of_never (k.Extension a b) r e = absurd cc
text_of_never (k.Tag n) r e = absurd cc

tag_of_never : (j : NodeKind) (r : Left) → Never (tag_of j r)
tag_of_never (k.Tag n) r e = absurd cc
tag_of_never k.Missing r e = absurd cc
tag_of_never k.Null r e = absurd cc
tag_of_never (k.Bool g) r e = absurd cc
tag_of_never (k.Primitive p g) r e = absurd cc
tag_of_never (k.Decimal p s g) r e = absurd cc
tag_of_never (k.Utf8 g) r e = absurd cc
tag_of_never (k.Binary g) r e = absurd cc
tag_of_never (k.List h g) r e = absurd cc
tag_of_never (k.FixedSizeList h n g) r e = absurd cc
tag_of_never (k.Map a b o g) r e = absurd cc
tag_of_never (k.Struct a b g) r e = absurd cc
tag_of_never (k.Union a b c g) r e = absurd cc
tag_of_never (k.Variant g) r e = absurd cc
tag_of_never (k.Extension a b) r e = absurd cc
tag_of_never (k.Text n) r e = absurd cc

text_never : (l : Left) → Never (text_at l)
unfolding text_at
text_never l = bind_never (kind_at l) (λ j. text_of j.0 j.1) (kind_never l) (λ j. text_of_never j.0 j.1)

if_text : (b : Bool) (t : List ℕ × Left) → Never (cond b (Ok t) (Err NotUtf8))
if_text true t f = absurd cc
if_text false t f = absurd cc

name_never : (l : Left) → Never (name_at l)
unfolding name_at
name_never l = bind_never (text_at l) (λ t. cond (is_utf8 t.0) (Ok t) (Err NotUtf8)) (text_never l) (λ t. if_text (is_utf8 t.0) t)

tag_never : (l : Left) → Never (tag_at l)
unfolding tag_at
tag_never l = bind_never (kind_at l) (λ j. tag_of j.0 j.1) (kind_never l) (λ j. tag_of_never j.0 j.1)

metadata_never : (h : Bool) (l : Left) → Never (metadata_at h l)
unfolding metadata_at
metadata_never false l e = absurd cc
metadata_never true l e = bind_never (text_at l) (λ t. Ok (Some t.0, t.1)) (text_never l) (λ t f. absurd cc) e

times_never : {A : Type 0} (item : Reader A) → ((l : Left) → Never (item l)) → (n : ℕ) (l : Left) → Never (times n item l)
times_never item h zero l e = absurd cc
times_never item h (suc n) l e = bind_never (item l) _ (h l) (λ x. bind_never (times n item x.1) (λ xs. Ok (x.0 ∷ xs.0, xs.1)) (times_never item h n x.1) (λ xs f. absurd cc)) e

-- What is read at l is too deep only if there are so many nodes that may have parts.
abbrev pub Deep : {A : Type 0} → ℕ → Left → Result A NodeFault → Type 0
Deep deep l r = r ≡ Err TooDeep → deep ≤ holders l.0

bind_deep : {A B : Type 0} (deep : ℕ) (l : Left) (r : Result (A × Left) NodeFault) (f : A × Left → Result B NodeFault) → Deep deep l r → ((x : A × Left) → r ≡ Ok x → (holders x.1.0 ≤ holders l.0) × Deep deep x.1 (f x)) → Deep deep l (r >>= f)
bind_deep deep l (Ok x) f h g e = let p = g x refl in let q = p.1 e in omega (arith, p.0, q)
bind_deep deep l (Err v) f h g e = h (ap Err (err_is v TooDeep e))

never_deep : {A : Type 0} (deep : ℕ) (l : Left) (r : Result A NodeFault) → Never r → Deep deep l r
never_deep deep l r h e = absurd (h e)

abbrev pub IsDeep : ℕ → Reader Message → Type 0
IsDeep deep part = (l : Left) → Deep deep l (part l)

module _ (part : Reader Message) (deep : ℕ) (sound : IsSound deep part) (is : IsDeep deep part) where
  child_deep : (h : Bool) (l : Left) → Deep deep l (child_by part h l)
  unfolding child_by
  child_deep false l e = absurd cc
  child_deep true l e = bind_deep deep l (part l) (λ m. Ok (present m.0, m.1)) (is l) (λ x g. (fewer _ l.0 x.1.0 (sound l x g).0.0, λ f. absurd cc)) e

  all_deep : (n : ℕ) (l : Left) → Deep deep l (times n part l)
  all_deep zero l e = absurd cc
  all_deep (suc n) l e =
      bind_deep deep l (part l) (λ x. times n part x.1 >>= λ xs. Ok (x.0 ∷ xs.0, xs.1)) (is l) (λ x h. (
        fewer _ l.0 x.1.0 (sound l x h).0.0,
        bind_deep deep x.1 (times n part x.1) (λ xs. Ok (x.0 ∷ xs.0, xs.1)) (all_deep n x.1) (λ xs f. (fewer _ x.1.0 xs.1.0 (all_take part deep sound n x.1 xs f).0.0, λ g. absurd cc)),
      )) e

  child_fewer : (h : Bool) (l : Left) (c : Child × Left) → child_by part h l ≡ Ok c → holders c.1.0 ≤ holders l.0
  child_fewer h l c e = fewer _ l.0 c.1.0 (child_takes part deep sound h l c e).0.0

  all_fewer : (n : ℕ) (l : Left) (ms : List Message × Left) → times n part l ≡ Ok ms → holders ms.1.0 ≤ holders l.0
  all_fewer n l ms e = fewer _ l.0 ms.1.0 (all_take part deep sound n l ms e).0.0

  list_deep : (h f : Bool) (r : Left) → Deep deep r (list_by part h f r)
  unfolding list_by
  list_deep h f r = bind_deep deep r (child_by part h r) (λ c. Ok (list c.0 f, c.1)) (child_deep h r) (λ c e. (child_fewer h r c e, λ g. absurd cc))

  fixed_deep : (h : Bool) (n : ℕ) (f : Bool) (r : Left) → Deep deep r (fixed_by part h n f r)
  unfolding fixed_by
  fixed_deep h n f r = bind_deep deep r (child_by part h r) (λ c. Ok (fixed_size_list c.0 n f, c.1)) (child_deep h r) (λ c e. (child_fewer h r c e, λ g. absurd cc))

  map_deep : (h i o f : Bool) (r : Left) → Deep deep r (map_by part h i o f r)
  unfolding map_by
  map_deep h i o f r =
      bind_deep deep r (child_by part h r) _ (child_deep h r) (λ c e. (
        child_fewer h r c e,
        bind_deep deep c.1 (child_by part i c.1) (λ v. Ok (map_of c.0 v.0 o f, v.1)) (child_deep i c.1) (λ v g. (child_fewer i c.1 v g, λ q. absurd cc)),
      ))

  struct_deep : (n m : ℕ) (f : Bool) (r : Left) → Deep deep r (struct_by part n m f r)
  unfolding struct_by
  struct_deep n m f r =
      bind_deep deep r (times n name_at r) _ (never_deep deep r (times n name_at r) (times_never name_at name_never n r)) (λ ns e. (
        fewer _ r.0 ns.1.0 (names_take n r ns e).0.0,
        bind_deep deep ns.1 (times m part ns.1) (λ ms. Ok (struct ns.0 (messages ms.0) f, ms.1)) (all_deep m ns.1) (λ ms g. (all_fewer m ns.1 ms g, λ q. absurd cc)),
      ))

  union_deep : (n i m : ℕ) (f : Bool) (r : Left) → Deep deep r (union_by part n i m f r)
  unfolding union_by
  union_deep n i m f r =
      bind_deep deep r (times n name_at r) _ (never_deep deep r (times n name_at r) (times_never name_at name_never n r)) (λ ns e. (
        fewer _ r.0 ns.1.0 (names_take n r ns e).0.0,
        bind_deep deep ns.1 (times i tag_at ns.1) _ (never_deep deep ns.1 (times i tag_at ns.1) (times_never tag_at tag_never i ns.1)) (λ gs g. (
          fewer _ ns.1.0 gs.1.0 (tags_take i ns.1 gs g).0.0,
          bind_deep deep gs.1 (times m part gs.1) (λ ms. Ok (union ns.0 (messages ms.0) gs.0 f, ms.1)) (all_deep m gs.1) (λ ms q. (all_fewer m gs.1 ms q, λ w. absurd cc)),
        )),
      ))

  extension_deep : (h i : Bool) (r : Left) → Deep deep r (extension_by part h i r)
  unfolding extension_by
  extension_deep h i r =
      bind_deep deep r (name_at r) _ (never_deep deep r (name_at r) (name_never r)) (λ id e. (
        fewer (text_node id.0 ∷ []) r.0 id.1.0 (name_takes r id e).0.0,
        bind_deep deep id.1 (metadata_at i id.1) _ (never_deep deep id.1 (metadata_at i id.1) (metadata_never i id.1)) (λ m g. (
          fewer _ id.1.0 m.1.0 (metadata_takes i id.1 m g).0.0,
          bind_deep deep m.1 (child_by part h m.1) (λ s. Ok (extension id.0 s.0 m.0, s.1)) (child_deep h m.1) (λ s q. (child_fewer h m.1 s q, λ w. absurd cc)),
        )),
      ))

  kind_deep : (l r : Left) (j : NodeKind) → l.0 ≡ node_of j ∷ r.0 → after_kind part j r ≡ Err TooDeep → suc deep ≤ holders l.0
  unfolding after_kind holders
  kind_deep l r (k.List h f) t e = omega (arith, ap holders t, list_deep h f r e)
  kind_deep l r (k.FixedSizeList h n f) t e = omega (arith, ap holders t, fixed_deep h n f r e)
  kind_deep l r (k.Map h i o f) t e = omega (arith, ap holders t, map_deep h i o f r e)
  kind_deep l r (k.Struct n m f) t e = omega (arith, ap holders t, struct_deep n m f r e)
  kind_deep l r (k.Union n i m f) t e = omega (arith, ap holders t, union_deep n i m f r e)
  kind_deep l r (k.Extension h i) t e = omega (arith, ap holders t, extension_deep h i r e)
  kind_deep l r k.Missing t e = absurd cc
  kind_deep l r k.Null t e = absurd cc
  kind_deep l r (k.Bool g) t e = absurd cc
  kind_deep l r (k.Primitive p g) t e = absurd cc
  kind_deep l r (k.Decimal p s g) t e = absurd cc
  kind_deep l r (k.Utf8 g) t e = absurd cc
  kind_deep l r (k.Binary g) t e = absurd cc
  kind_deep l r (k.Variant g) t e = absurd cc
  kind_deep l r (k.Text n) t e = absurd cc
  kind_deep l r (k.Tag n) t e = absurd cc

  pub message_deep : (l : Left) → Deep (suc deep) l (message_by part l)
  unfolding message_by
  message_deep l e = split (kind_at l) refl e where
    split : (r : Result (NodeKind × Left) NodeFault) → kind_at l ≡ r → (r >>= λ j. after_kind part j.0 j.1) ≡ Err TooDeep → suc deep ≤ holders l.0
    split (Ok j) f g = kind_deep l j.1 j.0 (kind_takes l j f).0 g
    split (Err v) f g = absurd (kind_never l (f ∙ ap Err (err_is v TooDeep g)))

pub part_deep : (deep : ℕ) → IsDeep deep (part_at deep)
part_deep zero l e = omega arith
part_deep (suc n) l e = message_deep (part_at n) n (part_sound n) (part_deep n) l e

pub too_deep_has_many : (nodes : List Node) (texts : List ℕ) → read_flat nodes texts ≡ Err TooDeep → 128 < holders nodes
unfolding read_flat
too_deep_has_many nodes texts e = split (message_by (part_at 128) (nodes, texts)) refl e where
  whole : (m : Message) (ns : List Node) (ts : List ℕ) → Never (all_of (m, (ns, ts)))
  whole m [] [] f = absurd cc
  whole m (n ∷ ns) [] f = absurd cc
  whole m [] (t ∷ ts) f = absurd cc
  whole m (n ∷ ns) (t ∷ ts) f = absurd cc

  split : (r : Result (Message × Left) NodeFault) → message_by (part_at 128) (nodes, texts) ≡ r → (r >>= all_of) ≡ Err TooDeep → 128 < holders nodes
  split (Ok m) f g = absurd (whole m.0 m.1.0 m.1.1 g)
  split (Err v) f g = let deep = message_deep (part_at 128) 128 (part_sound 128) (part_deep 128) (nodes, texts) (f ∙ ap Err (err_is v TooDeep g)) in omega (arith, deep)
