-- SPDX-License-Identifier: Apache-2.0
-- SPDX-FileCopyrightText: Copyright the Vortex contributors

-- What is flat is read again.
use Rattle.std.proofs.Common.{◌≡◌, ℕ, ℤ, zero, suc, ◌+◌, ◌<◌, ◌≤◌, List, [], ◌∷◌, ◌++◌, length, map, Bool, true, false, Option, Some, None, Ok, refl, sym, ap, ◌∙◌, append_assoc, append-nil, arith}
use Rattle.std.specs.Prelude.{nat_lt}
use Rattle.std.specs.List.{flat_map}
use Rattle.std.specs.Str.{is_utf8}
use Rattle.std.proofs.lemmas.List.{length-append}
use Rattle.std.proofs.Math.Seq.{take-append_seam, drop-append_seam}
use Rattle.std.proofs.lemmas.Bool.Decides.{Decides-ltb}
use Rattle.dtype_messages.specs.Message.{Message, Child, Messages, messages, missing, null, bool, primitive, decimal, utf8, binary, list, fixed_size_list, map_of, struct, union, variant, extension, absent, present, no_message, more}
use Rattle.c_nodes.specs.Depth.{depth, depth_child, depth_all}
use Rattle.c_nodes.specs.Flat.{flat_nodes, flat_texts, part_nodes, part_texts, all_nodes, all_texts, count, is_present, has_bytes, bytes_nodes, bytes_texts, text_node, tag_node}
use Rattle.c_nodes.specs.Kinds.{node_of}
use Rattle.c_nodes.specs.Read.{Reader, kind_or_fault, kind_at, bytes_at, text_at, name_at, tag_at, metadata_at, times, child_by, list_by, fixed_by, map_by, struct_by, union_by, extension_by, after_kind, message_by, part_at, read_flat}
use Rattle.c_nodes.specs.Texts.{AreUtf8, HasTexts, ChildHasTexts, AllHaveTexts, IsFlat}
use Rattle.c_nodes.specs.declared.kind.NodeKind.{NodeKind}
use Rattle.c_nodes.specs.declared.kind.NodeKind.TheVariants as k
use Rattle.c_nodes.specs.declared.node.Node.{Node}
use Rattle.c_nodes.proofs.NodeKinds.{kind_again}

-- the node of a kind
pub kind_is : (k : NodeKind) (ns : List Node) (ts : List ℕ) → kind_at (node_of k ∷ ns, ts) ≡ Ok (k, (ns, ts))
unfolding kind_at
kind_is k ns ts = ap (λ (o : Option NodeKind). kind_or_fault o (ns, ts)) (kind_again k)

false_unless : (b : Bool) → (b ≡ true → ⊥) → b ≡ false
false_unless true h = absurd (h refl)
false_unless false h = refl

pub bytes_again : (b : List ℕ) (ns : List Node) (ts : List ℕ) → bytes_at (length b) (ns, b ++ ts) ≡ Ok (b, (ns, ts))
unfolding bytes_at
bytes_again b ns ts =
    let more : length (b ++ ts) ≡ length b + length ts = length-append b ts in
    let enough : nat_lt (length (b ++ ts)) (length b) ≡ false = false_unless (nat_lt (length (b ++ ts)) (length b)) (λ e. absurd (omega (arith, more, (Decides-ltb (length (b ++ ts)) (length b)).0 e))) in
    rw (enough, take-append_seam b ts, drop-append_seam b ts) refl

pub text_again : (b : List ℕ) (ns : List Node) (ts : List ℕ) → text_at (text_node b ∷ ns, b ++ ts) ≡ Ok (b, (ns, ts))
unfolding text_at
text_again b ns ts = rw (kind_is (k.Text (length b)) ns (b ++ ts)) (bytes_again b ns ts)

pub name_again : (b : List ℕ) (ns : List Node) (ts : List ℕ) → is_utf8 b ≡ true → name_at (text_node b ∷ ns, b ++ ts) ≡ Ok (b, (ns, ts))
unfolding name_at
name_again b ns ts u = rw (text_again b ns ts, u) refl

pub tag_again : (t : ℤ) (ns : List Node) (ts : List ℕ) → tag_at (tag_node t ∷ ns, ts) ≡ Ok (t, (ns, ts))
unfolding tag_at
tag_again t ns ts = rw (kind_is (k.Tag t) ns ts) refl

pub metadata_again : (b : Option (List ℕ)) (ns : List Node) (ts : List ℕ) → metadata_at (has_bytes b) (bytes_nodes b ++ ns, bytes_texts b ++ ts) ≡ Ok (b, (ns, ts))
unfolding metadata_at
metadata_again None ns ts = refl
metadata_again (Some b) ns ts = rw (text_again b ns ts) refl

pub names_again : (names : List (List ℕ)) (ns : List Node) (ts : List ℕ) → AreUtf8 names → times (length names) name_at (map text_node names ++ ns, flat_map (λ n. n) names ++ ts) ≡ Ok (names, (ns, ts))
names_again [] ns ts u = refl
names_again (b ∷ names) ns ts u =
    let texts : (b ++ flat_map (λ n. n) names) ++ ts ≡ b ++ (flat_map (λ n. n) names ++ ts) = simp append_assoc refl in
    rw (texts, name_again b (map text_node names ++ ns) (flat_map (λ n. n) names ++ ts) u.0, names_again names ns ts u.1) refl

pub tags_again : (tags : List ℤ) (ns : List Node) (ts : List ℕ) → times (length tags) tag_at (map tag_node tags ++ ns, ts) ≡ Ok (tags, (ns, ts))
tags_again [] ns ts = refl
tags_again (t ∷ tags) ns ts = rw (tag_again t (map tag_node tags ++ ns) ts, tags_again tags ns ts) refl

-- ---- messages

-- what reads messages completely, if fewer than so many levels are below them
abbrev pub IsComplete : ℕ → Reader Message → Type 0
IsComplete deep part = (m : Message) (ns : List Node) (ts : List ℕ) → HasTexts m → depth m < deep → part (flat_nodes m ++ ns, flat_texts m ++ ts) ≡ Ok (m, (ns, ts))

module _ (part : Reader Message) (deep : ℕ) (complete : IsComplete deep part) where
  pub child_again : (c : Child) (ns : List Node) (ts : List ℕ) → ChildHasTexts c → depth_child c ≤ deep → child_by part (is_present c) (part_nodes c ++ ns, part_texts c ++ ts) ≡ Ok (c, (ns, ts))
  unfolding child_by
  child_again absent ns ts h d = refl
  child_again (present m) ns ts h d = rw (complete m ns ts h (omega (arith, d))) refl

  pub all_again : (ms : Messages) (ns : List Node) (ts : List ℕ) → AllHaveTexts ms → depth_all ms ≤ deep → (read : List Message) × (times (count ms) part (all_nodes ms ++ ns, all_texts ms ++ ts) ≡ Ok (read, (ns, ts))) × (messages read ≡ ms)
  all_again no_message ns ts h d = ([], refl, refl)
  all_again (more m ms) ns ts h d =
      let rest = all_again ms ns ts h.1 (omega (arith, d)) in
      let nodes : (flat_nodes m ++ all_nodes ms) ++ ns ≡ flat_nodes m ++ (all_nodes ms ++ ns) = simp append_assoc refl in
      let texts : (flat_texts m ++ all_texts ms) ++ ts ≡ flat_texts m ++ (all_texts ms ++ ts) = simp append_assoc refl in
      let one : suc (count ms) ≡ 1 + count ms = omega arith in
      let first : times (suc (count ms)) part (flat_nodes m ++ (all_nodes ms ++ ns), flat_texts m ++ (all_texts ms ++ ts)) ≡ Ok (m ∷ rest.0, (ns, ts)) =
      rw (complete m (all_nodes ms ++ ns) (all_texts ms ++ ts) h.0 (omega (arith, d)), rest.1) refl in
      (m ∷ rest.0, rw (nodes, texts, sym one) first, ap (more m) rest.2)

  -- a message is read by its kind and what is behind it
  kind_then : (k : NodeKind) (ns : List Node) (ts : List ℕ) → message_by part (node_of k ∷ ns, ts) ≡ after_kind part k (ns, ts)
  unfolding message_by
  kind_then k ns ts = rw (kind_is k ns ts) refl

  list_again : (c : Child) (f : Bool) (ns : List Node) (ts : List ℕ) → ChildHasTexts c → depth_child c ≤ deep → list_by part (is_present c) f (part_nodes c ++ ns, part_texts c ++ ts) ≡ Ok (list c f, (ns, ts))
  unfolding list_by
  list_again c f ns ts h d = rw (child_again c ns ts h d) refl

  fixed_again : (c : Child) (n : ℕ) (f : Bool) (ns : List Node) (ts : List ℕ) → ChildHasTexts c → depth_child c ≤ deep → fixed_by part (is_present c) n f (part_nodes c ++ ns, part_texts c ++ ts) ≡ Ok (fixed_size_list c n f, (ns, ts))
  unfolding fixed_by
  fixed_again c n f ns ts h d = rw (child_again c ns ts h d) refl

  map_again : (a b : Child) (o f : Bool) (ns : List Node) (ts : List ℕ) → ChildHasTexts a → ChildHasTexts b → depth_child a ≤ deep → depth_child b ≤ deep → map_by part (is_present a) (is_present b) o f (part_nodes a ++ (part_nodes b ++ ns), part_texts a ++ (part_texts b ++ ts)) ≡ Ok (map_of a b o f, (ns, ts))
  unfolding map_by
  map_again a b o f ns ts h g d e = rw (child_again a (part_nodes b ++ ns) (part_texts b ++ ts) h d, child_again b ns ts g e) refl

  struct_again : (names : List (List ℕ)) (ms : Messages) (f : Bool) (ns : List Node) (ts : List ℕ) → AreUtf8 names → AllHaveTexts ms → depth_all ms ≤ deep → struct_by part (length names) (count ms) f (map text_node names ++ (all_nodes ms ++ ns), flat_map (λ n. n) names ++ (all_texts ms ++ ts)) ≡ Ok (struct names ms f, (ns, ts))
  unfolding struct_by
  struct_again names ms f ns ts u h d =
      let all = all_again ms ns ts h d in
      rw (names_again names (all_nodes ms ++ ns) (all_texts ms ++ ts) u, all.1, all.2) refl

  union_again : (names : List (List ℕ)) (ms : Messages) (gs : List ℤ) (f : Bool) (ns : List Node) (ts : List ℕ) → AreUtf8 names → AllHaveTexts ms → depth_all ms ≤ deep → union_by part (length names) (length gs) (count ms) f (map text_node names ++ (map tag_node gs ++ (all_nodes ms ++ ns)), flat_map (λ n. n) names ++ (all_texts ms ++ ts)) ≡ Ok (union names ms gs f, (ns, ts))
  unfolding union_by
  union_again names ms gs f ns ts u h d =
      let all = all_again ms ns ts h d in
      rw (names_again names (map tag_node gs ++ (all_nodes ms ++ ns)) (all_texts ms ++ ts) u, tags_again gs (all_nodes ms ++ ns) (all_texts ms ++ ts), all.1, all.2) refl

  extension_again : (id : List ℕ) (c : Child) (b : Option (List ℕ)) (ns : List Node) (ts : List ℕ) → is_utf8 id ≡ true → ChildHasTexts c → depth_child c ≤ deep → extension_by part (is_present c) (has_bytes b) (text_node id ∷ (bytes_nodes b ++ (part_nodes c ++ ns)), id ++ (bytes_texts b ++ (part_texts c ++ ts))) ≡ Ok (extension id c b, (ns, ts))
  unfolding extension_by
  extension_again id c b ns ts u h d =
      rw (name_again id (bytes_nodes b ++ (part_nodes c ++ ns)) (bytes_texts b ++ (part_texts c ++ ts)) u, metadata_again b (part_nodes c ++ ns) (part_texts c ++ ts), child_again c ns ts h d) refl

  pub message_again : (m : Message) (ns : List Node) (ts : List ℕ) → HasTexts m → depth m ≤ deep → message_by part (flat_nodes m ++ ns, flat_texts m ++ ts) ≡ Ok (m, (ns, ts))
  unfolding after_kind
  message_again missing ns ts h d = kind_then k.Missing ns ts
  message_again null ns ts h d = kind_then k.Null ns ts
  message_again (bool f) ns ts h d = kind_then (k.Bool f) ns ts
  message_again (primitive p f) ns ts h d = kind_then (k.Primitive p f) ns ts
  message_again (decimal p s f) ns ts h d = kind_then (k.Decimal p s f) ns ts
  message_again (utf8 f) ns ts h d = kind_then (k.Utf8 f) ns ts
  message_again (binary f) ns ts h d = kind_then (k.Binary f) ns ts
  message_again (list c f) ns ts h d = kind_then (k.List (is_present c) f) (part_nodes c ++ ns) (part_texts c ++ ts) ∙ list_again c f ns ts h d
  message_again (fixed_size_list c n f) ns ts h d = kind_then (k.FixedSizeList (is_present c) n f) (part_nodes c ++ ns) (part_texts c ++ ts) ∙ fixed_again c n f ns ts h d
  message_again (map_of a b o f) ns ts h d =
      let nodes : (part_nodes a ++ part_nodes b) ++ ns ≡ part_nodes a ++ (part_nodes b ++ ns) = simp append_assoc refl in
      let texts : (part_texts a ++ part_texts b) ++ ts ≡ part_texts a ++ (part_texts b ++ ts) = simp append_assoc refl in
      rw (nodes, texts) (kind_then (k.Map (is_present a) (is_present b) o f) _ _ ∙ map_again a b o f ns ts h.0 h.1 (omega (arith, d)) (omega (arith, d)))
  message_again (struct names ms f) ns ts h d =
      let nodes : (map text_node names ++ all_nodes ms) ++ ns ≡ map text_node names ++ (all_nodes ms ++ ns) = simp append_assoc refl in
      let texts : (flat_map (λ n. n) names ++ all_texts ms) ++ ts ≡ flat_map (λ n. n) names ++ (all_texts ms ++ ts) = simp append_assoc refl in
      rw (nodes, texts) (kind_then (k.Struct (length names) (count ms) f) _ _ ∙ struct_again names ms f ns ts h.0 h.1 d)
  message_again (union names ms gs f) ns ts h d =
      let nodes : (map text_node names ++ (map tag_node gs ++ all_nodes ms)) ++ ns ≡ map text_node names ++ (map tag_node gs ++ (all_nodes ms ++ ns)) = simp append_assoc refl in
      let texts : (flat_map (λ n. n) names ++ all_texts ms) ++ ts ≡ flat_map (λ n. n) names ++ (all_texts ms ++ ts) = simp append_assoc refl in
      rw (nodes, texts) (kind_then (k.Union (length names) (length gs) (count ms) f) _ _ ∙ union_again names ms gs f ns ts h.0 h.1 d)
  message_again (variant f) ns ts h d = kind_then (k.Variant f) ns ts
  message_again (extension id c b) ns ts h d =
      let nodes : (bytes_nodes b ++ part_nodes c) ++ ns ≡ bytes_nodes b ++ (part_nodes c ++ ns) = simp append_assoc refl in
      let texts : (id ++ (bytes_texts b ++ part_texts c)) ++ ts ≡ id ++ (bytes_texts b ++ (part_texts c ++ ts)) = simp append_assoc refl in
      rw (nodes, texts) (kind_then (k.Extension (is_present c) (has_bytes b)) _ _ ∙ extension_again id c b ns ts h.0 h.1 d)

pub part_complete : (deep : ℕ) → IsComplete deep (part_at deep)
part_complete zero m ns ts h d = absurd (omega (arith, d))
part_complete (suc n) m ns ts h d = message_again (part_at n) n (part_complete n) m ns ts h (omega (arith, d))

pub flat_read : (nodes : List Node) (texts : List ℕ) (m : Message) → IsFlat nodes texts m → read_flat nodes texts ≡ Ok m
unfolding read_flat
flat_read nodes texts m h =
    let ns : nodes ≡ flat_nodes m ++ [] = sym (append-nil (flat_nodes m) ∙ h.nodes) in
    let ts : texts ≡ flat_texts m ++ [] = sym (append-nil (flat_texts m) ∙ h.texts) in
    rw (ns, ts, message_again (part_at 128) 128 (part_complete 128) m [] [] h.names h.levels) refl
