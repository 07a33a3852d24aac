-- SPDX-License-Identifier: Apache-2.0
-- SPDX-FileCopyrightText: Copyright the Vortex contributors

-- A node is of a kind exactly if it is the node of this kind.
use Rattle.std.proofs.Common.{◌≡◌, ◌==◌, ◌&&◌, cond, ℕ, ℤ, Bool, true, false, Option, Some, None, refl, ap, subst, ◌∙◌}
use Rattle.std.proofs.lemmas.Bool.Decides.{Decides-eqb, Decides-int_eq}
use Rattle.c_nodes.specs.Flat.{bit}
use Rattle.c_nodes.specs.Kinds.{node_of, kind_by_number, same_node, if_whole, kind_of}
use Rattle.c_nodes.specs.declared.kind.NodeKind.{NodeKind}
use Rattle.c_nodes.specs.declared.kind.NodeKind.TheVariants as k
use Rattle.c_nodes.specs.declared.node.Node.{Node}

both : (a b : Bool) → (a && b) ≡ true → (a ≡ true) × (b ≡ true)
both true b e = (refl, e)
both false b e = absurd cc

nat_same : (n : ℕ) → (n == n) ≡ true
nat_same n = (Decides-eqb n n).1 refl

pub same_refl : (n : Node) → same_node n n ≡ true
same_refl n =
    rw (nat_same n.kind, nat_same n.nullable, nat_same n.keys_sorted, nat_same n.has_first, nat_same n.has_second, nat_same n.names, nat_same n.tags, nat_same n.types, nat_same n.number, (Decides-int_eq n.value n.value).1 refl) refl

abbrev made : ℕ → ℕ → ℕ → ℕ → ℕ → ℕ → ℕ → ℕ → ℕ → ℤ → Node
made a b c d e f g h i j = record { kind = a; nullable = b; keys_sorted = c; has_first = d; has_second = e; names = f; tags = g; types = h; number = i; value = j }

fields_same : (a b c d e f g h i : ℕ) (j : ℤ) (a' b' c' d' e' f' g' h' i' : ℕ) (j' : ℤ) → a ≡ a' → b ≡ b' → c ≡ c' → d ≡ d' → e ≡ e' → f ≡ f' → g ≡ g' → h ≡ h' → i ≡ i' → j ≡ j' → made a b c d e f g h i j ≡ made a' b' c' d' e' f' g' h' i' j'
fields_same a b c d e f g h i j a' b' c' d' e' f' g' h' i' j' ae be ce de ee fe ge he ie je = rw (ae, be, ce, de, ee, fe, ge, he, ie, je) refl

pub same_is : (m n : Node) → same_node m n ≡ true → m ≡ n
same_is m n e =
    let a = both _ _ e in
    let b = both _ _ a.1 in
    let c = both _ _ b.1 in
    let d = both _ _ c.1 in
    let f = both _ _ d.1 in
    let g = both _ _ f.1 in
    let h = both _ _ g.1 in
    let i = both _ _ h.1 in
    let j = both _ _ i.1 in
    fields_same m.kind m.nullable m.keys_sorted m.has_first m.has_second m.names m.tags m.types m.number m.value
    n.kind n.nullable n.keys_sorted n.has_first n.has_second n.names n.tags n.types n.number n.value
    ((Decides-eqb m.kind n.kind).0 a.0) ((Decides-eqb m.nullable n.nullable).0 b.0) ((Decides-eqb m.keys_sorted n.keys_sorted).0 c.0)
    ((Decides-eqb m.has_first n.has_first).0 d.0) ((Decides-eqb m.has_second n.has_second).0 f.0) ((Decides-eqb m.names n.names).0 g.0)
    ((Decides-eqb m.tags n.tags).0 h.0) ((Decides-eqb m.types n.types).0 i.0) ((Decides-eqb m.number n.number).0 j.0) ((Decides-int_eq m.value n.value).0 j.1)

-- two nodes that aren't the same
pub differs : (m n : Node) → (m ≡ n → ⊥) → same_node m n ≡ false
differs m n h = split (same_node m n) refl where
  split : (b : Bool) → same_node m n ≡ b → b ≡ false
  split true e = absurd (h (same_is m n e))
  split false e = refl

pub is_same : (m n : Node) → m ≡ n → same_node m n ≡ true
is_same m n e = subst (λ o. same_node m o ≡ true) e (same_refl m)

pub ruleset tests = (differs, is_same)

some_is : {A : Type 0} (x y : A) → Some x ≡ Some y → x ≡ y
some_is x y e = cc

-- a kind that was found is that of the node
pub kind_sound : (n : Node) (k : NodeKind) → kind_of n ≡ Some k → n ≡ node_of k
unfolding kind_of
kind_sound n k e = by_kind (kind_by_number n) e where
  whole : (j : NodeKind) (b : Bool) → same_node n (node_of j) ≡ b → cond b (Some j) None ≡ Some k → n ≡ node_of k
  whole j true same f = same_is n (node_of j) same ∙ ap node_of (some_is j k f)
  whole j false same f = absurd cc

  by_kind : (o : Option NodeKind) → if_whole n o ≡ Some k → n ≡ node_of k
  by_kind None f = absurd cc
  by_kind (Some j) f = whole j (same_node n (node_of j)) refl f

bit_is : (f : Bool) → (bit f == 1) ≡ f
bit_is true = refl
bit_is false = refl

number_again : (k : NodeKind) → kind_by_number (node_of k) ≡ Some k
unfolding kind_by_number
number_again k.Missing = refl
number_again k.Null = refl
number_again (k.Bool f) = rw (bit_is f) refl
number_again (k.Primitive p f) = rw (bit_is f) refl
number_again (k.Decimal p s f) = rw (bit_is f) refl
number_again (k.Utf8 f) = rw (bit_is f) refl
number_again (k.Binary f) = rw (bit_is f) refl
number_again (k.List e f) = rw (bit_is e, bit_is f) refl
number_again (k.FixedSizeList e n f) = rw (bit_is e, bit_is f) refl
number_again (k.Map a b o f) = rw (bit_is a, bit_is b, bit_is o, bit_is f) refl
number_again (k.Struct ns ts f) = rw (bit_is f) refl
number_again (k.Union ns gs ts f) = rw (bit_is f) refl
number_again (k.Variant f) = rw (bit_is f) refl
number_again (k.Extension s b) = rw (bit_is s, bit_is b) refl
number_again (k.Text n) = refl
number_again (k.Tag t) = refl

-- the node of a kind is of this kind
pub kind_again : (k : NodeKind) → kind_of (node_of k) ≡ Some k
unfolding kind_of
kind_again k = rw (number_again k, same_refl (node_of k)) refl
