-- SPDX-License-Identifier: Apache-2.0
-- SPDX-FileCopyrightText: Copyright the Vortex contributors

-- The nodes, the texts, the number and the depth of the messages of a list, and how many nodes of a list may have parts.
use Rattle.std.proofs.Common.{◌≡◌, ◌<◌, ◌≤◌, ◌+◌, max, ℕ, zero, suc, List, [], ◌∷◌, ◌++◌, get_or, length, map, refl, ap, subst, arith}
use Rattle.std.proofs.lemmas.List.{get_or-map, length-map}
use Rattle.std.specs.List.{flat_map}
use Rattle.std.specs.String.{string_bytes}
use Rattle.std.specs.declared.alloc.Global.{Global}
use Rattle.std.specs.declared.string.String.{String}
use Rattle.dtype_messages.specs.Message.{Message, messages}
use Rattle.dtype_messages.specs.MessageOf.{message}
use Rattle.dtype_messages.specs.declared.pb.DType.{DType}
use Rattle.c_nodes.specs.Depth.{depth, depth_all, holders}
use Rattle.c_nodes.specs.declared.node.Node.{Node}
use Rattle.c_nodes.specs.Greatest.{greatest, greatest_all, longest}
use Rattle.c_nodes.specs.Flat.{flat_nodes, flat_texts, all_nodes, all_texts, count}

pub all_nodes_is : (ms : List Message) → all_nodes (messages ms) ≡ flat_map flat_nodes ms
all_nodes_is [] = refl
all_nodes_is (m ∷ ms) = ap (λ r. flat_nodes m ++ r) (all_nodes_is ms)

pub all_texts_is : (ms : List Message) → all_texts (messages ms) ≡ flat_map flat_texts ms
all_texts_is [] = refl
all_texts_is (m ∷ ms) = ap (λ r. flat_texts m ++ r) (all_texts_is ms)

pub count_is : (ms : List Message) → count (messages ms) ≡ length ms
count_is [] = refl
count_is (m ∷ ms) = omega (arith, count_is ms)

-- one message more
pub depth_push : (ms : List Message) (m : Message) → depth_all (messages (ms ++ m ∷ [])) ≡ max (depth_all (messages ms)) (1 + depth m)
depth_push [] m = omega arith
depth_push (n ∷ ms) m = omega (arith, depth_push ms m)

-- no message is deeper than all
depth_below : (ms : List Message) (i : ℕ) (d : Message) → i < length ms → depth (get_or ms i d) < depth_all (messages ms)
depth_below [] i d l = absurd (omega arith)
depth_below (m ∷ ms) zero d l = omega arith
depth_below (m ∷ ms) (suc i) d l = omega (arith, depth_below ms i d (omega arith))

pub depth_at : (ps : List DType) (i : ℕ) (d : DType) → i < length ps → depth (message (get_or ps i d)) < depth_all (messages (map message ps))
depth_at ps i d l =
    subst (λ m. depth m < depth_all (messages (map message ps))) (get_or-map message ps i d (message d) l)
    (depth_below (map message ps) i (message d) (omega (arith, length-map ps message)))

-- the same of the greatest number
pub greatest_push : (ms : List Message) (m : Message) → greatest_all (messages (ms ++ m ∷ [])) ≡ max (greatest_all (messages ms)) (greatest m)
greatest_push [] m = omega arith
greatest_push (n ∷ ms) m = omega (arith, greatest_push ms m)

greatest_within : (ms : List Message) (i : ℕ) (d : Message) → i < length ms → greatest (get_or ms i d) ≤ greatest_all (messages ms)
greatest_within [] i d l = absurd (omega arith)
greatest_within (m ∷ ms) zero d l = omega arith
greatest_within (m ∷ ms) (suc i) d l = omega (arith, greatest_within ms i d (omega arith))

pub greatest_at : (ps : List DType) (i : ℕ) (d : DType) → i < length ps → greatest (message (get_or ps i d)) ≤ greatest_all (messages (map message ps))
greatest_at ps i d l =
    subst (λ m. greatest m ≤ greatest_all (messages (map message ps))) (get_or-map message ps i d (message d) l)
    (greatest_within (map message ps) i (message d) (omega (arith, length-map ps message)))

-- the same of the longest text
pub longest_push : (ts : List (List ℕ)) (t : List ℕ) → longest (ts ++ t ∷ []) ≡ max (longest ts) (length t)
longest_push [] t = omega arith
longest_push (s ∷ ts) t = omega (arith, longest_push ts t)

longest_within : (ts : List (List ℕ)) (i : ℕ) (d : List ℕ) → i < length ts → length (get_or ts i d) ≤ longest ts
longest_within [] i d l = absurd (omega arith)
longest_within (t ∷ ts) zero d l = omega arith
longest_within (t ∷ ts) (suc i) d l = omega (arith, longest_within ts i d (omega arith))

pub longest_at : (ns : List (String Global)) (i : ℕ) (d : String Global) → i < length ns → length (string_bytes (get_or ns i d)) ≤ longest (map string_bytes ns)
longest_at ns i d l =
    subst (λ t. length t ≤ longest (map string_bytes ns)) (get_or-map string_bytes ns i d (string_bytes d) l)
    (longest_within (map string_bytes ns) i (string_bytes d) (omega (arith, length-map ns string_bytes)))

-- a map is as deep as its key or its value
pub either_depth : (k v : ℕ) → (k ≤ max k v) × (v ≤ max k v)
either_depth k v = (omega arith, omega arith)

pub holders_both : (ns os : List Node) → holders (ns ++ os) ≡ holders ns + holders os
unfolding holders
holders_both [] os = omega arith
holders_both (n ∷ ns) os = omega (arith, holders_both ns os)

-- what the writer needs of the messages of a list
pub ruleset parts_of_lists = (all_nodes_is, all_texts_is, count_is, depth_push, depth_at, greatest_push)
