-- SPDX-License-Identifier: Apache-2.0
-- SPDX-FileCopyrightText: Copyright the Vortex contributors

-- What is written of a field, by what is written of its parts.
use Rattle.std.proofs.Common.{◌≡◌, ℕ, suc, ◌-◌, ◌<◌, List, [], ◌∷◌, ◌++◌, length, codes, Bool, Option, Some, None, Result, Ok, Err, refl, sym, ap, subst, ◌∙◌, append_assoc, append-nil, arith}
use Rattle.dtype_base.specs.declared.nullability.Nullability.{Nullability}
use Rattle.dtype_base.specs.declared.nullability.Nullability.TheVariants.{NonNullable}
use Rattle.dtype_types.specs.tree.Tree.{Tree, fields, variants}
use Rattle.c_arrow.specs.Added.{Out, Writes, with_node, with_field, with_fields}
use Rattle.c_arrow.specs.Faults.{Fault, ◌>>=◌, read_within, too_deep, Stops}
use Rattle.c_arrow.specs.FormatsWritten.{bytes_format, checked_nul}
use Rattle.c_arrow.specs.Read.{level}
use Rattle.c_arrow.specs.Schema.{Schema, Schemas, count, all_nodes, all_texts, flat_nodes, flat_texts}
use Rattle.c_arrow.specs.Temporal.{Written}
use Rattle.c_arrow.specs.Write.{Label, called, storage_called, no_type, nullable_flag, map_flags, leaf, parent, none, before, entries, bytes_field, level_if, map_field, named, child, child_of, children_of, temporal, inner_extension, outer_extension}
use Rattle.c_arrow.specs.declared.fault.ArrowFault.{ArrowFault}
use Rattle.c_arrow.specs.declared.fault.Problem.TheVariants as problem
use Rattle.c_arrow.specs.declared.node.ArrowNode.{ArrowNode}
use Rattle.c_arrow.proofs.FaultFacts.{stops_all}

abbrev both : (List ArrowNode) → List ℕ → Result Out Fault
both ns ts = Ok (ns, ts)

same : (ns ms : List ArrowNode) (ts us : List ℕ) → ns ≡ ms → ts ≡ us → both ns ts ≡ both ms us
same ns ms ts us e f = ap (λ xs. both xs ts) e ∙ ap (λ xs. both ms xs) f

-- how many children there are, if there are any
abbrev pub Counts : ℕ → Result Schemas Fault → Type 0
Counts n (Ok ss) = count ss ≡ n
Counts n (Err e) = Unit {0}

before_counts : (n : ℕ) (c : Result Schema Fault) (cs : Result Schemas Fault) → Counts n cs → Counts (suc n) (before c cs)
unfolding before
before_counts n (Err e) cs h = tt
before_counts n (Ok s) (Err e) h = tt
before_counts n (Ok s) (Ok ss) h = omega (arith, h)

within_counts : (n : ℕ) (name : List ℕ) (cs : Result Schemas Fault) → Counts n cs → Counts n (read_within name cs)
within_counts n name (Ok ss) h = h
within_counts n name (Err e) h = tt

pub fields_count : (levels : ℕ) (ps : List (List ℕ × Tree)) → Counts (length ps) (children_of levels (fields ps))
fields_count levels [] = refl
fields_count levels (p ∷ ps) = before_counts (length ps) (child_of levels p.0 p.1) (children_of levels (fields ps)) (fields_count levels ps)

pub variants_count : (levels : ℕ) (ps : List (List ℕ × (Tree × ℕ))) → Counts (length ps) (children_of levels (variants ps))
variants_count levels [] = refl
variants_count levels (p ∷ ps) = before_counts (length ps) (child_of levels p.0 p.1.0) (children_of levels (variants ps)) (variants_count levels ps)

pub leaf_added : (format : List ℕ) (label : Label) (n : Nullability) (o : Out) → with_field (leaf format label n) o ≡ Ok (with_node format (nullable_flag n) label 0 o)
unfolding with_field leaf with_node
leaf_added format label n o = same _ _ _ _ refl (ap (λ m. o.1 ++ (format ++ (label.name ++ m))) (append-nil label.metadata))

pub parent_added : (format : List ℕ) (flags : ℕ) (label : Label) (cs : Result Schemas Fault) (n : ℕ) (o : Out) → Counts n cs → with_field (parent format flags label cs) o ≡ with_fields cs (with_node format flags label n o)
unfolding with_field with_fields parent with_node
parent_added format flags label (Err e) n o h = refl
parent_added format flags label (Ok ss) n o h =
    let N : ℕ → ArrowNode = λ k. record { flags = flags; format_length = length format; name_length = length label.name; metadata_length = length label.metadata; child_count = k; has_dictionary = 0; fault = 0 } in
    same _ _ _ _
    (ap (λ (k : ℕ). o.0 ++ (N k ∷ (all_nodes ss ++ []))) h ∙ ap (λ xs. o.0 ++ (N n ∷ xs)) (append-nil (all_nodes ss)) ∙ sym (append_assoc o.0 (N n ∷ []) (all_nodes ss)))
    (ap (λ xs. o.1 ++ (format ++ (label.name ++ (label.metadata ++ xs)))) (append-nil (all_texts ss)) ∙ simp append_assoc refl)

pub more_added : (c : Result Schema Fault) (cs : Result Schemas Fault) (o : Out) → with_fields (before c cs) o ≡ (with_field c o >>= λ mid. with_fields cs mid)
unfolding with_field with_fields before
more_added (Err e) cs o = refl
more_added (Ok s) (Err e) o = refl
more_added (Ok s) (Ok ss) o = same _ _ _ _ (sym (append_assoc o.0 (flat_nodes s) (all_nodes ss))) (sym (append_assoc o.1 (flat_texts s) (all_texts ss)))

pub none_added : (o : Out) → with_fields none o ≡ Ok o
unfolding with_fields
none_added (ns, ts) = same _ _ _ _ (append-nil ns) (append-nil ts)

bind_ok : (r : Result Out Fault) → (r >>= λ o. Ok o) ≡ r
bind_ok (Ok o) = refl
bind_ok (Err e) = refl

bind_same : (r : Result Out Fault) (f g : Out → Result Out Fault) → ((o : Out) → f o ≡ g o) → (r >>= f) ≡ (r >>= g)
bind_same (Ok o) f g h = h o
bind_same (Err e) f g h = refl

-- the last child
pub last_added : (c : Result Schema Fault) (o : Out) → with_fields (before c none) o ≡ with_field c o
last_added c o = more_added c none o ∙ bind_same (with_field c o) _ _ none_added ∙ bind_ok (with_field c o)

pub within_added : (name : List ℕ) (c : Result Schema Fault) (o : Out) → with_field (read_within name c) o ≡ read_within name (with_field c o)
unfolding with_field
within_added name (Ok s) o = refl
within_added name (Err e) o = refl

pub all_within_added : (name : List ℕ) (cs : Result Schemas Fault) (o : Out) → with_fields (read_within name cs) o ≡ read_within name (with_fields cs o)
unfolding with_fields
all_within_added name (Ok ss) o = refl
all_within_added name (Err e) o = refl

-- ---- fields with children

pub one_added : (format : List ℕ) (flags : ℕ) (label : Label) (c : Result Schema Fault) (o : Out) → with_field (parent format flags label (before c none)) o ≡ with_field c (with_node format flags label 1 o)
one_added format flags label c o = parent_added format flags label (before c none) 1 o (before_counts 0 c none refl) ∙ last_added c (with_node format flags label 1 o)

pub two_added : (key value : Result Schema Fault) (o : Out) → with_fields (entries key value) o ≡ (with_field key o >>= λ mid. with_field value mid)
two_added key value o = more_added key (before value none) o ∙ bind_same (with_field key o) _ _ (last_added value)

abbrev pub entries_node : Label → Bool → Nullability → Out → Out
entries_node label sorted n o = with_node (codes "+s") (nullable_flag NonNullable) (called (codes "entries")) 2 (with_node (codes "+m") (map_flags n sorted) label 1 o)

pub map_added : (label : Label) (key value : Result Schema Fault) (sorted : Bool) (n : Nullability) (o : Out) → with_field (map_field label (entries key value) sorted n) o ≡ read_within (codes "entries") (with_fields (entries key value) (entries_node label sorted n o))
unfolding map_field
map_added label key value sorted n o =
    let pair = read_within (codes "entries") (entries key value) in
    let counted : Counts 2 pair = within_counts 2 (codes "entries") (entries key value) (before_counts 1 key (before value none) (before_counts 0 value none refl)) in
    let after = with_node (codes "+m") (map_flags n sorted) label 1 o in
    one_added (codes "+m") (map_flags n sorted) label (parent (codes "+s") (nullable_flag NonNullable) (called (codes "entries")) pair) o
    ∙ parent_added (codes "+s") (nullable_flag NonNullable) (called (codes "entries")) pair 2 after counted
    ∙ all_within_added (codes "entries") (entries key value) (entries_node label sorted n o)

-- ---- levels

pub child_too_deep : (levels : ℕ) (name : List ℕ) (field : ℕ → Label → Result Schema Fault) (o : Out) → levels ≡ 0 → with_field (child levels name field) o ≡ Err too_deep
unfolding with_field child
child_too_deep levels name field o e = rw e refl

pub child_deeper : (levels : ℕ) (name : List ℕ) (field : ℕ → Label → Result Schema Fault) (o : Out) → 0 < levels → with_field (child levels name field) o ≡ read_within name (with_field (named name (field (levels - 1) (called name))) o)
unfolding child
child_deeper levels name field o lt =
    let e : levels ≡ suc (levels - 1) = omega arith in
    ap (λ (n : ℕ). with_field (child n name field) o) e ∙ within_added name (named name (field (levels - 1) (called name))) o

pub outer_too_deep : (levels : ℕ) (name : List ℕ) (t : Option Written) (metadata : Result (List ℕ) Fault) (storage : ℕ → Label → Result Schema Fault) (o : Out) → levels ≡ 0 → with_field (outer_extension levels name t metadata storage) o ≡ Err too_deep
unfolding with_field outer_extension
outer_too_deep levels name t metadata storage o e = rw e refl

pub outer_temporal : (levels : ℕ) (name : List ℕ) (t : Written) (metadata : Result (List ℕ) Fault) (storage : ℕ → Label → Result Schema Fault) → 0 < levels → outer_extension levels name (Some t) metadata storage ≡ temporal (levels - 1) (called name) t
unfolding outer_extension
outer_temporal levels name t metadata storage lt =
    let e : levels ≡ suc (levels - 1) = omega arith in ap (λ (n : ℕ). outer_extension n name (Some t) metadata storage) e

pub outer_deeper : (levels : ℕ) (name : List ℕ) (metadata : Result (List ℕ) Fault) (storage : ℕ → Label → Result Schema Fault) → 0 < levels → outer_extension levels name None metadata storage ≡ (metadata >>= λ bytes. storage (levels - 1) (storage_called name bytes))
unfolding outer_extension
outer_deeper levels name metadata storage lt =
    let e : levels ≡ suc (levels - 1) = omega arith in ap (λ (n : ℕ). outer_extension n name None metadata storage) e

pub inner_too_deep : (levels : ℕ) (label : Label) (t : Written) (o : Out) → levels ≡ 0 → with_field (inner_extension levels label (Some t)) o ≡ Err too_deep
unfolding with_field inner_extension
inner_too_deep levels label t o e = rw e refl

pub inner_refused : (levels : ℕ) (label : Label) (o : Out) → with_field (inner_extension levels label None) o ≡ Err (no_type problem.Extension)
unfolding with_field inner_extension
inner_refused levels label o = refl

pub inner_temporal : (levels : ℕ) (label : Label) (t : Written) → 0 < levels → inner_extension levels label (Some t) ≡ temporal (levels - 1) label t
unfolding inner_extension
inner_temporal levels label t lt =
    let e : levels ≡ suc (levels - 1) = omega arith in ap (λ (n : ℕ). inner_extension n label (Some t)) e

-- ---- faults

-- a fault before a field is made
pub before_stops : {A : Type 0} (e : ArrowFault) (made : Result A Fault) (field : A → Result Schema Fault) (o : Out) → Stops e made → Stops e (with_field (made >>= field) o)
unfolding with_field
before_stops e made field o h = stops_all e made (with_field (made >>= field) o) h (λ f is. rw is refl)

module _ (levels : ℕ) (label : Label) (t : Written) (o : Out) where
  abbrev as_leaf : Result Schema Fault
  as_leaf = leaf (t.letters ++ t.zone) label t.nullability

  pub temporal_stops : (e : ArrowFault) → Stops e (checked_nul t.zone) → Stops e (with_field (temporal levels label t) o)
  unfolding temporal
  temporal_stops e h = before_stops e (checked_nul t.zone) (λ _. level_if t.is_list levels >>= λ _. as_leaf) o h

  pub temporal_level_stops : (e : ArrowFault) (u : Unit {0}) → checked_nul t.zone ≡ Ok u → Stops e (level_if t.is_list levels) → Stops e (with_field (temporal levels label t) o)
  unfolding temporal
  temporal_level_stops e u checked h = rw checked (before_stops e (level_if t.is_list levels) (λ _. as_leaf) o h)

  pub temporal_added : (u : Unit {0}) (l : ℕ) → checked_nul t.zone ≡ Ok u → level_if t.is_list levels ≡ Ok l → with_field (temporal levels label t) o ≡ with_field as_leaf o
  unfolding temporal
  temporal_added u l checked left = rw (checked, left) refl

  -- the format that is made is that of the definition
  pub temporal_written : (result : Result Unit ArrowFault) (after : Out) (u : Unit {0}) (l : ℕ) (given : List ℕ) → checked_nul t.zone ≡ Ok u → level_if t.is_list levels ≡ Ok l → given ≡ t.letters ++ t.zone → Writes result after (with_field (leaf given label t.nullability) o) → Writes result after (with_field (temporal levels label t) o)
  temporal_written result after u l given checked left made rest =
      subst (Writes result after) (ap (λ (g : List ℕ). with_field (leaf g label t.nullability) o) made ∙ sym (temporal_added u l checked left)) rest

module _ (levels size : ℕ) (label : Label) (n : Nullability) (o : Out) where
  pub bytes_stops : (e : ArrowFault) → Stops e (bytes_format size) → Stops e (with_field (bytes_field levels label size n) o)
  unfolding bytes_field
  bytes_stops e h = before_stops e (bytes_format size) (λ format. level levels >>= λ below. leaf format label n) o h

  pub bytes_too_deep : (format : List ℕ) → bytes_format size ≡ Ok format → levels ≡ 0 → with_field (bytes_field levels label size n) o ≡ Err too_deep
  unfolding with_field bytes_field
  bytes_too_deep format made e = rw (made, e) refl

  pub bytes_added : (format : List ℕ) → bytes_format size ≡ Ok format → 0 < levels → with_field (bytes_field levels label size n) o ≡ with_field (leaf format label n) o
  unfolding bytes_field
  bytes_added format made lt =
      let e : levels ≡ suc (levels - 1) = omega arith in
      rw made (ap (λ (l : ℕ). with_field (level l >>= λ below. leaf format label n) o) e)

pub named_stops : (e : ArrowFault) (name : List ℕ) (field : Result Schema Fault) (o : Out) → Stops e (checked_nul name) → Stops e (with_field (named name field) o)
unfolding named
named_stops e name field o h = before_stops e (checked_nul name) (λ _. field) o h

pub named_ok : (name : List ℕ) (u : Unit {0}) (field : Result Schema Fault) → checked_nul name ≡ Ok u → named name field ≡ field
unfolding named
named_ok name u field is = rw is refl

-- ---- loops

module _ (levels : ℕ) (name : List ℕ) (t : Tree) (rest : Result Schemas Fault) (o : Out) (total : Result Out Fault) where
  pub first_stops : (e : ArrowFault) → Stops e (with_field (child_of levels name t) o) → with_fields (before (child_of levels name t) rest) o ≡ total → Stops e total
  first_stops e h so_far = stops_all e (with_field (child_of levels name t) o) total h (λ f is. sym so_far ∙ more_added (child_of levels name t) rest o ∙ ap (λ r. r >>= λ mid. with_fields rest mid) is)

  pub first_added : (mid : Out) → with_field (child_of levels name t) o ≡ Ok mid → with_fields (before (child_of levels name t) rest) o ≡ total → with_fields rest mid ≡ total
  first_added mid is so_far = sym (ap (λ r. r >>= λ m. with_fields rest m) is) ∙ sym (more_added (child_of levels name t) rest o) ∙ so_far
