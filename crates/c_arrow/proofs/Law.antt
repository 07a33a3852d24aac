-- SPDX-License-Identifier: Apache-2.0
-- SPDX-FileCopyrightText: Copyright the Vortex contributors

-- What is read of the flat form of a schema is the type of the schema, or its fault.
use Rattle.std.proofs.Common.{◌≡◌, ℕ, zero, suc, ◌+◌, List, [], ◌++◌, length, drop, Bool, true, false, not, ◌==◌, ◌&&◌, ◌||◌, Option, Some, None, Result, Ok, Err, refl, sym, ap, ◌∙◌, append_assoc, append-nil, arith}
use Rattle.std.specs.Prelude.{nat_lt, if◌then◌else◌}
use Rattle.std.specs.Str.{is_utf8}
use Rattle.std.proofs.lemmas.List.{length-append}
use Rattle.std.proofs.Math.Seq.{take-append_seam, drop-append_seam}
use Rattle.std.proofs.lemmas.Bool.{false_from_ne_true}
use Rattle.std.proofs.lemmas.Bool.Decides.{Decides-ltb, nat_tests}
use Rattle.dtype_base.specs.Nullability.{nullability_of}
use Rattle.dtype_types.specs.tree.Tree as of
use Rattle.dtype_types.specs.tree.Tree.{Tree}
use Rattle.c_arrow.specs.Faults.{Fault, ◌>>=◌, read_within}
use Rattle.c_arrow.specs.Flags.{is_nullable, has_sorted_keys}
use Rattle.c_arrow.specs.Formats.{format_of}
use Rattle.c_arrow.specs.Ids.{ids_of}
use Rattle.c_arrow.specs.FromArrow.{own, Inner, none_inner, inner, inner_at, Part as Maker, child_from, part_from, each, with_none, list_from, fixed_from, struct_from, union_from, entries_from, map_of_entries, map_from, run_ends_from, format_from, values_from, storage_from, keyed_from, type_from, from_arrow}
use Rattle.c_arrow.specs.Read.{Left, Field, Part, Inside, full, inside, inside_at, with_left, bytes_at, texts_at, field_at, name_of, level, inner_by, named_by, child_by, part_by, times, or_refuse, refuse, unless, unless_wrong, wrong_count, sound, keys_of, is_entries, is_struct, is_index, decimal_of, map_of, bytes_of, date_of, time_of, timestamp_of, kept_type, list_by, fixed_by, struct_by, union_by, entries_by, map_with, map_by, run_ends_by, value_by, values_by, dictionary_by, after_format, format_by, storage_by, extension_by, keyed_by, type_by, read_flat, all_of}
use Rattle.c_arrow.specs.Schema.{Schema, schema, Schemas, no_schema, more, Values, no_values, values, count, node, flat_nodes, all_nodes, value_nodes, flat_texts, all_texts, value_texts}
use Rattle.c_arrow.specs.declared.fault.Problem.TheVariants as problem
use Rattle.c_arrow.specs.declared.format.Format.{Format}
use Rattle.c_arrow.specs.declared.format.Format.TheVariants as fmt
use Rattle.c_arrow.specs.declared.node.ArrowNode.{ArrowNode}

-- ---- what follows a value that was made

after : {A B : Type 0} (read : Result (A × Left) Fault) (made : Result A Fault) (mid left : Left) (g : A × Left → Result (B × Left) Fault) (k : A → Result B Fault)
    → read ≡ with_left mid made → ((x : A) → g (x, mid) ≡ with_left left (k x)) → (read >>= g) ≡ with_left left (made >>= k)
after read (Ok x) mid left g k is h = ap (λ r. r >>= g) is ∙ h x
after read (Err e) mid left g k is h = ap (λ r. r >>= g) is

then_ : {A B : Type 0} (made : Result A Fault) (left : Left) (g : A → Result (B × Left) Fault) (k : A → Result B Fault)
    → ((x : A) → g x ≡ with_left left (k x)) → (made >>= g) ≡ with_left left (made >>= k)
then_ (Ok x) left g k h = h x
then_ (Err e) left g k h = refl

inside_name : {A : Type 0} (name : List ℕ) (left : Left) (made : Result A Fault) → read_within name (with_left left made) ≡ with_left left (read_within name made)
inside_name name left (Ok x) = refl
inside_name name left (Err e) = refl

-- ---- fields

-- the flat form of a schema, before what is left
abbrev before : Schema → Left → Left
before s left = (flat_nodes s ++ left.0, flat_texts s ++ left.1)

-- that of the children
abbrev before_all : Schemas → Left → Left
before_all cs left = (all_nodes cs ++ left.0, all_texts cs ++ left.1)

-- what is left behind the node of a field
abbrev below : Schema → Left → Left
below (schema flags format name metadata cs vs) left = before_all cs (value_nodes vs ++ left.0, value_texts vs ++ left.1)

bytes_again : (b : List ℕ) (ns : List ArrowNode) (ts : List ℕ) → bytes_at (length b) (ns, b ++ ts) ≡ Ok (b, (ns, ts))
unfolding bytes_at
bytes_again b ns ts =
    let both : length (b ++ ts) ≡ length b + length ts = length-append b ts in
    let enough : nat_lt (length (b ++ ts)) (length b) ≡ false = false_from_ne_true (nat_lt (length (b ++ ts)) (length b)) (λ e. absurd (omega (arith, both, (Decides-ltb (length (b ++ ts)) (length b)).0 e))) in
    rw (enough, take-append_seam b ts, drop-append_seam b ts) refl

texts_again : (flags : ℕ) (format name metadata : List ℕ) (cs : Schemas) (vs : Values) (ns : List ArrowNode) (ts : List ℕ)
    → texts_at (node flags format name metadata cs vs) (ns, format ++ (name ++ (metadata ++ ts))) ≡ Ok (own (schema flags format name metadata cs vs), (ns, ts))
unfolding texts_at
texts_again flags format name metadata cs vs ns ts = rw (bytes_again format ns (name ++ (metadata ++ ts)), bytes_again name ns (metadata ++ ts), bytes_again metadata ns ts) refl

field_again : (s : Schema) (left : Left) → field_at (before s left) ≡ Ok (own s, below s left)
unfolding field_at
field_again (schema flags format name metadata cs no_values) left =
    let nodes : (all_nodes cs ++ []) ++ left.0 ≡ all_nodes cs ++ left.0 = ap (λ (ns : List ArrowNode). ns ++ left.0) (append-nil (all_nodes cs)) in
    let texts : (format ++ (name ++ (metadata ++ (all_texts cs ++ [])))) ++ left.1 ≡ format ++ (name ++ (metadata ++ (all_texts cs ++ left.1))) = simp append_assoc refl in
    rw (nodes, texts) (texts_again flags format name metadata cs no_values (all_nodes cs ++ left.0) (all_texts cs ++ left.1))
field_again (schema flags format name metadata cs (values v)) left =
    let nodes : (all_nodes cs ++ flat_nodes v) ++ left.0 ≡ all_nodes cs ++ (flat_nodes v ++ left.0) = simp append_assoc refl in
    let texts : (format ++ (name ++ (metadata ++ (all_texts cs ++ flat_texts v)))) ++ left.1 ≡ format ++ (name ++ (metadata ++ (all_texts cs ++ (flat_texts v ++ left.1)))) = simp append_assoc refl in
    rw (nodes, texts) (texts_again flags format name metadata cs (values v) (all_nodes cs ++ (flat_nodes v ++ left.0)) (all_texts cs ++ (flat_texts v ++ left.1)))

-- ---- types

-- what reads the type of a field reads what is made of it
abbrev IsSame : Part → Maker → Type 0
IsSame part made = (s : Schema) (nullable : Bool) (levels : ℕ) (left : Left) → part (own s) nullable levels (below s left) ≡ with_left left (made s nullable levels)

abbrev Alike : Inside → Inner → Type 0
Alike full none_inner = Unit {0}
Alike (inside part w) (inner made v) = IsSame part made × Alike w v
Alike full (inner made v) = ⊥
Alike (inside part w) none_inner = ⊥

child_same : (w : Inside) (v : Inner) → Alike w v → (parent : Field) (nullable : Bool) (levels : ℕ) (c : Schema) (left : Left) → child_by w parent nullable levels (before c left) ≡ with_left left (child_from v parent nullable levels c)
unfolding child_by child_from inner_by named_by
child_same full none_inner h parent nullable levels c left = refl
child_same (inside part w) (inner made v) h parent nullable levels c left =
    let is = nullable || is_nullable (own c).node.flags in
    let named : named_by part (own c) nullable levels (below c left) ≡ with_left left (name_of (own c) >>= λ n. made c is levels >>= λ t. Ok (n, t)) =
    then_ (name_of (own c)) left _ _ (λ n. after (part (own c) is levels (below c left)) (made c is levels) left left _ _ (h.0 c is levels left) (λ t. refl)) in
    ap (λ r. r >>= λ x. read_within x.0.name (named_by part x.0 nullable levels x.1)) (field_again c left)
    ∙ ap (read_within (own c).name) named
    ∙ inside_name (own c).name left (name_of (own c) >>= λ n. made c is levels >>= λ t. Ok (n, t))
child_same full (inner made v) h parent nullable levels c left = absurd h
child_same (inside part w) none_inner h parent nullable levels c left = absurd h

module _ (w : Inside) (v : Inner) (alike : Alike w v) where
  part_same : (parent : Field) (levels : ℕ) (c : Schema) (left : Left) → part_by w parent levels (before c left) ≡ with_left left (part_from v parent levels c)
  unfolding part_by part_from
  part_same parent levels c left = then_ (level levels) left _ _ (λ l. child_same w v alike parent false l c left)

  each_same : (parent : Field) (levels : ℕ) (cs : Schemas) (left : Left) → times (count cs) (part_by w parent levels) (before_all cs left) ≡ with_left left (each (part_from v parent levels) cs)
  each_same parent levels no_schema left = refl
  each_same parent levels (more s ss) left =
      let nodes : (flat_nodes s ++ all_nodes ss) ++ left.0 ≡ flat_nodes s ++ (all_nodes ss ++ left.0) = simp append_assoc refl in
      let texts : (flat_texts s ++ all_texts ss) ++ left.1 ≡ flat_texts s ++ (all_texts ss ++ left.1) = simp append_assoc refl in
      let one : 1 + count ss ≡ suc (count ss) = omega arith in
      rw (nodes, texts, one)
      (after (part_by w parent levels (before s (before_all ss left))) (part_from v parent levels s) (before_all ss left) left _ _ (part_same parent levels s (before_all ss left))
      (λ x. after (times (count ss) (part_by w parent levels) (before_all ss left)) (each (part_from v parent levels) ss) left left _ _ (each_same parent levels ss left) (λ xs. refl)))

-- ---- counts of children

not_none : (n : ℕ) → (1 + n == 0) ≡ false
not_none n = grind (arith, nat_tests)

not_one : (n : ℕ) → (1 + (1 + n) == 1) ≡ false
not_one n = grind (arith, nat_tests)

not_two : (n : ℕ) → (1 + (1 + (1 + n)) == 2) ≡ false
not_two n = grind (arith, nat_tests)

and_false : (b : Bool) → (b && false) ≡ false
and_false true = refl
and_false false = refl

-- one child and two children, before what is left
one_child : (c : Schema) (left : Left) → before_all (more c no_schema) left ≡ before c left
one_child c left = ap (λ (ns : List ArrowNode). (ns ++ left.0, (flat_texts c ++ []) ++ left.1)) (append-nil (flat_nodes c)) ∙ ap (λ (ts : List ℕ). (flat_nodes c ++ left.0, ts ++ left.1)) (append-nil (flat_texts c))

two_children : (a b : Schema) (left : Left) → before_all (more a (more b no_schema)) left ≡ before a (before b left)
two_children a b left =
    let nodes : (flat_nodes a ++ (flat_nodes b ++ [])) ++ left.0 ≡ flat_nodes a ++ (flat_nodes b ++ left.0) = simp append_assoc refl in
    let texts : (flat_texts a ++ (flat_texts b ++ [])) ++ left.1 ≡ flat_texts a ++ (flat_texts b ++ left.1) = simp append_assoc refl in
    rw (nodes, texts) refl

-- ---- the parts of a field

module _ (w : Inside) (v : Inner) (alike : Alike w v) (parent : Field) (nullable : Bool) (levels : ℕ) where
  list_same : (c : Schema) (left : Left) → list_by w parent nullable levels (before_all (more c no_schema) left) ≡ with_left left (list_from v parent nullable levels (more c no_schema))
  unfolding list_by list_from
  list_same c left = ap (λ l. part_by w parent levels l >>= λ e. Ok (of.list e.0.1 (nullability_of nullable), e.1)) (one_child c left) ∙ after _ _ left left _ _ (part_same w v alike parent levels c left) (λ e. refl)

  fixed_same : (size : ℕ) (c : Schema) (left : Left) → fixed_by w parent size nullable levels (before_all (more c no_schema) left) ≡ with_left left (fixed_from v parent size nullable levels (more c no_schema))
  unfolding fixed_by fixed_from
  fixed_same size c left = ap (λ l. part_by w parent levels l >>= λ e. Ok (of.fixed_size_list e.0.1 size (nullability_of nullable), e.1)) (one_child c left) ∙ after _ _ left left _ _ (part_same w v alike parent levels c left) (λ e. refl)

  run_ends_same : (a b : Schema) (left : Left) → run_ends_by w parent nullable levels (before_all (more a (more b no_schema)) left) ≡ with_left left (run_ends_from v parent nullable levels (more a (more b no_schema)))
  unfolding run_ends_by run_ends_from
  run_ends_same a b left =
      ap (λ l. child_by w parent false levels l >>= λ ends. child_by w parent nullable levels ends.1 >>= λ vs. Ok (vs.0.1, vs.1)) (two_children a b left)
      ∙ after _ _ (before b left) left _ _ (child_same w v alike parent false levels a (before b left)) (λ ends. after _ _ left left _ _ (child_same w v alike parent nullable levels b left) (λ vs. refl))

values_same : (w : Inside) (v : Inner) → Alike w v → (parent : Field) (nullable : Bool) (levels : ℕ) (d : Schema) (left : Left) → values_by w parent nullable levels (before d left) ≡ with_left left (values_from v parent nullable levels d)
unfolding values_by values_from value_by
values_same full none_inner h parent nullable levels d left = refl
values_same (inside part w) (inner made v) h parent nullable levels d left = ap (λ r. r >>= λ x. part x.0 nullable levels x.1) (field_again d left) ∙ h.0 d nullable levels left
values_same full (inner made v) h parent nullable levels d left = absurd h
values_same (inside part w) none_inner h parent nullable levels d left = absurd h

module _ (w : Inside) (v : Inner) (alike : Alike w v) (flags : ℕ) (format name metadata : List ℕ) (a b : Schema) (levels : ℕ) (left : Left) where
  -- the entries of a map
  abbrev entry : Field
  entry = own (schema flags format name metadata (more a (more b no_schema)) no_values)

  entries_same : entries_by w entry levels (before_all (more a (more b no_schema)) left) ≡ with_left left (entries_from v entry levels (more a (more b no_schema)))
  unfolding entries_by entries_from sound
  entries_same =
      ap (entries_by w entry levels) (two_children a b left)
      ∙ then_ (name_of entry) left _ _ (λ n. after _ _ (before b left) left _ _ (part_same w v alike entry levels a (before b left)) (λ k. after _ _ left left _ _ (part_same w v alike entry levels b left) (λ x. refl)))

abbrev map_step : Inside → Field → Bool → ℕ → Field × Left → Result (Tree × Left) Fault
map_step w field nullable levels e =
    if e.0.node.fault == 0 && not (is_entries e.0) then refuse field problem.Entries
    else (read_within e.0.name (entries_by w e.0 levels e.1) >>= λ kv. with_left kv.1 (map_of kv.0.0 kv.0.1 (has_sorted_keys field.node.flags) (nullability_of nullable)))

module _ (w : Inside) (v : Inner) (alike : Alike w v) (made : Maker) (parent : Field) (nullable : Bool) (levels : ℕ) (left : Left) where
  -- what is read of a field of entries is made of it
  abbrev EntriesSame : Schema → Type 0
  EntriesSame s = map_step w parent nullable levels (own s, below s left) ≡ with_left left (map_of_entries (inner made v) parent nullable levels s)

  no_entries : (flags : ℕ) (format name metadata : List ℕ) (cs : Schemas) (vs : Values) → is_entries (own (schema flags format name metadata cs vs)) ≡ false → EntriesSame (schema flags format name metadata cs vs)
  unfolding map_of_entries
  no_entries flags format name metadata cs vs e = rw e refl

  some_entries : (flags : ℕ) (format name metadata : List ℕ) (a b : Schema) → is_entries (own (schema flags format name metadata (more a (more b no_schema)) no_values)) ≡ true
      → EntriesSame (schema flags format name metadata (more a (more b no_schema)) no_values)
  unfolding map_of_entries
  some_entries flags format name metadata a b e =
      let s = schema flags format name metadata (more a (more b no_schema)) no_values in
      rw e
      (after (read_within name (entries_by w (own s) levels (below s left))) (read_within name (entries_from v (own s) levels (more a (more b no_schema)))) left left _ _
      (ap (read_within name) (entries_same w v alike flags format name metadata a b levels left) ∙ inside_name name left (entries_from v (own s) levels (more a (more b no_schema))))
      (λ kv. refl))

  either_entries : (flags : ℕ) (format name metadata : List ℕ) (a b : Schema) (t : Bool) → is_entries (own (schema flags format name metadata (more a (more b no_schema)) no_values)) ≡ t
      → EntriesSame (schema flags format name metadata (more a (more b no_schema)) no_values)
  either_entries flags format name metadata a b true e = some_entries flags format name metadata a b e
  either_entries flags format name metadata a b false e = no_entries flags format name metadata (more a (more b no_schema)) no_values e

  all_entries : (s : Schema) → EntriesSame s
  all_entries (schema flags format name metadata no_schema vs) = no_entries flags format name metadata no_schema vs (and_false (is_struct (format_of format)))
  all_entries (schema flags format name metadata (more a no_schema) vs) = no_entries flags format name metadata (more a no_schema) vs (and_false (is_struct (format_of format)))
  all_entries (schema flags format name metadata (more a (more b (more c cs))) vs) =
      no_entries flags format name metadata (more a (more b (more c cs))) vs (rw (not_two (count cs)) (and_false (is_struct (format_of format))))
  all_entries (schema flags format name metadata (more a (more b no_schema)) (values d)) = no_entries flags format name metadata (more a (more b no_schema)) (values d) (and_false (is_struct (format_of format)))
  all_entries (schema flags format name metadata (more a (more b no_schema)) no_values) =
      either_entries flags format name metadata a b (is_entries (own (schema flags format name metadata (more a (more b no_schema)) no_values))) refl

map_same : (w : Inside) (v : Inner) → Alike w v → (parent : Field) (nullable : Bool) (levels : ℕ) (e : Schema) (left : Left) → map_by w parent nullable levels (before e left) ≡ with_left left (map_of_entries v parent nullable levels e)
unfolding map_by map_with map_of_entries
map_same full none_inner h parent nullable levels (schema flags format name metadata cs vs) left = refl
map_same full (inner made v) h parent nullable levels e left = absurd h
map_same (inside part w) none_inner h parent nullable levels e left = absurd h
map_same (inside part w) (inner made v) h parent nullable levels e left = ap (λ r. r >>= map_step w parent nullable levels) (field_again e left) ∙ all_entries w v h.1 made parent nullable levels left e

-- ---- a field

module _ (w : Inside) (v : Inner) (alike : Alike w v) (flags : ℕ) (format name metadata : List ℕ) (nullable : Bool) (levels : ℕ) where
  abbrev it : Schemas → Values → Field
  it cs vs = own (schema flags format name metadata cs vs)

  leaf : (made : Result Tree Fault) (cs : Schemas) (vs : Values) (left : Left) → (unless_wrong (it cs vs) (unless (count cs == 0) problem.NoChildren) >>= λ u. with_left (before_all cs left) made) ≡ with_left left (with_none (it cs vs) cs made)
  leaf made no_schema vs left = refl
  leaf made (more c cs) vs left = rw (not_none (count cs)) refl

  format_same : (says : Format) (cs : Schemas) (vs : Values) (left : Left) → format_by w (it cs vs) says nullable levels (before_all cs left) ≡ with_left left (format_from v (it cs vs) says nullable levels cs)
  unfolding format_by after_format wrong_count format_from list_from fixed_from struct_by struct_from union_by union_from map_from run_ends_from
  format_same fmt.Null cs vs left = leaf (Ok of.null) cs vs left
  format_same fmt.Bool cs vs left = leaf (Ok (of.bool (nullability_of nullable))) cs vs left
  format_same (fmt.Primitive p) cs vs left = leaf (Ok (of.primitive p (nullability_of nullable))) cs vs left
  format_same fmt.Utf8 cs vs left = leaf (Ok (of.utf8 (nullability_of nullable))) cs vs left
  format_same fmt.Binary cs vs left = leaf (Ok (of.binary (nullability_of nullable))) cs vs left
  format_same (fmt.Decimal precision scale) cs vs left = leaf (decimal_of precision scale (nullability_of nullable)) cs vs left
  format_same (fmt.FixedSizeBinary size) cs vs left = leaf (bytes_of size nullable levels) cs vs left
  format_same (fmt.Date unit) cs vs left = leaf (date_of unit nullable levels) cs vs left
  format_same (fmt.Time unit) cs vs left = leaf (time_of unit nullable levels) cs vs left
  format_same (fmt.Timestamp unit) cs vs left = leaf (timestamp_of (it cs vs) unit nullable levels) cs vs left
  format_same (fmt.Kept kept) cs vs left = leaf (kept_type (it cs vs) kept nullable levels) cs vs left
  format_same fmt.List no_schema vs left = refl
  format_same fmt.List (more c no_schema) vs left = list_same w v alike (it (more c no_schema) vs) nullable levels c left
  format_same fmt.List (more a (more b cs)) vs left = rw (not_one (count cs)) refl
  format_same (fmt.FixedSizeList size) no_schema vs left = refl
  format_same (fmt.FixedSizeList size) (more c no_schema) vs left = fixed_same w v alike (it (more c no_schema) vs) nullable levels size c left
  format_same (fmt.FixedSizeList size) (more a (more b cs)) vs left = rw (not_one (count cs)) refl
  format_same fmt.Struct cs vs left = after _ _ left left _ _ (each_same w v alike (it cs vs) levels cs left) (λ fs. refl)
  format_same fmt.Union cs vs left = then_ (or_refuse (it cs vs) problem.Format (ids_of (drop 4 format))) left _ _ (λ ids. after _ _ left left _ _ (each_same w v alike (it cs vs) levels cs left) (λ fs. refl))
  format_same fmt.Map no_schema vs left = refl
  format_same fmt.Map (more c no_schema) vs left = ap (map_by w (it (more c no_schema) vs) nullable levels) (one_child c left) ∙ map_same w v alike (it (more c no_schema) vs) nullable levels c left
  format_same fmt.Map (more a (more b cs)) vs left = rw (not_one (count cs)) refl
  format_same fmt.RunEnds no_schema vs left = refl
  format_same fmt.RunEnds (more a no_schema) vs left = refl
  format_same fmt.RunEnds (more a (more b no_schema)) vs left = run_ends_same w v alike (it (more a (more b no_schema)) vs) nullable levels a b left
  format_same fmt.RunEnds (more a (more b (more c cs))) vs left = rw (not_two (count cs)) refl

  dictionary_same : (t : Bool) (cs : Schemas) (d : Schema) (left : Left) → is_index (format_of format) ≡ t
      → dictionary_by w (it cs (values d)) (format_of format) nullable levels (before_all cs (before d left)) ≡ with_left left (storage_from v (it cs (values d)) nullable levels cs (values d))
  unfolding dictionary_by storage_from
  dictionary_same false cs d left e = rw e refl
  dictionary_same true no_schema d left e = rw e (values_same w v alike (it no_schema (values d)) nullable levels d left)
  dictionary_same true (more c cs) d left e = rw (e, not_none (count cs)) refl

  storage_same : (cs : Schemas) (vs : Values) (left : Left) → storage_by w (it cs vs) nullable levels (below (schema flags format name metadata cs vs) left) ≡ with_left left (storage_from v (it cs vs) nullable levels cs vs)
  unfolding storage_by storage_from
  storage_same cs no_values left = then_ (or_refuse (it cs no_values) problem.Format (format_of format)) left _ _ (λ says. format_same says cs no_values left)
  storage_same cs (values d) left = dictionary_same (is_index (format_of format)) cs d left refl

module _ (w : Inside) (v : Inner) (alike : Alike w v) (flags : ℕ) (format name metadata : List ℕ) (cs : Schemas) (vs : Values) (nullable : Bool) where
  abbrev this : Schema
  this = schema flags format name metadata cs vs

  keyed_same : (id metadata_ : Option (List ℕ)) (levels : ℕ) (left : Left) → keyed_by w (own this) id metadata_ nullable levels (below this left) ≡ with_left left (keyed_from v (own this) id metadata_ nullable levels cs vs)
  unfolding keyed_from extension_by
  keyed_same None m levels left = storage_same w v alike flags format name metadata nullable levels cs vs left
  keyed_same (Some id) m levels left = split (is_utf8 id) refl where
    split : (t : Bool) → is_utf8 id ≡ t → keyed_by w (own this) (Some id) m nullable levels (below this left) ≡ with_left left (keyed_from v (own this) (Some id) m nullable levels cs vs)
    split false e = rw e refl
    split true e =
        rw e (then_ (level levels) left _ _ (λ l. after _ _ left left _ _ (storage_same w v alike flags format name metadata nullable l cs vs left) (λ t. refl)))

type_same : (w : Inside) (v : Inner) → Alike w v → IsSame (type_by w) (type_from v)
unfolding type_by type_from sound
type_same w v alike (schema flags format name metadata cs vs) nullable levels left =
    then_ (keys_of (own (schema flags format name metadata cs vs))) left _ _ (λ k. keyed_same w v alike flags format name metadata cs vs nullable k.name k.metadata levels left)

inside_same : (n : ℕ) → Alike (inside_at n) (inner_at n)
inside_same zero = tt
inside_same (suc n) = (type_same (inside_at n) (inner_at n) (inside_same n), inside_same n)

all_is : (made : Result Tree Fault) → (with_left ([], []) made >>= all_of) ≡ made
all_is (Ok t) = refl
all_is (Err e) = refl

pub read_is_made : (s : Schema) → read_flat (flat_nodes s) (flat_texts s) ≡ from_arrow s
unfolding read_flat from_arrow
read_is_made s =
    let nodes = sym (append-nil (flat_nodes s)) in
    let texts = sym (append-nil (flat_texts s)) in
    let is = is_nullable (own s).node.flags in
    let step : Left → Result Tree Fault = λ l. field_at l >>= λ root. type_by (inside_at 299) root.0 (is_nullable root.0.node.flags) 128 root.1 >>= all_of in
    ap (λ (ns : List ArrowNode). step (ns, flat_texts s)) nodes
    ∙ ap (λ (ts : List ℕ). step (flat_nodes s ++ [], ts)) texts
    ∙ ap (λ r. r >>= λ root. type_by (inside_at 299) root.0 (is_nullable root.0.node.flags) 128 root.1 >>= all_of) (field_again s ([], []))
    ∙ ap (λ r. r >>= all_of) (type_same (inside_at 299) (inner_at 299) (inside_same 299) s is 128 ([], []))
    ∙ all_is (type_from (inner_at 299) s is 128)
