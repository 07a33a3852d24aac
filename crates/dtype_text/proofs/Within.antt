-- SPDX-License-Identifier: Apache-2.0
-- SPDX-FileCopyrightText: Copyright the Vortex contributors

-- What is refused, or has too many levels, begins behind types that are begun in front of it.
use Rattle.std.proofs.Common.{◌≡◌, ℕ, zero, suc, ◌<◌, ◌≤◌, Bool, true, false, cond, ◌==◌, List, [], ◌∷◌, ◌++◌, length, Option, Some, None, refl, sym, ap, subst, ◌∙◌, append_assoc, inl, inr}
use Rattle.std.specs.Prelude.{codes, ℤ, is_some, neg_ℤ, pos, ◌≤ℤ◌}
use Rattle.std.specs.Str.{is_utf8}
use Rattle.std.proofs.lemmas.Bool.{eqb-true}
use Rattle.dtype_base.specs.declared.nullability.Nullability.{Nullability}
use Rattle.dtype_base.specs.declared.nullability.Nullability.TheVariants.{Nullable, NonNullable}
use Rattle.dtype_base.specs.declared.vortex_error.VortexError.{VortexError}
use Rattle.dtype_base.specs.declared.vortex_error.VortexError.TheVariants.{MapKeyNullable}
use Rattle.dtype_types.specs.tree.Tree as of
use Rattle.dtype_types.specs.tree.Tree.{Tree}
use Rattle.dtype_types.specs.tree.Valid.{Valid}
use Rattle.dtype_types.specs.nullability.Nullable.{nullability}
use Rattle.dtype_text.specs.declared.keyword.Keyword.{Keyword}
use Rattle.dtype_text.specs.declared.keyword.Keyword.TheVariants as k
use Rattle.dtype_text.specs.Bare.{is_id_byte, is_bare_id}
use Rattle.dtype_text.specs.Read.{byte_at}
use Rattle.dtype_text.specs.Outcome.{got, misspelled, refused}
use Rattle.dtype_text.specs.Leaves.{front, past, skipped, text_at, name_at, equals_at, comma_at, tag_at, metadata_at, quoted_at}
use Rattle.dtype_text.specs.TypeParts.{keyword_at, size_at, end_at, decimal_parts, is_decimal, decimal_error, a_decimal, is_nonnullable, keys_sorted_at}
use Rattle.dtype_text.specs.Unions.{union_at}
use Rattle.dtype_text.specs.Types.{Reader, marked, null_unless, null_at, wrapped_by, list_by, fixed_by, go_on, separated, items_by, field_by, struct_by, variant_by, union_by, decimal_at, map_by, extension_by, bare_extension_by, quoted_extension_by, after_keyword, keyword_by, word_by, type_by, part_at}
use Rattle.dtype_text.specs.Grammar.{Lang, lit, ◌<>◌, blanks, spaced, named, ident, metadata, sorted_part, mark, Spells, Refuses, levels, decimal_parts as d_parts}
use Rattle.dtype_text.specs.Within.{Begun, in_list, in_fixed_size_list, in_extension, in_key, in_value, in_field, in_variant, each, tag_text, field_text, variant_text, opened, Begins, AreBegun}
use Rattle.dtype_text.proofs.Words.{test_some, Takes, takes_then, takes_none, front_past, byte_takes, skipped_takes}
use Rattle.dtype_text.proofs.LeavesSound.{name_takes, equals_takes, comma_takes, tag_takes, metadata_takes, quoted_takes}
use Rattle.dtype_text.proofs.TypeFacts.{decimal_refused}
use Rattle.dtype_text.proofs.Sequences.{sequence}
use Rattle.dtype_text.proofs.Ends.{Stop, refusal, depth, Ends, then, then_said, ends_as}
use Rattle.dtype_text.proofs.UnionFacts.{StopsUnion, union_ends, SpellsVariants}
use Rattle.dtype_text.proofs.Sound.{IsSound, IsItemReader, word_of, keyword_takes, end_in_sound, items_take, field_takes, variant_takes, decimal_parts_take, sorted_takes, part_sound}
use Rattle.dtype_text.proofs.Again.{signed_least}

-- A part that is refused begins at the front of `here`, or one with too many levels.
pub record RefusedIn (e : VortexError) (bytes : List ℕ) : Type 0 where
  pub begun : List Begun
  pub here : List ℕ
  pub part : Tree
  pub rest : List ℕ
  pub front : Takes (AreBegun begun) bytes here
  pub spelled : Takes (Spells part) here rest
  pub refuses : Refuses part e

pub record DeepIn (deep left : ℕ) (bytes : List ℕ) : Type 0 where
  pub begun : List Begun
  pub here : List ℕ
  pub front : Takes (AreBegun begun) bytes here
  pub many : length begun ≡ deep
  pub place : length here ≡ left

-- reading at the front of bytes ends so, where so many levels are allowed
abbrev pub StopsIn : ℕ → List ℕ → Stop → Type 0
StopsIn deep bytes (refusal e) = RefusedIn e bytes
StopsIn deep bytes (depth left) = DeepIn deep left bytes

-- one more type is begun in front
enter : (b : Begun) (deep : ℕ) (all bytes : List ℕ) → Takes (Begins b) all bytes → (s : Stop) → StopsIn deep bytes s → StopsIn (suc deep) all s
enter b deep all bytes t (refusal e) h = record {
  begun = b ∷ h.begun;
  here = h.here;
  part = h.part;
  rest = h.rest;
  front = takes_then (Begins b) (AreBegun h.begun) all bytes h.here t h.front;
  spelled = h.spelled;
  refuses = h.refuses;
}
enter b deep all bytes t (depth left) h = record {
  begun = b ∷ h.begun;
  here = h.here;
  front = takes_then (Begins b) (AreBegun h.begun) all bytes h.here t h.front;
  many = ap suc h.many;
  place = h.place;
}

-- the type at the front is refused
at_once : (t : Tree) (e : VortexError) (all rest : List ℕ) → Takes (Spells t) all rest → Refuses t e → RefusedIn e all
at_once t e all rest s r = record { begun = []; here = all; part = t; rest = rest; front = takes_none all; spelled = s; refuses = r }

no_mark : (rest : List ℕ) → Takes (mark NonNullable) rest rest
no_mark rest = takes_none rest

takes_apart : (P Q : Lang) (a c : List ℕ) → Takes (P <> Q) a c → (b : List ℕ) × Takes P a b × Takes Q b c
takes_apart P Q a c t =
    let s = t.spelled in
    let e : a ≡ s.0 ++ (s.1 ++ c) = t.parts ∙ ap (λ (y : List ℕ). y ++ c) s.4 ∙ append_assoc s.0 s.1 c in
    (s.1 ++ c, record { text = s.0; spelled = s.2; parts = e }, record { text = s.1; spelled = s.3; parts = refl })

takes_nothing : (a b : List ℕ) → Takes (lit []) a b → a ≡ b
takes_nothing a b t = t.parts ∙ ap (λ (y : List ℕ). y ++ b) t.spelled

-- ---- items

-- one more item, with a comma behind it
each_more : {A : Type 0} (L : A → Lang) (xs : List A) (x : A) (a b c d : List ℕ) → Takes (each L xs) a b → Takes (L x) b c → Takes (spaced (codes ",")) c d → Takes (each L (xs ++ x ∷ [])) a d
each_more L [] x a b c d t p q =
    let all = takes_then (L x) (spaced (codes ",") <> lit []) b c d p (takes_then (spaced (codes ",")) (lit []) c d d q (takes_none d)) in
    subst (λ (y : List ℕ). Takes (L x <> (spaced (codes ",") <> lit [])) y d) (sym (takes_nothing a b t)) all
each_more L (y ∷ ys) x a b c d t p q =
    let f = takes_apart (L y) (spaced (codes ",") <> each L ys) a b t in
    let g = takes_apart (spaced (codes ",")) (each L ys) f.0 b f.2 in
    let more = each_more L ys x g.0 b c d g.2 p q in
    let M = each L (ys ++ x ∷ []) in
    takes_then (L y) (spaced (codes ",") <> M) a f.0 d f.1 (takes_then (spaced (codes ",")) M f.0 g.0 d g.1 more)

module _ {A : Type 0} (L : A → Lang) (P : A → Type 0) (read : Reader A) (sound : IsItemReader L P read) (S : Stop → Type 0) (start : List ℕ) (stops : (done : List A) (bytes : List ℕ) → Takes (each L done) start bytes → Ends S (read bytes)) where
  separated_ends : (close n : ℕ) (done : List A) (bytes : List ℕ) → Takes (each L done) start bytes → Ends S (separated close read n bytes)
  unfolding end_at
  separated_ends close zero done bytes t = tt
  separated_ends close (suc n) done bytes t =
      then S (read bytes) _ (stops done bytes t) (λ x is.
      then_said S (end_at close x.1) _ (λ e ends.
      last x (sound bytes x is).0 e ends (λ after more. separated_ends close n (done ++ x.0 ∷ []) after more))) where
        last : (x : A × List ℕ) → Takes (L x.0) bytes x.1 → (e : Bool × List ℕ) → end_at close x.1 ≡ Some e
            → ((after : List ℕ) → Takes (each L (done ++ x.0 ∷ [])) start after → Ends S (separated close read n after)) → Ends S (go_on (separated close read n) x.0 e)
        last x s (true, r) is more = tt
        last x s (false, r) is more =
            elim (end_in_sound close (skipped x.1) (false, r) is) [
              | inl h ↦ absurd cc
              | inr h ↦
                  let comma : Takes (lit (codes ",")) (skipped x.1) h.1 = record { text = codes ","; spelled = refl; parts = h.2 } in
                  let gap = subst (λ (y : List ℕ). Takes blanks h.1 y) (sym h.3) (skipped_takes h.1) in
                  let between = takes_then blanks (lit (codes ",") <> blanks) x.1 (skipped x.1) r (skipped_takes x.1) (takes_then (lit (codes ",")) blanks (skipped x.1) h.1 r comma gap) in
                  then S (separated close read n r) _ (more r (each_more L done x.0 start bytes x.1 r t s between)) (λ xs is_. tt)
            ]

  items_end : (close : ℕ) → Ends S (items_by close read start)
  unfolding items_by
  items_end close = split (byte_at close start) refl where
    split : (c : Option (List ℕ)) → byte_at close start ≡ c → Ends S (items_by close read start)
    split (Some rest) is = rw is tt
    split None is = rw is (separated_ends close (length start) [] start (takes_none start))

-- ---- types

-- what reads types ends well where it doesn't read one
abbrev pub EndsWell : ℕ → Reader Tree → Type 0
EndsWell deep part = (bytes : List ℕ) → Ends (StopsIn deep bytes) (part bytes)

module _ (deep : ℕ) (part : Reader Tree) (sound : IsSound deep part) (ends : EndsWell deep part) where
  abbrev IsFine : Tree → Type 0
  IsFine t = (levels t < deep) × Valid t

  abbrev Stops : List ℕ → Stop → Type 0
  Stops all s = StopsIn (suc deep) all s

  -- a type within another
  within : (b : Begun) (all bytes : List ℕ) → Takes (Begins b) all bytes → Ends (Stops all) (part bytes)
  within b all bytes t = ends_as (StopsIn deep bytes) (Stops all) (part bytes) (enter b deep all bytes t) (ends bytes)

  opened_takes : (bytes inner : List ℕ) → byte_at 40 bytes ≡ Some inner → Takes opened bytes (skipped inner)
  opened_takes bytes inner e = takes_then (lit (codes "(")) blanks bytes inner (skipped inner) (byte_takes 40 bytes inner e) (skipped_takes inner)

  wrapped_end : (b : Begun) (all bytes : List ℕ) → ((inner : List ℕ) → Takes opened bytes inner → Takes (Begins b) all inner) → Ends (Stops all) (wrapped_by part bytes)
  unfolding wrapped_by
  wrapped_end b all bytes h =
      then_said (Stops all) (byte_at 40 bytes) _ (λ a is.
      then (Stops all) (part (skipped a)) _ (within b all (skipped a) (h (skipped a) (opened_takes bytes a is))) (λ t is_.
      then_said (Stops all) (byte_at 41 (skipped t.1)) _ (λ c is__. tt)))

  list_end : (all bytes : List ℕ) → Takes (lit (codes "list")) all bytes → Ends (Stops all) (list_by part bytes)
  unfolding list_by marked
  list_end all bytes w =
      then (Stops all) (wrapped_by part bytes) _ (wrapped_end in_list all bytes (λ inner o. takes_then (lit (codes "list")) opened all bytes inner w o)) (λ t is. tt)

  fixed_end : (all bytes : List ℕ) → Takes (lit (codes "fixed_size_list")) all bytes → Ends (Stops all) (fixed_by part bytes)
  unfolding fixed_by marked
  fixed_end all bytes w =
      then (Stops all) (wrapped_by part bytes) _ (wrapped_end in_fixed_size_list all bytes (λ inner o. takes_then (lit (codes "fixed_size_list")) opened all bytes inner w o)) (λ t is.
      then_said (Stops all) (size_at t.1) _ (λ n is_. tt))

  field_end : (all start a : List ℕ) → Takes (lit (codes "{")) all a → Takes blanks a start → (done : List (List ℕ × Tree)) (bytes : List ℕ) → Takes (each field_text done) start bytes → Ends (Stops all) (field_by part bytes)
  unfolding field_by
  field_end all start a brace gap done bytes before =
      then_said (Stops all) (name_at bytes) _ (λ n is.
      then_said (Stops all) (equals_at n.1) _ (λ inner is_.
      let N = named n.0 <> spaced (codes "=") in
      let E = each field_text done in
      let t3 = takes_then (named n.0) (spaced (codes "=")) bytes n.1 inner (name_takes bytes n is) (equals_takes n.1 inner is_) in
      let t2 = takes_then E N start bytes inner before t3 in
      let t1 = takes_then blanks (E <> N) a start inner gap t2 in
      let t0 = takes_then (lit (codes "{")) (blanks <> (E <> N)) all a inner brace t1 in
      then (Stops all) (part inner) _ (within (in_field done n.0) all inner t0) (λ t is__. tt)))

  variant_end : (all start a : List ℕ) → Takes (lit (codes "union")) all a → Takes opened a start → (done : List (List ℕ × (Tree × Option ℕ))) (bytes : List ℕ) → Takes (each variant_text done) start bytes → Ends (Stops all) (variant_by part bytes)
  unfolding variant_by
  variant_end all start a word open_ done bytes before =
      then_said (Stops all) (name_at bytes) _ (λ n is.
      then_said (Stops all) (tag_at n.1) _ (λ g tagged.
      then_said (Stops all) (equals_at g.1) _ (λ inner is_.
      let T = tag_text g.0 <> spaced (codes "=") in
      let N = named n.0 <> T in
      let E = each variant_text done in
      let t4 = takes_then (tag_text g.0) (spaced (codes "=")) n.1 g.1 inner (tag_takes n.1 g tagged) (equals_takes g.1 inner is_) in
      let t3 = takes_then (named n.0) T bytes n.1 inner (name_takes bytes n is) t4 in
      let t2 = takes_then E N start bytes inner before t3 in
      let t1 = takes_then opened (E <> N) a start inner open_ t2 in
      let t0 = takes_then (lit (codes "union")) (opened <> (E <> N)) all a inner word t1 in
      then (Stops all) (part inner) _ (within (in_variant done n.0 g.0) all inner t0) (λ t is__. tt))))

  struct_end : (bytes : List ℕ) → Ends (Stops (123 ∷ bytes)) (struct_by part bytes)
  unfolding struct_by marked
  struct_end bytes =
      let all = 123 ∷ bytes in
      let brace : Takes (lit (codes "{")) all bytes = record { text = codes "{"; spelled = refl; parts = refl } in
      let good = λ (f : List ℕ × Tree). IsFine f.1 in
      then (Stops all) (items_by 125 (field_by part) (skipped bytes)) _
      (items_end field_text good (field_by part) (field_takes deep part sound) (Stops all) (skipped bytes) (field_end all (skipped bytes) bytes brace (skipped_takes bytes)) 125) (λ fs is. tt)

  -- the variants that were read make no union
  no_union : (all a start : List ℕ) (x : List (List ℕ × (Tree × Option ℕ)) × List ℕ) → Takes (lit (codes "union")) all a → Takes opened a start → items_by 41 (variant_by part) start ≡ got x → Ends (Stops all) (union_at x.0)
  no_union all a start x word open_ is =
      let i = items_take variant_text (λ v. IsFine v.1.0) (variant_by part) (variant_takes deep part sound) 41 start x is in
      ends_as (StopsUnion i.takes.text) (Stops all) (union_at x.0) (stop i.behind i.takes i.closes) (union_ends x.0 i.takes.text i.takes.spelled) where
        stop : (behind : List ℕ) (t : Takes (sequence variant_text x.0) start behind) → behind ≡ 41 ∷ x.1 → (s : Stop) → StopsUnion t.text s → Stops all s
        stop behind t closes (depth l) no_ = absurd no_
        stop behind t closes (refusal e) r =
            let U = SpellsVariants r.made in
            let close : Takes (lit (codes ")")) behind x.1 = record { text = codes ")"; spelled = refl; parts = closes } in
            let items : Takes U start behind = record { text = t.text; spelled = r.spelled; parts = t.parts } in
            let inner = takes_then U (lit (codes ")")) start behind x.1 items close in
            let o = takes_apart (lit (codes "(")) blanks a start open_ in
            let gap = takes_then blanks (U <> lit (codes ")")) o.0 start x.1 o.2 inner in
            let wrapped = takes_then (lit (codes "(")) (blanks <> (U <> lit (codes ")"))) a o.0 x.1 o.1 gap in
            let M = (lit (codes "(") <> (blanks <> (U <> lit (codes ")")))) <> mark NonNullable in
            let unmarked = takes_then (lit (codes "(") <> (blanks <> (U <> lit (codes ")")))) (mark NonNullable) a x.1 x.1 wrapped (no_mark x.1) in
            at_once (of.union r.made NonNullable) e all x.1 (takes_then (lit (codes "union")) M all a x.1 word unmarked) (inr r.refuses)

  union_end : (all bytes : List ℕ) → Takes (lit (codes "union")) all bytes → Ends (Stops all) (union_by part bytes)
  unfolding union_by marked
  union_end all bytes word =
      then_said (Stops all) (byte_at 40 bytes) _ (λ o is.
      let open_ = opened_takes bytes o is in
      let good = λ (v : List ℕ × (Tree × Option ℕ)). IsFine v.1.0 in
      then (Stops all) (items_by 41 (variant_by part) (skipped o)) _
      (items_end variant_text good (variant_by part) (variant_takes deep part sound) (Stops all) (skipped o) (variant_end all (skipped o) bytes word open_) 41) (λ vs read.
      then (Stops all) (union_at vs.0) _ (no_union all bytes (skipped o) vs word open_ read) (λ made is_. tt)))

  decimal_end : (all bytes : List ℕ) → Takes (lit (codes "decimal")) all bytes → Ends (Stops all) (decimal_at bytes)
  unfolding decimal_at marked
  decimal_end all bytes word =
      then_said (Stops all) (decimal_parts bytes) _ (λ d is. tested d (decimal_parts_take deep part sound bytes d is) (is_decimal d.0.0 d.0.1) refl) where
        least : (p : ℕ) (z : ℤ) (x : List ℕ) → d_parts p z x → neg_ℤ (pos 128) ≤ℤ z
        least p z x h = signed_least z h.3.3.3.3.0 h.3.3.3.3.2

        tested : (d : (ℕ × ℤ) × List ℕ) → Takes (d_parts d.0.0 d.0.1) bytes d.1 → (b : Bool) → is_decimal d.0.0 d.0.1 ≡ b
            → Ends (Stops all) (cond (is_decimal d.0.0 d.0.1) (marked (λ n. of.decimal (a_decimal d.0.0 d.0.1) n) d.1) (refused (decimal_error d.0.0 d.0.1)))
        tested d t true is = rw is tt
        tested d t false is =
            let D = d_parts d.0.0 d.0.1 in
            let unmarked = takes_then D (mark NonNullable) bytes d.1 d.1 t (no_mark d.1) in
            let whole = takes_then (lit (codes "decimal")) (D <> mark NonNullable) all bytes d.1 word unmarked in
            rw is (at_once (of.decimal (a_decimal d.0.0 d.0.1) NonNullable) (decimal_error d.0.0 d.0.1) all d.1 whole (decimal_refused d.0.0 d.0.1 (least d.0.0 d.0.1 t.text t.spelled) is))

  map_end : (all bytes : List ℕ) → Takes (lit (codes "map")) all bytes → Ends (Stops all) (map_by part bytes)
  unfolding map_by marked
  map_end all bytes word =
      then_said (Stops all) (byte_at 40 bytes) _ (λ a is.
      let open_ = opened_takes bytes a is in
      then (Stops all) (part (skipped a)) _ (within in_key all (skipped a) (takes_then (lit (codes "map")) opened all bytes (skipped a) word open_)) (λ key read.
      then_said (Stops all) (comma_at key.1) _ (λ b is_.
      let K = Spells key.0 in
      let Comma = spaced (codes ",") in
      let comma = comma_takes key.1 b is_ in
      let k = (sound (skipped a) key read).0 in
      let front = takes_then (lit (codes "map")) (opened <> (K <> Comma)) all bytes b word (takes_then opened (K <> Comma) bytes (skipped a) b open_ (takes_then K Comma (skipped a) key.1 b k comma)) in
      then (Stops all) (part b) _ (within (in_value key.0) all b front) (λ value read_.
      then_said (Stops all) (keys_sorted_at value.1) _ (λ o sorted.
      let V = Spells value.0 in
      let S = sorted_part o.0 in
      let t4 = takes_then V S b value.1 o.1 (sound b value read_).0 (sorted_takes deep part sound value.1 o sorted) in
      let t3 = takes_then Comma (V <> S) key.1 b o.1 comma t4 in
      let t2 = takes_then K (Comma <> (V <> S)) (skipped a) key.1 o.1 k t3 in
      let t1 = takes_then blanks (K <> (Comma <> (V <> S))) a (skipped a) o.1 (skipped_takes a) t2 in
      let t0 = takes_then (lit (codes "(")) (blanks <> (K <> (Comma <> (V <> S)))) bytes a o.1 (byte_takes 40 bytes a is) t1 in
      let M = lit (codes "(") <> (blanks <> (K <> (Comma <> (V <> S)))) in
      let unmarked = takes_then M (mark NonNullable) bytes o.1 o.1 t0 (no_mark o.1) in
      tested key.0 value.0 o.0 o.1 (takes_then (lit (codes "map")) (M <> mark NonNullable) all bytes o.1 word unmarked) (nullability key.0) refl))))) where
        tested : (key value : Tree) (o : Bool) (rest : List ℕ) → Takes (Spells (of.map_of key value o NonNullable)) all rest → (n : Nullability) → nullability key ≡ n
            → Ends (Stops all) (cond (is_nonnullable (nullability key)) (marked (λ m. of.map_of key value o m) rest) (refused MapKeyNullable))
        tested key value o rest t NonNullable is = rw is tt
        tested key value o rest t Nullable is = rw is (at_once (of.map_of key value o NonNullable) MapKeyNullable all rest t (inr (inr (refl, is))))

  extension_end : (all bytes id : List ℕ) → Takes (ident id) all bytes → Ends (Stops all) (extension_by part id bytes)
  unfolding extension_by
  extension_end all bytes id i =
      then_said (Stops all) (metadata_at bytes) _ (λ m is.
      let begin = λ (inner : List ℕ). λ (o : Takes opened m.1 inner). takes_then (ident id) (metadata m.0 <> opened) all bytes inner i (takes_then (metadata m.0) opened bytes m.1 inner (metadata_takes bytes m is) o) in
      then (Stops all) (wrapped_by part m.1) _ (wrapped_end (in_extension id m.0) all m.1 begin) (λ t is_. tt))

  after_keyword_ends : (all bytes : List ℕ) (w : Keyword) → Takes (lit (word_of w)) all bytes → Ends (Stops all) (after_keyword part w bytes)
  unfolding after_keyword marked null_at
  after_keyword_ends all bytes k.Bool t = tt
  after_keyword_ends all bytes k.Utf8 t = tt
  after_keyword_ends all bytes k.Binary t = tt
  after_keyword_ends all bytes k.Variant t = tt
  after_keyword_ends all bytes (k.Primitive q) t = tt
  after_keyword_ends all bytes k.List t = list_end all bytes t
  after_keyword_ends all bytes k.FixedSizeList t = fixed_end all bytes t
  after_keyword_ends all bytes k.Decimal t = decimal_end all bytes t
  after_keyword_ends all bytes k.Map t = map_end all bytes t
  after_keyword_ends all bytes k.Union t = union_end all bytes t
  after_keyword_ends all bytes k.Null t = split (byte_at 63 bytes) refl where
    split : (c : Option (List ℕ)) → byte_at 63 bytes ≡ c → Ends (Stops all) (null_unless (byte_at 63 bytes) bytes)
    split (Some rest) is = rw is tt
    split None is = rw is tt

  word_ends : (bytes : List ℕ) → Ends (Stops bytes) (word_by part bytes)
  unfolding word_by keyword_by bare_extension_by
  word_ends bytes = split (is_some (byte_at 91 (past is_id_byte bytes))) refl where
    bare : (id : List ℕ) → Takes (lit id) bytes (past is_id_byte bytes) → is_utf8 id ≡ true → (b : Bool) → is_bare_id id ≡ b → Ends (Stops bytes) (cond (is_bare_id id) (extension_by part id (past is_id_byte bytes)) misspelled)
    bare id t utf8 true is = rw is (extension_end bytes (past is_id_byte bytes) id (record { text = t.text; spelled = (utf8, inl (is, t.spelled)); parts = t.parts }))
    bare id t utf8 false is = rw is tt

    split : (c : Bool) → is_some (byte_at 91 (past is_id_byte bytes)) ≡ c → Ends (Stops bytes) (word_by part bytes)
    split true is =
        let w = front is_id_byte bytes in
        rw is
        (then_said (Stops bytes) (text_at w) _ (λ id read.
        let u = test_some (is_utf8 w) w id read in
        bare id (record { text = w; spelled = u.1; parts = front_past is_id_byte bytes }) (ap is_utf8 (sym u.1) ∙ u.0) (is_bare_id id) refl))
    split false is =
        rw is (then_said (Stops bytes) (keyword_at bytes) _ (λ w read. after_keyword_ends bytes w.1 w.0 (keyword_takes bytes w read)))

  quoted_end : (bytes : List ℕ) → Ends (Stops (34 ∷ bytes)) (quoted_extension_by part bytes)
  unfolding quoted_extension_by
  quoted_end bytes =
      then_said (Stops (34 ∷ bytes)) (quoted_at bytes) _ (λ id read.
      let q = quoted_takes bytes id read in
      let i : Takes (ident id.0) (34 ∷ bytes) id.1 = record { text = 34 ∷ q.0.text; spelled = (q.1, inr (34 ∷ [], q.0.text, refl, q.0.spelled, refl)); parts = ap (λ (ys : List ℕ). 34 ∷ ys) q.0.parts } in
      extension_end (34 ∷ bytes) id.1 id.0 i)

  pub type_ends : (bytes : List ℕ) → Ends (Stops bytes) (type_by part bytes)
  unfolding type_by
  type_ends [] = word_ends []
  type_ends (b ∷ bytes) = split (b == 123) refl where
    other : (c : Bool) → (b == 34) ≡ c → Ends (Stops (b ∷ bytes)) (cond (b == 34) (quoted_extension_by part bytes) (word_by part (b ∷ bytes)))
    other true is = rw is (subst (λ (d : ℕ). Ends (Stops (d ∷ bytes)) (quoted_extension_by part bytes)) (sym (eqb-true b 34 is)) (quoted_end bytes))
    other false is = rw is (word_ends (b ∷ bytes))

    split : (c : Bool) → (b == 123) ≡ c → Ends (Stops (b ∷ bytes)) (type_by part (b ∷ bytes))
    split true is = rw is (subst (λ (d : ℕ). Ends (Stops (d ∷ bytes)) (struct_by part bytes)) (sym (eqb-true b 123 is)) (struct_end bytes))
    split false is = rw is (other (b == 34) refl)

-- a type within so many others
pub part_ends : (deep : ℕ) → EndsWell deep (part_at deep)
part_ends zero bytes = record { begun = []; here = bytes; front = takes_none bytes; many = refl; place = refl }
part_ends (suc deep) bytes = type_ends deep (part_at deep) (part_sound deep) (part_ends deep) bytes
