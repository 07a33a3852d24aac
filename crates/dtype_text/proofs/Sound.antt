-- SPDX-License-Identifier: Apache-2.0
-- SPDX-FileCopyrightText: Copyright the Vortex contributors

-- What is read of a type is spelled so.
use Rattle.std.proofs.Common.{◌≡◌, ℕ, zero, suc, ◌<◌, ◌≤◌, Bool, true, false, cond, ◌==◌, List, [], ◌∷◌, ◌++◌, length, Option, Some, None, refl, sym, ap, subst, ◌∙◌, arith, inl, inr}
use Rattle.std.specs.Prelude.{codes, ◌⊎◌, ℤ, is_some}
use Rattle.std.specs.Str.{is_utf8}
use Rattle.std.proofs.lemmas.Bool.{eqb-true}
use Rattle.std.proofs.lemmas.Slice.Eq.{bytes_eq-Decides}
use Rattle.dtype_base.specs.declared.nullability.Nullability.{Nullability}
use Rattle.dtype_base.specs.declared.nullability.Nullability.TheVariants.{Nullable, NonNullable}
use Rattle.dtype_base.specs.declared.ptype.PType.TheVariants as p
use Rattle.dtype_base.specs.Primitives.{ptype_row}
use Rattle.dtype_base.specs.Decimals.{IsDecimalWithin}
use Rattle.dtype_base.specs.declared.vortex_error.VortexError.{VortexError}
use Rattle.dtype_base.specs.declared.vortex_error.VortexError.TheVariants.{MapKeyNullable}
use Rattle.dtype_types.specs.tree.Tree as of
use Rattle.dtype_types.specs.tree.Tree.{Tree, Fields, fields, no_items, item, a_struct, a_union}
use Rattle.dtype_types.specs.tree.Valid.{Valid}
use Rattle.dtype_types.specs.tree.Tree.{triples}
use Rattle.dtype_types.specs.parts.Lookups.{variant_tags}
use Rattle.dtype_types.specs.parts.Unions.{AreConsecutive}
use Rattle.dtype_types.specs.nullability.Nullable.{nullability}
use Rattle.dtype_types.specs.texts.Text.{bool_text}
use Rattle.dtype_text.specs.declared.keyword.Keyword.{Keyword}
use Rattle.dtype_text.specs.declared.keyword.Keyword.TheVariants as k
use Rattle.dtype_text.specs.Bare.{is_id_byte, is_bare_id}
use Rattle.dtype_text.specs.Read.{byte_at}
use Rattle.dtype_text.specs.Outcome.{Outcome, got, misspelled, refused, too_deep, said, ◌>>=◌}
use Rattle.dtype_text.specs.Leaves.{front, past, skipped, nullability_at, number_at, text_at, name_at, equals_at, comma_at, tag_at, signed_at, word_is, bool_at, metadata_at, quoted_at}
use Rattle.dtype_text.specs.TypeParts.{is_text, keyword_of, keyword_of_bytes, keyword_at, size_at, end_in, end_at, decimal_parts, is_decimal, decimal_error, a_decimal, is_nonnullable, keys_sorted_at}
use Rattle.dtype_text.specs.Unions.{union_at}
use Rattle.dtype_text.specs.Types.{Reader, marked, null_unless, null_at, wrapped_by, list_by, fixed_by, go_on, separated, items_by, field_by, struct_by, variant_by, union_by, decimal_at, map_by, extension_by, bare_extension_by, quoted_extension_by, after_keyword, keyword_by, word_by, type_by, part_at}
use Rattle.dtype_text.specs.Grammar.{decimal_parts as d_parts, sorted_part, signed, metadata, ident, Lang, lit, ◌<>◌, blanks, spaced, number, mark, named, in_parentheses, an_item, Spells, SpellsItems, levels}
use Rattle.dtype_text.specs.Within.{tag_text, variant_text}
use Rattle.dtype_text.proofs.Words.{bind_some, some_is, test_some, Takes, takes_then, takes_none, front_past, byte_takes, skipped_takes}
use Rattle.dtype_text.proofs.LeavesSound.{nullability_takes, number_takes, name_takes, equals_takes, comma_takes, tag_takes, signed_takes, word_takes as keys_takes, bool_takes, metadata_takes, metadata_bytes, quoted_takes}
use Rattle.dtype_text.proofs.TypeFacts.{decimal_within}
use Rattle.dtype_text.proofs.Sequences.{sequence, fields_spelled, Good, good_fields}
use Rattle.dtype_text.proofs.UnionFacts.{union_spelled}

-- what reads types soundly, of less than so many levels
abbrev pub IsSound : ℕ → Reader Tree → Type 0
IsSound deep part = (bytes : List ℕ) (x : Tree × List ℕ) → part bytes ≡ got x → Takes (Spells x.0) bytes x.1 × (levels x.0 < deep) × Valid x.0

-- the value of a step that did not fail
pub bind_got : {A B : Type 0} (r : Outcome A) (f : A → Outcome B) (y : B) → (r >>= f) ≡ got y → (x : A) × (r ≡ got x) × (f x ≡ got y)
bind_got (got x) f y e = (x, refl, e)
bind_got misspelled f y e = absurd cc
bind_got (refused v) f y e = absurd cc
bind_got (too_deep l) f y e = absurd cc

pub bind_said : {A B : Type 0} (r : Option A) (f : A → Outcome B) (y : B) → (said r >>= f) ≡ got y → (x : A) × (r ≡ Some x) × (f x ≡ got y)
bind_said (Some x) f y e = (x, refl, e)
bind_said None f y e = absurd cc

pub got_is : {A : Type 0} (x y : A) → got x ≡ got y → x ≡ y
got_is x y e = cc

-- the text of a keyword
abbrev pub word_of : Keyword → List ℕ
word_of k.Null = codes "null"
word_of k.Bool = codes "bool"
word_of k.Utf8 = codes "utf8"
word_of k.Binary = codes "binary"
word_of k.Variant = codes "variant"
word_of (k.Primitive p) = (ptype_row p).text
word_of k.List = codes "list"
word_of k.FixedSizeList = codes "fixed_size_list"
word_of k.Decimal = codes "decimal"
word_of k.Map = codes "map"
word_of k.Union = codes "union"

-- a test of a word in a chain
one_word : (w t : List ℕ) (k : Keyword) (rest : Option Keyword) (found : Keyword) → word_of k ≡ t → cond (is_text w t) (Some k) rest ≡ Some found → (rest ≡ Some found → w ≡ word_of found) → w ≡ word_of found
one_word w t k rest found e h more = split (is_text w t) refl where
  split : (b : Bool) → is_text w t ≡ b → w ≡ word_of found
  split true is = let same : w ≡ t = (bytes_eq-Decides w t).0 is in same ∙ sym e ∙ ap word_of (some_is k found (rw is at h))
  split false is = more (rw is at h)

pub keyword_sound : (w : List ℕ) (found : Keyword) → keyword_of w ≡ Some found → w ≡ word_of found
unfolding keyword_of
keyword_sound w found e =
    one_word w (codes "null") k.Null _ found refl e (λ e.
    one_word w (codes "bool") k.Bool _ found refl e (λ e.
    one_word w (codes "utf8") k.Utf8 _ found refl e (λ e.
    one_word w (codes "binary") k.Binary _ found refl e (λ e.
    one_word w (codes "variant") k.Variant _ found refl e (λ e.
    one_word w (codes "list") k.List _ found refl e (λ e.
    one_word w (codes "fixed_size_list") k.FixedSizeList _ found refl e (λ e.
    one_word w (codes "decimal") k.Decimal _ found refl e (λ e.
    one_word w (codes "map") k.Map _ found refl e (λ e.
    one_word w (codes "union") k.Union _ found refl e (λ e.
    one_word w (codes "u8") (k.Primitive p.U8) _ found refl e (λ e.
    one_word w (codes "u16") (k.Primitive p.U16) _ found refl e (λ e.
    one_word w (codes "u32") (k.Primitive p.U32) _ found refl e (λ e.
    one_word w (codes "u64") (k.Primitive p.U64) _ found refl e (λ e.
    one_word w (codes "i8") (k.Primitive p.I8) _ found refl e (λ e.
    one_word w (codes "i16") (k.Primitive p.I16) _ found refl e (λ e.
    one_word w (codes "i32") (k.Primitive p.I32) _ found refl e (λ e.
    one_word w (codes "i64") (k.Primitive p.I64) _ found refl e (λ e.
    one_word w (codes "f16") (k.Primitive p.F16) _ found refl e (λ e.
    one_word w (codes "f32") (k.Primitive p.F32) _ found refl e (λ e.
    one_word w (codes "f64") (k.Primitive p.F64) _ found refl e (λ e.
    absurd cc)))))))))))))))))))))

pub keyword_takes : (bytes : List ℕ) (x : Keyword × List ℕ) → keyword_at bytes ≡ Some x → Takes (lit (word_of x.0)) bytes x.1
unfolding keyword_at
keyword_takes bytes x e =
    let w = front is_id_byte bytes in
    let b = bind_some (keyword_of_bytes w) (λ k. Some (k, past is_id_byte bytes)) x e in
    let is = some_is (b.0, past is_id_byte bytes) x b.2 in
    let f = bind_some (text_at w) keyword_of b.0 b.1 in
    let t = test_some (is_utf8 w) w f.0 f.1 in
    let e : w ≡ word_of b.0 = t.1 ∙ keyword_sound f.0 b.0 f.2 in
    subst (λ (y : Keyword × List ℕ). Takes (lit (word_of y.0)) bytes y.1) is (record { text = w; spelled = e; parts = front_past is_id_byte bytes })

-- a type of a nullability, with its mark
pub marked_takes : (t : Nullability → Tree) (bytes : List ℕ) (x : Tree × List ℕ) → marked t bytes ≡ got x → (n : Nullability) × (t n ≡ x.0) × Takes (mark n) bytes x.1
unfolding marked
marked_takes t bytes x e =
    let n = nullability_at bytes in
    let is = got_is (t n.0, n.1) x e in
    (n.0, ap (λ (y : Tree × List ℕ). y.0) is, subst (λ (y : Tree × List ℕ). Takes (mark n.0) bytes y.1) is (nullability_takes bytes))

-- a test before what is read
test_passed : {A : Type 0} (b : Bool) (r : Outcome A) (y : A) → cond b r misspelled ≡ got y → (b ≡ true) × (r ≡ got y)
test_passed true r y e = (refl, e)
test_passed false r y e = absurd cc

not_refused : {A : Type 0} (b : Bool) (r : Outcome A) (v : VortexError) (y : A) → cond b r (refused v) ≡ got y → (b ≡ true) × (r ≡ got y)
not_refused true r v y e = (refl, e)
not_refused false r v y e = absurd cc

nonnull : (n : Nullability) → is_nonnullable n ≡ true → n ≡ NonNullable
nonnull NonNullable e = refl
nonnull Nullable e = absurd cc

null_is : (bytes : List ℕ) (x : Tree × List ℕ) → null_at bytes ≡ got x → (of.null, bytes) ≡ x
unfolding null_at
null_is bytes x e = split (byte_at 63 bytes) refl where
  split : (c : Option (List ℕ)) → byte_at 63 bytes ≡ c → (of.null, bytes) ≡ x
  split (Some rest) is = let h : null_unless (Some rest) bytes ≡ got x = rw is at e in absurd cc
  split None is = got_is (of.null, bytes) x (rw is at e)

-- what ends an item: the closing byte, or a comma, behind blanks
pub end_in_sound : (close : ℕ) (bytes : List ℕ) (x : Bool × List ℕ) → end_in close bytes ≡ Some x
    → ((x.0 ≡ true) × (bytes ≡ close ∷ x.1)) ⊎ ((x.0 ≡ false) × (c : List ℕ) × (bytes ≡ 44 ∷ c) × (x.1 ≡ skipped c))
end_in_sound close [] x e = absurd cc
end_in_sound close (b ∷ bytes) x e = split (b == close) refl where
  split : (t : Bool) → (b == close) ≡ t → ((x.0 ≡ true) × (b ∷ bytes ≡ close ∷ x.1)) ⊎ ((x.0 ≡ false) × (c : List ℕ) × (b ∷ bytes ≡ 44 ∷ c) × (x.1 ≡ skipped c))
  split true t =
      let is = some_is (true, bytes) x (rw t at e) in
      let h : b ≡ close = eqb-true b close t in
      inl (sym (ap (λ (y : Bool × List ℕ). y.0) is), ap (λ (d : ℕ). d ∷ bytes) h ∙ ap (λ (y : Bool × List ℕ). close ∷ y.1) is)
  split false t =
      let g = test_some (b == 44) (false, skipped bytes) x (rw t at e) in
      let h : b ≡ 44 = eqb-true b 44 g.0 in
      inr (sym (ap (λ (y : Bool × List ℕ). y.0) g.1), bytes, ap (λ (d : ℕ). d ∷ bytes) h, sym (ap (λ (y : Bool × List ℕ). y.1) g.1))

-- ---- items

-- items that were read, up to the closing byte
pub record TakesItems {A : Type 0} (L : A → Lang) (P : A → Type 0) (close : ℕ) (bytes : List ℕ) (xs : List A) (rest : List ℕ) : Type 0 where
  pub behind : List ℕ
  pub takes : Takes (sequence L xs) bytes behind
  pub closes : behind ≡ close ∷ rest
  pub good : Good P xs

-- what reads items soundly
abbrev pub IsItemReader : {A : Type 0} → (L : A → Lang) → (P : A → Type 0) → Reader A → Type 0
IsItemReader {A} L P read = (bytes : List ℕ) (x : A × List ℕ) → read bytes ≡ got x → Takes (L x.0) bytes x.1 × P x.0

module _ {A : Type 0} (L : A → Lang) (P : A → Type 0) (read : Reader A) (sound : IsItemReader L P read) where
  then_more : (xs : List A) (a b c d : List ℕ) → Takes (lit (codes ",")) a b → Takes blanks b c → Takes (sequence L xs) c d → Takes (lit (codes ",") <> (blanks <> sequence L xs)) a d
  then_more xs a b c d p q r = takes_then (lit (codes ",")) (blanks <> sequence L xs) a b d p (takes_then blanks (sequence L xs) b c d q r)

  with_more : (x : A) (xs : List A) (a b d : List ℕ) → (xs ≡ [] → ⊥) → Takes (L x) a b → Takes blanks b (skipped b) → Takes (lit (codes ",") <> (blanks <> sequence L xs)) (skipped b) d → Takes (sequence L (x ∷ xs)) a d
  with_more x [] a b d some t gap more = absurd (some refl)
  with_more x (y ∷ xs) a b d some t gap more =
      let M = lit (codes ",") <> (blanks <> sequence L (y ∷ xs)) in
      takes_then (L x) (blanks <> M) a b d t (takes_then blanks M b (skipped b) d gap more)

  pub separated_takes : (close n : ℕ) (bytes : List ℕ) (x : List A × List ℕ) → separated close read n bytes ≡ got x → TakesItems L P close bytes x.0 x.1 × (x.0 ≡ [] → ⊥)
  unfolding end_at
  separated_takes close zero bytes x e = absurd cc
  separated_takes close (suc n) bytes x e =
      let a = bind_got (read bytes) _ x e in
      let b = bind_said (end_at close a.0.1) _ x a.2 in
      ends a.0 (sound bytes a.0 a.1) b.0 b.1 b.2 (λ after xs. separated_takes close n after xs) where
        ends : (f : A × List ℕ) → Takes (L f.0) bytes f.1 × P f.0 → (end : Bool × List ℕ) → end_at close f.1 ≡ Some end → go_on (separated close read n) f.0 end ≡ got x
            → ((after : List ℕ) (xs : List A × List ℕ) → separated close read n after ≡ got xs → TakesItems L P close after xs.0 xs.1 × (xs.0 ≡ [] → ⊥)) → TakesItems L P close bytes x.0 x.1 × (x.0 ≡ [] → ⊥)
        ends f t (true, r) is went more =
            elim (end_in_sound close (skipped f.1) (true, r) is) [
              | inl h ↦
                  let tail = takes_then blanks (lit []) f.1 (skipped f.1) (skipped f.1) (skipped_takes f.1) (takes_none (skipped f.1)) in
                  subst (λ (y : List A × List ℕ). TakesItems L P close bytes y.0 y.1 × (y.0 ≡ [] → ⊥)) (got_is (f.0 ∷ [], r) x went)
                  (record { behind = skipped f.1; takes = takes_then (L f.0) (blanks <> lit []) bytes f.1 (skipped f.1) t.0 tail; closes = h.1; good = (t.1, tt) }, λ no_. cc)
              | inr h ↦ absurd cc
            ]
        ends f t (false, r) is went more =
            elim (end_in_sound close (skipped f.1) (false, r) is) [
              | inl h ↦ absurd cc
              | inr h ↦
                  let w = bind_got (separated close read n r) _ x went in
                  let m = more r w.0 w.1 in
                  let comma : Takes (lit (codes ",")) (skipped f.1) h.1 = record { text = codes ","; spelled = refl; parts = h.2 } in
                  let gap = subst (λ (y : List ℕ). Takes blanks h.1 y) (sym h.3) (skipped_takes h.1) in
                  let others = then_more w.0.0 (skipped f.1) h.1 r m.0.behind comma gap m.0.takes in
                  let is_ = got_is (f.0 ∷ w.0.0, w.0.1) x w.2 in
                  subst (λ (y : List A × List ℕ). TakesItems L P close bytes y.0 y.1 × (y.0 ≡ [] → ⊥)) is_
                  (record { behind = m.0.behind; takes = with_more f.0 w.0.0 bytes f.1 m.0.behind m.1 t.0 (skipped_takes f.1) others; closes = m.0.closes; good = (t.1, m.0.good) }, λ no_. cc)
            ]

  pub items_take : (close : ℕ) (bytes : List ℕ) (x : List A × List ℕ) → items_by close read bytes ≡ got x → TakesItems L P close bytes x.0 x.1
  unfolding items_by
  items_take close bytes x e = split (byte_at close bytes) refl where
    split : (c : Option (List ℕ)) → byte_at close bytes ≡ c → TakesItems L P close bytes x.0 x.1
    split (Some rest) is =
        let b = byte_takes close bytes rest is in
        subst (λ (y : List A × List ℕ). TakesItems L P close bytes y.0 y.1) (got_is ([], rest) x (rw is at e))
        (record { behind = bytes; takes = takes_none bytes; closes = b.parts ∙ ap (λ (y : List ℕ). y ++ rest) b.spelled; good = tt })
    split None is = (separated_takes close (length bytes) bytes x (rw is at e)).0

-- ---- types

module _ (deep : ℕ) (part : Reader Tree) (sound : IsSound deep part) where
  abbrev IsGood : Tree → Type 0
  IsGood t = (levels t < deep) × Valid t

  abbrev IsRead : List ℕ → Tree × List ℕ → Type 0
  IsRead bytes x = Takes (Spells x.0) bytes x.1 × (levels x.0 ≤ deep) × Valid x.0

  pub wrapped_takes : (bytes : List ℕ) (x : Tree × List ℕ) → wrapped_by part bytes ≡ got x → Takes (in_parentheses (Spells x.0)) bytes x.1 × (levels x.0 < deep) × Valid x.0
  unfolding wrapped_by
  wrapped_takes bytes x e =
      let a = bind_said (byte_at 40 bytes) _ x e in
      let b = bind_got (part (skipped a.0)) _ x a.2 in
      let c = bind_said (byte_at 41 (skipped b.0.1)) _ x b.2 in
      let s = sound (skipped a.0) b.0 b.1 in
      let L = Spells b.0.0 in
      let closing = takes_then blanks (lit (codes ")")) b.0.1 (skipped b.0.1) c.0 (skipped_takes b.0.1) (byte_takes 41 (skipped b.0.1) c.0 c.1) in
      let inner = takes_then L (blanks <> lit (codes ")")) (skipped a.0) b.0.1 c.0 s.0 closing in
      let opened = takes_then blanks (L <> (blanks <> lit (codes ")"))) a.0 (skipped a.0) c.0 (skipped_takes a.0) inner in
      let all = takes_then (lit (codes "(")) (blanks <> (L <> (blanks <> lit (codes ")")))) bytes a.0 c.0 (byte_takes 40 bytes a.0 a.1) opened in
      subst (λ (y : Tree × List ℕ). Takes (in_parentheses (Spells y.0)) bytes y.1 × (levels y.0 < deep) × Valid y.0) (got_is (b.0.0, c.0) x c.2) (all, s.1, s.2)

  pub list_takes : (bytes : List ℕ) (x : Tree × List ℕ) → list_by part bytes ≡ got x → (t : Tree) × (n : Nullability) × (of.list t n ≡ x.0) × Takes (in_parentheses (Spells t) <> mark n) bytes x.1 × (levels t < deep) × Valid t
  unfolding list_by
  list_takes bytes x e =
      let a = bind_got (wrapped_by part bytes) _ x e in
      let w = wrapped_takes bytes a.0 a.1 in
      let m = marked_takes (λ n. of.list a.0.0 n) a.0.1 x a.2 in
      (a.0.0, m.0, m.1, takes_then (in_parentheses (Spells a.0.0)) (mark m.0) bytes a.0.1 x.1 w.0 m.2, w.1, w.2)

  size_takes : (bytes : List ℕ) (x : ℕ × List ℕ) → size_at bytes ≡ Some x → Takes (lit (codes "[") <> (blanks <> (number 4294967295 x.0 <> (blanks <> lit (codes "]"))))) bytes x.1 × (x.0 < 4294967296)
  unfolding size_at
  size_takes bytes x e =
      let c = bind_some (byte_at 91 bytes) _ x e in
      let d = bind_some (number_at 4294967295 (skipped c.0)) _ x c.2 in
      let f = bind_some (byte_at 93 (skipped d.0.1)) _ x d.2 in
      let n = number_takes 4294967295 (skipped c.0) d.0 d.1 in
      let N = number 4294967295 d.0.0 in
      let closing = takes_then blanks (lit (codes "]")) d.0.1 (skipped d.0.1) f.0 (skipped_takes d.0.1) (byte_takes 93 (skipped d.0.1) f.0 f.1) in
      let inner = takes_then N (blanks <> lit (codes "]")) (skipped c.0) d.0.1 f.0 n closing in
      let opened = takes_then blanks (N <> (blanks <> lit (codes "]"))) c.0 (skipped c.0) f.0 (skipped_takes c.0) inner in
      let size = takes_then (lit (codes "[")) (blanks <> (N <> (blanks <> lit (codes "]")))) bytes c.0 f.0 (byte_takes 91 bytes c.0 c.1) opened in
      let small : d.0.0 < 4294967296 = omega (arith, n.spelled.0) in
      subst (λ (y : ℕ × List ℕ). Takes (lit (codes "[") <> (blanks <> (number 4294967295 y.0 <> (blanks <> lit (codes "]"))))) bytes y.1 × (y.0 < 4294967296)) (some_is (d.0.0, f.0) x f.2) (size, small)

  pub fixed_takes : (bytes : List ℕ) (x : Tree × List ℕ) → fixed_by part bytes ≡ got x → IsRead (codes "fixed_size_list" ++ bytes) x
  unfolding fixed_by
  fixed_takes bytes x e =
      let a = bind_got (wrapped_by part bytes) _ x e in
      let b = bind_said (size_at a.0.1) _ x a.2 in
      let w = wrapped_takes bytes a.0 a.1 in
      let sized = size_takes a.0.1 b.0 b.1 in
      let m = marked_takes (λ m. of.fixed_size_list a.0.0 b.0.0 m) b.0.1 x b.2 in
      let Size = λ (k : ℕ). lit (codes "[") <> (blanks <> (number 4294967295 k <> (blanks <> lit (codes "]")))) in
      let behind = takes_then (Size b.0.0) (mark m.0) a.0.1 b.0.1 x.1 sized.0 m.2 in
      let after = takes_then (in_parentheses (Spells a.0.0)) (Size b.0.0 <> mark m.0) bytes a.0.1 x.1 w.0 behind in
      let all = takes_then (lit (codes "fixed_size_list")) (in_parentheses (Spells a.0.0) <> (Size b.0.0 <> mark m.0)) (codes "fixed_size_list" ++ bytes) bytes x.1 (record { text = codes "fixed_size_list"; spelled = refl; parts = refl }) after in
      subst (λ (t : Tree). Takes (Spells t) (codes "fixed_size_list" ++ bytes) x.1 × (levels t ≤ deep) × Valid t) m.1 (all, omega (arith, w.1), (sized.1, w.2))

  pub field_takes : (bytes : List ℕ) (x : (List ℕ × Tree) × List ℕ) → field_by part bytes ≡ got x → Takes (an_item x.0.0 (lit []) (Spells x.0.1)) bytes x.1 × IsGood x.0.1
  unfolding field_by
  field_takes bytes x e =
      let a = bind_said (name_at bytes) _ x e in
      let b = bind_said (equals_at a.0.1) _ x a.2 in
      let c = bind_got (part b.0) _ x b.2 in
      let s = sound b.0 c.0 c.1 in
      let T = Spells c.0.0 in
      let t2 = takes_then (spaced (codes "=")) T a.0.1 b.0 c.0.1 (equals_takes a.0.1 b.0 b.1) s.0 in
      let t1 = takes_then (lit []) (spaced (codes "=") <> T) a.0.1 a.0.1 c.0.1 (takes_none a.0.1) t2 in
      let t0 = takes_then (named a.0.0) (lit [] <> (spaced (codes "=") <> T)) bytes a.0.1 c.0.1 (name_takes bytes a.0 a.1) t1 in
      subst (λ (y : (List ℕ × Tree) × List ℕ). Takes (an_item y.0.0 (lit []) (Spells y.0.1)) bytes y.1 × IsGood y.0.1) (got_is ((a.0.0, c.0.0), c.0.1) x c.2) (t0, (s.1, s.2))

  pub variant_takes : (bytes : List ℕ) (x : (List ℕ × (Tree × Option ℕ)) × List ℕ) → variant_by part bytes ≡ got x → Takes (variant_text x.0) bytes x.1 × IsGood x.0.1.0
  unfolding variant_by
  variant_takes bytes x e =
      let a = bind_said (name_at bytes) _ x e in
      let g = bind_said (tag_at a.0.1) _ x a.2 in
      let b = bind_said (equals_at g.0.1) _ x g.2 in
      let c = bind_got (part b.0) _ x b.2 in
      let s = sound b.0 c.0 c.1 in
      let T = Spells c.0.0 in
      let t2 = takes_then (spaced (codes "=")) T g.0.1 b.0 c.0.1 (equals_takes g.0.1 b.0 b.1) s.0 in
      let t1 = takes_then (tag_text g.0.0) (spaced (codes "=") <> T) a.0.1 g.0.1 c.0.1 (tag_takes a.0.1 g.0 g.1) t2 in
      let t0 = takes_then (named a.0.0) (tag_text g.0.0 <> (spaced (codes "=") <> T)) bytes a.0.1 c.0.1 (name_takes bytes a.0 a.1) t1 in
      subst (λ (y : (List ℕ × (Tree × Option ℕ)) × List ℕ). Takes (variant_text y.0) bytes y.1 × IsGood y.0.1.0) (got_is ((a.0.0, (c.0.0, g.0.0)), c.0.1) x c.2) (t0, (s.1, s.2))

  pub struct_takes : (bytes : List ℕ) (x : Tree × List ℕ) → struct_by part bytes ≡ got x → IsRead (123 ∷ bytes) x
  unfolding struct_by
  struct_takes bytes x e =
      let a = bind_got (items_by 125 (field_by part) (skipped bytes)) _ x e in
      let i = items_take (λ f. an_item f.0 (lit []) (Spells f.1)) (λ f. IsGood f.1) (field_by part) field_takes 125 (skipped bytes) a.0 a.1 in
      let m = marked_takes (λ n. of.struct (fields a.0.0) n) a.0.1 x a.2 in
      let L = SpellsItems false (fields a.0.0) in
      let items : Takes L (skipped bytes) i.behind = record { text = i.takes.text; spelled = fields_spelled a.0.0 i.takes.text i.takes.spelled; parts = i.takes.parts } in
      let close : Takes (lit (codes "}")) i.behind a.0.1 = record { text = codes "}"; spelled = refl; parts = i.closes } in
      let closing = takes_then (lit (codes "}")) (mark m.0) i.behind a.0.1 x.1 close m.2 in
      let inner = takes_then L (lit (codes "}") <> mark m.0) (skipped bytes) i.behind x.1 items closing in
      let opened = takes_then blanks (L <> (lit (codes "}") <> mark m.0)) bytes (skipped bytes) x.1 (skipped_takes bytes) inner in
      let all = takes_then (lit (codes "{")) (blanks <> (L <> (lit (codes "}") <> mark m.0))) (123 ∷ bytes) bytes x.1 (record { text = codes "{"; spelled = refl; parts = refl }) opened in
      let g = good_fields deep a.0.0 i.good in
      subst (λ (t : Tree). Takes (Spells t) (123 ∷ bytes) x.1 × (levels t ≤ deep) × Valid t) m.1 (all, g.0, g.1)

  union_takes : (bytes : List ℕ) (x : Tree × List ℕ) → union_by part bytes ≡ got x → IsRead (codes "union" ++ bytes) x
  unfolding union_by
  union_takes bytes x e =
      let o = bind_said (byte_at 40 bytes) _ x e in
      let a = bind_got (items_by 41 (variant_by part) (skipped o.0)) _ x o.2 in
      let b = bind_got (union_at a.0.0) _ x a.2 in
      let i = items_take variant_text (λ v. IsGood v.1.0) (variant_by part) variant_takes 41 (skipped o.0) a.0 a.1 in
      let m = marked_takes (λ n. of.union b.0 n) a.0.1 x b.2 in
      let u = union_spelled deep a.0.0 b.0 b.1 i.good i.takes.text i.takes.spelled in
      let U : Lang = λ x. SpellsItems true b.0 x ⊎ (AreConsecutive (variant_tags (triples b.0)) × SpellsItems false b.0 x) in
      let close : Takes (lit (codes ")")) i.behind a.0.1 = record { text = codes ")"; spelled = refl; parts = i.closes } in
      let items : Takes U (skipped o.0) i.behind = record { text = i.takes.text; spelled = u.0; parts = i.takes.parts } in
      let inner = takes_then U (lit (codes ")")) (skipped o.0) i.behind a.0.1 items close in
      let gap = takes_then blanks (U <> lit (codes ")")) o.0 (skipped o.0) a.0.1 (skipped_takes o.0) inner in
      let opened = takes_then (lit (codes "(")) (blanks <> (U <> lit (codes ")"))) bytes o.0 a.0.1 (byte_takes 40 bytes o.0 o.1) gap in
      let marked_ = takes_then (lit (codes "(") <> (blanks <> (U <> lit (codes ")")))) (mark m.0) bytes a.0.1 x.1 opened m.2 in
      let all = takes_then (lit (codes "union")) ((lit (codes "(") <> (blanks <> (U <> lit (codes ")")))) <> mark m.0) (codes "union" ++ bytes) bytes x.1 (record { text = codes "union"; spelled = refl; parts = refl }) marked_ in
      subst (λ (t : Tree). Takes (Spells t) (codes "union" ++ bytes) x.1 × (levels t ≤ deep) × Valid t) m.1 (all, u.1, u.2)

  pub decimal_parts_take : (bytes : List ℕ) (x : (ℕ × ℤ) × List ℕ) → decimal_parts bytes ≡ Some x → Takes (d_parts x.0.0 x.0.1) bytes x.1
  unfolding decimal_parts
  decimal_parts_take bytes x e =
      let a = bind_some (byte_at 40 bytes) _ x e in
      let b = bind_some (number_at 255 (skipped a.0)) _ x a.2 in
      let c = bind_some (comma_at b.0.1) _ x b.2 in
      let d = bind_some (signed_at c.0) _ x c.2 in
      let f = bind_some (byte_at 41 (skipped d.0.1)) _ x d.2 in
      let Close = blanks <> lit (codes ")") in
      let S = signed d.0.0 <> Close in
      let t5 = takes_then blanks (lit (codes ")")) d.0.1 (skipped d.0.1) f.0 (skipped_takes d.0.1) (byte_takes 41 (skipped d.0.1) f.0 f.1) in
      let t4 = takes_then (signed d.0.0) Close c.0 d.0.1 f.0 (signed_takes c.0 d.0 d.1) t5 in
      let t3 = takes_then (spaced (codes ",")) S b.0.1 c.0 f.0 (comma_takes b.0.1 c.0 c.1) t4 in
      let t2 = takes_then (number 255 b.0.0) (spaced (codes ",") <> S) (skipped a.0) b.0.1 f.0 (number_takes 255 (skipped a.0) b.0 b.1) t3 in
      let t1 = takes_then blanks (number 255 b.0.0 <> (spaced (codes ",") <> S)) a.0 (skipped a.0) f.0 (skipped_takes a.0) t2 in
      let t0 = takes_then (lit (codes "(")) (blanks <> (number 255 b.0.0 <> (spaced (codes ",") <> S))) bytes a.0 f.0 (byte_takes 40 bytes a.0 a.1) t1 in
      subst (λ (y : (ℕ × ℤ) × List ℕ). Takes (d_parts y.0.0 y.0.1) bytes y.1) (some_is ((b.0.0, d.0.0), f.0) x f.2) t0

  decimal_takes : (bytes : List ℕ) (x : Tree × List ℕ) → decimal_at bytes ≡ got x → (p : ℕ) × (z : ℤ) × (n : Nullability) × (of.decimal (a_decimal p z) n ≡ x.0) × Takes (d_parts p z <> mark n) bytes x.1 × IsDecimalWithin 76 p z
  unfolding decimal_at
  decimal_takes bytes x e =
      let a = bind_said (decimal_parts bytes) _ x e in
      let p = a.0.0.0 in
      let z = a.0.0.1 in
      let b = not_refused (is_decimal p z) (marked (λ n. of.decimal (a_decimal p z) n) a.0.1) (decimal_error p z) x a.2 in
      let m = marked_takes (λ n. of.decimal (a_decimal p z) n) a.0.1 x b.1 in
      (p, z, m.0, m.1, takes_then (d_parts p z) (mark m.0) bytes a.0.1 x.1 (decimal_parts_take bytes a.0 a.1) m.2, decimal_within p z b.0)

  pub sorted_takes : (bytes : List ℕ) (x : Bool × List ℕ) → keys_sorted_at bytes ≡ Some x → Takes (sorted_part x.0) bytes x.1
  unfolding keys_sorted_at
  sorted_takes bytes x e =
      let a = bind_some (comma_at bytes) _ x e in
      let b = bind_some (word_is (codes "keys_sorted") a.0) _ x a.2 in
      let c = bind_some (equals_at b.0) _ x b.2 in
      let d = bind_some (bool_at c.0) _ x c.2 in
      let f = bind_some (byte_at 41 (skipped d.0.1)) _ x d.2 in
      let Close = blanks <> lit (codes ")") in
      let V = lit (bool_text d.0.0) in
      let t5 = takes_then blanks (lit (codes ")")) d.0.1 (skipped d.0.1) f.0 (skipped_takes d.0.1) (byte_takes 41 (skipped d.0.1) f.0 f.1) in
      let t4 = takes_then V Close c.0 d.0.1 f.0 (bool_takes c.0 d.0 d.1) t5 in
      let t3 = takes_then (spaced (codes "=")) (V <> Close) b.0 c.0 f.0 (equals_takes b.0 c.0 c.1) t4 in
      let t2 = takes_then (lit (codes "keys_sorted")) (spaced (codes "=") <> (V <> Close)) a.0 b.0 f.0 (keys_takes (codes "keys_sorted") a.0 b.0 b.1) t3 in
      let t1 = takes_then (spaced (codes ",")) (lit (codes "keys_sorted") <> (spaced (codes "=") <> (V <> Close))) bytes a.0 f.0 (comma_takes bytes a.0 a.1) t2 in
      subst (λ (y : Bool × List ℕ). Takes (sorted_part y.0) bytes y.1) (some_is (d.0.0, f.0) x f.2) t1

  map_takes : (bytes : List ℕ) (x : Tree × List ℕ) → map_by part bytes ≡ got x
      → (k : Tree) × (v : Tree) × (o : Bool) × (n : Nullability) × (of.map_of k v o n ≡ x.0) × Takes ((lit (codes "(") <> (blanks <> (Spells k <> (spaced (codes ",") <> (Spells v <> sorted_part o))))) <> mark n) bytes x.1
      × (nullability k ≡ NonNullable) × (levels k < deep) × (levels v < deep) × Valid k × Valid v
  unfolding map_by
  map_takes bytes x e =
      let a = bind_said (byte_at 40 bytes) _ x e in
      let b = bind_got (part (skipped a.0)) _ x a.2 in
      let c = bind_said (comma_at b.0.1) _ x b.2 in
      let d = bind_got (part c.0) _ x c.2 in
      let f = bind_said (keys_sorted_at d.0.1) _ x d.2 in
      let g = not_refused (is_nonnullable (nullability b.0.0)) (marked (λ n. of.map_of b.0.0 d.0.0 f.0.0 n) f.0.1) MapKeyNullable x f.2 in
      let m = marked_takes (λ n. of.map_of b.0.0 d.0.0 f.0.0 n) f.0.1 x g.1 in
      let s = sound (skipped a.0) b.0 b.1 in
      let t = sound c.0 d.0 d.1 in
      let K = Spells b.0.0 in
      let V = Spells d.0.0 in
      let S = sorted_part f.0.0 in
      let t4 = takes_then V S c.0 d.0.1 f.0.1 t.0 (sorted_takes d.0.1 f.0 f.1) in
      let t3 = takes_then (spaced (codes ",")) (V <> S) b.0.1 c.0 f.0.1 (comma_takes b.0.1 c.0 c.1) t4 in
      let t2 = takes_then K (spaced (codes ",") <> (V <> S)) (skipped a.0) b.0.1 f.0.1 s.0 t3 in
      let t1 = takes_then blanks (K <> (spaced (codes ",") <> (V <> S))) a.0 (skipped a.0) f.0.1 (skipped_takes a.0) t2 in
      let t0 = takes_then (lit (codes "(")) (blanks <> (K <> (spaced (codes ",") <> (V <> S)))) bytes a.0 f.0.1 (byte_takes 40 bytes a.0 a.1) t1 in
      (b.0.0, d.0.0, f.0.0, m.0, m.1, takes_then (lit (codes "(") <> (blanks <> (K <> (spaced (codes ",") <> (V <> S))))) (mark m.0) bytes f.0.1 x.1 t0 m.2, nonnull (nullability b.0.0) g.0, s.1, t.1, s.2, t.2)

  extension_takes : (all bytes id : List ℕ) (x : Tree × List ℕ) → Takes (ident id) all bytes → extension_by part id bytes ≡ got x → Takes (Spells x.0) all x.1 × (levels x.0 ≤ deep) × Valid x.0
  unfolding extension_by
  extension_takes all bytes id x i e =
      let a = bind_said (metadata_at bytes) _ x e in
      let b = bind_got (wrapped_by part a.0.1) _ x a.2 in
      let w = wrapped_takes a.0.1 b.0 b.1 in
      let P = in_parentheses (Spells b.0.0) in
      let t1 = takes_then (metadata a.0.0) P bytes a.0.1 b.0.1 (metadata_takes bytes a.0 a.1) w.0 in
      let t0 = takes_then (ident id) (metadata a.0.0 <> P) all bytes b.0.1 i t1 in
      subst (λ (y : Tree × List ℕ). Takes (Spells y.0) all y.1 × (levels y.0 ≤ deep) × Valid y.0) (got_is (of.extension id a.0.0 b.0.0, b.0.1) x b.2) (t0, omega (arith, w.1), (metadata_bytes bytes a.0 a.1, w.2))

  pub after_keyword_takes : (all bytes : List ℕ) (k : Keyword) (x : Tree × List ℕ) → Takes (lit (word_of k)) all bytes → after_keyword part k bytes ≡ got x → Takes (Spells x.0) all x.1 × (levels x.0 ≤ deep) × Valid x.0
  unfolding after_keyword
  after_keyword_takes all bytes k.Bool x w e =
      let m = marked_takes of.bool bytes x e in
      subst (λ (t : Tree). Takes (Spells t) all x.1 × (levels t ≤ deep) × Valid t) m.1 (takes_then (lit (codes "bool")) (mark m.0) all bytes x.1 w m.2, omega arith, tt)
  after_keyword_takes all bytes k.Utf8 x w e =
      let m = marked_takes of.utf8 bytes x e in
      subst (λ (t : Tree). Takes (Spells t) all x.1 × (levels t ≤ deep) × Valid t) m.1 (takes_then (lit (codes "utf8")) (mark m.0) all bytes x.1 w m.2, omega arith, tt)
  after_keyword_takes all bytes k.Binary x w e =
      let m = marked_takes of.binary bytes x e in
      subst (λ (t : Tree). Takes (Spells t) all x.1 × (levels t ≤ deep) × Valid t) m.1 (takes_then (lit (codes "binary")) (mark m.0) all bytes x.1 w m.2, omega arith, tt)
  after_keyword_takes all bytes k.Variant x w e =
      let m = marked_takes of.variant bytes x e in
      subst (λ (t : Tree). Takes (Spells t) all x.1 × (levels t ≤ deep) × Valid t) m.1 (takes_then (lit (codes "variant")) (mark m.0) all bytes x.1 w m.2, omega arith, tt)
  after_keyword_takes all bytes (k.Primitive q) x w e =
      let m = marked_takes (of.primitive q) bytes x e in
      subst (λ (t : Tree). Takes (Spells t) all x.1 × (levels t ≤ deep) × Valid t) m.1 (takes_then (lit (ptype_row q).text) (mark m.0) all bytes x.1 w m.2, omega arith, tt)
  after_keyword_takes all bytes k.List x w e =
      let l = list_takes bytes x e in
      subst (λ (t : Tree). Takes (Spells t) all x.1 × (levels t ≤ deep) × Valid t) l.2 (takes_then (lit (codes "list")) (in_parentheses (Spells l.0) <> mark l.1) all bytes x.1 w l.3, omega (arith, l.4), l.5)
  after_keyword_takes all bytes k.FixedSizeList x w e =
      let l = fixed_takes bytes x e in
      let h : all ≡ codes "fixed_size_list" ++ bytes = w.parts ∙ ap (λ (y : List ℕ). y ++ bytes) w.spelled in
      subst (λ (y : List ℕ). Takes (Spells x.0) y x.1 × (levels x.0 ≤ deep) × Valid x.0) (sym h) l
  after_keyword_takes all bytes k.Decimal x w e =
      let l = decimal_takes bytes x e in
      subst (λ (t : Tree). Takes (Spells t) all x.1 × (levels t ≤ deep) × Valid t) l.3 (takes_then (lit (codes "decimal")) (d_parts l.0 l.1 <> mark l.2) all bytes x.1 w l.4, omega arith, l.5)
  after_keyword_takes all bytes k.Map x w e =
      let l = map_takes bytes x e in
      let M = (lit (codes "(") <> (blanks <> (Spells l.0 <> (spaced (codes ",") <> (Spells l.1 <> sorted_part l.2))))) <> mark l.3 in
      subst (λ (t : Tree). Takes (Spells t) all x.1 × (levels t ≤ deep) × Valid t) l.4 (takes_then (lit (codes "map")) M all bytes x.1 w l.5, omega (arith, l.7, l.8), (l.6, l.9, l.10))
  after_keyword_takes all bytes k.Union x w e =
      let l = union_takes bytes x e in
      let h : all ≡ codes "union" ++ bytes = w.parts ∙ ap (λ (y : List ℕ). y ++ bytes) w.spelled in
      subst (λ (y : List ℕ). Takes (Spells x.0) y x.1 × (levels x.0 ≤ deep) × Valid x.0) (sym h) l
  after_keyword_takes all bytes k.Null x w e =
      subst (λ (y : Tree × List ℕ). Takes (Spells y.0) all y.1 × (levels y.0 ≤ deep) × Valid y.0) (null_is bytes x e) (w, omega arith, tt)

  keyword_type_takes : (bytes : List ℕ) (x : Tree × List ℕ) → keyword_by part bytes ≡ got x → Takes (Spells x.0) bytes x.1 × (levels x.0 ≤ deep) × Valid x.0
  unfolding keyword_by
  keyword_type_takes bytes x e =
      let a = bind_said (keyword_at bytes) _ x e in
      after_keyword_takes bytes a.0.1 a.0.0 x (keyword_takes bytes a.0 a.1) a.2

  bare_extension_takes : (bytes : List ℕ) (x : Tree × List ℕ) → bare_extension_by part bytes ≡ got x → Takes (Spells x.0) bytes x.1 × (levels x.0 ≤ deep) × Valid x.0
  unfolding bare_extension_by
  bare_extension_takes bytes x e =
      let w = front is_id_byte bytes in
      let a = bind_said (text_at w) _ x e in
      let u = test_some (is_utf8 w) w a.0 a.1 in
      let b = test_passed (is_bare_id a.0) (extension_by part a.0 (past is_id_byte bytes)) x a.2 in
      let i : Takes (ident a.0) bytes (past is_id_byte bytes) = record { text = w; spelled = (ap is_utf8 (sym u.1) ∙ u.0, inl (b.0, u.1)); parts = front_past is_id_byte bytes } in
      extension_takes bytes (past is_id_byte bytes) a.0 x i b.1

  word_by_takes : (bytes : List ℕ) (x : Tree × List ℕ) → word_by part bytes ≡ got x → Takes (Spells x.0) bytes x.1 × (levels x.0 ≤ deep) × Valid x.0
  unfolding word_by
  word_by_takes bytes x e = split (is_some (byte_at 91 (past is_id_byte bytes))) refl where
    split : (c : Bool) → is_some (byte_at 91 (past is_id_byte bytes)) ≡ c → Takes (Spells x.0) bytes x.1 × (levels x.0 ≤ deep) × Valid x.0
    split true t = bare_extension_takes bytes x (rw t at e)
    split false t = keyword_type_takes bytes x (rw t at e)

  quoted_extension_takes : (bytes : List ℕ) (x : Tree × List ℕ) → quoted_extension_by part bytes ≡ got x → Takes (Spells x.0) (34 ∷ bytes) x.1 × (levels x.0 ≤ deep) × Valid x.0
  unfolding quoted_extension_by
  quoted_extension_takes bytes x e =
      let a = bind_said (quoted_at bytes) _ x e in
      let q = quoted_takes bytes a.0 a.1 in
      let i : Takes (ident a.0.0) (34 ∷ bytes) a.0.1 = record { text = 34 ∷ q.0.text; spelled = (q.1, inr (34 ∷ [], q.0.text, refl, q.0.spelled, refl)); parts = ap (λ (ys : List ℕ). 34 ∷ ys) q.0.parts } in
      extension_takes (34 ∷ bytes) a.0.1 a.0.0 x i a.2

  pub type_takes : (bytes : List ℕ) (x : Tree × List ℕ) → type_by part bytes ≡ got x → Takes (Spells x.0) bytes x.1 × (levels x.0 ≤ deep) × Valid x.0
  unfolding type_by
  type_takes [] x e = word_by_takes [] x e
  type_takes (b ∷ bytes) x e = split (b == 123) refl where
    other : (c : Bool) → (b == 34) ≡ c → cond (b == 34) (quoted_extension_by part bytes) (word_by part (b ∷ bytes)) ≡ got x → Takes (Spells x.0) (b ∷ bytes) x.1 × (levels x.0 ≤ deep) × Valid x.0
    other true is e =
        let h : b ≡ 34 = eqb-true b 34 is in
        subst (λ (d : ℕ). Takes (Spells x.0) (d ∷ bytes) x.1 × (levels x.0 ≤ deep) × Valid x.0) (sym h) (quoted_extension_takes bytes x (rw is at e))
    other false is e = word_by_takes (b ∷ bytes) x (rw is at e)

    split : (c : Bool) → (b == 123) ≡ c → Takes (Spells x.0) (b ∷ bytes) x.1 × (levels x.0 ≤ deep) × Valid x.0
    split true is =
        let h : b ≡ 123 = eqb-true b 123 is in
        subst (λ (d : ℕ). Takes (Spells x.0) (d ∷ bytes) x.1 × (levels x.0 ≤ deep) × Valid x.0) (sym h) (struct_takes bytes x (rw is at e))
    split false is = other (b == 34) refl (rw is at e)

-- what is read of a type within so many others
pub part_sound : (deep : ℕ) → IsSound deep (part_at deep)
part_sound zero bytes x e = absurd cc
part_sound (suc deep) bytes x e =
    let t = type_takes deep (part_at deep) (part_sound deep) bytes x e in
    (t.0, omega (arith, t.1), t.2)
