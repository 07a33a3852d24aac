-- SPDX-License-Identifier: Apache-2.0
-- SPDX-FileCopyrightText: Copyright the Vortex contributors

-- What is spelled of a type is read, whatever follows that doesn't go on with it.
use Rattle.std.proofs.Common.{◌≡◌, ℕ, zero, suc, ◌<◌, ◌≤◌, max, Bool, true, false, cond, not, ◌||◌, ◌==◌, List, [], ◌∷◌, ◌++◌, length, Option, Some, None, refl, sym, ap, ◌∙◌, arith, inl, inr}
use Rattle.std.specs.Prelude.{codes, nat_lt, ℤ, pos, neg_ℤ, ◌≤ℤ◌, ◌⊎◌}
use Rattle.std.specs.List.{list_all}
use Rattle.std.specs.Str.{is_utf8, IsAscii}
use Rattle.std.proofs.lemmas.Str.{is_utf8-from_IsUtf8, IsUtf8-from_ascii}
use Rattle.std.proofs.lemmas.Str.Ascii.{IsAscii-nil}
use Rattle.std.proofs.lemmas.Bool.{eqb-true, eq-eqb}
use Rattle.std.proofs.lemmas.Bool.Decides.{nat_tests}
use Rattle.std.proofs.lemmas.List.{length-append}
use Rattle.dtype_base.specs.declared.nullability.Nullability.{Nullability}
use Rattle.dtype_base.specs.declared.nullability.Nullability.TheVariants.{Nullable, NonNullable}
use Rattle.dtype_base.specs.declared.ptype.PType.TheVariants as p
use Rattle.dtype_base.specs.Decimals.{Decimal}
use Rattle.dtype_base.specs.declared.vortex_error.VortexError.{VortexError}
use Rattle.dtype_base.specs.declared.vortex_error.VortexError.TheVariants.{MapKeyNullable}
use Rattle.dtype_types.specs.nullability.Nullable.{nullability}
use Rattle.dtype_types.specs.texts.Text.{bool_text}
use Rattle.dtype_types.specs.tree.Tree as of
use Rattle.dtype_types.specs.tree.Tree.{Tree, Fields, fields, pairs, Items, Variants, variants, triples, a_struct, a_union, no_items, item}
use Rattle.dtype_types.specs.tree.Valid.{Valid, ValidItems}
use Rattle.dtype_types.specs.parts.Lookups.{variant_tags}
use Rattle.dtype_types.specs.parts.Unions.{AreConsecutive, AreVariants}
use Rattle.dtype_types.proofs.lemmas.ValidParts.{fields_of_pairs}
use Rattle.dtype_text.specs.declared.keyword.Keyword.{Keyword}
use Rattle.dtype_text.specs.declared.keyword.Keyword.TheVariants as k
use Rattle.dtype_text.specs.Bare.{is_id_byte, is_bare_byte, is_bare_id, has_special}
use Rattle.dtype_text.specs.Read.{byte_at}
use Rattle.dtype_text.specs.Outcome.{Outcome, got, misspelled, refused, too_deep, ◌>>=◌, Answers}
use Rattle.dtype_text.specs.Leaves.{front, past, skipped, number_at, name_at, equals_at, opens_gap, is_number_byte, comma_at, tag_at, signed_at, word_is, bool_at, metadata_at, quoted_at}
use Rattle.dtype_text.specs.TypeParts.{keyword_of, keyword_at, size_at, end_at, decimal_parts, is_decimal, decimal_error, is_nonnullable, keys_sorted_at}
use Rattle.dtype_text.specs.Unions.{union_at}
use Rattle.dtype_text.specs.Types.{Reader, marked, null_at, wrapped_by, list_by, fixed_by, separated, items_by, field_by, struct_by, variant_by, union_by, decimal_at, map_by, extension_by, bare_extension_by, quoted_extension_by, after_keyword, keyword_by, word_by, type_by, part_at}
use Rattle.dtype_text.specs.Grammar.{decimal_parts as d_parts, sorted_part, signed, metadata, ident, units, hexes, Lang, lit, ◌<>◌, blanks, spaced, number, mark, named, in_parentheses, an_item, Spells, SpellsItems, Refuses, RefusesItem, RefusesVariants, levels, levels_of_items}
pub use Rattle.dtype_text.specs.Fronts.{goes_on}
use Rattle.dtype_text.specs.Within.{tag_text, field_text, variant_text}
use Rattle.dtype_text.proofs.Words.{both, begins, word_front, word_past, byte_again, skipped_again}
use Rattle.dtype_text.proofs.LeavesSound.{bytes_in}
use Rattle.dtype_text.proofs.LeavesAgain.{begins_blanks, byte_then, byte_last, byte_none, then_parts, skip_then, marked_again, number_again, numeral_begins, named_again, named_begins, equals_again, comma_again, tag_again, spaced_begins, signed_again, signed_begins, word_is_again, bool_again, metadata_again, quoted_again}
use Rattle.dtype_text.proofs.TypeFacts.{decimal_test, decimal_within, decimal_refused}
use Rattle.dtype_text.proofs.Sound.{word_of}
use Rattle.dtype_text.proofs.Sequences.{sequence, more_items, Good, spelled_fields}
use Rattle.dtype_text.proofs.UnionFacts.{as_read, spelled_tagged, spelled_untagged, untagged_again, tagged_again}
use Rattle.dtype_text.proofs.Answering.{through, under, as_got, reworded}

neither : (a b : Bool) → (a || b) ≡ false → (a ≡ false) × (b ≡ false)
neither false false e = (refl, refl)
neither false true e = absurd cc
neither true b e = absurd cc

-- a byte with which a word goes on, or the bracket of an extension
abbrev pub goes_word : ℕ → Bool
goes_word b = is_id_byte b || b == 91

words : (rest : List ℕ) → begins goes_word rest ≡ false → (begins is_id_byte rest ≡ false) × (begins (λ b. b == 91) rest ≡ false)
words [] e = (refl, refl)
words (b ∷ rest) e = neither (is_id_byte b) (b == 91) e

stops : (rest : List ℕ) → begins goes_on rest ≡ false → (begins goes_word rest ≡ false) × (begins (λ b. b == 63) rest ≡ false)
stops [] e = (refl, refl)
stops (b ∷ rest) e = let h = neither (is_id_byte b) (b == 63 || b == 91) e in let g = neither (b == 63) (b == 91) h.1 in (rw (h.0, g.1) refl, g.0)

mark_begins : (p : ℕ → Bool) (n : Nullability) (y rest : List ℕ) → p 63 ≡ false → mark n y → begins p rest ≡ false → begins p (y ++ rest) ≡ false
mark_begins p Nullable y rest q h e = ap (λ (a : List ℕ). begins p (a ++ rest)) h ∙ q
mark_begins p NonNullable y rest q h e = ap (λ (a : List ℕ). begins p (a ++ rest)) h ∙ e

-- what reads types completely, of less than so many levels
abbrev pub IsComplete : ℕ → Reader Tree → Type 0
IsComplete deep part = (t : Tree) (x rest : List ℕ) → Spells t x → begins goes_on rest ≡ false → Answers (t, rest) (Valid t) (Refuses t) (suc (levels t)) deep (part (x ++ rest))

-- ---- words

ascii_all : (bs : List ℕ) → list_all (λ b. nat_lt b 128) bs ≡ true → IsAscii bs
ascii_all [] e i = IsAscii-nil i
ascii_all (b ∷ bs) e zero = let h : nat_lt b 128 ≡ true = (both (nat_lt b 128) (list_all (λ b. nat_lt b 128) bs) e).0 in grind (arith, nat_tests)
ascii_all (b ∷ bs) e (suc i) = ascii_all bs (both (nat_lt b 128) (list_all (λ b. nat_lt b 128) bs) e).1 i

ascii : (bs : List ℕ) → list_all (λ b. nat_lt b 128) bs ≡ true → is_utf8 bs ≡ true
ascii bs e = is_utf8-from_IsUtf8 bs (IsUtf8-from_ascii bs (ascii_all bs e))

word_bytes : (w : Keyword) → (list_all is_id_byte (word_of w) ≡ true) × (is_utf8 (word_of w) ≡ true) × (keyword_of (word_of w) ≡ Some w) × ((rest : List ℕ) → (begins (λ b. b == 123) (word_of w ++ rest) ≡ false) × (begins opens_gap (word_of w ++ rest) ≡ false) × (begins (λ b. b == 34) (word_of w ++ rest) ≡ false))
unfolding keyword_of
word_bytes k.Null = (refl, ascii (word_of k.Null) refl, refl, λ r. (refl, refl, refl))
word_bytes k.Bool = (refl, ascii (word_of k.Bool) refl, refl, λ r. (refl, refl, refl))
word_bytes k.Utf8 = (refl, ascii (word_of k.Utf8) refl, refl, λ r. (refl, refl, refl))
word_bytes k.Binary = (refl, ascii (word_of k.Binary) refl, refl, λ r. (refl, refl, refl))
word_bytes k.Variant = (refl, ascii (word_of k.Variant) refl, refl, λ r. (refl, refl, refl))
word_bytes k.List = (refl, ascii (word_of k.List) refl, refl, λ r. (refl, refl, refl))
word_bytes k.FixedSizeList = (refl, ascii (word_of k.FixedSizeList) refl, refl, λ r. (refl, refl, refl))
word_bytes k.Decimal = (refl, ascii (word_of k.Decimal) refl, refl, λ r. (refl, refl, refl))
word_bytes k.Map = (refl, ascii (word_of k.Map) refl, refl, λ r. (refl, refl, refl))
word_bytes k.Union = (refl, ascii (word_of k.Union) refl, refl, λ r. (refl, refl, refl))
word_bytes (k.Primitive p.U8) = (refl, ascii (word_of (k.Primitive p.U8)) refl, refl, λ r. (refl, refl, refl))
word_bytes (k.Primitive p.U16) = (refl, ascii (word_of (k.Primitive p.U16)) refl, refl, λ r. (refl, refl, refl))
word_bytes (k.Primitive p.U32) = (refl, ascii (word_of (k.Primitive p.U32)) refl, refl, λ r. (refl, refl, refl))
word_bytes (k.Primitive p.U64) = (refl, ascii (word_of (k.Primitive p.U64)) refl, refl, λ r. (refl, refl, refl))
word_bytes (k.Primitive p.I8) = (refl, ascii (word_of (k.Primitive p.I8)) refl, refl, λ r. (refl, refl, refl))
word_bytes (k.Primitive p.I16) = (refl, ascii (word_of (k.Primitive p.I16)) refl, refl, λ r. (refl, refl, refl))
word_bytes (k.Primitive p.I32) = (refl, ascii (word_of (k.Primitive p.I32)) refl, refl, λ r. (refl, refl, refl))
word_bytes (k.Primitive p.I64) = (refl, ascii (word_of (k.Primitive p.I64)) refl, refl, λ r. (refl, refl, refl))
word_bytes (k.Primitive p.F16) = (refl, ascii (word_of (k.Primitive p.F16)) refl, refl, λ r. (refl, refl, refl))
word_bytes (k.Primitive p.F32) = (refl, ascii (word_of (k.Primitive p.F32)) refl, refl, λ r. (refl, refl, refl))
word_bytes (k.Primitive p.F64) = (refl, ascii (word_of (k.Primitive p.F64)) refl, refl, λ r. (refl, refl, refl))

keyword_again : (w : Keyword) (rest : List ℕ) → begins is_id_byte rest ≡ false → keyword_at (word_of w ++ rest) ≡ Some (w, rest)
unfolding keyword_at
keyword_again w rest none =
    let b = word_bytes w in
    rw (word_front is_id_byte (word_of w) rest b.0 none, word_past is_id_byte (word_of w) rest b.0 none, b.1, b.2) refl

is_word : (part : Reader Tree) (bytes : List ℕ) → begins (λ b. b == 123) bytes ≡ false → begins (λ b. b == 34) bytes ≡ false → type_by part bytes ≡ word_by part bytes
unfolding type_by
is_word part [] e f = refl
is_word part (b ∷ bytes) e f = rw (e, f) refl

-- ---- bytes of words

id_begins : (p : ℕ → Bool) (n rest : List ℕ) → ((c : ℕ) → is_id_byte c ≡ true → p c ≡ false) → is_bare_id n ≡ true → begins p (n ++ rest) ≡ false
unfolding is_bare_id
id_begins p [] rest h bare = absurd cc
id_begins p (c ∷ n) rest h bare =
    let b = both (list_all is_id_byte (c ∷ n)) (not (has_special (c ∷ n))) bare in
    h c (both (is_id_byte c) (list_all is_id_byte n) b.0).0

id_not : (k : ℕ) → is_id_byte k ≡ false → (c : ℕ) → is_id_byte c ≡ true → (c == k) ≡ false
id_not k other c e = split (c == k) refl where
  split : (b : Bool) → (c == k) ≡ b → (c == k) ≡ false
  split true t = let h : is_id_byte k ≡ true = ap is_id_byte (sym (eqb-true c k t)) ∙ e in absurd cc
  split false t = t

id_solid : (c : ℕ) → is_id_byte c ≡ true → opens_gap c ≡ false
id_solid c e = rw (id_not 32 refl c e, id_not 9 refl c e, id_not 10 refl c e, id_not 13 refl c e, id_not 35 refl c e) refl

bare_not : (k : ℕ) → is_bare_byte k ≡ false → (c : ℕ) → is_bare_byte c ≡ true → (c == k) ≡ false
bare_not k other c e = split (c == k) refl where
  split : (b : Bool) → (c == k) ≡ b → (c == k) ≡ false
  split true t = let h : is_bare_byte k ≡ true = ap is_bare_byte (sym (eqb-true c k t)) ∙ e in absurd cc
  split false t = t

bare_solid : (c : ℕ) → is_bare_byte c ≡ true → opens_gap c ≡ false
bare_solid c e = rw (bare_not 32 refl c e, bare_not 9 refl c e, bare_not 10 refl c e, bare_not 13 refl c e, bare_not 35 refl c e) refl

ident_begins : (n x rest : List ℕ) → ident n x → begins opens_gap (x ++ rest) ≡ false
ident_begins n x rest h = elim h.1 [
  | inl b ↦ ap (λ (a : List ℕ). begins opens_gap (a ++ rest)) b.1 ∙ id_begins opens_gap n rest id_solid b.0
  | inr q ↦ ap (begins opens_gap) ((byte_then 34 (units n <> lit (codes "\"")) x q).2 rest).0
]

word_begins : (w : Keyword) (Q : List ℕ → Type 0) (z rest : List ℕ) → (lit (word_of w) <> Q) z → begins opens_gap (z ++ rest) ≡ false
word_begins w Q z rest h =
    let t = then_parts (lit (word_of w)) Q z h in
    ap (begins opens_gap) (t.4 rest ∙ ap (λ (a : List ℕ). a ++ (t.2 ++ rest)) t.1) ∙ ((word_bytes w).3 (t.2 ++ rest)).1

-- a type begins with no blank and no comment
pub type_begins : (t : Tree) (x rest : List ℕ) → Spells t x → begins opens_gap (x ++ rest) ≡ false
type_begins of.null x rest h = ap (λ (a : List ℕ). begins opens_gap (a ++ rest)) h
type_begins (of.bool n) x rest h = word_begins k.Bool (mark n) x rest h
type_begins (of.primitive q n) x rest h = word_begins (k.Primitive q) (mark n) x rest h
type_begins (of.utf8 n) x rest h = word_begins k.Utf8 (mark n) x rest h
type_begins (of.binary n) x rest h = word_begins k.Binary (mark n) x rest h
type_begins (of.variant n) x rest h = word_begins k.Variant (mark n) x rest h
type_begins (of.list t n) x rest h = word_begins k.List (in_parentheses (Spells t) <> mark n) x rest h
type_begins (of.fixed_size_list t m n) x rest h = word_begins k.FixedSizeList _ x rest h
type_begins (of.struct fs n) x rest h = let b = byte_then 123 (blanks <> (SpellsItems false fs <> (lit (codes "}") <> mark n))) x h in ap (begins opens_gap) (b.2 rest).0
type_begins (of.decimal d n) x rest h = word_begins k.Decimal (d_parts d.precision d.scale <> mark n) x rest h
type_begins (of.map_of a b o n) x rest h = word_begins k.Map _ x rest h
type_begins (of.extension id b s) x rest h =
    let q = then_parts (ident id) (metadata b <> in_parentheses (Spells s)) x h in
    ap (begins opens_gap) (q.4 rest) ∙ ident_begins id q.0 (q.2 ++ rest) q.1
type_begins (of.union vs n) x rest h = word_begins k.Union _ x rest h

-- ---- items

end_again : (close : ℕ) (y rest : List ℕ) → (blanks <> lit []) y → opens_gap close ≡ false → end_at close (y ++ (close ∷ rest)) ≡ Some (true, rest)
unfolding end_at
end_again close y rest h solid =
    let s = skip_then (lit []) y h in
    let e : skipped (y ++ (close ∷ rest)) ≡ close ∷ rest = s.2 (close ∷ rest) (ap (λ (a : List ℕ). begins opens_gap (a ++ (close ∷ rest))) s.1 ∙ solid) ∙ ap (λ (a : List ℕ). a ++ (close ∷ rest)) s.1 in
    rw (e, eq-eqb close close refl) refl

-- a comma with blanks around it
comma_then : (close : ℕ) (L : List ℕ → Type 0) (y : List ℕ) → (44 == close) ≡ false → (blanks <> (lit (codes ",") <> (blanks <> L))) y
    → (z : List ℕ) × L z × (length z < length y) × ((R : List ℕ) → begins opens_gap (z ++ R) ≡ false → (begins goes_on (y ++ R) ≡ false) × (end_at close (y ++ R) ≡ Some (false, z ++ R)))
unfolding end_at
comma_then close L y other h =
    let b = then_parts blanks (lit (codes ",") <> (blanks <> L)) y h in
    let c = byte_then 44 (blanks <> L) b.2 b.3 in
    let d = then_parts blanks L c.0 c.1 in
    let lengths : length d.2 < length y = omega (arith, ap length (b.4 []), ap length (c.2 []).0, ap length (d.4 []), length-append y [], length-append b.0 (b.2 ++ []), length-append b.2 [], length-append c.0 [], length-append d.0 (d.2 ++ []), length-append d.2 []) in (
      d.2,
      d.3,
      lengths,
      λ R first.
          let stop : begins goes_on (y ++ R) ≡ false = ap (begins goes_on) (b.4 R) ∙ begins_blanks goes_on b.0 (b.2 ++ R) refl b.1 (ap (begins goes_on) (c.2 R).0) in
          let skip : skipped (y ++ R) ≡ 44 ∷ (c.0 ++ R) = ap skipped (b.4 R) ∙ skipped_again b.0 (b.2 ++ R) b.1 (ap (begins opens_gap) (c.2 R).0) ∙ (c.2 R).0 in
          let gap : skipped (c.0 ++ R) ≡ d.2 ++ R = ap skipped (d.4 R) ∙ skipped_again d.0 (d.2 ++ R) d.1 first in
          (stop, rw (skip, other, gap) refl),
    )

-- how deep the deepest of items is
abbrev pub deepest : {A : Type 0} → (A → ℕ) → List A → ℕ
deepest depth [] = 0
deepest depth (x ∷ xs) = max (suc (depth x)) (deepest depth xs)

-- what reads items completely
abbrev pub ReadsItems : {A : Type 0} → (L : A → Lang) → (V : A → Type 0) → (E : A → VortexError → Type 0) → (depth : A → ℕ) → ℕ → Reader A → Type 0
ReadsItems {A} L V E depth deep read = (a : A) (x rest : List ℕ) → L a x → begins goes_on rest ≡ false → Answers (a, rest) (V a) (E a) (suc (depth a)) deep (read (x ++ rest))

-- one of items has the error
abbrev pub OneHas : {A : Type 0} → (A → VortexError → Type 0) → List A → VortexError → Type 0
OneHas E [] e = ⊥
OneHas E (x ∷ xs) e = E x e ⊎ OneHas E xs e

-- an item begins as a name does
abbrev pub BeginsAsNamed : {A : Type 0} → (A → Lang) → Type 0
BeginsAsNamed {A} L = (p : ℕ → Bool) (a : A) (x R : List ℕ) → p 34 ≡ false → ((c : ℕ) → is_bare_byte c ≡ true → p c ≡ false) → L a x → begins p (x ++ R) ≡ false

module _ {A : Type 0} (L : A → Lang) (V : A → Type 0) (E : A → VortexError → Type 0) (depth : A → ℕ) (deep : ℕ) (read : Reader A) (complete : ReadsItems L V E depth deep read) (first : BeginsAsNamed L) where
  sequence_begins : (p : ℕ → Bool) (a : A) (xs : List A) (x R : List ℕ) → p 34 ≡ false → ((c : ℕ) → is_bare_byte c ≡ true → p c ≡ false) → sequence L (a ∷ xs) x → begins p (x ++ R) ≡ false
  sequence_begins p a xs x R quote bare h =
      let q = then_parts (L a) (blanks <> more_items xs (sequence L xs)) x h in
      ap (begins p) (q.4 R) ∙ first p a q.0 (q.2 ++ R) quote bare q.1

  separated_again : (close k : ℕ) → (44 == close) ≡ false → opens_gap close ≡ false → goes_on close ≡ false → (a : A) (xs : List A) (x rest : List ℕ) → sequence L (a ∷ xs) x → length x < k
      → Answers (a ∷ xs, rest) (Good V (a ∷ xs)) (OneHas E (a ∷ xs)) (deepest depth (a ∷ xs)) deep (separated close read k (x ++ (close ∷ rest)))
  separated_again close zero not_comma solid no_more a xs x rest h lt = absurd (omega arith)
  separated_again close (suc k) not_comma solid no_more a [] x rest h lt =
      let R = close ∷ rest in
      let q = then_parts (L a) (blanks <> lit []) x h in
      let b = then_parts blanks (lit []) q.2 q.3 in
      let stop : begins goes_on (q.2 ++ R) ≡ false = ap (begins goes_on) (b.4 R) ∙ begins_blanks goes_on b.0 (b.2 ++ R) refl b.1 (ap (λ (z : List ℕ). begins goes_on (z ++ R)) b.3 ∙ no_more) in
      let one = under (a, q.2 ++ R) (V a) (E a) (suc (depth a)) deep (read (x ++ R)) (read (q.0 ++ (q.2 ++ R))) (ap read (q.4 R)) (complete a q.0 (q.2 ++ R) q.1 stop) in
      through (a, q.2 ++ R) (V a) (Good V (a ∷ [])) (E a) (OneHas E (a ∷ [])) (suc (depth a)) deep (deepest depth (a ∷ [])) deep (a ∷ [], rest) (read (x ++ R)) _ one (λ g. g.0) (λ e h. inl h) (λ d. omega (arith, d))
      (λ v le. rw (end_again close q.2 rest q.3 solid) (refl, (v, tt), omega (arith, le)))
  separated_again close (suc k) not_comma solid no_more a (b ∷ bs) x rest h lt =
      let R = close ∷ rest in
      let S = sequence L (b ∷ bs) in
      let q = then_parts (L a) (blanks <> (lit (codes ",") <> (blanks <> S))) x h in
      let c = comma_then close S q.2 not_comma q.3 in
      let e = c.3 R (sequence_begins opens_gap b bs c.0 R refl bare_solid c.1) in
      let one = under (a, q.2 ++ R) (V a) (E a) (suc (depth a)) deep (read (x ++ R)) (read (q.0 ++ (q.2 ++ R))) (ap read (q.4 R)) (complete a q.0 (q.2 ++ R) q.1 e.0) in
      let len : length c.0 < k = omega (arith, c.2, lt, ap length (q.4 []), length-append x [], length-append q.0 (q.2 ++ []), length-append q.2 []) in
      let more = separated_again close k not_comma solid no_more b bs c.0 rest c.1 len in
      through (a, q.2 ++ R) (V a) (Good V (a ∷ b ∷ bs)) (E a) (OneHas E (a ∷ b ∷ bs)) (suc (depth a)) deep (deepest depth (a ∷ b ∷ bs)) deep (a ∷ b ∷ bs, rest) (read (x ++ R)) _ one (λ g. g.0) (λ e h. inl h) (λ d. omega (arith, d))
      (λ v le. rw e.1 (through (b ∷ bs, rest) (Good V (b ∷ bs)) (Good V (a ∷ b ∷ bs)) (OneHas E (b ∷ bs)) (OneHas E (a ∷ b ∷ bs)) (deepest depth (b ∷ bs)) deep (deepest depth (a ∷ b ∷ bs)) deep (a ∷ b ∷ bs, rest) (separated close read k (c.0 ++ R)) _ more (λ g. g.1) (λ e h. inr h) (λ d. omega (arith, d))
      (λ w ge. (refl, (v, w), omega (arith, le, ge)))))

  items_again : (close : ℕ) → (44 == close) ≡ false → opens_gap close ≡ false → goes_on close ≡ false → (34 == close) ≡ false → is_bare_byte close ≡ false → (xs : List A) (x rest : List ℕ) → sequence L xs x
      → Answers (xs, rest) (Good V xs) (OneHas E xs) (deepest depth xs) deep (items_by close read (x ++ (close ∷ rest)))
  unfolding items_by
  items_again close not_comma solid no_more no_quote no_bare [] x rest h =
      let e : x ++ (close ∷ rest) ≡ close ∷ rest = ap (λ (a : List ℕ). a ++ (close ∷ rest)) h in
      let b : byte_at close (x ++ (close ∷ rest)) ≡ Some rest = ap (byte_at close) e ∙ byte_again close rest in
      rw b (refl, tt, omega arith)
  items_again close not_comma solid no_more no_quote no_bare (a ∷ xs) x rest h =
      let R = close ∷ rest in
      let open_ : byte_at close (x ++ R) ≡ None = byte_none close (x ++ R) (sequence_begins (λ b. b == close) a xs x R no_quote (bare_not close no_bare) h) in
      let len : length x < length (x ++ R) = omega (arith, length-append x R) in
      rw open_ (separated_again close (length (x ++ R)) not_comma solid no_more a xs x rest h len)

  items_first : (xs : List A) (x R : List ℕ) → sequence L xs x → begins opens_gap R ≡ false → begins opens_gap (x ++ R) ≡ false
  items_first [] x R h none = ap (λ (a : List ℕ). begins opens_gap (a ++ R)) h ∙ none
  items_first (a ∷ xs) x R h none = sequence_begins opens_gap a xs x R refl bare_solid h

-- the same of the fields of a tree
valid_fields : (fs : Fields) → Good (λ (f : List ℕ × Tree). Valid f.1) (pairs fs) → ValidItems fs
valid_fields no_items h = tt
valid_fields (item n t g fs) h = (h.0, valid_fields fs h.1)

fields_valid : (fs : Fields) → ValidItems fs → Good (λ (f : List ℕ × Tree). Valid f.1) (pairs fs)
fields_valid no_items h = tt
fields_valid (item n t g fs) h = (h.0, fields_valid fs h.1)

fields_depth : (fs : Fields) → deepest (λ (f : List ℕ × Tree). levels f.1) (pairs fs) ≡ levels_of_items fs
fields_depth no_items = refl
fields_depth (item n t g fs) = ap (λ (d : ℕ). max (suc (levels t)) d) (fields_depth fs)

fields_refuse : (fs : Fields) (e : VortexError) → OneHas (λ (f : List ℕ × Tree). Refuses f.1) (pairs fs) e → RefusesItem fs e
fields_refuse no_items e h = h
fields_refuse (item n t g fs) e (inl h) = inl h
fields_refuse (item n t g fs) e (inr h) = inr (fields_refuse fs e h)

-- and of its variants
abbrev Read : Type 0
Read = List ℕ × (Tree × Option ℕ)

valid_variants : (tags : Bool) (vs : Variants) → Good (λ (v : Read). Valid v.1.0) (as_read tags vs) → ValidItems vs
valid_variants tags no_items h = tt
valid_variants true (item n t g vs) h = (h.0, valid_variants true vs h.1)
valid_variants false (item n t g vs) h = (h.0, valid_variants false vs h.1)

variants_valid : (tags : Bool) (vs : Variants) → ValidItems vs → Good (λ (v : Read). Valid v.1.0) (as_read tags vs)
variants_valid tags no_items h = tt
variants_valid true (item n t g vs) h = (h.0, variants_valid true vs h.1)
variants_valid false (item n t g vs) h = (h.0, variants_valid false vs h.1)

variants_refuse : (tags : Bool) (vs : Variants) (e : VortexError) → OneHas (λ (v : Read). Refuses v.1.0) (as_read tags vs) e → RefusesItem vs e
variants_refuse tags no_items e h = h
variants_refuse true (item n t g vs) e (inl h) = inl h
variants_refuse true (item n t g vs) e (inr h) = inr (variants_refuse true vs e h)
variants_refuse false (item n t g vs) e (inl h) = inl h
variants_refuse false (item n t g vs) e (inr h) = inr (variants_refuse false vs e h)

variants_depth : (tags : Bool) (vs : Variants) → deepest (λ (v : Read). levels v.1.0) (as_read tags vs) ≡ levels_of_items vs
variants_depth tags no_items = refl
variants_depth true (item n t g vs) = ap (λ (d : ℕ). max (suc (levels t)) d) (variants_depth true vs)
variants_depth false (item n t g vs) = ap (λ (d : ℕ). max (suc (levels t)) d) (variants_depth false vs)

an_item_begins : (p : ℕ → Bool) (n : List ℕ) (M T : Lang) (x R : List ℕ) → p 34 ≡ false → ((c : ℕ) → is_bare_byte c ≡ true → p c ≡ false) → an_item n M T x → begins p (x ++ R) ≡ false
an_item_begins p n M T x R quote bare h = let q = then_parts (named n) (M <> (spaced (codes "=") <> T)) x h in ap (begins p) (q.4 R) ∙ named_begins p n q.0 (q.2 ++ R) quote bare q.1

-- a scale is at least -128
pub signed_least : (z : ℤ) (x : List ℕ) → signed z x → neg_ℤ (pos 128) ≤ℤ z
signed_least z x h = elim h.1 [
  | inl p ↦ grind (arith, p.1)
  | inr m ↦ grind (arith, m.1, m.2)
]

-- ---- types

module _ (deep : ℕ) (part : Reader Tree) (complete : IsComplete deep part) where
  -- what is answered to a text of a type
  abbrev AnswersType : Tree → List ℕ → Outcome (Tree × List ℕ) → Type 0
  AnswersType t rest r = Answers (t, rest) (Valid t) (Refuses t) (levels t) deep r

  -- the same outcome, reached in another way
  as_before : (t : Tree) (rest : List ℕ) (r s : Outcome (Tree × List ℕ)) → r ≡ s → AnswersType t rest s → AnswersType t rest r
  as_before t rest r s e a = under (t, rest) (Valid t) (Refuses t) (levels t) deep r s e a

  -- a type that begins with a word
  word_then : (w : Keyword) (Q : List ℕ → Type 0) (z : List ℕ) → (lit (word_of w) <> Q) z → (y : List ℕ) × Q y × ((rest : List ℕ) → begins goes_word (y ++ rest) ≡ false → type_by part (z ++ rest) ≡ after_keyword part w (y ++ rest))
  unfolding word_by keyword_by
  word_then w Q z h =
      let t = then_parts (lit (word_of w)) Q z h in (
        t.2,
        t.3,
        λ rest none.
            let n = words (t.2 ++ rest) none in
            let e : z ++ rest ≡ word_of w ++ (t.2 ++ rest) = t.4 rest ∙ ap (λ (a : List ℕ). a ++ (t.2 ++ rest)) t.1 in
            let b = word_bytes w in
            let f = b.3 (t.2 ++ rest) in
            let word : type_by part (z ++ rest) ≡ word_by part (z ++ rest) = is_word part (z ++ rest) (ap (begins (λ b. b == 123)) e ∙ f.0) (ap (begins (λ b. b == 34)) e ∙ f.2) in
            let key : keyword_at (z ++ rest) ≡ Some (w, t.2 ++ rest) = ap keyword_at e ∙ keyword_again w (t.2 ++ rest) n.0 in
            let behind : past is_id_byte (z ++ rest) ≡ t.2 ++ rest = ap (past is_id_byte) e ∙ word_past is_id_byte (word_of w) (t.2 ++ rest) b.0 n.0 in
            let open_ : byte_at 91 (past is_id_byte (z ++ rest)) ≡ None = ap (byte_at 91) behind ∙ byte_none 91 (t.2 ++ rest) n.1 in
            word ∙ rw (open_, key) refl,
      )

  -- a type without parts
  plain_again : (w : Keyword) (t : Nullability → Tree) (n : Nullability) (x rest : List ℕ) → ((bytes : List ℕ) → after_keyword part w bytes ≡ marked t bytes) → (lit (word_of w) <> mark n) x → begins goes_on rest ≡ false → type_by part (x ++ rest) ≡ got (t n, rest)
  plain_again w t n x rest is h none =
      let s = stops rest none in
      let b = word_then w (mark n) x h in
      b.2 rest (mark_begins goes_word n b.0 rest refl b.1 s.0) ∙ is (b.0 ++ rest) ∙ marked_again t n b.0 rest b.1 s.1

  null_again : (x rest : List ℕ) → lit (codes "null") x → begins goes_on rest ≡ false → type_by part (x ++ rest) ≡ got (of.null, rest)
  unfolding after_keyword null_at
  null_again x rest h none =
      let s = stops rest none in
      let b = word_then k.Null (lit []) x (codes "null", [], refl, refl, h) in
      let here : begins goes_word (b.0 ++ rest) ≡ false = ap (λ (a : List ℕ). begins goes_word (a ++ rest)) b.1 ∙ s.0 in
      let open_ : byte_at 63 (b.0 ++ rest) ≡ None = ap (λ (a : List ℕ). byte_at 63 (a ++ rest)) b.1 ∙ byte_none 63 rest s.1 in
      b.2 rest here ∙ rw open_ (ap (λ (a : List ℕ). got (of.null, a ++ rest)) b.1)

  -- ---- lists

  wrapped_again : (t : Tree) (x : List ℕ) → in_parentheses (Spells t) x → (rest : List ℕ) → Answers (t, rest) (Valid t) (Refuses t) (suc (levels t)) deep (wrapped_by part (x ++ rest))
  unfolding wrapped_by
  wrapped_again t x h rest =
      let a = byte_then 40 (blanks <> (Spells t <> (blanks <> lit (codes ")")))) x h in
      let b = skip_then (Spells t <> (blanks <> lit (codes ")"))) a.0 a.1 in
      let c = then_parts (Spells t) (blanks <> lit (codes ")")) b.0 b.1 in
      let d = skip_then (lit (codes ")")) c.2 c.3 in
      let e = then_parts blanks (lit (codes ")")) c.2 c.3 in
      let stop : begins goes_on (c.2 ++ rest) ≡ false = ap (begins goes_on) (e.4 rest) ∙ begins_blanks goes_on e.0 (e.2 ++ rest) refl e.1 (ap (λ (z : List ℕ). begins goes_on (z ++ rest)) e.3) in
      let solid : begins opens_gap (b.0 ++ rest) ≡ false = ap (begins opens_gap) (c.4 rest) ∙ type_begins t c.0 (c.2 ++ rest) c.1 in
      let last : begins opens_gap (d.0 ++ rest) ≡ false = ap (λ (z : List ℕ). begins opens_gap (z ++ rest)) d.1 in
      let read = under (t, c.2 ++ rest) (Valid t) (Refuses t) (suc (levels t)) deep (part (b.0 ++ rest)) (part (c.0 ++ (c.2 ++ rest))) (ap part (c.4 rest)) (complete t c.0 (c.2 ++ rest) c.1 stop) in
      rw ((a.2 rest).1, b.2 rest solid)
      (through (t, c.2 ++ rest) (Valid t) (Valid t) (Refuses t) (Refuses t) (suc (levels t)) deep (suc (levels t)) deep (t, rest) (part (b.0 ++ rest)) _ read (λ v. v) (λ e h. h) (λ d. d)
      (λ v le. rw (d.2 rest last, byte_last 41 d.0 d.1 rest) (refl, v, le)))

  list_again : (t : Tree) (n : Nullability) (x rest : List ℕ) → Spells (of.list t n) x → begins goes_on rest ≡ false → AnswersType (of.list t n) rest (type_by part (x ++ rest))
  unfolding after_keyword list_by
  list_again t n x rest h none =
      let w = word_then k.List (in_parentheses (Spells t) <> mark n) x h in
      let a = then_parts (in_parentheses (Spells t)) (mark n) w.0 w.1 in
      let p = byte_then 40 (blanks <> (Spells t <> (blanks <> lit (codes ")")))) a.0 a.1 in
      let here : begins goes_word (w.0 ++ rest) ≡ false = ap (begins goes_word) (a.4 rest ∙ (p.2 (a.2 ++ rest)).0) in
      let inner = under (t, a.2 ++ rest) (Valid t) (Refuses t) (suc (levels t)) deep (wrapped_by part (w.0 ++ rest)) (wrapped_by part (a.0 ++ (a.2 ++ rest))) (ap (wrapped_by part) (a.4 rest)) (wrapped_again t a.0 a.1 (a.2 ++ rest)) in
      as_before (of.list t n) rest (type_by part (x ++ rest)) (list_by part (w.0 ++ rest)) (w.2 rest here)
      (through (t, a.2 ++ rest) (Valid t) (Valid t) (Refuses t) (Refuses t) (suc (levels t)) deep (suc (levels t)) deep (of.list t n, rest) (wrapped_by part (w.0 ++ rest)) _ inner (λ v. v) (λ e h. h) (λ d. d)
      (λ v le. as_got (of.list t n, rest) (Valid t) (Refuses t) (suc (levels t)) deep _ (marked_again (λ m. of.list t m) n a.2 rest a.3 (stops rest none).1) v le))

  size_again : (m : ℕ) (x : List ℕ) → (lit (codes "[") <> (blanks <> (number 4294967295 m <> (blanks <> lit (codes "]"))))) x → (rest : List ℕ) → size_at (x ++ rest) ≡ Some (m, rest)
  unfolding size_at
  size_again m x h rest =
      let N = number 4294967295 m in
      let a = byte_then 91 (blanks <> (N <> (blanks <> lit (codes "]")))) x h in
      let b = skip_then (N <> (blanks <> lit (codes "]"))) a.0 a.1 in
      let c = then_parts N (blanks <> lit (codes "]")) b.0 b.1 in
      let d = skip_then (lit (codes "]")) c.2 c.3 in
      let e = then_parts blanks (lit (codes "]")) c.2 c.3 in
      let stop : begins is_number_byte (c.2 ++ rest) ≡ false = ap (begins is_number_byte) (e.4 rest) ∙ begins_blanks is_number_byte e.0 (e.2 ++ rest) refl e.1 (ap (λ (z : List ℕ). begins is_number_byte (z ++ rest)) e.3) in
      let solid : begins opens_gap (b.0 ++ rest) ≡ false = ap (begins opens_gap) (c.4 rest) ∙ numeral_begins m c.0 (c.2 ++ rest) c.1.1 in
      let read : number_at 4294967295 (b.0 ++ rest) ≡ Some (m, c.2 ++ rest) = ap (number_at 4294967295) (c.4 rest) ∙ number_again 4294967295 m c.0 (c.2 ++ rest) c.1 (omega arith) stop in
      let last : begins opens_gap (d.0 ++ rest) ≡ false = ap (λ (z : List ℕ). begins opens_gap (z ++ rest)) d.1 in
      rw ((a.2 rest).1, b.2 rest solid, read, d.2 rest last, byte_last 93 d.0 d.1 rest) refl

  fixed_again : (t : Tree) (m : ℕ) (n : Nullability) (x rest : List ℕ) → Spells (of.fixed_size_list t m n) x → begins goes_on rest ≡ false → AnswersType (of.fixed_size_list t m n) rest (type_by part (x ++ rest))
  unfolding after_keyword fixed_by
  fixed_again t m n x rest h none =
      let u = of.fixed_size_list t m n in
      let Size = lit (codes "[") <> (blanks <> (number 4294967295 m <> (blanks <> lit (codes "]")))) in
      let w = word_then k.FixedSizeList (in_parentheses (Spells t) <> (Size <> mark n)) x h in
      let a = then_parts (in_parentheses (Spells t)) (Size <> mark n) w.0 w.1 in
      let p = byte_then 40 (blanks <> (Spells t <> (blanks <> lit (codes ")")))) a.0 a.1 in
      let here : begins goes_word (w.0 ++ rest) ≡ false = ap (begins goes_word) (a.4 rest ∙ (p.2 (a.2 ++ rest)).0) in
      let inner = under (t, a.2 ++ rest) (Valid t) (Refuses t) (suc (levels t)) deep (wrapped_by part (w.0 ++ rest)) (wrapped_by part (a.0 ++ (a.2 ++ rest))) (ap (wrapped_by part) (a.4 rest)) (wrapped_again t a.0 a.1 (a.2 ++ rest)) in
      let b = then_parts Size (mark n) a.2 a.3 in
      let small : m < 4294967296 = omega (arith, (size_small m b.0 b.1)) in
      let size : size_at (a.2 ++ rest) ≡ Some (m, b.2 ++ rest) = ap size_at (b.4 rest) ∙ size_again m b.0 b.1 (b.2 ++ rest) in
      as_before u rest (type_by part (x ++ rest)) (fixed_by part (w.0 ++ rest)) (w.2 rest here)
      (through (t, a.2 ++ rest) (Valid t) (Valid u) (Refuses t) (Refuses u) (suc (levels t)) deep (suc (levels t)) deep (u, rest) (wrapped_by part (w.0 ++ rest)) _ inner (λ v. v.1) (λ e h. h) (λ d. d)
      (λ v le. rw size (as_got (u, rest) (Valid u) (Refuses u) (suc (levels t)) deep _ (marked_again (λ q. of.fixed_size_list t m q) n b.2 rest b.3 (stops rest none).1) (small, v) le))) where
        size_small : (m : ℕ) (x : List ℕ) → (lit (codes "[") <> (blanks <> (number 4294967295 m <> (blanks <> lit (codes "]"))))) x → m ≤ 4294967295
        size_small m x h = h.3.3.2.0

  -- ---- structs

  field_again : ReadsItems field_text (λ f. Valid f.1) (λ f. Refuses f.1) (λ f. levels f.1) deep (field_by part)
  unfolding field_by
  field_again f x rest h none =
      let n = f.0 in
      let t = f.1 in
      let T = Spells t in
      let a = then_parts (named n) (lit [] <> (spaced (codes "=") <> T)) x h in
      let m = then_parts (lit []) (spaced (codes "=") <> T) a.2 a.3 in
      let b = then_parts (spaced (codes "=")) T m.2 m.3 in
      let e : a.2 ++ rest ≡ b.0 ++ (b.2 ++ rest) = m.4 rest ∙ ap (λ (z : List ℕ). z ++ (m.2 ++ rest)) m.1 ∙ b.4 rest in
      let behind : begins is_bare_byte (a.2 ++ rest) ≡ false = ap (begins is_bare_byte) e ∙ spaced_begins is_bare_byte 61 b.0 (b.2 ++ rest) refl refl b.1 in
      let name : name_at (x ++ rest) ≡ Some (n, a.2 ++ rest) = ap name_at (a.4 rest) ∙ named_again n a.0 (a.2 ++ rest) a.1 behind in
      let equals : equals_at (a.2 ++ rest) ≡ Some (b.2 ++ rest) = ap equals_at e ∙ equals_again b.0 (b.2 ++ rest) b.1 (type_begins t b.2 rest b.3) in
      rw (name, equals)
      (through (t, rest) (Valid t) (Valid t) (Refuses t) (Refuses t) (suc (levels t)) deep (suc (levels t)) deep (f, rest) (part (b.2 ++ rest)) _ (complete t b.2 rest b.3 none) (λ v. v) (λ e h. h) (λ d. d) (λ v le. (refl, v, le)))

  field_begins : BeginsAsNamed field_text
  field_begins p f x R quote bare h = an_item_begins p f.0 (lit []) (Spells f.1) x R quote bare h

  struct_again : (fs : Fields) (n : Nullability) (x rest : List ℕ) → Spells (of.struct fs n) x → begins goes_on rest ≡ false → AnswersType (of.struct fs n) rest (type_by part (x ++ rest))
  unfolding type_by struct_by
  struct_again fs n x rest h none =
      let u = of.struct fs n in
      let L = SpellsItems false fs in
      let ps = pairs fs in
      let V = λ (f : List ℕ × Tree). Valid f.1 in
      let E = λ (f : List ℕ × Tree). Refuses f.1 in
      let depth = λ (f : List ℕ × Tree). levels f.1 in
      let a = byte_then 123 (blanks <> (L <> (lit (codes "}") <> mark n))) x h in
      let b = then_parts blanks (L <> (lit (codes "}") <> mark n)) a.0 a.1 in
      let c = then_parts L (lit (codes "}") <> mark n) b.2 b.3 in
      let d = byte_then 125 (mark n) c.2 c.3 in
      let R = d.0 ++ rest in
      let s = spelled_fields fs c.0 c.1 in
      let e : b.2 ++ rest ≡ c.0 ++ (125 ∷ R) = c.4 rest ∙ ap (λ (z : List ℕ). c.0 ++ z) (d.2 rest).0 in
      let first : begins opens_gap (b.2 ++ rest) ≡ false = ap (begins opens_gap) e ∙ items_first field_text V E depth deep (field_by part) field_again field_begins ps c.0 (125 ∷ R) s refl in
      let skip : skipped (a.0 ++ rest) ≡ b.2 ++ rest = ap skipped (b.4 rest) ∙ skipped_again b.0 (b.2 ++ rest) b.1 first in
      let items = items_again field_text V E depth deep (field_by part) field_again field_begins 125 refl refl refl refl refl ps c.0 R s in
      let here = under (ps, R) (Good V ps) (OneHas E ps) (deepest depth ps) deep (items_by 125 (field_by part) (skipped (a.0 ++ rest))) (items_by 125 (field_by part) (c.0 ++ (125 ∷ R))) (ap (items_by 125 (field_by part)) (skip ∙ e)) items in
      let said_ = reworded (ps, R) (Good V ps) (ValidItems fs) (OneHas E ps) (RefusesItem fs) (deepest depth ps) (levels_of_items fs) deep _ (valid_fields fs) (fields_valid fs) (fields_refuse fs) (fields_depth fs) here in
      let mark_ : marked (λ m. of.struct (fields ps) m) R ≡ got (u, rest) = marked_again (λ m. of.struct (fields ps) m) n d.0 rest d.1 (stops rest none).1 ∙ ap (λ (gs : Fields). got (of.struct gs n, rest)) (fields_of_pairs fs) in
      as_before u rest (type_by part (x ++ rest)) (type_by part (123 ∷ (a.0 ++ rest))) (ap (type_by part) (a.2 rest).0)
      (through (ps, R) (ValidItems fs) (Valid u) (RefusesItem fs) (Refuses u) (levels_of_items fs) deep (levels_of_items fs) deep (u, rest) (items_by 125 (field_by part) (skipped (a.0 ++ rest))) _ said_ (λ v. v) (λ e h. h) (λ d. d)
      (λ v le. as_got (u, rest) (Valid u) (Refuses u) (levels_of_items fs) deep _ mark_ v le))

  -- ---- unions

  variant_again : ReadsItems variant_text (λ v. Valid v.1.0) (λ v. Refuses v.1.0) (λ v. levels v.1.0) deep (variant_by part)
  unfolding variant_by
  variant_again v x rest h none =
      let n = v.0 in
      let t = v.1.0 in
      let g = v.1.1 in
      let T = Spells t in
      let a = then_parts (named n) (tag_text g <> (spaced (codes "=") <> T)) x h in
      let m = then_parts (tag_text g) (spaced (codes "=") <> T) a.2 a.3 in
      let b = then_parts (spaced (codes "=")) T m.2 m.3 in
      let e : m.2 ++ rest ≡ b.0 ++ (b.2 ++ rest) = b.4 rest in
      let no_bare : begins is_bare_byte (m.2 ++ rest) ≡ false = ap (begins is_bare_byte) e ∙ spaced_begins is_bare_byte 61 b.0 (b.2 ++ rest) refl refl b.1 in
      let no_number : begins is_number_byte (m.2 ++ rest) ≡ false = ap (begins is_number_byte) e ∙ spaced_begins is_number_byte 61 b.0 (b.2 ++ rest) refl refl b.1 in
      let no_tag : begins (λ b. b == 64) (m.2 ++ rest) ≡ false = ap (begins (λ b. b == 64)) e ∙ spaced_begins (λ b. b == 64) 61 b.0 (b.2 ++ rest) refl refl b.1 in
      let behind : begins is_bare_byte (a.2 ++ rest) ≡ false = ap (begins is_bare_byte) (m.4 rest) ∙ tag_begins g m.0 (m.2 ++ rest) m.1 no_bare in
      let name : name_at (x ++ rest) ≡ Some (n, a.2 ++ rest) = ap name_at (a.4 rest) ∙ named_again n a.0 (a.2 ++ rest) a.1 behind in
      let tag : tag_at (a.2 ++ rest) ≡ Some (g, m.2 ++ rest) = ap tag_at (m.4 rest) ∙ tag_again g m.0 (m.2 ++ rest) m.1 no_number no_tag in
      let equals : equals_at (m.2 ++ rest) ≡ Some (b.2 ++ rest) = ap equals_at e ∙ equals_again b.0 (b.2 ++ rest) b.1 (type_begins t b.2 rest b.3) in
      rw (name, tag, equals)
      (through (t, rest) (Valid t) (Valid t) (Refuses t) (Refuses t) (suc (levels t)) deep (suc (levels t)) deep (v, rest) (part (b.2 ++ rest)) _ (complete t b.2 rest b.3 none) (λ v. v) (λ e h. h) (λ d. d) (λ v le. (refl, v, le))) where
        tag_begins : (g : Option ℕ) (y rest : List ℕ) → tag_text g y → begins is_bare_byte rest ≡ false → begins is_bare_byte (y ++ rest) ≡ false
        tag_begins None y rest h none = ap (λ (z : List ℕ). begins is_bare_byte (z ++ rest)) h ∙ none
        tag_begins (Some g) y rest h none = ap (begins is_bare_byte) ((byte_then 64 (number 255 g) y h).2 rest).0

  variant_begins : BeginsAsNamed variant_text
  variant_begins p v x R quote bare h = an_item_begins p v.0 (tag_text v.1.1) (Spells v.1.0) x R quote bare h

  -- variants of which each has its tag, or none has
  variants_again : (tags : Bool) (us : Variants) (n : Nullability) (y z rest : List ℕ) → sequence variant_text (as_read tags us) y → Answers us (AreVariants us) (RefusesVariants us) 0 0 (union_at (as_read tags us)) → mark n z → begins goes_on rest ≡ false
      → AnswersType (of.union us n) rest (items_by 41 (variant_by part) (y ++ (41 ∷ (z ++ rest))) >>= λ vs. union_at vs.0 >>= λ made. marked (λ n. of.union made n) vs.1)
  variants_again tags us n y z rest s made m none =
      let u = of.union us n in
      let vs = as_read tags us in
      let V = λ (v : Read). Valid v.1.0 in
      let E = λ (v : Read). Refuses v.1.0 in
      let depth = λ (v : Read). levels v.1.0 in
      let R = z ++ rest in
      let items = items_again variant_text V E depth deep (variant_by part) variant_again variant_begins 41 refl refl refl refl refl vs y R s in
      let said_ = reworded (vs, R) (Good V vs) (ValidItems us) (OneHas E vs) (RefusesItem us) (deepest depth vs) (levels_of_items us) deep _ (valid_variants tags us) (variants_valid tags us) (variants_refuse tags us) (variants_depth tags us) items in
      through (vs, R) (ValidItems us) (Valid u) (RefusesItem us) (Refuses u) (levels_of_items us) deep (levels_of_items us) deep (u, rest) (items_by 41 (variant_by part) (y ++ (41 ∷ R))) _ said_ (λ v. v.1) (λ e h. inl h) (λ d. d)
      (λ v le. through us (AreVariants us) (Valid u) (RefusesVariants us) (Refuses u) 0 0 (levels_of_items us) deep (u, rest) (union_at vs) _ made (λ w. w.0) (λ e h. inr h) (λ d. absurd (omega (arith, d)))
      (λ w ge. as_got (u, rest) (Valid u) (Refuses u) (levels_of_items us) deep _ (marked_again (λ q. of.union us q) n z rest m (stops rest none).1) (w, v) le))

  union_again : (us : Variants) (n : Nullability) (x rest : List ℕ) → Spells (of.union us n) x → begins goes_on rest ≡ false → AnswersType (of.union us n) rest (type_by part (x ++ rest))
  unfolding after_keyword union_by
  union_again us n x rest h none =
      let u = of.union us n in
      let U : Lang = λ y. SpellsItems true us y ⊎ (AreConsecutive (variant_tags (triples us)) × SpellsItems false us y) in
      let I = blanks <> (U <> lit (codes ")")) in
      let w = word_then k.Union ((lit (codes "(") <> I) <> mark n) x h in
      let m = then_parts (lit (codes "(") <> I) (mark n) w.0 w.1 in
      let R = m.2 ++ rest in
      let a = byte_then 40 I m.0 m.1 in
      let b = then_parts blanks (U <> lit (codes ")")) a.0 a.1 in
      let c = then_parts U (lit (codes ")")) b.2 b.3 in
      let here : begins goes_word (w.0 ++ rest) ≡ false = ap (begins goes_word) (m.4 rest ∙ (a.2 R).0) in
      let e0 : byte_at 40 (w.0 ++ rest) ≡ Some (a.0 ++ R) = ap (byte_at 40) (m.4 rest) ∙ (a.2 R).1 in
      let e1 : b.2 ++ R ≡ c.0 ++ (41 ∷ R) = c.4 R ∙ ap (λ (z : List ℕ). c.0 ++ (z ++ R)) c.3 in
      let go = λ (tags : Bool). λ (s : sequence variant_text (as_read tags us) c.0). λ (made : Answers us (AreVariants us) (RefusesVariants us) 0 0 (union_at (as_read tags us))).
      let first : begins opens_gap (b.2 ++ R) ≡ false = ap (begins opens_gap) e1 ∙ items_first variant_text (λ (v : Read). Valid v.1.0) (λ (v : Read). Refuses v.1.0) (λ (v : Read). levels v.1.0) deep (variant_by part) variant_again variant_begins (as_read tags us) c.0 (41 ∷ R) s refl in
      let skip : skipped (a.0 ++ R) ≡ c.0 ++ (41 ∷ R) = ap skipped (b.4 R) ∙ skipped_again b.0 (b.2 ++ R) b.1 first ∙ e1 in
      as_before u rest (type_by part (x ++ rest)) (union_by part (w.0 ++ rest)) (w.2 rest here)
      (rw (e0, skip) (variants_again tags us n c.0 m.2 rest s made m.3 none)) in
      elim c.1 [
        | inl s ↦ go true (spelled_tagged us c.0 s) (tagged_again us)
        | inr s ↦ go false (spelled_untagged us c.0 s.1) (untagged_again us s.0)
      ]

  -- ---- decimals

  pub decimal_parts_again : (p : ℕ) (z : ℤ) (x rest : List ℕ) → d_parts p z x → decimal_parts (x ++ rest) ≡ Some ((p, z), rest)
  unfolding decimal_parts
  decimal_parts_again p z x rest h =
      let P = number 255 p in
      let Close = blanks <> lit (codes ")") in
      let a0 = byte_then 40 (blanks <> (P <> (spaced (codes ",") <> (signed z <> Close)))) x h in
      let p1 = then_parts blanks (P <> (spaced (codes ",") <> (signed z <> Close))) a0.0 a0.1 in
      let p2 = then_parts P (spaced (codes ",") <> (signed z <> Close)) p1.2 p1.3 in
      let p3 = then_parts (spaced (codes ",")) (signed z <> Close) p2.2 p2.3 in
      let p4 = then_parts (signed z) Close p3.2 p3.3 in
      let p5 = then_parts blanks (lit (codes ")")) p4.2 p4.3 in
      let e1 : skipped (a0.0 ++ rest) ≡ p1.2 ++ rest = ap skipped (p1.4 rest) ∙ skipped_again p1.0 (p1.2 ++ rest) p1.1 (ap (begins opens_gap) (p2.4 rest) ∙ numeral_begins p p2.0 (p2.2 ++ rest) p2.1.1) in
      let stop2 : begins is_number_byte (p2.2 ++ rest) ≡ false = ap (begins is_number_byte) (p3.4 rest) ∙ spaced_begins is_number_byte 44 p3.0 (p3.2 ++ rest) refl refl p3.1 in
      let e2 : number_at 255 (p1.2 ++ rest) ≡ Some (p, p2.2 ++ rest) = ap (number_at 255) (p2.4 rest) ∙ number_again 255 p p2.0 (p2.2 ++ rest) p2.1 (omega arith) stop2 in
      let e3 : comma_at (p2.2 ++ rest) ≡ Some (p3.2 ++ rest) = ap comma_at (p3.4 rest) ∙ comma_again p3.0 (p3.2 ++ rest) p3.1 (ap (begins opens_gap) (p4.4 rest) ∙ signed_begins z p4.0 (p4.2 ++ rest) p4.1) in
      let stop4 : begins is_number_byte (p4.2 ++ rest) ≡ false = ap (begins is_number_byte) (p5.4 rest) ∙ begins_blanks is_number_byte p5.0 (p5.2 ++ rest) refl p5.1 (ap (λ (y : List ℕ). begins is_number_byte (y ++ rest)) p5.3) in
      let e4 : signed_at (p3.2 ++ rest) ≡ Some (z, p4.2 ++ rest) = ap signed_at (p4.4 rest) ∙ signed_again z p4.0 (p4.2 ++ rest) p4.1 stop4 in
      let e5 : skipped (p4.2 ++ rest) ≡ p5.2 ++ rest = ap skipped (p5.4 rest) ∙ skipped_again p5.0 (p5.2 ++ rest) p5.1 (ap (λ (y : List ℕ). begins opens_gap (y ++ rest)) p5.3) in
      rw ((a0.2 rest).1, e1, e2, e3, e4, e5, byte_last 41 p5.2 p5.3 rest) refl

  decimal_again : (d : Decimal) (n : Nullability) (x rest : List ℕ) → Spells (of.decimal d n) x → begins goes_on rest ≡ false → AnswersType (of.decimal d n) rest (type_by part (x ++ rest))
  unfolding after_keyword decimal_at
  decimal_again d n x rest h none =
      let u = of.decimal d n in
      let D = d_parts d.precision d.scale in
      let w = word_then k.Decimal (D <> mark n) x h in
      let a = then_parts D (mark n) w.0 w.1 in
      let p = byte_then 40 (blanks <> (number 255 d.precision <> (spaced (codes ",") <> (signed d.scale <> (blanks <> lit (codes ")")))))) a.0 a.1 in
      let here : begins goes_word (w.0 ++ rest) ≡ false = ap (begins goes_word) (a.4 rest ∙ (p.2 (a.2 ++ rest)).0) in
      let parts_ : decimal_parts (w.0 ++ rest) ≡ Some ((d.precision, d.scale), a.2 ++ rest) = ap decimal_parts (a.4 rest) ∙ decimal_parts_again d.precision d.scale a.0 (a.2 ++ rest) a.1 in
      as_before u rest (type_by part (x ++ rest)) (decimal_at (w.0 ++ rest)) (w.2 rest here)
      (rw parts_ (tested (scale_at_least d.precision d.scale a.0 a.1) (is_decimal d.precision d.scale) refl (marked_again (λ m. of.decimal d m) n a.2 rest a.3 (stops rest none).1))) where
        scale_at_least : (p : ℕ) (z : ℤ) (x : List ℕ) → d_parts p z x → neg_ℤ (pos 128) ≤ℤ z
        scale_at_least p z x h = signed_least z h.3.3.3.3.0 h.3.3.3.3.2

        tested : neg_ℤ (pos 128) ≤ℤ d.scale → (b : Bool) → is_decimal d.precision d.scale ≡ b → {r : Outcome (Tree × List ℕ)} → r ≡ got (of.decimal d n, rest) → AnswersType (of.decimal d n) rest (cond (is_decimal d.precision d.scale) r (refused (decimal_error d.precision d.scale)))
        tested least true t e = rw t (as_got (of.decimal d n, rest) (Valid (of.decimal d n)) (Refuses (of.decimal d n)) 0 deep _ e (decimal_within d.precision d.scale t) (omega arith))
        tested least false t e = rw t (λ v. let clash : false ≡ true = sym t ∙ decimal_test d.precision d.scale v in absurd cc, decimal_refused d.precision d.scale least t)

  -- ---- maps

  sorted_again : (o : Bool) (x rest : List ℕ) → sorted_part o x → keys_sorted_at (x ++ rest) ≡ Some (o, rest)
  unfolding keys_sorted_at
  sorted_again o x rest h =
      let Close = blanks <> lit (codes ")") in
      let V = lit (bool_text o) in
      let p1 = then_parts (spaced (codes ",")) (lit (codes "keys_sorted") <> (spaced (codes "=") <> (V <> Close))) x h in
      let p2 = then_parts (lit (codes "keys_sorted")) (spaced (codes "=") <> (V <> Close)) p1.2 p1.3 in
      let p3 = then_parts (spaced (codes "=")) (V <> Close) p2.2 p2.3 in
      let p4 = then_parts V Close p3.2 p3.3 in
      let p5 = then_parts blanks (lit (codes ")")) p4.2 p4.3 in
      let e1 : comma_at (x ++ rest) ≡ Some (p1.2 ++ rest) = ap comma_at (p1.4 rest) ∙ comma_again p1.0 (p1.2 ++ rest) p1.1 (ap (begins opens_gap) (p2.4 rest) ∙ ap (λ (y : List ℕ). begins opens_gap (y ++ (p2.2 ++ rest))) p2.1) in
      let stop2 : begins is_id_byte (p2.2 ++ rest) ≡ false = ap (begins is_id_byte) (p3.4 rest) ∙ spaced_begins is_id_byte 61 p3.0 (p3.2 ++ rest) refl refl p3.1 in
      let e2 : word_is (codes "keys_sorted") (p1.2 ++ rest) ≡ Some (p2.2 ++ rest) = ap (word_is (codes "keys_sorted")) (p2.4 rest) ∙ word_is_again (codes "keys_sorted") p2.0 (p2.2 ++ rest) refl p2.1 stop2 in
      let first : begins opens_gap (p3.2 ++ rest) ≡ false = ap (begins opens_gap) (p4.4 rest) ∙ bool_begins o p4.0 (p4.2 ++ rest) p4.1 in
      let e3 : equals_at (p2.2 ++ rest) ≡ Some (p3.2 ++ rest) = ap equals_at (p3.4 rest) ∙ equals_again p3.0 (p3.2 ++ rest) p3.1 first in
      let stop4 : begins is_id_byte (p4.2 ++ rest) ≡ false = ap (begins is_id_byte) (p5.4 rest) ∙ begins_blanks is_id_byte p5.0 (p5.2 ++ rest) refl p5.1 (ap (λ (y : List ℕ). begins is_id_byte (y ++ rest)) p5.3) in
      let e4 : bool_at (p3.2 ++ rest) ≡ Some (o, p4.2 ++ rest) = ap bool_at (p4.4 rest) ∙ bool_again o p4.0 (p4.2 ++ rest) p4.1 stop4 in
      let e5 : skipped (p4.2 ++ rest) ≡ p5.2 ++ rest = ap skipped (p5.4 rest) ∙ skipped_again p5.0 (p5.2 ++ rest) p5.1 (ap (λ (y : List ℕ). begins opens_gap (y ++ rest)) p5.3) in
      rw (e1, e2, e3, e4, e5, byte_last 41 p5.2 p5.3 rest) refl where
        bool_begins : (o : Bool) (x rest : List ℕ) → lit (bool_text o) x → begins opens_gap (x ++ rest) ≡ false
        bool_begins true x rest h = ap (λ (y : List ℕ). begins opens_gap (y ++ rest)) h
        bool_begins false x rest h = ap (λ (y : List ℕ). begins opens_gap (y ++ rest)) h

  map_again : (a b : Tree) (o : Bool) (n : Nullability) (x rest : List ℕ) → Spells (of.map_of a b o n) x → begins goes_on rest ≡ false → AnswersType (of.map_of a b o n) rest (type_by part (x ++ rest))
  unfolding after_keyword map_by
  map_again a b o n x rest h none =
      let u = of.map_of a b o n in
      let S = sorted_part o in
      let I = blanks <> (Spells a <> (spaced (codes ",") <> (Spells b <> S))) in
      let w = word_then k.Map ((lit (codes "(") <> I) <> mark n) x h in
      let m = then_parts (lit (codes "(") <> I) (mark n) w.0 w.1 in
      let R = m.2 ++ rest in
      let a0 = byte_then 40 I m.0 m.1 in
      let p1 = then_parts blanks (Spells a <> (spaced (codes ",") <> (Spells b <> S))) a0.0 a0.1 in
      let p2 = then_parts (Spells a) (spaced (codes ",") <> (Spells b <> S)) p1.2 p1.3 in
      let p3 = then_parts (spaced (codes ",")) (Spells b <> S) p2.2 p2.3 in
      let p4 = then_parts (Spells b) S p3.2 p3.3 in
      let p5 = then_parts (spaced (codes ",")) (lit (codes "keys_sorted") <> (spaced (codes "=") <> (lit (bool_text o) <> (blanks <> lit (codes ")"))))) p4.2 p4.3 in
      let here : begins goes_word (w.0 ++ rest) ≡ false = ap (begins goes_word) (m.4 rest ∙ (a0.2 R).0) in
      let e0 : byte_at 40 (w.0 ++ rest) ≡ Some (a0.0 ++ R) = ap (byte_at 40) (m.4 rest) ∙ (a0.2 R).1 in
      let e1 : skipped (a0.0 ++ R) ≡ p1.2 ++ R = ap skipped (p1.4 R) ∙ skipped_again p1.0 (p1.2 ++ R) p1.1 (ap (begins opens_gap) (p2.4 R) ∙ type_begins a p2.0 (p2.2 ++ R) p2.1) in
      let stop2 : begins goes_on (p2.2 ++ R) ≡ false = ap (begins goes_on) (p3.4 R) ∙ spaced_begins goes_on 44 p3.0 (p3.2 ++ R) refl refl p3.1 in
      let key = under (a, p2.2 ++ R) (Valid a) (Refuses a) (suc (levels a)) deep (part (p1.2 ++ R)) (part (p2.0 ++ (p2.2 ++ R))) (ap part (p2.4 R)) (complete a p2.0 (p2.2 ++ R) p2.1 stop2) in
      let e3 : comma_at (p2.2 ++ R) ≡ Some (p3.2 ++ R) = ap comma_at (p3.4 R) ∙ comma_again p3.0 (p3.2 ++ R) p3.1 (ap (begins opens_gap) (p4.4 R) ∙ type_begins b p4.0 (p4.2 ++ R) p4.1) in
      let stop4 : begins goes_on (p4.2 ++ R) ≡ false = ap (begins goes_on) (p5.4 R) ∙ spaced_begins goes_on 44 p5.0 (p5.2 ++ R) refl refl p5.1 in
      let value = under (b, p4.2 ++ R) (Valid b) (Refuses b) (suc (levels b)) deep (part (p3.2 ++ R)) (part (p4.0 ++ (p4.2 ++ R))) (ap part (p4.4 R)) (complete b p4.0 (p4.2 ++ R) p4.1 stop4) in
      let e5 : keys_sorted_at (p4.2 ++ R) ≡ Some (o, R) = sorted_again o p4.2 R p4.3 in
      let made = marked_again (λ q. of.map_of a b o q) n m.2 rest m.3 (stops rest none).1 in
      as_before u rest (type_by part (x ++ rest)) (map_by part (w.0 ++ rest)) (w.2 rest here)
      (rw (e0, e1)
      (through (a, p2.2 ++ R) (Valid a) (Valid u) (Refuses a) (Refuses u) (suc (levels a)) deep (levels u) deep (u, rest) (part (p1.2 ++ R)) _ key (λ v. v.1) (λ e h. inl h) (λ d. omega (arith, d))
      (λ v le. rw e3
      (through (b, p4.2 ++ R) (Valid b) (Valid u) (Refuses b) (Refuses u) (suc (levels b)) deep (levels u) deep (u, rest) (part (p3.2 ++ R)) _ value (λ v. v.2) (λ e h. inr (inl h)) (λ d. omega (arith, d))
      (λ w ge. rw e5 (tested (nullability a) refl made v w (omega (arith, le, ge)))))))) where
        tested : (c : Nullability) → nullability a ≡ c → {r : Outcome (Tree × List ℕ)} → r ≡ got (of.map_of a b o n, rest) → Valid a → Valid b → levels (of.map_of a b o n) ≤ deep → AnswersType (of.map_of a b o n) rest (cond (is_nonnullable (nullability a)) r (refused MapKeyNullable))
        tested NonNullable t {r} e v w le = as_before (of.map_of a b o n) rest (cond (is_nonnullable (nullability a)) r (refused MapKeyNullable)) r (rw t refl) (as_got (of.map_of a b o n, rest) (Valid (of.map_of a b o n)) (Refuses (of.map_of a b o n)) (levels (of.map_of a b o n)) deep r e (t, v, w) le)
        tested Nullable t {r} e v w le = as_before (of.map_of a b o n) rest (cond (is_nonnullable (nullability a)) r (refused MapKeyNullable)) (refused MapKeyNullable) (rw t refl) (λ valid. let clash : Nullable ≡ NonNullable = sym t ∙ valid.0 in absurd cc, inr (inr (refl, t)))

  -- ---- extensions

  extension_by_again : (id b : List ℕ) (s : Tree) (x rest : List ℕ) → (metadata b <> in_parentheses (Spells s)) x → AnswersType (of.extension id b s) rest (extension_by part id (x ++ rest))
  unfolding extension_by
  extension_by_again id b s x rest h =
      let u = of.extension id b s in
      let p = then_parts (metadata b) (in_parentheses (Spells s)) x h in
      let m : metadata_at (x ++ rest) ≡ Some (b, p.2 ++ rest) = ap metadata_at (p.4 rest) ∙ metadata_again b p.0 (p.2 ++ rest) p.1 in
      rw m
      (through (s, rest) (Valid s) (Valid u) (Refuses s) (Refuses u) (suc (levels s)) deep (suc (levels s)) deep (u, rest) (wrapped_by part (p.2 ++ rest)) _ (wrapped_again s p.2 p.3 rest) (λ v. v.1) (λ e h. h) (λ d. d)
      (λ v le. (refl, (bytes_in b p.0 p.1, v), le)))

  extension_again : (id b : List ℕ) (s : Tree) (x rest : List ℕ) → Spells (of.extension id b s) x → AnswersType (of.extension id b s) rest (type_by part (x ++ rest))
  unfolding type_by word_by bare_extension_by quoted_extension_by is_bare_id
  extension_again id b s x rest h =
      let p = then_parts (ident id) (metadata b <> in_parentheses (Spells s)) x h in
      let m = byte_then 91 (blanks <> (lit (codes "0") <> (lit (codes "x") <> (hexes b <> (blanks <> lit (codes "]")))))) in
      let r = p.2 ++ rest in
      let q = then_parts (metadata b) (in_parentheses (Spells s)) p.2 p.3 in
      let open_ = m q.0 q.1 in
      let bracket : r ≡ 91 ∷ (open_.0 ++ (q.2 ++ rest)) = q.4 rest ∙ (open_.2 (q.2 ++ rest)).0 in
      let read = extension_by_again id b s p.2 rest p.3 in
      let u = of.extension id b s in
      elim p.1.1 [
        | inl bare ↦
            let e : x ++ rest ≡ id ++ r = p.4 rest ∙ ap (λ (a : List ℕ). a ++ r) bare.1 in
            let all : list_all is_id_byte id ≡ true = bare_bytes id bare.0 in
            let none : begins is_id_byte r ≡ false = ap (begins is_id_byte) bracket in
            let f : front is_id_byte (x ++ rest) ≡ id = ap (front is_id_byte) e ∙ word_front is_id_byte id r all none in
            let g : past is_id_byte (x ++ rest) ≡ r = ap (past is_id_byte) e ∙ word_past is_id_byte id r all none in
            let word = is_word part (x ++ rest) (ap (begins (λ c. c == 123)) e ∙ id_begins (λ c. c == 123) id r (id_not 123 refl) bare.0) (ap (begins (λ c. c == 34)) e ∙ id_begins (λ c. c == 34) id r (id_not 34 refl) bare.0) in
            let found : byte_at 91 (past is_id_byte (x ++ rest)) ≡ Some (open_.0 ++ (q.2 ++ rest)) = ap (byte_at 91) (g ∙ bracket) in
            as_before u rest (type_by part (x ++ rest)) (extension_by part id r) (word ∙ bare_branch id x rest r _ f g found p.1.0 bare.0) read
        | inr quote ↦
            let q0 = byte_then 34 (units id <> lit (codes "\"")) p.0 quote in
            let v = then_parts (units id) (lit (codes "\"")) q0.0 q0.1 in
            let e : x ++ rest ≡ 34 ∷ (v.0 ++ (34 ∷ r)) = p.4 rest ∙ (q0.2 r).0 ∙ ap (λ (a : List ℕ). 34 ∷ a) (v.4 r ∙ ap (λ (a : List ℕ). v.0 ++ (a ++ r)) v.3) in
            as_before u rest (type_by part (x ++ rest)) (extension_by part id r) (ap (type_by part) e ∙ quoted_branch id (v.0 ++ (34 ∷ r)) r (quoted_again id v.0 r p.1.0 v.1)) read
      ] where
        bare_bytes : (n : List ℕ) → is_bare_id n ≡ true → list_all is_id_byte n ≡ true
        bare_bytes [] e = refl
        bare_bytes (c ∷ n) e = (both (list_all is_id_byte (c ∷ n)) (not (has_special (c ∷ n))) e).0

        bare_branch : (id x rest r open_ : List ℕ) → front is_id_byte (x ++ rest) ≡ id → past is_id_byte (x ++ rest) ≡ r → byte_at 91 (past is_id_byte (x ++ rest)) ≡ Some open_ → is_utf8 id ≡ true → is_bare_id id ≡ true → word_by part (x ++ rest) ≡ extension_by part id r
        bare_branch id x rest r open_ f g found utf8 bare = rw found (rw (f, g, utf8, bare) refl)

        quoted_branch : (id bytes r : List ℕ) → quoted_at bytes ≡ Some (id, r) → type_by part (34 ∷ bytes) ≡ extension_by part id r
        quoted_branch id bytes r h = rw h refl

  pub type_again : (t : Tree) (x rest : List ℕ) → Spells t x → begins goes_on rest ≡ false → AnswersType t rest (type_by part (x ++ rest))
  unfolding after_keyword
  type_again of.null x rest h none = as_got (of.null, rest) (Unit {0}) (λ e. ⊥) 0 deep _ (null_again x rest h none) tt (omega arith)
  type_again (of.bool n) x rest h none = as_got (of.bool n, rest) (Unit {0}) (λ e. ⊥) 0 deep _ (plain_again k.Bool of.bool n x rest (λ bytes. refl) h none) tt (omega arith)
  type_again (of.primitive q n) x rest h none = as_got (of.primitive q n, rest) (Unit {0}) (λ e. ⊥) 0 deep _ (plain_again (k.Primitive q) (of.primitive q) n x rest (λ bytes. refl) h none) tt (omega arith)
  type_again (of.utf8 n) x rest h none = as_got (of.utf8 n, rest) (Unit {0}) (λ e. ⊥) 0 deep _ (plain_again k.Utf8 of.utf8 n x rest (λ bytes. refl) h none) tt (omega arith)
  type_again (of.binary n) x rest h none = as_got (of.binary n, rest) (Unit {0}) (λ e. ⊥) 0 deep _ (plain_again k.Binary of.binary n x rest (λ bytes. refl) h none) tt (omega arith)
  type_again (of.variant n) x rest h none = as_got (of.variant n, rest) (Unit {0}) (λ e. ⊥) 0 deep _ (plain_again k.Variant of.variant n x rest (λ bytes. refl) h none) tt (omega arith)
  type_again (of.list t n) x rest h none = list_again t n x rest h none
  type_again (of.fixed_size_list t m n) x rest h none = fixed_again t m n x rest h none
  type_again (of.struct fs n) x rest h none = struct_again fs n x rest h none
  type_again (of.union us n) x rest h none = union_again us n x rest h none
  type_again (of.decimal d n) x rest h none = decimal_again d n x rest h none
  type_again (of.map_of a b o n) x rest h none = map_again a b o n x rest h none
  type_again (of.extension id b s) x rest h none = extension_again id b s x rest h

-- what is spelled of a type within so many others is read
pub part_complete : (deep : ℕ) → IsComplete deep (part_at deep)
part_complete zero t x rest h none = omega arith
part_complete (suc deep) t x rest h none = one_more (type_by (part_at deep) (x ++ rest)) (type_again deep (part_at deep) (part_complete deep) t x rest h none) where
  one_more : (r : Outcome (Tree × List ℕ)) → Answers (t, rest) (Valid t) (Refuses t) (levels t) deep r → Answers (t, rest) (Valid t) (Refuses t) (suc (levels t)) (suc deep) r
  one_more (got y) a = (a.0, a.1, omega (arith, a.2))
  one_more misspelled a = a
  one_more (refused e) a = a
  one_more (too_deep l) a = omega (arith, a)
