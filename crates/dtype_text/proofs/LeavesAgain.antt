-- SPDX-License-Identifier: Apache-2.0
-- SPDX-FileCopyrightText: Copyright the Vortex contributors

-- What is spelled of leaves is read, whatever follows that doesn't go on with it.
use Rattle.std.proofs.Common.{◌≡◌, ℕ, zero, suc, ◌+◌, ◌-◌, ◌*◌, ◌^◌, ◌<◌, ◌≤◌, Bool, true, false, not, ◌&&◌, ◌||◌, ◌==◌, List, [], ◌∷◌, ◌++◌, length, Option, Some, None, refl, sym, ap, ◌∙◌, append_assoc, arith, inl, inr}
use Rattle.std.specs.Prelude.{nat_lt, nat_le, codes, ℤ, pos, neg_ℤ, is_some}
use Rattle.std.specs.List.{list_all}
use Rattle.std.specs.Char.{is_ascii_digit, digit_value}
use Rattle.std.specs.Str.{is_utf8, bytes_eq}
use Rattle.std.proofs.lemmas.Slice.Eq.{bytes_eq-Decides}
use Rattle.dtype_types.specs.texts.Text.{bool_text}
use Rattle.std.specs.Str.Parse.{digits_value_after}
use Rattle.std.proofs.lemmas.Bool.Decides.{nat_tests}
use Rattle.std.proofs.lemmas.Bool.{eqb-true}
use Rattle.std.proofs.lemmas.List.{length-append}
use Rattle.dtype_base.specs.declared.nullability.Nullability.{Nullability}
use Rattle.dtype_base.specs.declared.nullability.Nullability.TheVariants.{Nullable, NonNullable}
use Rattle.dtype_types.specs.tree.Tree.{Tree}
use Rattle.dtype_text.specs.Read.{◌>>=◌, byte_at, until}
use Rattle.dtype_text.specs.Bare.{is_id_byte, is_bare_byte, is_bare_name, has_special}
use Rattle.dtype_text.specs.Leaves.{is_number_byte, digit_after, number_after, number_of, number_at, hex_at, hex_byte_at, meaning, escape_at, unit_at, quoted_at, bare_at, name_at, skipped, equals_at, is_blank, opens_gap, comma_at, tag_at, signed_at, word_is, bool_at, no_hex, metadata_at}
use Rattle.dtype_text.specs.Types.{marked}
use Rattle.dtype_text.specs.Outcome.{got}
use Rattle.dtype_text.specs.Grammar.{lit, ◌<>◌, blanks, spaced, numeral, number, is_gap, mark, units, in_quotes, named, signed, hexes, metadata}
use Rattle.dtype_text.proofs.Words.{bind_some, some_is, both, begins, word_front, word_past, byte_again, skipped_again}
use Rattle.dtype_text.proofs.LeavesSound.{digit_is}
use Rattle.dtype_text.specs.Within.{tag_text}

-- ---- the first byte

-- no blank and no comment begins with these
abbrev pub is_solid : (ℕ → Bool) → Bool
is_solid p = not (p 32 || (p 9 || (p 10 || (p 13 || p 35))))

either : (a b : Bool) → not (a || b) ≡ true → (a ≡ false) × (not b ≡ true)
either false false e = (refl, refl)
either false true e = absurd cc
either true b e = absurd cc

one_of : (p : ℕ → Bool) (b k : ℕ) (others : Bool) → p k ≡ false → ((b == k) || others) ≡ true → (others ≡ true → p b ≡ false) → p b ≡ false
one_of p b k others no_ h more = split (b == k) refl where
  split : (c : Bool) → (b == k) ≡ c → p b ≡ false
  split true t = let is : b ≡ k = eqb-true b k t in ap p is ∙ no_
  split false t = more (rw t at h)

gap_stops : (p : ℕ → Bool) (b : ℕ) → is_solid p ≡ true → opens_gap b ≡ true → p b ≡ false
gap_stops p b solid h =
    let a = either (p 32) (p 9 || (p 10 || (p 13 || p 35))) solid in
    let c = either (p 9) (p 10 || (p 13 || p 35)) a.1 in
    let d = either (p 10) (p 13 || p 35) c.1 in
    let e = either (p 13) (p 35) d.1 in
    let f : p 35 ≡ false = last (p 35) e.1 in
    let all : ((b == 32) || ((b == 9) || ((b == 10) || ((b == 13) || (b == 35))))) ≡ true = regroup (b == 32) (b == 9) (b == 10) (b == 13) (b == 35) h in
    one_of p b 32 _ a.0 all (λ h.
    one_of p b 9 _ c.0 h (λ h.
    one_of p b 10 _ d.0 h (λ h.
    one_of p b 13 _ e.0 h (λ h.
    ap p (eqb-true b 35 h) ∙ f)))) where
      last : (a : Bool) → not a ≡ true → a ≡ false
      last false e = refl
      last true e = absurd cc

      regroup : (u v w x y : Bool) → ((u || (v || (w || x))) || y) ≡ true → (u || (v || (w || (x || y)))) ≡ true
      regroup true v w x y e = refl
      regroup false true w x y e = refl
      regroup false false true x y e = refl
      regroup false false false x y e = e

-- the first byte of blanks is a blank or begins a comment
gap_first : (b : ℕ) (x : List ℕ) → is_gap false (b ∷ x) ≡ true → opens_gap b ≡ true
gap_first b x h = split (is_blank b) refl where
  split : (c : Bool) → is_blank b ≡ c → opens_gap b ≡ true
  split true t = rw t refl
  split false t = let g : ((b == 35) && is_gap true x) ≡ true = rw t at h in rw t (both (b == 35) (is_gap true x) g).0

pub begins_blanks : (p : ℕ → Bool) (x rest : List ℕ) → is_solid p ≡ true → blanks x → begins p rest ≡ false → begins p (x ++ rest) ≡ false
begins_blanks p [] rest e h g = g
begins_blanks p (b ∷ x) rest e h g = gap_stops p b e (gap_first b x h)

-- ---- one text after another

-- a byte, and what is behind it
pub byte_then : (k : ℕ) (Q : List ℕ → Type 0) (z : List ℕ) → (lit (k ∷ []) <> Q) z → (y : List ℕ) × Q y × ((rest : List ℕ) → (z ++ rest ≡ k ∷ (y ++ rest)) × (byte_at k (z ++ rest) ≡ Some (y ++ rest)))
byte_then k Q z h = (
  h.1,
  h.3,
  λ rest.
      let e : z ++ rest ≡ k ∷ (h.1 ++ rest) = ap (λ (a : List ℕ). a ++ rest) h.4 ∙ ap (λ (a : List ℕ). (a ++ h.1) ++ rest) h.2 in
      (e, ap (byte_at k) e ∙ byte_again k (h.1 ++ rest)),
)

pub byte_last : (k : ℕ) (z : List ℕ) → lit (k ∷ []) z → (rest : List ℕ) → byte_at k (z ++ rest) ≡ Some rest
byte_last k z h rest = ap (λ (a : List ℕ). byte_at k (a ++ rest)) h ∙ byte_again k rest

pub byte_none : (k : ℕ) (bytes : List ℕ) → begins (λ b. b == k) bytes ≡ false → byte_at k bytes ≡ None
byte_none k [] e = refl
byte_none k (b ∷ bytes) e = rw e refl

-- any text, and what is behind it
pub then_parts : (P Q : List ℕ → Type 0) (z : List ℕ) → (P <> Q) z → (x : List ℕ) × P x × (y : List ℕ) × Q y × ((rest : List ℕ) → z ++ rest ≡ x ++ (y ++ rest))
then_parts P Q z h = (h.0, h.2, h.1, h.3, λ rest. ap (λ (a : List ℕ). a ++ rest) h.4 ∙ append_assoc h.0 h.1 rest)

pub skip_then : (Q : List ℕ → Type 0) (z : List ℕ) → (blanks <> Q) z → (y : List ℕ) × Q y × ((rest : List ℕ) → begins opens_gap (y ++ rest) ≡ false → skipped (z ++ rest) ≡ y ++ rest)
skip_then Q z h =
    let p = then_parts blanks Q z h in
    (p.2, p.3, λ rest none. ap skipped (p.4 rest) ∙ skipped_again p.0 (p.2 ++ rest) p.1 none)

-- ---- marks

pub marked_again : (t : Nullability → Tree) (n : Nullability) (x rest : List ℕ) → mark n x → begins (λ b. b == 63) rest ≡ false → marked t (x ++ rest) ≡ got (t n, rest)
unfolding marked
marked_again t Nullable x rest h none = rw h refl
marked_again t NonNullable x [] h none = rw h refl
marked_again t NonNullable x (b ∷ rest) h none = rw (h, none) refl

-- ---- numbers

grows : (n : ℕ) (cs : List ℕ) → n ≤ digits_value_after 10 n cs
grows n [] = omega arith
grows n (c ∷ cs) = omega (arith, grows (n * 10 + digit_value c) cs)

digits_again : (n : ℕ) (cs : List ℕ) → list_all is_ascii_digit cs ≡ true → digits_value_after 10 n cs < 2 ^ 64 → number_after n cs ≡ Some (digits_value_after 10 n cs)
digits_again n [] all fits = refl
digits_again n (c ∷ cs) all fits =
    let b = both (is_ascii_digit c) (list_all is_ascii_digit cs) all in
    let is : n * 10 + (c - 48) ≡ n * 10 + digit_value c = ap (λ d. n * 10 + d) (sym (digit_is c b.0)) in
    let lt : n * 10 + (c - 48) < 2 ^ 64 = omega (arith, is, grows (n * 10 + digit_value c) cs) in
    let test : nat_lt (n * 10 + (c - 48)) (2 ^ 64) ≡ true = grind (arith, nat_tests) in
    let one : digit_after n c ≡ Some (n * 10 + digit_value c) = rw (b.0, test) (ap (λ d. Some d) is) in
    rw one (digits_again (n * 10 + digit_value c) cs b.1 fits)

digit_in_number : (c : ℕ) → is_ascii_digit c ≡ true → is_number_byte c ≡ true
digit_in_number c e = grind (arith, nat_tests)

digits_in_number : (cs : List ℕ) → list_all is_ascii_digit cs ≡ true → list_all is_number_byte cs ≡ true
digits_in_number [] e = refl
digits_in_number (c ∷ cs) e = let b = both (is_ascii_digit c) (list_all is_ascii_digit cs) e in rw (digit_in_number c b.0, digits_in_number cs b.1) refl

numeral_again : (k : ℕ) (x : List ℕ) → numeral k x → k < 2 ^ 64 → number_of x ≡ Some k
unfolding number_of
numeral_again k [] h lt = absurd (h.0 refl)
numeral_again k (c ∷ cs) h lt = digits_again 0 (c ∷ cs) h.1 (omega (arith, h.2)) ∙ ap (λ d. Some d) h.2

pub number_again : (most k : ℕ) (x rest : List ℕ) → number most k x → most < 2 ^ 64 → begins is_number_byte rest ≡ false → number_at most (x ++ rest) ≡ Some (k, rest)
unfolding number_at
number_again most k x rest n lt none =
    let h = n.1 in
    let le = n.0 in
    let all = digits_in_number x h.1 in
    let test : nat_le k most ≡ true = grind (arith, nat_tests) in
    rw (word_front is_number_byte x rest all none, word_past is_number_byte x rest all none, numeral_again k x h (omega arith), test) refl

digit_no_blank : (c : ℕ) → is_ascii_digit c ≡ true → opens_gap c ≡ false
digit_no_blank c e = grind (arith, nat_tests)

pub numeral_begins : (k : ℕ) (x rest : List ℕ) → numeral k x → begins opens_gap (x ++ rest) ≡ false
numeral_begins k [] rest h = absurd (h.0 refl)
numeral_begins k (c ∷ x) rest h = digit_no_blank c (both (is_ascii_digit c) (list_all is_ascii_digit x) h.1).0

-- ---- names

hex_more : (bytes : List ℕ) (b : ℕ) (rest : List ℕ) → hex_byte_at bytes ≡ Some (b, []) → hex_byte_at (bytes ++ rest) ≡ Some (b, rest)
unfolding hex_byte_at
hex_more [] b rest e = absurd cc
hex_more (h ∷ []) b rest e = absurd cc
hex_more (h ∷ l ∷ bytes) b rest e =
    let x = bind_some (hex_at h) (λ high. hex_at l >>= λ low. Some (16 * high + low, bytes)) (b, []) e in
    let y = bind_some (hex_at l) (λ low. Some (16 * x.0 + low, bytes)) (b, []) x.2 in
    let is = some_is (16 * x.0 + y.0, bytes) (b, []) y.2 in
    hex_is h l x.0 y.0 (bytes ++ rest) x.1 y.1 ∙ ap (λ (z : ℕ × List ℕ). Some (z.0, z.1 ++ rest)) is where
      hex_is : (h l high low : ℕ) (bytes : List ℕ) → hex_at h ≡ Some high → hex_at l ≡ Some low → hex_byte_at (h ∷ l ∷ bytes) ≡ Some (16 * high + low, bytes)
      hex_is h l high low bytes e f = rw (e, f) refl

escape_more : (bytes : List ℕ) (b : ℕ) (rest : List ℕ) → escape_at bytes ≡ Some (b, []) → escape_at (bytes ++ rest) ≡ Some (b, rest)
unfolding escape_at
escape_more [] b rest e = absurd cc
escape_more (c ∷ bytes) b rest e = split (c == 120) refl where
  split : (t : Bool) → (c == 120) ≡ t → escape_at ((c ∷ bytes) ++ rest) ≡ Some (b, rest)
  split true t = rw t (hex_more bytes b rest (rw t at e))
  split false t =
      let f = bind_some (meaning c) (λ m. Some (m, bytes)) (b, []) (rw t at e) in
      let is = some_is (f.0, bytes) (b, []) f.2 in
      rw (t, f.1) (ap (λ (z : ℕ × List ℕ). Some (z.0, z.1 ++ rest)) is)

pub unit_more : (bytes : List ℕ) (b : ℕ) (rest : List ℕ) → unit_at bytes ≡ Some (b, []) → unit_at (bytes ++ rest) ≡ Some (b, rest)
unfolding unit_at
unit_more [] b rest e = absurd cc
unit_more (c ∷ bytes) b rest e = split (c == 92) refl where
  split : (t : Bool) → (c == 92) ≡ t → unit_at ((c ∷ bytes) ++ rest) ≡ Some (b, rest)
  split true t = rw t (escape_more bytes b rest (rw t at e))
  split false t = rw t (ap (λ (z : ℕ × List ℕ). Some (z.0, z.1 ++ rest)) (some_is (c, bytes) (b, []) (rw t at e)))

-- no byte in quotes begins with the closing quote
pub unit_open : (u : List ℕ) (b : ℕ) (rest : List ℕ) → unit_at u ≡ Some (b, []) → (u ≡ 34 ∷ [] → ⊥) → byte_at 34 (u ++ rest) ≡ None
unfolding unit_at
unit_open [] b rest e open_ = absurd cc
unit_open (c ∷ u) b rest e open_ = split (c == 34) refl where
  split : (t : Bool) → (c == 34) ≡ t → byte_at 34 ((c ∷ u) ++ rest) ≡ None
  split true t =
      let is : c ≡ 34 = eqb-true c 34 t in
      let e : unit_at (34 ∷ u) ≡ Some (b, []) = rw is at e in
      let last = some_is (34, u) (b, []) e in
      absurd (open_ (ap (λ d. d ∷ u) is ∙ ap (λ (z : ℕ × List ℕ). 34 ∷ z.1) last))
  split false t = rw t refl

pub unit_len : (u : List ℕ) (b : ℕ) → unit_at u ≡ Some (b, []) → 1 ≤ length u
unfolding unit_at
unit_len [] b e = absurd cc
unit_len (c ∷ u) b e = omega arith

pub units_again : (k : ℕ) (n x rest : List ℕ) → units n x → length x < k → until (byte_at 34) unit_at k (x ++ (34 ∷ rest)) ≡ Some (n, rest)
units_again zero n x rest h lt = absurd (omega arith)
units_again (suc k) [] x rest h lt = rw h refl
units_again (suc k) (b ∷ n) x rest h lt =
    let u = h.0 in
    let y = h.1 in
    let e : x ++ (34 ∷ rest) ≡ u ++ (y ++ (34 ∷ rest)) = ap (λ (a : List ℕ). a ++ (34 ∷ rest)) h.4 ∙ append_assoc u y (34 ∷ rest) in
    let len : length x ≡ length u + length y = ap (λ (a : List ℕ). length a) h.4 ∙ length-append u y in
    let more = units_again k n y rest h.3 (omega (arith, len, unit_len u b h.2.0)) in
    let open_ = unit_open u b (y ++ (34 ∷ rest)) h.2.0 h.2.1 in
    let one = unit_more u b (y ++ (34 ∷ rest)) h.2.0 in
    rw (e, open_, one, more) refl

pub quoted_again : (n x rest : List ℕ) → is_utf8 n ≡ true → units n x → quoted_at (x ++ (34 ∷ rest)) ≡ Some (n, rest)
unfolding quoted_at
quoted_again n x rest utf8 h =
    let lt : length x < length (x ++ (34 ∷ rest)) = omega (arith, length-append x (34 ∷ rest)) in
    rw (units_again (length (x ++ (34 ∷ rest))) n x rest h lt, utf8) refl

bare_no_quote : (c : ℕ) → is_bare_byte c ≡ true → (c == 34) ≡ false
bare_no_quote c e = grind (arith, nat_tests)

bare_again : (n rest : List ℕ) → is_utf8 n ≡ true → is_bare_name n ≡ true → begins is_bare_byte rest ≡ false → name_at (n ++ rest) ≡ Some (n, rest)
unfolding name_at bare_at is_bare_name
bare_again [] rest utf8 bare none = absurd cc
bare_again (c ∷ n) rest utf8 bare none =
    let b = both (list_all is_bare_byte (c ∷ n)) (not (has_special (c ∷ n))) bare in
    let first = bare_no_quote c (both (is_bare_byte c) (list_all is_bare_byte n) b.0).0 in
    let f = word_front is_bare_byte (c ∷ n) rest b.0 none in
    let p = word_past is_bare_byte (c ∷ n) rest b.0 none in
    rw (first, f, p, utf8, b.1) refl

in_quotes_again : (n x rest : List ℕ) → is_utf8 n ≡ true → in_quotes n x → name_at (x ++ rest) ≡ Some (n, rest)
unfolding name_at
in_quotes_again n x rest utf8 q =
    let b = byte_then 34 (units n <> lit (codes "\"")) x q in
    let p = then_parts (units n) (lit (codes "\"")) b.0 b.1 in
    let e : x ++ rest ≡ 34 ∷ (p.0 ++ (34 ∷ rest)) = (b.2 rest).0 ∙ ap (λ (a : List ℕ). 34 ∷ a) (p.4 rest ∙ ap (λ (a : List ℕ). p.0 ++ (a ++ rest)) p.3) in
    ap name_at e ∙ quoted_again n p.0 rest utf8 p.1

pub named_again : (n x rest : List ℕ) → named n x → begins is_bare_byte rest ≡ false → name_at (x ++ rest) ≡ Some (n, rest)
named_again n x rest h none = elim h.1 [
  | inl b ↦ ap (λ (a : List ℕ). name_at (a ++ rest)) b.1 ∙ bare_again n rest h.0 b.0 none
  | inr q ↦ in_quotes_again n x rest h.0 q
]

-- a name begins with no blank, and with no byte that closes items
bare_begins : (p : ℕ → Bool) (n rest : List ℕ) → ((c : ℕ) → is_bare_byte c ≡ true → p c ≡ false) → is_bare_name n ≡ true → begins p (n ++ rest) ≡ false
unfolding is_bare_name
bare_begins p [] rest h bare = absurd cc
bare_begins p (c ∷ n) rest h bare =
    let b = both (list_all is_bare_byte (c ∷ n)) (not (has_special (c ∷ n))) bare in
    h c (both (is_bare_byte c) (list_all is_bare_byte n) b.0).0

pub named_begins : (p : ℕ → Bool) (n x rest : List ℕ) → p 34 ≡ false → ((c : ℕ) → is_bare_byte c ≡ true → p c ≡ false) → named n x → begins p (x ++ rest) ≡ false
named_begins p n x rest quote bare h = elim h.1 [
  | inl b ↦ ap (λ (a : List ℕ). begins p (a ++ rest)) b.1 ∙ bare_begins p n rest bare b.0
  | inr q ↦ ap (begins p) ((byte_then 34 (units n <> lit (codes "\"")) x q).2 rest).0 ∙ quote
]

pub equals_again : (x rest : List ℕ) → spaced (codes "=") x → begins opens_gap rest ≡ false → equals_at (x ++ rest) ≡ Some rest
unfolding equals_at
equals_again x rest h none =
    let s = skip_then (lit (codes "=") <> blanks) x h in
    let b = byte_then 61 blanks s.0 s.1 in
    let k = b.2 rest in
    let first : begins opens_gap (s.0 ++ rest) ≡ false = ap (λ (a : List ℕ). begins opens_gap a) k.0 in
    rw (s.2 rest first, k.1) (ap (λ (a : List ℕ). Some a) (skipped_again b.0 rest b.1 none))

pub comma_again : (x rest : List ℕ) → spaced (codes ",") x → begins opens_gap rest ≡ false → comma_at (x ++ rest) ≡ Some rest
unfolding comma_at
comma_again x rest h none =
    let s = skip_then (lit (codes ",") <> blanks) x h in
    let b = byte_then 44 blanks s.0 s.1 in
    let k = b.2 rest in
    let first : begins opens_gap (s.0 ++ rest) ≡ false = ap (λ (a : List ℕ). begins opens_gap a) k.0 in
    rw (s.2 rest first, k.1) (ap (λ (a : List ℕ). Some a) (skipped_again b.0 rest b.1 none))

-- blanks, a byte and blanks begin with none of these
pub spaced_begins : (p : ℕ → Bool) (k : ℕ) (x rest : List ℕ) → is_solid p ≡ true → p k ≡ false → spaced (k ∷ []) x → begins p (x ++ rest) ≡ false
spaced_begins p k x rest e g h =
    let s = then_parts blanks (lit (k ∷ []) <> blanks) x h in
    let b = byte_then k blanks s.2 s.3 in
    ap (begins p) (s.4 rest) ∙ begins_blanks p s.0 (s.2 ++ rest) e s.1 (ap (begins p) (b.2 rest).0 ∙ g)

digit_no_minus : (c : ℕ) → is_ascii_digit c ≡ true → (c == 45) ≡ false
digit_no_minus c e = grind (arith, nat_tests)

signed_front : (x rest : List ℕ) (n : ℕ) → numeral n x → signed_at (x ++ rest) ≡ (number_at 127 (x ++ rest) >>= λ m. Some (pos m.0, m.1))
unfolding signed_at
signed_front [] rest n h = absurd (h.0 refl)
signed_front (c ∷ x) rest n h = rw (digit_no_minus c (both (is_ascii_digit c) (list_all is_ascii_digit x) h.1).0) refl

negative_front : (bytes : List ℕ) → signed_at (45 ∷ bytes) ≡ (number_at 128 bytes >>= λ m. Some (neg_ℤ (pos m.0), m.1))
unfolding signed_at
negative_front bytes = refl

pub tag_again : (g : Option ℕ) (x rest : List ℕ) → tag_text g x → begins is_number_byte rest ≡ false → begins (λ b. b == 64) rest ≡ false → tag_at (x ++ rest) ≡ Some (g, rest)
unfolding tag_at
tag_again None x rest h none no_tag =
    let e : byte_at 64 (x ++ rest) ≡ None = ap (λ (a : List ℕ). byte_at 64 (a ++ rest)) h ∙ byte_none 64 rest no_tag in
    rw e (ap (λ (a : List ℕ). Some (None, a ++ rest)) h)
tag_again (Some g) x rest h none no_tag =
    let b = byte_then 64 (number 255 g) x h in
    rw ((b.2 rest).1, number_again 255 g b.0 rest b.1 (omega arith) none) refl

pub signed_again : (z : ℤ) (x rest : List ℕ) → signed z x → begins is_number_byte rest ≡ false → signed_at (x ++ rest) ≡ Some (z, rest)
signed_again z x rest h none = elim h.1 [
  | inl a ↦ signed_front x rest h.0 a.0 ∙ rw (number_again 127 h.0 x rest (a.2, a.0) (omega arith) none) (ap (λ w. Some (w, rest)) (sym a.1))
  | inr a ↦
      let b = byte_then 45 (numeral h.0) x a.0 in
      ap signed_at (b.2 rest).0 ∙ negative_front (b.0 ++ rest) ∙ rw (number_again 128 h.0 b.0 rest (a.2, b.1) (omega arith) none) (ap (λ w. Some (w, rest)) (sym a.1))
]

pub signed_begins : (z : ℤ) (x rest : List ℕ) → signed z x → begins opens_gap (x ++ rest) ≡ false
signed_begins z x rest h = elim h.1 [
  | inl a ↦ numeral_begins h.0 x rest a.0
  | inr a ↦ ap (begins opens_gap) ((byte_then 45 (numeral h.0) x a.0).2 rest).0
]

pub word_is_again : (t x rest : List ℕ) → list_all is_id_byte t ≡ true → lit t x → begins is_id_byte rest ≡ false → word_is t (x ++ rest) ≡ Some rest
unfolding word_is
word_is_again t x rest all h none =
    let w : list_all is_id_byte x ≡ true = ap (list_all is_id_byte) h ∙ all in
    let same_ : bytes_eq x t ≡ true = (bytes_eq-Decides x t).1 h in
    rw (word_front is_id_byte x rest w none, word_past is_id_byte x rest w none, same_) refl

pub bool_again : (o : Bool) (x rest : List ℕ) → lit (bool_text o) x → begins is_id_byte rest ≡ false → bool_at (x ++ rest) ≡ Some (o, rest)
unfolding bool_at
bool_again true x rest h none =
    let w : list_all is_id_byte x ≡ true = ap (list_all is_id_byte) h in
    rw (word_front is_id_byte x rest w none, word_past is_id_byte x rest w none, h) refl
bool_again false x rest h none =
    let w : list_all is_id_byte x ≡ true = ap (list_all is_id_byte) h in
    rw (word_front is_id_byte x rest w none, word_past is_id_byte x rest w none, h) refl

pair_open : (u : List ℕ) (b : ℕ) (rest : List ℕ) → hex_byte_at u ≡ Some (b, []) → (no_hex (u ++ rest) ≡ None) × (1 ≤ length u)
unfolding hex_byte_at
pair_open [] b rest e = absurd cc
pair_open (h ∷ []) b rest e = absurd cc
pair_open (h ∷ l ∷ u) b rest e =
    let x = bind_some (hex_at h) (λ high. hex_at l >>= λ low. Some (16 * high + low, u)) (b, []) e in
    (rw x.1 refl, omega arith)

hexes_again : (k : ℕ) (b x rest : List ℕ) → hexes b x → length x < k → no_hex rest ≡ Some rest → until no_hex hex_byte_at k (x ++ rest) ≡ Some (b, rest)
hexes_again zero b x rest h lt end = absurd (omega arith)
hexes_again (suc k) [] x rest h lt end = let e : no_hex (x ++ rest) ≡ Some rest = ap (λ (a : List ℕ). no_hex (a ++ rest)) h ∙ end in rw e refl
hexes_again (suc k) (b ∷ bs) x rest h lt end =
    let u = h.0 in
    let y = h.1 in
    let e : x ++ rest ≡ u ++ (y ++ rest) = ap (λ (a : List ℕ). a ++ rest) h.4 ∙ append_assoc u y rest in
    let len : length x ≡ length u + length y = ap (λ (a : List ℕ). length a) h.4 ∙ length-append u y in
    let o = pair_open u b (y ++ rest) h.2 in
    let more = hexes_again k bs y rest h.3 (omega (arith, len, o.1)) end in
    rw (e, o.0, hex_more u b (y ++ rest) h.2, more) refl

not_hex : (bytes : List ℕ) → begins (λ b. is_some (hex_at b)) bytes ≡ false → no_hex bytes ≡ Some bytes
not_hex [] e = refl
not_hex (b ∷ bytes) e = rw e refl

pub metadata_again : (b x rest : List ℕ) → metadata b x → metadata_at (x ++ rest) ≡ Some (b, rest)
unfolding metadata_at
metadata_again b x rest h =
    let H = hexes b in
    let Close = blanks <> lit (codes "]") in
    let a0 = byte_then 91 (blanks <> (lit (codes "0") <> (lit (codes "x") <> (H <> Close)))) x h in
    let a1 = skip_then (lit (codes "0") <> (lit (codes "x") <> (H <> Close))) a0.0 a0.1 in
    let p1 = then_parts blanks (lit (codes "0") <> (lit (codes "x") <> (H <> Close))) a0.0 a0.1 in
    let a2 = byte_then 48 (lit (codes "x") <> (H <> Close)) p1.2 p1.3 in
    let a3 = byte_then 120 (H <> Close) a2.0 a2.1 in
    let a4 = then_parts H Close a3.0 a3.1 in
    let a5 = skip_then (lit (codes "]")) a4.2 a4.3 in
    let p5 = then_parts blanks (lit (codes "]")) a4.2 a4.3 in
    let e1 : skipped (a0.0 ++ rest) ≡ p1.2 ++ rest = ap skipped (p1.4 rest) ∙ skipped_again p1.0 (p1.2 ++ rest) p1.1 (ap (begins opens_gap) (a2.2 rest).0) in
    let behind : begins (λ b. is_some (hex_at b)) (a4.2 ++ rest) ≡ false = ap (begins (λ b. is_some (hex_at b))) (p5.4 rest) ∙ begins_blanks (λ b. is_some (hex_at b)) p5.0 (p5.2 ++ rest) refl p5.1 (ap (λ (z : List ℕ). begins (λ b. is_some (hex_at b)) (z ++ rest)) p5.3) in
    let len : length a4.0 < length (x ++ rest) = omega (arith, ap length (a0.2 rest).0, ap length (p1.4 rest), ap length (a2.2 rest).0, ap length (a3.2 rest).0, ap length (a4.4 rest), length-append p1.0 (p1.2 ++ rest), length-append a4.0 (a4.2 ++ rest)) in
    let e4 : until no_hex hex_byte_at (length (x ++ rest)) (a3.0 ++ rest) ≡ Some (b, a4.2 ++ rest) = ap (until no_hex hex_byte_at (length (x ++ rest))) (a4.4 rest) ∙ hexes_again (length (x ++ rest)) b a4.0 (a4.2 ++ rest) a4.1 len (not_hex (a4.2 ++ rest) behind) in
    let last : begins opens_gap (a5.0 ++ rest) ≡ false = ap (λ (z : List ℕ). begins opens_gap (z ++ rest)) a5.1 in
    rw ((a0.2 rest).1, e1, (a2.2 rest).1, (a3.2 rest).1, e4, a5.2 rest last, byte_last 93 a5.0 a5.1 rest) refl
