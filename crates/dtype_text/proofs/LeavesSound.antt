-- SPDX-License-Identifier: Apache-2.0
-- SPDX-FileCopyrightText: Copyright the Vortex contributors

-- What is read of leaves is spelled so.
use Rattle.std.proofs.Common.{◌≡◌, ℕ, zero, suc, ◌+◌, ◌-◌, ◌*◌, ◌^◌, ◌<◌, ◌≤◌, Bool, true, false, cond, not, ◌&&◌, ◌==◌, List, [], ◌∷◌, ◌++◌, length, Option, Some, None, refl, sym, ap, subst, ◌∙◌, append_assoc, arith, inl, inr}
use Rattle.std.specs.Prelude.{nat_lt, nat_le, codes, ℤ, pos, neg_ℤ, is_some}
use Rattle.std.specs.List.{list_all, AllByRecursion}
use Rattle.std.proofs.lemmas.List.Elements.{All-from_recursion}
use Rattle.dtype_base.specs.Bytes.{Bytes}
use Rattle.std.specs.Char.{is_ascii_digit, digit_value}
use Rattle.std.specs.Str.{is_utf8, bytes_eq}
use Rattle.std.proofs.lemmas.Slice.Eq.{bytes_eq-Decides}
use Rattle.dtype_types.specs.texts.Text.{bool_text}
use Rattle.std.specs.Str.Parse.{digits_value_after}
use Rattle.std.proofs.lemmas.Bool.Decides.{nat_tests}
use Rattle.std.proofs.lemmas.Bool.{eqb-true}
use Rattle.dtype_text.specs.Read.{◌>>=◌, byte_at, with_first, until}
use Rattle.dtype_text.specs.Bare.{is_id_byte, is_bare_byte, is_bare_name, is_some_text, has_special}
use Rattle.dtype_text.specs.Leaves.{front, past, is_number_byte, nullability_at, digit_after, number_after, number_of, number_at, hex_at, hex_byte_at, meaning, escape_at, unit_at, quoted_at, bare_at, name_at, skipped, equals_at, comma_at, tag_at, signed_at, word_is, bool_at, no_hex, metadata_at}
use Rattle.dtype_text.specs.Grammar.{lit, ◌<>◌, blanks, spaced, numeral, number, mark, units, named, signed, hexes, metadata}
use Rattle.dtype_text.specs.Within.{tag_text}
use Rattle.dtype_text.proofs.Words.{bind_some, some_is, test_some, both, Takes, takes_then, takes_none, front_all, front_past, byte_takes, skipped_takes}

-- ---- marks

pub nullability_takes : (bytes : List ℕ) → Takes (mark (nullability_at bytes).0) bytes (nullability_at bytes).1
nullability_takes [] = record { text = []; spelled = refl; parts = refl }
nullability_takes (b ∷ bytes) = split (b == 63) refl where
  split : (c : Bool) → (b == 63) ≡ c → Takes (mark (nullability_at (b ∷ bytes)).0) (b ∷ bytes) (nullability_at (b ∷ bytes)).1
  split true e = rw e (let h : b ≡ 63 = eqb-true b 63 e in record { text = 63 ∷ []; spelled = refl; parts = cc })
  split false e = rw e (record { text = []; spelled = refl; parts = refl })

-- ---- numbers

pub digit_is : (c : ℕ) → is_ascii_digit c ≡ true → digit_value c ≡ c - 48
digit_is c e = grind (arith, nat_tests)

digit_sound : (n c m : ℕ) → digit_after n c ≡ Some m → (is_ascii_digit c ≡ true) × (m ≡ n * 10 + digit_value c)
digit_sound n c m e =
    let t = test_some (is_ascii_digit c && nat_lt (n * 10 + (c - 48)) (2 ^ 64)) (n * 10 + (c - 48)) m e in
    let b = both (is_ascii_digit c) (nat_lt (n * 10 + (c - 48)) (2 ^ 64)) t.0 in
    (b.0, sym t.1 ∙ ap (λ d. n * 10 + d) (sym (digit_is c b.0)))

number_sound : (n : ℕ) (cs : List ℕ) (k : ℕ) → number_after n cs ≡ Some k → (list_all is_ascii_digit cs ≡ true) × (digits_value_after 10 n cs ≡ k)
number_sound n [] k e = (refl, some_is n k e)
number_sound n (c ∷ cs) k e =
    let b = bind_some (digit_after n c) (λ m. number_after m cs) k e in
    let d = digit_sound n c b.0 b.1 in
    let more = number_sound b.0 cs k b.2 in
    (rw (d.0, more.0) refl, ap (λ m. digits_value_after 10 m cs) (sym d.1) ∙ more.1)

number_is : (w : List ℕ) (k : ℕ) → number_of w ≡ Some k → numeral k w
unfolding number_of
number_is [] k e = absurd cc
number_is (c ∷ cs) k e = let h = number_sound 0 (c ∷ cs) k e in (λ f. cc, h.0, h.1)

pub number_takes : (most : ℕ) (bytes : List ℕ) (x : ℕ × List ℕ) → number_at most bytes ≡ Some x → Takes (number most x.0) bytes x.1
unfolding number_at
number_takes most bytes x e =
    let b = bind_some (number_of (front is_number_byte bytes)) (λ n. cond (nat_le n most) (Some (n, past is_number_byte bytes)) None) x e in
    let t = test_some (nat_le b.0 most) (b.0, past is_number_byte bytes) x b.2 in
    let le : b.0 ≤ most = grind (arith, nat_tests, t.0) in
    subst (λ (y : ℕ × List ℕ). Takes (number most y.0) bytes y.1) t.1
    (record { text = front is_number_byte bytes; spelled = (le, number_is (front is_number_byte bytes) b.0 b.1); parts = front_past is_number_byte bytes })

-- ---- names

-- the text that spells a byte in quotes
pub record TakesUnit (bytes : List ℕ) (b : ℕ) (rest : List ℕ) : Type 0 where
  pub text : List ℕ
  pub spelled : unit_at text ≡ Some (b, [])
  pub parts : bytes ≡ text ++ rest

pub hex_again : (h l high low : ℕ) (bytes : List ℕ) → hex_at h ≡ Some high → hex_at l ≡ Some low → hex_byte_at (h ∷ l ∷ bytes) ≡ Some (16 * high + low, bytes)
unfolding hex_byte_at
hex_again h l high low bytes e f = rw (e, f) refl

hex_takes : (bytes : List ℕ) (x : ℕ × List ℕ) → hex_byte_at bytes ≡ Some x → (h l : ℕ) × (bytes ≡ h ∷ l ∷ x.1) × (hex_byte_at (h ∷ l ∷ []) ≡ Some (x.0, []))
unfolding hex_byte_at
hex_takes [] x e = absurd cc
hex_takes (h ∷ []) x e = absurd cc
hex_takes (h ∷ l ∷ bytes) x e =
    let a = bind_some (hex_at h) (λ high. hex_at l >>= λ low. Some (16 * high + low, bytes)) x e in
    let b = bind_some (hex_at l) (λ low. Some (16 * a.0 + low, bytes)) x a.2 in
    let is = some_is (16 * a.0 + b.0, bytes) x b.2 in
    (h, l, ap (λ (y : ℕ × List ℕ). h ∷ l ∷ y.1) is, hex_again h l a.0 b.0 [] a.1 b.1 ∙ ap (λ (y : ℕ × List ℕ). Some (y.0, [])) is)

escape_takes : (bytes : List ℕ) (x : ℕ × List ℕ) → escape_at bytes ≡ Some x → (u : List ℕ) × (bytes ≡ u ++ x.1) × (escape_at u ≡ Some (x.0, []))
unfolding escape_at
escape_takes [] x e = absurd cc
escape_takes (b ∷ bytes) x e = split (b == 120) refl where
  split : (c : Bool) → (b == 120) ≡ c → (u : List ℕ) × (b ∷ bytes ≡ u ++ x.1) × (escape_at u ≡ Some (x.0, []))
  split true t =
      let h = hex_takes bytes x (rw t at e) in
      (b ∷ h.0 ∷ h.1 ∷ [], ap (λ (ys : List ℕ). b ∷ ys) h.2, rw t h.3)
  split false t =
      let f = bind_some (meaning b) (λ m. Some (m, bytes)) x (rw t at e) in
      let is = some_is (f.0, bytes) x f.2 in
      (b ∷ [], ap (λ (y : ℕ × List ℕ). b ∷ y.1) is, rw (t, f.1) (ap (λ (y : ℕ × List ℕ). Some (y.0, [])) is))

pub unit_takes : (bytes : List ℕ) (x : ℕ × List ℕ) → unit_at bytes ≡ Some x → TakesUnit bytes x.0 x.1
unfolding unit_at
unit_takes [] x e = absurd cc
unit_takes (b ∷ bytes) x e = split (b == 92) refl where
  split : (c : Bool) → (b == 92) ≡ c → TakesUnit (b ∷ bytes) x.0 x.1
  split true t =
      let h = escape_takes bytes x (rw t at e) in
      record { text = b ∷ h.0; spelled = rw t h.2; parts = ap (λ (ys : List ℕ). b ∷ ys) h.1 }
  split false t =
      let is = some_is (b, bytes) x (rw t at e) in
      record { text = b ∷ []; spelled = rw t (ap (λ (y : ℕ × List ℕ). Some (y.0, [])) is); parts = ap (λ (y : ℕ × List ℕ). b ∷ y.1) is }

-- the text of one byte in quotes, before those of others
units_then : (bytes : List ℕ) (b : ℕ) (after : List ℕ) (n rest : List ℕ) → TakesUnit bytes b after → byte_at 34 bytes ≡ None
    → Takes (units n <> lit (codes "\"")) after rest → Takes (units (b ∷ n) <> lit (codes "\"")) bytes rest
units_then bytes b after n rest u open_ t =
    let s = t.spelled in record {
      text = u.text ++ t.text;
      spelled = (u.text ++ s.0, s.1, (u.text, s.0, (u.spelled, λ is. no_quote bytes u.text after u.parts is open_), s.2, refl), s.3, ap (λ (y : List ℕ). u.text ++ y) s.4 ∙ sym (append_assoc u.text s.0 s.1));
      parts = u.parts ∙ ap (λ (y : List ℕ). u.text ++ y) t.parts ∙ sym (append_assoc u.text t.text rest);
    } where
      no_quote : (bytes u after : List ℕ) → bytes ≡ u ++ after → u ≡ 34 ∷ [] → byte_at 34 bytes ≡ None → ⊥
      no_quote bytes u after parts is none =
          let e : bytes ≡ 34 ∷ after = parts ∙ ap (λ (y : List ℕ). y ++ after) is in
          let h : byte_at 34 (34 ∷ after) ≡ None = subst (λ (y : List ℕ). byte_at 34 y ≡ None) e none in
          absurd cc

-- one item more was read
pub with_first_some : {A : Type 0} (x : A) (r : Option (List A × List ℕ)) (y : List A × List ℕ) → with_first x r ≡ Some y → (xs : List A) × (r ≡ Some (xs, y.1)) × (y.0 ≡ x ∷ xs)
with_first_some x (Some r) y e =
    let is = some_is (x ∷ r.0, r.1) y e in
    (r.0, ap (λ z. Some (r.0, z.1)) is, sym (ap (λ z. z.0) is))
with_first_some x None y e = absurd cc

pub units_take : (k : ℕ) (bytes : List ℕ) (x : List ℕ × List ℕ) → until (byte_at 34) unit_at k bytes ≡ Some x → Takes (units x.0 <> lit (codes "\"")) bytes x.1
units_take zero bytes x e = absurd cc
units_take (suc k) bytes x e = split (byte_at 34 bytes) refl (λ after r. units_take k after r) where
  split : (c : Option (List ℕ)) → byte_at 34 bytes ≡ c → ((after : List ℕ) (r : List ℕ × List ℕ) → until (byte_at 34) unit_at k after ≡ Some r → Takes (units r.0 <> lit (codes "\"")) after r.1) → Takes (units x.0 <> lit (codes "\"")) bytes x.1
  split (Some rest) t more =
      let is = some_is ([], rest) x (rw t at e) in
      subst (λ (y : List ℕ × List ℕ). Takes (units y.0 <> lit (codes "\"")) bytes y.1) is
      (takes_then (lit []) (lit (codes "\"")) bytes bytes rest (takes_none bytes) (byte_takes 34 bytes rest t))
  split None t more =
      let b = bind_some (unit_at bytes) (λ u. with_first u.0 (until (byte_at 34) unit_at k u.1)) x (rw t at e) in
      let w = with_first_some b.0.0 (until (byte_at 34) unit_at k b.0.1) x b.2 in
      let first = unit_takes bytes b.0 b.1 in
      let others = more b.0.1 (w.0, x.1) w.1 in
      subst (λ (n : List ℕ). Takes (units n <> lit (codes "\"")) bytes x.1) (sym w.2) (units_then bytes b.0.0 b.0.1 w.0 x.1 first t others)

pub quoted_takes : (bytes : List ℕ) (x : List ℕ × List ℕ) → quoted_at bytes ≡ Some x → Takes (units x.0 <> lit (codes "\"")) bytes x.1 × (is_utf8 x.0 ≡ true)
unfolding quoted_at
quoted_takes bytes x e =
    let b = bind_some (until (byte_at 34) unit_at (length bytes) bytes) (λ us. cond (is_utf8 us.0) (Some us) None) x e in
    let t = test_some (is_utf8 b.0.0) b.0 x b.2 in
    subst (λ (y : List ℕ × List ℕ). Takes (units y.0 <> lit (codes "\"")) bytes y.1 × (is_utf8 y.0 ≡ true)) t.1 (units_take (length bytes) bytes b.0 b.1, t.0)

bare_takes : (bytes : List ℕ) (x : List ℕ × List ℕ) → bare_at bytes ≡ Some x → Takes (named x.0) bytes x.1
unfolding bare_at is_bare_name
bare_takes bytes x e =
    let n = front is_bare_byte bytes in
    let t = test_some (is_utf8 n && (is_some_text n && not (has_special n))) (n, past is_bare_byte bytes) x e in
    let u = both (is_utf8 n) (is_some_text n && not (has_special n)) t.0 in
    let v = both (is_some_text n) (not (has_special n)) u.1 in
    let bare : is_bare_name n ≡ true = rw (v.0, front_all is_bare_byte bytes, v.1) refl in
    subst (λ (y : List ℕ × List ℕ). Takes (named y.0) bytes y.1) t.1 (record { text = n; spelled = (u.0, inl (bare, refl)); parts = front_past is_bare_byte bytes })

pub name_takes : (bytes : List ℕ) (x : List ℕ × List ℕ) → name_at bytes ≡ Some x → Takes (named x.0) bytes x.1
unfolding name_at
name_takes [] x e = bare_takes [] x e
name_takes (b ∷ bytes) x e = split (b == 34) refl where
  split : (c : Bool) → (b == 34) ≡ c → Takes (named x.0) (b ∷ bytes) x.1
  split true t =
      let q = quoted_takes bytes x (rw t at e) in
      let h : b ≡ 34 = eqb-true b 34 t in
      record { text = b ∷ q.0.text; spelled = (q.1, inr (b ∷ [], q.0.text, ap (λ (c : ℕ). c ∷ []) h, q.0.spelled, refl)); parts = ap (λ (ys : List ℕ). b ∷ ys) q.0.parts }
  split false t = bare_takes (b ∷ bytes) x (rw t at e)

pub equals_takes : (bytes rest : List ℕ) → equals_at bytes ≡ Some rest → Takes (spaced (codes "=")) bytes rest
unfolding equals_at
equals_takes bytes rest e =
    let b = bind_some (byte_at 61 (skipped bytes)) (λ r. Some (skipped r)) rest e in
    let is = some_is (skipped b.0) rest b.2 in
    subst (λ (y : List ℕ). Takes (spaced (codes "=")) bytes y) is
    (takes_then blanks (lit (codes "=") <> blanks) bytes (skipped bytes) (skipped b.0) (skipped_takes bytes)
    (takes_then (lit (codes "=")) blanks (skipped bytes) b.0 (skipped b.0) (byte_takes 61 (skipped bytes) b.0 b.1) (skipped_takes b.0)))

pub comma_takes : (bytes rest : List ℕ) → comma_at bytes ≡ Some rest → Takes (spaced (codes ",")) bytes rest
unfolding comma_at
comma_takes bytes rest e =
    let b = bind_some (byte_at 44 (skipped bytes)) (λ r. Some (skipped r)) rest e in
    let is = some_is (skipped b.0) rest b.2 in
    subst (λ (y : List ℕ). Takes (spaced (codes ",")) bytes y) is
    (takes_then blanks (lit (codes ",") <> blanks) bytes (skipped bytes) (skipped b.0) (skipped_takes bytes)
    (takes_then (lit (codes ",")) blanks (skipped bytes) b.0 (skipped b.0) (byte_takes 44 (skipped bytes) b.0 b.1) (skipped_takes b.0)))

pub tag_takes : (bytes : List ℕ) (x : Option ℕ × List ℕ) → tag_at bytes ≡ Some x → Takes (tag_text x.0) bytes x.1
unfolding tag_at
tag_takes bytes x e = split (byte_at 64 bytes) refl where
  split : (c : Option (List ℕ)) → byte_at 64 bytes ≡ c → Takes (tag_text x.0) bytes x.1
  split None t = subst (λ (y : Option ℕ × List ℕ). Takes (tag_text y.0) bytes y.1) (some_is (None, bytes) x (rw t at e)) (takes_none bytes)
  split (Some behind) t =
      let n = bind_some (number_at 255 behind) (λ g. Some (Some g.0, g.1)) x (rw t at e) in
      subst (λ (y : Option ℕ × List ℕ). Takes (tag_text y.0) bytes y.1) (some_is (Some n.0.0, n.0.1) x n.2)
      (takes_then (lit (codes "@")) (number 255 n.0.0) bytes behind n.0.1 (byte_takes 64 bytes behind t) (number_takes 255 behind n.0 n.1))

pub signed_takes : (bytes : List ℕ) (x : ℤ × List ℕ) → signed_at bytes ≡ Some x → Takes (signed x.0) bytes x.1
unfolding signed_at
signed_takes [] x e = absurd cc
signed_takes (b ∷ bytes) x e = split (b == 45) refl where
  split : (c : Bool) → (b == 45) ≡ c → Takes (signed x.0) (b ∷ bytes) x.1
  split true t =
      let n = bind_some (number_at 128 bytes) (λ n. Some (neg_ℤ (pos n.0), n.1)) x (rw t at e) in
      let k = number_takes 128 bytes n.0 n.1 in
      let h : b ≡ 45 = eqb-true b 45 t in
      subst (λ (y : ℤ × List ℕ). Takes (signed y.0) (b ∷ bytes) y.1) (some_is (neg_ℤ (pos n.0.0), n.0.1) x n.2)
      (record { text = b ∷ k.text; spelled = (n.0.0, inr ((b ∷ [], k.text, ap (λ (d : ℕ). d ∷ []) h, k.spelled.1, refl), refl, k.spelled.0)); parts = ap (λ (ys : List ℕ). b ∷ ys) k.parts })
  split false t =
      let n = bind_some (number_at 127 (b ∷ bytes)) (λ n. Some (pos n.0, n.1)) x (rw t at e) in
      let k = number_takes 127 (b ∷ bytes) n.0 n.1 in
      subst (λ (y : ℤ × List ℕ). Takes (signed y.0) (b ∷ bytes) y.1) (some_is (pos n.0.0, n.0.1) x n.2)
      (record { text = k.text; spelled = (n.0.0, inl (k.spelled.1, refl, k.spelled.0)); parts = k.parts })

pub word_takes : (t bytes rest : List ℕ) → word_is t bytes ≡ Some rest → Takes (lit t) bytes rest
unfolding word_is
word_takes t bytes rest e =
    let w = front is_id_byte bytes in
    let b = test_some (bytes_eq w t) (past is_id_byte bytes) rest e in
    subst (λ (y : List ℕ). Takes (lit t) bytes y) b.1 (record { text = w; spelled = (bytes_eq-Decides w t).0 b.0; parts = front_past is_id_byte bytes })

pub bool_takes : (bytes : List ℕ) (x : Bool × List ℕ) → bool_at bytes ≡ Some x → Takes (lit (bool_text x.0)) bytes x.1
unfolding bool_at
bool_takes bytes x e = split (bytes_eq (front is_id_byte bytes) (codes "true")) refl where
  split : (c : Bool) → bytes_eq (front is_id_byte bytes) (codes "true") ≡ c → Takes (lit (bool_text x.0)) bytes x.1
  split true t =
      subst (λ (y : Bool × List ℕ). Takes (lit (bool_text y.0)) bytes y.1) (some_is (true, past is_id_byte bytes) x (rw t at e))
      (record { text = front is_id_byte bytes; spelled = (bytes_eq-Decides (front is_id_byte bytes) (codes "true")).0 t; parts = front_past is_id_byte bytes })
  split false t =
      let b = test_some (bytes_eq (front is_id_byte bytes) (codes "false")) (false, past is_id_byte bytes) x (rw t at e) in
      subst (λ (y : Bool × List ℕ). Takes (lit (bool_text y.0)) bytes y.1) b.1
      (record { text = front is_id_byte bytes; spelled = (bytes_eq-Decides (front is_id_byte bytes) (codes "false")).0 b.0; parts = front_past is_id_byte bytes })

no_hex_same : (bytes rest : List ℕ) → no_hex bytes ≡ Some rest → bytes ≡ rest
no_hex_same [] rest e = some_is [] rest e
no_hex_same (b ∷ bytes) rest e = split (is_some (hex_at b)) refl where
  split : (c : Bool) → is_some (hex_at b) ≡ c → b ∷ bytes ≡ rest
  split true t = let h : cond true None (Some (b ∷ bytes)) ≡ Some rest = rw t at e in absurd cc
  split false t = some_is (b ∷ bytes) rest (rw t at e)

hexes_take : (k : ℕ) (bytes : List ℕ) (x : List ℕ × List ℕ) → until no_hex hex_byte_at k bytes ≡ Some x → Takes (hexes x.0) bytes x.1
hexes_take zero bytes x e = absurd cc
hexes_take (suc k) bytes x e = split (no_hex bytes) refl (λ after r. hexes_take k after r) where
  split : (c : Option (List ℕ)) → no_hex bytes ≡ c → ((after : List ℕ) (r : List ℕ × List ℕ) → until no_hex hex_byte_at k after ≡ Some r → Takes (hexes r.0) after r.1) → Takes (hexes x.0) bytes x.1
  split (Some rest) t more =
      subst (λ (y : List ℕ × List ℕ). Takes (hexes y.0) bytes y.1) (some_is ([], rest) x (rw t at e))
      (record { text = []; spelled = refl; parts = no_hex_same bytes rest t })
  split None t more =
      let b = bind_some (hex_byte_at bytes) (λ u. with_first u.0 (until no_hex hex_byte_at k u.1)) x (rw t at e) in
      let w = with_first_some b.0.0 (until no_hex hex_byte_at k b.0.1) x b.2 in
      let h = hex_takes bytes b.0 b.1 in
      let first : Takes (λ u. hex_byte_at u ≡ Some (b.0.0, [])) bytes b.0.1 = record { text = h.0 ∷ h.1 ∷ []; spelled = h.3; parts = h.2 } in
      subst (λ (n : List ℕ). Takes (hexes n) bytes x.1) (sym w.2) (takes_then (λ u. hex_byte_at u ≡ Some (b.0.0, [])) (hexes w.0) bytes b.0.1 x.1 first (more b.0.1 (w.0, x.1) w.1))

pub metadata_takes : (bytes : List ℕ) (x : List ℕ × List ℕ) → metadata_at bytes ≡ Some x → Takes (metadata x.0) bytes x.1
unfolding metadata_at
metadata_takes bytes x e =
    let n = length bytes in
    let a = bind_some (byte_at 91 bytes) (λ inner. byte_at 48 (skipped inner) >>= λ z. byte_at 120 z >>= λ d. until no_hex hex_byte_at n d >>= λ m. byte_at 93 (skipped m.1) >>= λ rest. Some (m.0, rest)) x e in
    let b = bind_some (byte_at 48 (skipped a.0)) (λ z. byte_at 120 z >>= λ d. until no_hex hex_byte_at n d >>= λ m. byte_at 93 (skipped m.1) >>= λ rest. Some (m.0, rest)) x a.2 in
    let c = bind_some (byte_at 120 b.0) (λ d. until no_hex hex_byte_at n d >>= λ m. byte_at 93 (skipped m.1) >>= λ rest. Some (m.0, rest)) x b.2 in
    let d = bind_some (until no_hex hex_byte_at n c.0) (λ m. byte_at 93 (skipped m.1) >>= λ rest. Some (m.0, rest)) x c.2 in
    let f = bind_some (byte_at 93 (skipped d.0.1)) (λ rest. Some (d.0.0, rest)) x d.2 in
    let H = hexes d.0.0 in
    let Close = blanks <> lit (codes "]") in
    let t5 = takes_then blanks (lit (codes "]")) d.0.1 (skipped d.0.1) f.0 (skipped_takes d.0.1) (byte_takes 93 (skipped d.0.1) f.0 f.1) in
    let t4 = takes_then H Close c.0 d.0.1 f.0 (hexes_take n c.0 d.0 d.1) t5 in
    let t3 = takes_then (lit (codes "x")) (H <> Close) b.0 c.0 f.0 (byte_takes 120 b.0 c.0 c.1) t4 in
    let t2 = takes_then (lit (codes "0")) (lit (codes "x") <> (H <> Close)) (skipped a.0) b.0 f.0 (byte_takes 48 (skipped a.0) b.0 b.1) t3 in
    let t1 = takes_then blanks (lit (codes "0") <> (lit (codes "x") <> (H <> Close))) a.0 (skipped a.0) f.0 (skipped_takes a.0) t2 in
    let t0 = takes_then (lit (codes "[")) (blanks <> (lit (codes "0") <> (lit (codes "x") <> (H <> Close)))) bytes a.0 f.0 (byte_takes 91 bytes a.0 a.1) t1 in
    subst (λ (y : List ℕ × List ℕ). Takes (metadata y.0) bytes y.1) (some_is (d.0.0, f.0) x f.2) t0

-- the metadata is bytes
hex_small : (c d : ℕ) → hex_at c ≡ Some d → d < 16
hex_small c d e = grind (arith, nat_tests)

pair_small : (u : List ℕ) (b : ℕ) → hex_byte_at u ≡ Some (b, []) → b < 256
unfolding hex_byte_at
pair_small [] b e = absurd cc
pair_small (h ∷ []) b e = absurd cc
pair_small (h ∷ l ∷ u) b e =
    let x = bind_some (hex_at h) _ (b, []) e in
    let y = bind_some (hex_at l) _ (b, []) x.2 in
    let is = some_is (16 * x.0 + y.0, u) (b, []) y.2 in
    let value : 16 * x.0 + y.0 ≡ b = ap (λ (z : ℕ × List ℕ). z.0) is in
    omega (arith, value, hex_small h x.0 x.1, hex_small l y.0 y.1)

hexes_bytes : (bs x : List ℕ) → hexes bs x → AllByRecursion (λ b. b < 256) bs
hexes_bytes [] x h = tt
hexes_bytes (b ∷ bs) x h = (pair_small h.0 b h.2, hexes_bytes bs h.1 h.3)

pub bytes_in : (bs x : List ℕ) → metadata bs x → Bytes bs
bytes_in bs x h = All-from_recursion (λ b. b < 256) bs (hexes_bytes bs h.3.3.3.3.0 h.3.3.3.3.2)

pub metadata_bytes : (bytes : List ℕ) (x : List ℕ × List ℕ) → metadata_at bytes ≡ Some x → Bytes x.0
metadata_bytes bytes x e = let t = metadata_takes bytes x e in bytes_in x.0 t.text t.spelled
