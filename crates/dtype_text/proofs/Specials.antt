-- SPDX-License-Identifier: Apache-2.0
-- SPDX-FileCopyrightText: Copyright the Vortex contributors

-- The first character of a text that no bare name has.
use Rattle.std.proofs.Common.{◌≡◌, ℕ, zero, suc, ◌≤◌, min, Bool, true, false, ◌&&◌, ◌||◌, not, List, [], ◌∷◌, ◌++◌, drop, length, take, Option, Some, None, refl, sym, ap, subst, ◌∙◌, arith}
use Rattle.std.specs.List.{list_all, list_any}
use Rattle.std.specs.Str.{IsCharBoundary, IsUtf8, NoCharPasses, NonePass, chars, encode_utf8_all, is_utf8}
use Rattle.std.specs.Str.Pattern.{HasPassingCharAt}
use Rattle.std.proofs.lemmas.List.{length-take-le, take-append-drop}
use Rattle.std.proofs.lemmas.Str.{IsUtf8-drop, IsUtf8-take, chars-append, chars_from_encodes, chars_past_char, is_utf8-from_IsUtf8}
use Rattle.dtype_text.specs.Bare.{has_special, is_special}
use Rattle.dtype_text.specs.Leaves.{front, text_at}
use Rattle.dtype_text.specs.Places.{plain_len}
use Rattle.dtype_text.proofs.Words.{test_some, word_front}

none_special : (cs : List ℕ) → NonePass is_special cs → list_any is_special cs ≡ false
none_special [] h = refl
none_special (c ∷ cs) h = rw (h.0, none_special cs h.1) refl

all_plain : (cs : List ℕ) → NonePass is_special cs → list_all (λ c. not (is_special c)) cs ≡ true
all_plain [] h = refl
all_plain (c ∷ cs) h = rw (h.0, all_plain cs h.1) refl

some_special : (cs ds : List ℕ) (c : ℕ) → is_special c ≡ true → list_any is_special (cs ++ (c ∷ ds)) ≡ true
some_special [] ds c h = rw h refl
some_special (b ∷ cs) ds c h = rw (some_special cs ds c h) (or_true (is_special b)) where
  or_true : (a : Bool) → (a || true) ≡ true
  or_true true = refl
  or_true false = refl

pub plain_none : (s : List ℕ) → IsUtf8 s → NoCharPasses is_special s → 0 ≡ plain_len s
unfolding plain_len has_special
plain_none s utf8 h =
    let cs : h.0 ≡ chars s = chars_from_encodes h.0 s utf8 h.1 in
    let e : list_any is_special (chars s) ≡ false = ap (list_any is_special) (sym cs) ∙ none_special h.0 h.2 in
    rw (is_utf8-from_IsUtf8 s utf8, e) refl

pub plain_some : (s : List ℕ) (i j : ℕ) → IsUtf8 s → NoCharPasses is_special (take i s) → HasPassingCharAt is_special s i j → IsCharBoundary s i → i ≡ plain_len s
unfolding plain_len has_special
plain_some s i j utf8 h at bound =
    let before : IsUtf8 (take i s) = IsUtf8-take s i utf8 bound in
    let behind : IsUtf8 (drop i s) = IsUtf8-drop s i utf8 bound in
    let cs : h.0 ≡ chars (take i s) = chars_from_encodes h.0 (take i s) before h.1 in
    let ds : chars (drop i s) ≡ at.0 ∷ chars (drop j s) = chars_past_char (drop i s) (drop j s) at.0 behind at.2.split in
    let all : chars s ≡ h.0 ++ (at.0 ∷ chars (drop j s)) =
    ap chars (sym (take-append-drop i s)) ∙ chars-append (take i s) (drop i s) before ∙ ap (λ (x : List ℕ). x ++ chars (drop i s)) (sym cs) ∙ ap (λ (y : List ℕ). h.0 ++ y) ds in
    let has : list_any is_special (chars s) ≡ true = ap (list_any is_special) all ∙ some_special h.0 (chars (drop j s)) at.0 at.1 in
    let first : front (λ c. not (is_special c)) (chars s) ≡ h.0 =
    ap (front (λ c. not (is_special c))) all ∙ word_front (λ c. not (is_special c)) h.0 (at.0 ∷ chars (drop j s)) (all_plain h.0 h.2) (ap not at.1) in
    let len : length (encode_utf8_all (front (λ c. not (is_special c)) (chars s))) ≡ i =
    ap (λ (x : List ℕ). length (encode_utf8_all x)) first ∙ ap length h.1 ∙ length-take-le i s bound.0 in
    rw (is_utf8-from_IsUtf8 s utf8, has) (sym len)

-- a word that is a text, and one that isn't
pub plain_of_text : (w t : List ℕ) → Some t ≡ text_at w → plain_len t ≡ plain_len w
plain_of_text w t e = ap plain_len (sym (test_some (is_utf8 w) w t (sym e)).1)

pub plain_of_none : (w : List ℕ) → None ≡ text_at w → 0 ≡ plain_len w
unfolding plain_len
plain_of_none w e = split (is_utf8 w) refl where
  split : (b : Bool) → is_utf8 w ≡ b → 0 ≡ plain_len w
  split true t = let clash : None ≡ Some w = rw t at e in absurd cc
  split false t = rw t refl

pub drop_min : (k : ℕ) (bytes : List ℕ) → drop (min k (length bytes)) bytes ≡ drop k bytes
drop_min zero bytes = ap (λ (i : ℕ). drop i bytes) (none (length bytes)) where
  none : (n : ℕ) → min 0 n ≡ 0
  none n = omega arith
drop_min (suc k) [] = ap (λ (i : ℕ). drop i []) none where
  none : min (suc k) 0 ≡ 0
  none = omega arith
drop_min (suc k) (b ∷ bytes) = ap (λ (i : ℕ). drop i (b ∷ bytes)) (less (length bytes)) ∙ drop_min k bytes where
  less : (n : ℕ) → min (suc k) (suc n) ≡ suc (min k n)
  less n = omega arith

pub ruleset specials = (plain_of_text, plain_of_none, drop_min)
