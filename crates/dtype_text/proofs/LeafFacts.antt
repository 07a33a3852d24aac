-- SPDX-License-Identifier: Apache-2.0
-- SPDX-FileCopyrightText: Copyright the Vortex contributors

-- What readers of leaves need.
use Rattle.std.proofs.Common.{◌≡◌, ℕ, ◌+◌, ◌<◌, Bool, true, false, List, [], ◌∷◌, Option, Some, None, length, get_or, drop, refl, sym, ap, ◌∙◌, suc, arith, drop-cons, cond, not, ◌==◌}
use Rattle.std.specs.Prelude.{if◌then◌else◌, string_bytes, String}
use Rattle.std.specs.List.{prefix_len}
use Rattle.std.specs.Str.{is_utf8, IsUtf8}
use Rattle.std.proofs.lemmas.List.Sums.{prefix_len-le-length}
use Rattle.std.proofs.lemmas.Str.{IsUtf8-string_bytes, is_utf8-from_IsUtf8, IsUtf8-from_is_utf8}
use Rattle.dtype_text.specs.Read.{◌>>=◌}
use Rattle.dtype_text.specs.Read.{byte_at}
use Rattle.dtype_text.specs.Leaves.{digit_after, number_after, past, is_blank, is_in_line, behind_comment, skipped_from, skipped}
use Rattle.dtype_text.proofs.Words.{begins, test_some, past_more, past_stop, blank_step, comment_step, solid_step, end_step, line_step}
use Rattle.std.proofs.lemmas.List.Sums.{take_while-cons}
use Rattle.std.proofs.lemmas.List.{length-drop}

pub ruleset lens = (prefix_len-le-length)

pub utf8_true : (bs : List ℕ) → IsUtf8 bs → is_utf8 bs ≡ true
utf8_true = is_utf8-from_IsUtf8

false_unless : (b : Bool) → (b ≡ true → ⊥) → b ≡ false
false_unless true h = absurd (h refl)
false_unless false h = refl

pub utf8_false : (bs : List ℕ) → (IsUtf8 bs → ⊥) → is_utf8 bs ≡ false
utf8_false bs h = false_unless (is_utf8 bs) (λ e. h (IsUtf8-from_is_utf8 bs e))

pub ruleset utf8 = (utf8_true, utf8_false)

-- one more digit is read
pub number_step : (n i : ℕ) (word : List ℕ) → i < length word → number_after n (drop i word) ≡ (digit_after n (get_or word i 0) >>= λ m. number_after m (drop (i + 1) word))
number_step n i word lt =
    let one : suc i ≡ i + 1 = omega arith in
    ap (number_after n) (drop-cons word i 0 lt) ∙ ap (λ (k : ℕ). digit_after n (get_or word i 0) >>= λ m. number_after m (drop k word)) one

pub ruleset numbers = (number_step)

-- the text of a string is UTF-8
pub utf8_string : {Z : Type 0} (s : String Z) (bs : List ℕ) → string_bytes s ≡ bs → Some (string_bytes s) ≡ (if is_utf8 bs then Some bs else None)
utf8_string s bs e = let u : is_utf8 bs ≡ true = ap is_utf8 (sym e) ∙ is_utf8-from_IsUtf8 (string_bytes s) (IsUtf8-string_bytes s) in rw (u, e) refl

-- ---- blanks and comments

-- behind the end of a line fewer bytes are left
byte_shorter : (k : ℕ) (bytes rest : List ℕ) → byte_at k bytes ≡ Some rest → length rest < length bytes
byte_shorter k [] rest e = absurd cc
byte_shorter k (b ∷ bytes) rest e =
    let t = test_some (b == k) bytes rest e in
    omega (arith, ap (λ (y : List ℕ). length y) t.1)

pub comment_shorter : (line rest : List ℕ) → byte_at 10 (past is_in_line line) ≡ Some rest → length rest < suc (length line)
comment_shorter line rest e = omega (arith, byte_shorter 10 (past is_in_line line) rest e, length-drop (prefix_len is_in_line line) line)

pub test_passed : {A : Type 0} (b : Bool) (r : Option A) (y : A) → cond b r None ≡ Some y → (b ≡ true) × (r ≡ Some y)
test_passed true r y e = (refl, e)
test_passed false r y e = absurd cc

failed : {A : Type 0} (b : Bool) → b ≡ true → (r : Option A) → cond b r None ≡ None → r ≡ None
failed true t r e = e
failed false t r e = absurd cc

pub ruleset comments = (comment_shorter)

-- blanks are skipped
pub blanks_skipped : (bytes : List ℕ) → skipped (past is_blank bytes) ≡ skipped bytes
unfolding skipped
blanks_skipped [] = refl
blanks_skipped (b ∷ bytes) = split (is_blank b) refl (blanks_skipped bytes) where
  split : (c : Bool) → is_blank b ≡ c → skipped_from None (past is_blank bytes) ≡ skipped_from None bytes → skipped_from None (past is_blank (b ∷ bytes)) ≡ skipped_from None (b ∷ bytes)
  split true t more = ap (skipped_from None) (past_more is_blank b bytes t) ∙ more ∙ sym (blank_step b bytes t)
  split false t more = ap (skipped_from None) (past_stop is_blank b bytes t)

pub blanks_past : (bytes : List ℕ) → begins is_blank (past is_blank bytes) ≡ false
blanks_past [] = refl
blanks_past (b ∷ bytes) = split (is_blank b) refl (blanks_past bytes) where
  split : (c : Bool) → is_blank b ≡ c → begins is_blank (past is_blank bytes) ≡ false → begins is_blank (past is_blank (b ∷ bytes)) ≡ false
  split true t more = ap (begins is_blank) (past_more is_blank b bytes t) ∙ more
  split false t more = ap (begins is_blank) (past_stop is_blank b bytes t) ∙ t

not_true : (a : Bool) → a ≡ true → not a ≡ false
not_true true e = refl
not_true false e = absurd cc

not_false : (a : Bool) → a ≡ false → not a ≡ true
not_false false e = refl
not_false true e = absurd cc

-- a comment is skipped if it ends
line_skipped : (c bytes rest : List ℕ) → byte_at 10 (past is_in_line bytes) ≡ Some rest → skipped_from (Some c) bytes ≡ skipped_from None rest
line_skipped c [] rest e = absurd cc
line_skipped c (b ∷ bytes) rest e = split (b == 10) refl (line_skipped c bytes rest) where
  split : (d : Bool) → (b == 10) ≡ d → (byte_at 10 (past is_in_line bytes) ≡ Some rest → skipped_from (Some c) bytes ≡ skipped_from None rest) → skipped_from (Some c) (b ∷ bytes) ≡ skipped_from None rest
  split true t more =
      let at : byte_at 10 (b ∷ bytes) ≡ Some rest = ap (byte_at 10) (sym (past_stop is_in_line b bytes (not_true (b == 10) t))) ∙ e in
      let is = test_some (b == 10) bytes rest at in
      end_step c b bytes t ∙ ap (skipped_from None) is.1
  split false t more = line_step c b bytes t ∙ more (ap (byte_at 10) (sym (past_more is_in_line b bytes (not_false (b == 10) t))) ∙ e)

some_byte : (b : ℕ) (bytes : List ℕ) → (b == 10) ≡ true → byte_at 10 (b ∷ bytes) ≡ Some bytes
some_byte b bytes t = rw t refl

line_kept : (c bytes : List ℕ) → byte_at 10 (past is_in_line bytes) ≡ None → skipped_from (Some c) bytes ≡ c
line_kept c [] e = refl
line_kept c (b ∷ bytes) e = split (b == 10) refl (line_kept c bytes) where
  split : (d : Bool) → (b == 10) ≡ d → (byte_at 10 (past is_in_line bytes) ≡ None → skipped_from (Some c) bytes ≡ c) → skipped_from (Some c) (b ∷ bytes) ≡ c
  split true t more =
      let at : byte_at 10 (b ∷ bytes) ≡ None = ap (byte_at 10) (sym (past_stop is_in_line b bytes (not_true (b == 10) t))) ∙ e in
      let clash : Some bytes ≡ None = sym (some_byte b bytes t) ∙ at in
      absurd cc
  split false t more = line_step c b bytes t ∙ more (ap (byte_at 10) (sym (past_more is_in_line b bytes (not_false (b == 10) t))) ∙ e)

pub comment_skipped : (bytes rest : List ℕ) → begins is_blank bytes ≡ false → behind_comment bytes ≡ Some rest → skipped bytes ≡ skipped rest
unfolding skipped
comment_skipped [] rest solid e = absurd cc
comment_skipped (b ∷ bytes) rest solid e =
    let t = test_passed (b == 35) (byte_at 10 (past is_in_line bytes)) rest e in
    comment_step b bytes solid t.0 ∙ line_skipped (b ∷ bytes) bytes rest t.1

pub nothing_skipped : (bytes : List ℕ) → begins is_blank bytes ≡ false → behind_comment bytes ≡ None → bytes ≡ skipped bytes
unfolding skipped
nothing_skipped [] solid e = refl
nothing_skipped (b ∷ bytes) solid e = split (b == 35) refl where
  split : (d : Bool) → (b == 35) ≡ d → b ∷ bytes ≡ skipped_from None (b ∷ bytes)
  split true t = sym (comment_step b bytes solid t ∙ line_kept (b ∷ bytes) bytes (failed (b == 35) t (byte_at 10 (past is_in_line bytes)) e))
  split false t = sym (solid_step b bytes solid t)

pub ruleset skips = (blanks_skipped, blanks_past, comment_skipped, nothing_skipped)
