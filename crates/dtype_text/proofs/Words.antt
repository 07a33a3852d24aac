-- SPDX-License-Identifier: Apache-2.0
-- SPDX-FileCopyrightText: Copyright the Vortex contributors

-- Words at the front of bytes, and what is taken from the front.
use Rattle.std.proofs.Common.{◌≡◌, ℕ, suc, ◌+◌, Bool, true, false, cond, ◌&&◌, ◌||◌, ◌==◌, List, [], ◌∷◌, ◌++◌, length, drop, Option, Some, None, refl, sym, ap, subst, ◌∙◌, append_assoc, arith, not, ◌⊎◌, inl, inr}
use Rattle.std.specs.Prelude.{is_some}
use Rattle.std.specs.List.{prefix_len, list_all}
use Rattle.std.proofs.lemmas.List.{take-append-drop, take_at, drop_at}
use Rattle.std.proofs.lemmas.List.Sums.{take_while-cons}
use Rattle.std.proofs.lemmas.Bool.{eqb-true, eq-eqb}
use Rattle.dtype_text.specs.Read.{◌>>=◌, byte_at}
use Rattle.dtype_text.specs.Leaves.{front, past, is_blank, is_in_line, opens_gap, skipped_from, skipped}
pub use Rattle.dtype_text.specs.Fronts.{begins}
use Rattle.dtype_text.specs.TypeParts.{is_end}
use Rattle.dtype_text.specs.Grammar.{lit, ◌<>◌, is_gap, blanks, comment}

-- the value of a step that did not fail
pub bind_some : {A B : Type 0} (r : Option A) (f : A → Option B) (y : B) → (r >>= f) ≡ Some y → (x : A) × (r ≡ Some x) × (f x ≡ Some y)
bind_some (Some x) f y e = (x, refl, e)
bind_some None f y e = absurd cc

abbrev wrap : {A : Type 0} → A → Option A
wrap x = Some x

pub some_is : {A : Type 0} (x y : A) → wrap x ≡ wrap y → x ≡ y
some_is x y e = cc

pub both : (a b : Bool) → (a && b) ≡ true → (a ≡ true) × (b ≡ true)
both true true e = (refl, refl)
both true false e = absurd cc
both false b e = absurd cc

-- a test that did not fail
pub test_some : {A : Type 0} (b : Bool) (x y : A) → cond b (Some x) None ≡ Some y → (b ≡ true) × (x ≡ y)
test_some true x y e = (refl, some_is x y e)
test_some false x y e = absurd cc

-- a text of a language is taken from the front
pub record Takes (L : List ℕ → Type 0) (bytes rest : List ℕ) : Type 0 where
  pub text : List ℕ
  pub spelled : L text
  pub parts : bytes ≡ text ++ rest

pub takes_then : (P Q : List ℕ → Type 0) (a b c : List ℕ) → Takes P a b → Takes Q b c → Takes (P <> Q) a c
takes_then P Q a b c p q = record {
  text = p.text ++ q.text;
  spelled = (p.text, q.text, p.spelled, q.spelled, refl);
  parts = p.parts ∙ ap (λ (t : List ℕ). p.text ++ t) q.parts ∙ sym (append_assoc p.text q.text c);
}

pub takes_none : (a : List ℕ) → Takes (lit []) a a
takes_none a = record { text = []; spelled = refl; parts = refl }

-- ---- words

pub front_all : (p : ℕ → Bool) (bytes : List ℕ) → list_all p (front p bytes) ≡ true
front_all p [] = refl
front_all p (b ∷ bytes) = split (p b) refl (front_all p bytes) where
  split : (c : Bool) → p b ≡ c → list_all p (front p bytes) ≡ true → list_all p (front p (b ∷ bytes)) ≡ true
  split true e so_far = rw (take_while-cons p b bytes, e) (rw e so_far)
  split false e so_far = rw e refl

pub front_past : (p : ℕ → Bool) (bytes : List ℕ) → bytes ≡ front p bytes ++ past p bytes
front_past p bytes = sym (take-append-drop (prefix_len p bytes) bytes)

pub word_len : (p : ℕ → Bool) (w rest : List ℕ) → list_all p w ≡ true → begins p rest ≡ false → prefix_len p (w ++ rest) ≡ length w
word_len p [] [] all none = refl
word_len p [] (b ∷ rest) all none = rw none refl
word_len p (b ∷ w) rest all none =
    let h = both (p b) (list_all p w) all in
    let more : prefix_len p (w ++ rest) ≡ length w = word_len p w rest h.1 none in
    rw h.0 (omega (arith, more))

pub word_front : (p : ℕ → Bool) (w rest : List ℕ) → list_all p w ≡ true → begins p rest ≡ false → front p (w ++ rest) ≡ w
word_front p w rest all none = rw (word_len p w rest all none) (take_at w rest (length w) refl)

pub word_past : (p : ℕ → Bool) (w rest : List ℕ) → list_all p w ≡ true → begins p rest ≡ false → past p (w ++ rest) ≡ rest
word_past p w rest all none = rw (word_len p w rest all none) (drop_at w rest (length w) refl)

-- the bytes behind those that pass a test
pub past_more : (p : ℕ → Bool) (b : ℕ) (bytes : List ℕ) → p b ≡ true → past p (b ∷ bytes) ≡ past p bytes
past_more p b bytes e = let one : 1 + prefix_len p bytes ≡ suc (prefix_len p bytes) = omega arith in rw e (ap (λ (k : ℕ). drop k (b ∷ bytes)) one)

pub past_stop : (p : ℕ → Bool) (b : ℕ) (bytes : List ℕ) → p b ≡ false → past p (b ∷ bytes) ≡ b ∷ bytes
past_stop p b bytes e = rw e refl

-- ---- blanks

-- what is skipped is blanks and comments, and what stays is no comment, unless it doesn't end
pub record Skips (bytes rest : List ℕ) : Type 0 where
  pub gap : List ℕ
  pub is_gap : is_gap false gap ≡ true
  pub parts : bytes ≡ gap ++ rest
  pub last : is_end rest ≡ true → comment rest

-- the same, of the bytes behind the # of a comment
pub record Leaves_comment (bytes rest : List ℕ) : Type 0 where
  pub gap : List ℕ
  pub is_gap : is_gap true gap ≡ true
  pub parts : bytes ≡ gap ++ rest
  pub last : is_end rest ≡ true → comment rest

abbrev InComment : List ℕ → List ℕ → List ℕ → Type 0
InComment c bytes rest = ((rest ≡ c) × (list_all is_in_line bytes ≡ true)) ⊎ Leaves_comment bytes rest

blank_first : (b : ℕ) (bytes rest : List ℕ) → is_blank b ≡ true → Skips bytes rest → Skips (b ∷ bytes) rest
blank_first b bytes rest t s = record { gap = b ∷ s.gap; is_gap = rw t s.is_gap; parts = ap (λ (y : List ℕ). b ∷ y) s.parts; last = s.last }

comment_first : (b : ℕ) (bytes rest : List ℕ) → is_blank b ≡ false → (b == 35) ≡ true → InComment (b ∷ bytes) bytes rest → Skips (b ∷ bytes) rest
comment_first b bytes rest t u (inl h) = record {
  gap = [];
  is_gap = refl;
  parts = sym h.0;
  last = λ e. subst comment (sym h.0) (eqb-true b 35 u, h.1);
}
comment_first b bytes rest t u (inr s) = record { gap = b ∷ s.gap; is_gap = rw (t, u) s.is_gap; parts = ap (λ (y : List ℕ). b ∷ y) s.parts; last = s.last }

other_first : (b : ℕ) (bytes : List ℕ) → (b == 35) ≡ false → Skips (b ∷ bytes) (b ∷ bytes)
other_first b bytes u = record { gap = []; is_gap = refl; parts = refl; last = λ e. let clash : true ≡ false = sym e ∙ u in absurd cc }

line_ends : (c : List ℕ) (b : ℕ) (bytes rest : List ℕ) → (b == 10) ≡ true → Skips bytes rest → InComment c (b ∷ bytes) rest
line_ends c b bytes rest t s = inr (record { gap = b ∷ s.gap; is_gap = rw t s.is_gap; parts = ap (λ (y : List ℕ). b ∷ y) s.parts; last = s.last })

line_goes_on : (c : List ℕ) (b : ℕ) (bytes rest : List ℕ) → (b == 10) ≡ false → InComment c bytes rest → InComment c (b ∷ bytes) rest
line_goes_on c b bytes rest t (inl h) = inl (h.0, rw t h.1)
line_goes_on c b bytes rest t (inr s) = inr (record { gap = b ∷ s.gap; is_gap = rw t s.is_gap; parts = ap (λ (y : List ℕ). b ∷ y) s.parts; last = s.last })

-- one byte more
pub blank_step : (b : ℕ) (bytes : List ℕ) → is_blank b ≡ true → skipped_from None (b ∷ bytes) ≡ skipped_from None bytes
blank_step b bytes t = rw t refl

pub comment_step : (b : ℕ) (bytes : List ℕ) → is_blank b ≡ false → (b == 35) ≡ true → skipped_from None (b ∷ bytes) ≡ skipped_from (Some (b ∷ bytes)) bytes
comment_step b bytes t u = rw (t, u) refl

pub solid_step : (b : ℕ) (bytes : List ℕ) → is_blank b ≡ false → (b == 35) ≡ false → skipped_from None (b ∷ bytes) ≡ b ∷ bytes
solid_step b bytes t u = rw (t, u) refl

pub end_step : (c : List ℕ) (b : ℕ) (bytes : List ℕ) → (b == 10) ≡ true → skipped_from (Some c) (b ∷ bytes) ≡ skipped_from None bytes
end_step c b bytes t = rw t refl

pub line_step : (c : List ℕ) (b : ℕ) (bytes : List ℕ) → (b == 10) ≡ false → skipped_from (Some c) (b ∷ bytes) ≡ skipped_from (Some c) bytes
line_step c b bytes t = rw t refl

mutual
  pub skips : (bytes : List ℕ) → Skips bytes (skipped_from None bytes)
  skips [] = record { gap = []; is_gap = refl; parts = refl; last = λ e. tt }
  skips (b ∷ bytes) = split (is_blank b) refl (skips bytes) (in_comment (b ∷ bytes) bytes) where
    other : (d : Bool) → (b == 35) ≡ d → is_blank b ≡ false → InComment (b ∷ bytes) bytes (skipped_from (Some (b ∷ bytes)) bytes) → Skips (b ∷ bytes) (skipped_from None (b ∷ bytes))
    other true u t more = subst (λ (r : List ℕ). Skips (b ∷ bytes) r) (sym (comment_step b bytes t u)) (comment_first b bytes (skipped_from (Some (b ∷ bytes)) bytes) t u more)
    other false u t more = subst (λ (r : List ℕ). Skips (b ∷ bytes) r) (sym (solid_step b bytes t u)) (other_first b bytes u)

    split : (d : Bool) → is_blank b ≡ d → Skips bytes (skipped_from None bytes) → InComment (b ∷ bytes) bytes (skipped_from (Some (b ∷ bytes)) bytes) → Skips (b ∷ bytes) (skipped_from None (b ∷ bytes))
    split true t more within = subst (λ (r : List ℕ). Skips (b ∷ bytes) r) (sym (blank_step b bytes t)) (blank_first b bytes (skipped_from None bytes) t more)
    split false t more within = other (b == 35) refl t within

  in_comment : (c bytes : List ℕ) → InComment c bytes (skipped_from (Some c) bytes)
  in_comment c [] = inl (refl, refl)
  in_comment c (b ∷ bytes) = split (b == 10) refl (skips bytes) (in_comment c bytes) where
    split : (d : Bool) → (b == 10) ≡ d → Skips bytes (skipped_from None bytes) → InComment c bytes (skipped_from (Some c) bytes) → InComment c (b ∷ bytes) (skipped_from (Some c) (b ∷ bytes))
    split true t more within = subst (λ (r : List ℕ). InComment c (b ∷ bytes) r) (sym (end_step c b bytes t)) (line_ends c b bytes (skipped_from None bytes) t more)
    split false t more within = subst (λ (r : List ℕ). InComment c (b ∷ bytes) r) (sym (line_step c b bytes t)) (line_goes_on c b bytes (skipped_from (Some c) bytes) t within)

pub skipped_takes : (bytes : List ℕ) → Takes blanks bytes (skipped bytes)
unfolding skipped
skipped_takes bytes = let s = skips bytes in record { text = s.gap; spelled = s.is_gap; parts = s.parts }

pub skipped_ends : (bytes : List ℕ) → is_end (skipped bytes) ≡ true → comment (skipped bytes)
unfolding skipped
skipped_ends bytes e = (skips bytes).last e

-- what begins with no blank and no comment stays
stays : (rest : List ℕ) → begins opens_gap rest ≡ false → skipped_from None rest ≡ rest
stays [] e = refl
stays (b ∷ rest) e = let h = neither (is_blank b) (b == 35) e in rw (h.0, h.1) refl where
  neither : (a b : Bool) → (a || b) ≡ false → (a ≡ false) × (b ≡ false)
  neither false false e = (refl, refl)
  neither false true e = absurd cc
  neither true b e = absurd cc

gap_skipped : (x rest : List ℕ) (c : Option (List ℕ)) → is_gap (is_some c) x ≡ true → skipped_from None rest ≡ rest → skipped_from c (x ++ rest) ≡ rest
gap_skipped [] rest None e h = h
gap_skipped [] rest (Some c) e h = absurd cc
gap_skipped (b ∷ x) rest None e h = split (is_blank b) refl (gap_skipped x rest None) (gap_skipped x rest (Some (b ∷ (x ++ rest)))) where
  other : (d : Bool) → (b == 35) ≡ d → is_blank b ≡ false → (is_gap true x ≡ true → skipped_from None rest ≡ rest → skipped_from (Some (b ∷ (x ++ rest))) (x ++ rest) ≡ rest) → skipped_from None (b ∷ (x ++ rest)) ≡ rest
  other true u t more = rw (t, u) (more (rw (t, u) at e) h)
  other false u t more = let clash : false ≡ true = rw (t, u) at e in absurd cc

  split : (d : Bool) → is_blank b ≡ d → (is_gap false x ≡ true → skipped_from None rest ≡ rest → skipped_from None (x ++ rest) ≡ rest) → (is_gap true x ≡ true → skipped_from None rest ≡ rest → skipped_from (Some (b ∷ (x ++ rest))) (x ++ rest) ≡ rest) → skipped_from None (b ∷ (x ++ rest)) ≡ rest
  split true t more within = rw t (more (rw t at e) h)
  split false t more within = other (b == 35) refl t within
gap_skipped (b ∷ x) rest (Some c) e h = split (b == 10) refl (gap_skipped x rest None) (gap_skipped x rest (Some c)) where
  split : (d : Bool) → (b == 10) ≡ d → (is_gap false x ≡ true → skipped_from None rest ≡ rest → skipped_from None (x ++ rest) ≡ rest) → (is_gap true x ≡ true → skipped_from None rest ≡ rest → skipped_from (Some c) (x ++ rest) ≡ rest) → skipped_from (Some c) (b ∷ (x ++ rest)) ≡ rest
  split true t more within = rw t (more (rw t at e) h)
  split false t more within = rw t (within (rw t at e) h)

pub skipped_again : (x rest : List ℕ) → blanks x → begins opens_gap rest ≡ false → skipped (x ++ rest) ≡ rest
unfolding skipped
skipped_again x rest all none = gap_skipped x rest None all (stays rest none)

-- a comment that doesn't end stays
line_stays : (c bytes : List ℕ) → list_all is_in_line bytes ≡ true → skipped_from (Some c) bytes ≡ c
line_stays c [] all = refl
line_stays c (b ∷ bytes) all = let h = both (is_in_line b) (list_all is_in_line bytes) all in split (b == 10) refl h.0 (line_stays c bytes h.1) where
  split : (d : Bool) → (b == 10) ≡ d → not (b == 10) ≡ true → skipped_from (Some c) bytes ≡ c → skipped_from (Some c) (b ∷ bytes) ≡ c
  split true t no_ more = let clash : false ≡ true = rw t at no_ in absurd cc
  split false t no_ more = rw t more

pub comment_again : (x rest : List ℕ) → blanks x → comment rest → skipped (x ++ rest) ≡ rest
unfolding skipped
comment_again x [] all h = gap_skipped x [] None all refl
comment_again x (b ∷ rest) all h = gap_skipped x (b ∷ rest) None all (subst (λ (d : ℕ). skipped_from None (d ∷ rest) ≡ d ∷ rest) (sym h.0) (line_stays (35 ∷ rest) rest h.1))

-- ---- a byte

pub byte_takes : (k : ℕ) (bytes rest : List ℕ) → byte_at k bytes ≡ Some rest → Takes (lit (k ∷ [])) bytes rest
byte_takes k [] rest e = absurd cc
byte_takes k (b ∷ bytes) rest e =
    let t = test_some (b == k) bytes rest e in
    record { text = k ∷ []; spelled = refl; parts = let h : b ≡ k = eqb-true b k t.0 in cc }

pub byte_again : (k : ℕ) (rest : List ℕ) → byte_at k (k ∷ rest) ≡ Some rest
byte_again k rest = rw (eq-eqb k k refl) refl
