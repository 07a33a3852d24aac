-- SPDX-License-Identifier: Apache-2.0
-- SPDX-FileCopyrightText: Copyright the Vortex contributors

-- Where a text of a path can't be read on.
use Rattle.std.proofs.Common.{◌≡◌, ℕ, zero, suc, ◌+◌, ◌-◌, ◌≤◌, Bool, true, false, cond, not, ◌&&◌, ◌||◌, ◌==◌, List, [], ◌∷◌, ◌++◌, drop, length, take, Option, Some, None, refl, sym, ap, subst, ◌∙◌, append_assoc, arith, inl, inr}
use Rattle.std.specs.Prelude.{codes}
use Rattle.std.specs.List.{list_all, prefix_len}
use Rattle.std.specs.Str.{is_utf8}
use Rattle.std.proofs.lemmas.Bool.{eqb-true}
use Rattle.std.proofs.lemmas.List.{length-append, take_at}
use Rattle.std.proofs.lemmas.List.Sums.{take_while-cons}
use Rattle.dtype_paths.specs.declared.field.Field.{Field}
use Rattle.dtype_paths.specs.declared.field.Field.TheVariants.{Name, ElementType}
use Rattle.dtype_text.specs.declared.fault.Fault.{Fault}
use Rattle.dtype_text.specs.declared.fault.Fault.TheVariants as fault
use Rattle.dtype_text.specs.declared.text_error.Expected.{Expected}
use Rattle.dtype_text.specs.declared.text_error.Expected.TheVariants as x
use Rattle.dtype_text.specs.declared.text_error.TextError.{TextError}
use Rattle.dtype_text.specs.declared.text_error.TextError.TheVariants as error
use Rattle.dtype_text.specs.Bare.{has_special, is_bare_byte, is_some_text}
use Rattle.dtype_text.specs.Errors.{Tells}
use Rattle.dtype_text.specs.Fronts.{begins}
use Rattle.dtype_text.specs.Grammar.{comment}
use Rattle.dtype_text.specs.Leaves.{bare_at, front, is_blank, is_in_line, name_at, opens_gap, past, quoted_at, skipped, skipped_from}
use Rattle.dtype_text.specs.Paths.{and_steps, element_at, named_step_at, path_by, step_at, steps_at, whole_path_at}
use Rattle.dtype_text.specs.PathGrammar.{StandsForPath, is_next}
use Rattle.dtype_text.specs.Places.{IsAt, Place, bare_stop, here, name_stop, named_step_stop, path_stop, plain_len, step_stop, whole_path_stop}
use Rattle.dtype_text.specs.Read.{◌>>=◌, Fails, byte_at, with_first}
use Rattle.dtype_text.specs.TypeParts.{is_end}
use Rattle.dtype_text.specs.Unreadable.{IsPathText, IsStopOf, SameToken, StopsAt, token}
use Rattle.dtype_text.proofs.Words.{bind_some, blank_step, both, byte_takes, comment_step, end_step, front_all, front_past, line_step, past_more, past_stop, skipped_again, skipped_ends, skipped_takes, solid_step, some_is, test_some, word_front, word_past}
use Rattle.dtype_text.proofs.LeavesSound.{quoted_takes, with_first_some}
use Rattle.dtype_text.proofs.LeavesAgain.{quoted_again}
use Rattle.dtype_text.proofs.PathSteps.{next_of, path_takes}
use Rattle.dtype_text.proofs.PathAgain.{no_byte, path_begins, step_dollar, step_name, whole_path_again}
use Rattle.dtype_text.proofs.PathStops.{PathNone, Stuck, bare_none, first_same, first_token, one_same, path_stuck, plain_within, starts_same, stuck_behind, stuck_here, stuck_where}
use Rattle.dtype_text.proofs.PathGoes.{Fronts, Goes, whole_fronts}

-- ---- what is read is read again where the same byte is behind it

-- the bytes that a reader takes, behind which it needs to see only the first byte
pub record On {A : Type 0} (S : List ℕ → Option (A × List ℕ)) (bytes : List ℕ) (v : A × List ℕ) : Type 0 where
  pub text : List ℕ
  pub parts : bytes ≡ text ++ v.1
  pub some : 1 ≤ length text
  pub on : (r : List ℕ) → take 1 v.1 ≡ take 1 r → S (text ++ r) ≡ Some (v.0, r)

first_append : (f a c : List ℕ) → take 1 a ≡ take 1 c → take 1 (f ++ a) ≡ take 1 (f ++ c)
first_append [] a c e = e
first_append (b ∷ f) a c e = refl

past_stops : (p : ℕ → Bool) (bytes : List ℕ) → begins p (past p bytes) ≡ false
past_stops p [] = refl
past_stops p (b ∷ bytes) = split (p b) refl (past_stops p bytes) where
  split : (c : Bool) → p b ≡ c → begins p (past p bytes) ≡ false → begins p (past p (b ∷ bytes)) ≡ false
  split true t more = ap (begins p) (past_more p b bytes t) ∙ more
  split false t more = ap (begins p) (past_stop p b bytes t) ∙ t

-- a test of the first byte of all
same_start : {A : Type 0} (S : List ℕ → Option (A × List ℕ)) (t : ℕ → Bool) (bytes : List ℕ) (v : A × List ℕ) (o : On S bytes v) (r : List ℕ) → take 1 v.1 ≡ take 1 r → begins t (o.text ++ r) ≡ begins t bytes
same_start S t bytes v o r e = sym (starts_same t o.text v.1 r e) ∙ ap (begins t) (sym o.parts)

bare_on : (bytes : List ℕ) (v : List ℕ × List ℕ) → bare_at bytes ≡ Some v → On bare_at bytes v
unfolding bare_at
bare_on bytes v e =
    let n = front is_bare_byte bytes in
    let t = test_some (is_utf8 n && (is_some_text n && not (has_special n))) (n, past is_bare_byte bytes) v e in
    subst (λ (w : List ℕ × List ℕ). On bare_at bytes w) t.1 (record {
      text = n;
      parts = front_past is_bare_byte bytes;
      some = long n (both (is_some_text n) (not (has_special n)) (both (is_utf8 n) (is_some_text n && not (has_special n)) t.0).1).0;
      on = λ r s.
          let none : begins is_bare_byte r ≡ false = sym (starts_same is_bare_byte [] (past is_bare_byte bytes) r s) ∙ past_stops is_bare_byte bytes in
          rw (word_front is_bare_byte n r (front_all is_bare_byte bytes) none, word_past is_bare_byte n r (front_all is_bare_byte bytes) none, t.0) refl;
    }) where
      long : (n : List ℕ) → is_some_text n ≡ true → 1 ≤ length n
      long [] e = absurd cc
      long (b ∷ n) e = omega arith

name_bare : (y : List ℕ) → begins (λ b. b == 34) y ≡ false → name_at y ≡ bare_at y
unfolding name_at
name_bare [] e = refl
name_bare (b ∷ y) e = rw e refl

name_quoted : (b : ℕ) (y : List ℕ) → (b == 34) ≡ true → name_at (b ∷ y) ≡ quoted_at y
unfolding name_at
name_quoted b y e = rw e refl

name_on : (bytes : List ℕ) (v : List ℕ × List ℕ) → name_at bytes ≡ Some v → On name_at bytes v
name_on bytes v e = split (begins (λ b. b == 34) bytes) refl where
  bare : begins (λ b. b == 34) bytes ≡ false → On name_at bytes v
  bare t =
      let o = bare_on bytes v (sym (name_bare bytes t) ∙ e) in
      record {
        text = o.text;
        parts = o.parts;
        some = o.some;
        on = λ r s. name_bare (o.text ++ r) (same_start bare_at (λ b. b == 34) bytes v o r s ∙ t) ∙ o.on r s;
      }

  quoted : (b : ℕ) (y : List ℕ) → (b == 34) ≡ true → quoted_at y ≡ Some v → On name_at (b ∷ y) v
  quoted b y t e =
      let q = quoted_takes y v e in
      let s = q.0.spelled in
      record {
        text = b ∷ q.0.text;
        parts = ap (λ (z : List ℕ). b ∷ z) q.0.parts;
        some = omega arith;
        on = λ r same.
            let whole : q.0.text ++ r ≡ s.0 ++ (34 ∷ r) = ap (λ (z : List ℕ). z ++ r) s.4 ∙ append_assoc s.0 s.1 r ∙ ap (λ (z : List ℕ). s.0 ++ (z ++ r)) s.3 in
            name_quoted b (q.0.text ++ r) t ∙ ap quoted_at whole ∙ quoted_again v.0 s.0 r q.1 s.2;
      }

  in_quotes_ : (bytes : List ℕ) → begins (λ b. b == 34) bytes ≡ true → name_at bytes ≡ Some v → On name_at bytes v
  in_quotes_ [] t e = absurd cc
  in_quotes_ (b ∷ y) t e = quoted b y t (sym (name_quoted b y t) ∙ e)

  split : (c : Bool) → begins (λ b. b == 34) bytes ≡ c → On name_at bytes v
  split true t = in_quotes_ bytes t e
  split false t = bare t

named_step_on : (bytes : List ℕ) (v : Field × List ℕ) → named_step_at bytes ≡ Some v → On named_step_at bytes v
unfolding named_step_at
named_step_on bytes v e =
    let a = bind_some (name_at bytes) (λ n. cond (is_next 34 bytes || not (is_next 35 n.1)) (Some (Name n.0, n.1)) None) v e in
    let b = test_some (is_next 34 bytes || not (is_next 35 a.0.1)) (Name a.0.0, a.0.1) v a.2 in
    let o = name_on bytes a.0 a.1 in
    subst (λ (w : Field × List ℕ). On named_step_at bytes w) b.1 (record {
      text = o.text;
      parts = o.parts;
      some = o.some;
      on = λ r s.
          let quote : is_next 34 (o.text ++ r) ≡ is_next 34 bytes = sym (next_of 34 (o.text ++ r)) ∙ same_start name_at (λ k. k == 34) bytes a.0 o r s ∙ next_of 34 bytes in
          let hash : is_next 35 r ≡ is_next 35 a.0.1 = sym (next_of 35 r) ∙ sym (starts_same (λ k. k == 35) [] a.0.1 r s) ∙ next_of 35 a.0.1 in
          rw (o.on r s, quote, hash, b.0) refl;
    })

step_plain : (y : List ℕ) → begins (λ k. (k == 91) || (k == 36)) y ≡ false → step_at y ≡ named_step_at y
step_plain [] e = step_name [] refl refl
step_plain (k ∷ y) e = let h = pick (k == 91) (k == 36) e in step_name (k ∷ y) h.0 h.1 where
  pick : (r s : Bool) → (r || s) ≡ false → (r ≡ false) × (s ≡ false)
  pick true s e = absurd cc
  pick false true e = absurd cc
  pick false false e = (refl, refl)

step_on : (bytes : List ℕ) (v : Field × List ℕ) → step_at bytes ≡ Some v → On step_at bytes v
unfolding step_at element_at
step_on bytes v e = split (begins (λ k. (k == 91) || (k == 36)) bytes) refl where
  plain : begins (λ k. (k == 91) || (k == 36)) bytes ≡ false → On step_at bytes v
  plain t =
      let o = named_step_on bytes v (sym (step_plain bytes t) ∙ e) in
      record {
        text = o.text;
        parts = o.parts;
        some = o.some;
        on = λ r s. step_plain (o.text ++ r) (same_start named_step_at (λ k. (k == 91) || (k == 36)) bytes v o r s ∙ t) ∙ o.on r s;
      }

  element : (b : ℕ) (y : List ℕ) → (b == 91) ≡ true → step_at (b ∷ y) ≡ Some v → On step_at (b ∷ y) v
  element b y t e =
      let a = bind_some (byte_at 93 y) (λ rest. Some (ElementType, rest)) v (rw t at e) in
      let is = some_is (ElementType, a.0) v a.2 in
      let c = byte_takes 93 y a.0 a.1 in
      subst (λ (w : Field × List ℕ). On step_at (b ∷ y) w) is (record {
        text = b ∷ 93 ∷ [];
        parts = ap (λ (z : List ℕ). b ∷ z) (c.parts ∙ ap (λ (z : List ℕ). z ++ a.0) c.spelled);
        some = omega arith;
        on = λ r s. rw t refl;
      })

  dollar : (b : ℕ) (y : List ℕ) → (b == 91) ≡ false → (b == 36) ≡ true → step_at (b ∷ y) ≡ Some v → On step_at (b ∷ y) v
  dollar b y u t e =
      let same : (z : List ℕ) → step_at (b ∷ z) ≡ named_step_at z = λ z. ap (λ (k : ℕ). step_at (k ∷ z)) (eqb-true b 36 t) ∙ step_dollar z in
      let o = named_step_on y v (sym (same y) ∙ e) in
      record {
        text = b ∷ o.text;
        parts = ap (λ (z : List ℕ). b ∷ z) o.parts;
        some = omega arith;
        on = λ r s. same (o.text ++ r) ∙ o.on r s;
      }

  marked : (bytes : List ℕ) → begins (λ k. (k == 91) || (k == 36)) bytes ≡ true → step_at bytes ≡ Some v → On step_at bytes v
  marked [] t e = absurd cc
  marked (b ∷ y) t e = pick (b == 91) refl where
    other : (b == 91) ≡ false → (b == 36) ≡ true
    other u = rw u at t

    pick : (c : Bool) → (b == 91) ≡ c → On step_at (b ∷ y) v
    pick true u = element b y u e
    pick false u = dollar b y u (other u) e

  split : (c : Bool) → begins (λ k. (k == 91) || (k == 36)) bytes ≡ c → On step_at bytes v
  split true t = marked bytes t e
  split false t = plain t

-- the same of steps, of which there are at most so many as bytes
pub record StepsOn (bytes : List ℕ) (v : List Field × List ℕ) : Type 0 where
  pub text : List ℕ
  pub parts : bytes ≡ text ++ v.1
  pub on : (k : ℕ) (r : List ℕ) → length text ≤ k → take 1 v.1 ≡ take 1 r → steps_at k (text ++ r) ≡ Some (v.0, r)

last_on : (bytes : List ℕ) (s : Field × List ℕ) → step_at bytes ≡ Some s → byte_at 46 s.1 ≡ None → StepsOn bytes (s.0 ∷ [], s.1)
last_on bytes s read dot =
    let o = step_on bytes s read in
    record { text = o.text; parts = o.parts; on = λ k r. on o k r } where
      no_dot : (y : List ℕ) → byte_at 46 y ≡ None → begins (λ b. b == 46) y ≡ false
      no_dot [] h = refl
      no_dot (b ∷ y) h = pick (b == 46) refl where
        pick : (t : Bool) → (b == 46) ≡ t → (b == 46) ≡ false
        pick true t = let clash : Some y ≡ None = rw t at h in absurd cc
        pick false t = t

      on : (o : On step_at bytes s) (k : ℕ) (r : List ℕ) → length o.text ≤ k → take 1 s.1 ≡ take 1 r → steps_at k (o.text ++ r) ≡ Some (s.0 ∷ [], r)
      on o zero r le same = absurd (omega (arith, le, o.some))
      on o (suc k) r le same =
          let none : byte_at 46 r ≡ None = no_byte 46 r (sym (next_of 46 r) ∙ sym (starts_same (λ b. b == 46) [] s.1 r same) ∙ no_dot s.1 dot) in
          rw (o.on r same, none) refl

more_on : (bytes : List ℕ) (s : Field × List ℕ) (next : List ℕ) (w : List Field × List ℕ) → step_at bytes ≡ Some s → byte_at 46 s.1 ≡ Some next → StepsOn next w → StepsOn bytes (s.0 ∷ w.0, w.1)
more_on bytes s next w read dot m =
    let o = step_on bytes s read in
    let d = byte_takes 46 s.1 next dot in
    let behind : s.1 ≡ 46 ∷ next = d.parts ∙ ap (λ (z : List ℕ). z ++ next) d.spelled in
    let whole : bytes ≡ (o.text ++ (46 ∷ m.text)) ++ w.1 = o.parts ∙ ap (λ (z : List ℕ). o.text ++ z) (behind ∙ ap (λ (z : List ℕ). 46 ∷ z) m.parts) ∙ sym (append_assoc o.text (46 ∷ m.text) w.1) in
    record { text = o.text ++ (46 ∷ m.text); parts = whole; on = λ k r. on o behind k r } where
      on : (o : On step_at bytes s) → s.1 ≡ 46 ∷ next → (k : ℕ) (r : List ℕ) → length (o.text ++ (46 ∷ m.text)) ≤ k → take 1 w.1 ≡ take 1 r → steps_at k ((o.text ++ (46 ∷ m.text)) ++ r) ≡ Some (s.0 ∷ w.0, r)
      on o behind zero r le same = absurd (omega (arith, le, o.some, length-append o.text (46 ∷ m.text)))
      on o behind (suc k) r le same =
          let one = o.on (46 ∷ (m.text ++ r)) (ap (take 1) behind) in
          let later = m.on k r (omega (arith, le, o.some, length-append o.text (46 ∷ m.text))) same in
          rw (append_assoc o.text (46 ∷ m.text) r, one, later) refl

steps_on : (k : ℕ) (bytes : List ℕ) (v : List Field × List ℕ) → steps_at k bytes ≡ Some v → StepsOn bytes v
steps_on zero bytes v e = absurd cc
steps_on (suc k) bytes v e =
    let a = bind_some (step_at bytes) (λ f. and_steps (steps_at k) f.0 f.1 (byte_at 46 f.1)) v e in
    split a.0 (byte_at 46 a.0.1) refl a.1 a.2 (λ next w. steps_on k next w) where
      split : (s : Field × List ℕ) (c : Option (List ℕ)) → byte_at 46 s.1 ≡ c → step_at bytes ≡ Some s → and_steps (steps_at k) s.0 s.1 c ≡ Some v
          → ((next : List ℕ) (w : List Field × List ℕ) → steps_at k next ≡ Some w → StepsOn next w) → StepsOn bytes v
      split s None dot read e again = subst (λ (w : List Field × List ℕ). StepsOn bytes w) (some_is (s.0 ∷ [], s.1) v e) (last_on bytes s read dot)
      split s (Some next) dot read e again =
          let w = with_first_some s.0 (steps_at k next) v e in
          let is : (s.0 ∷ w.0, v.1) ≡ v = ap (λ (fs : List Field). (fs, v.1)) (sym w.2) in
          subst (λ (u : List Field × List ℕ). StepsOn bytes u) is (more_on bytes s next (w.0, v.1) read dot (again next (w.0, v.1) w.1))

-- the same of a path
pub record PathOn (bytes : List ℕ) (v : List Field × List ℕ) : Type 0 where
  pub text : List ℕ
  pub parts : bytes ≡ text ++ v.1
  pub on : (r : List ℕ) → take 1 v.1 ≡ take 1 r → path_by (text ++ r) ≡ Some (v.0, r)

path_on : (bytes : List ℕ) (v : List Field × List ℕ) → path_by bytes ≡ Some v → PathOn bytes v
unfolding path_by
path_on bytes v e = split (byte_at 46 bytes) refl where
  no_dot : (y : List ℕ) → byte_at 46 y ≡ None → begins (λ b. b == 46) y ≡ false
  no_dot [] h = refl
  no_dot (b ∷ y) h = pick (b == 46) refl where
    pick : (t : Bool) → (b == 46) ≡ t → (b == 46) ≡ false
    pick true t = let clash : Some y ≡ None = rw t at h in absurd cc
    pick false t = t

  split : (c : Option (List ℕ)) → byte_at 46 bytes ≡ c → PathOn bytes v
  split (Some rest) t =
      let is : ([], rest) ≡ v = some_is ([], rest) v (rw t at e) in
      let d = byte_takes 46 bytes rest t in
      subst (λ (w : List Field × List ℕ). PathOn bytes w) is
      (record { text = 46 ∷ []; parts = d.parts ∙ ap (λ (z : List ℕ). z ++ rest) d.spelled; on = λ r s. refl })
  split None t =
      let o = steps_on (length bytes) bytes v (rw t at e) in
      record {
        text = o.text;
        parts = o.parts;
        on = λ r s.
            let none : byte_at 46 (o.text ++ r) ≡ None =
            no_byte 46 (o.text ++ r) (sym (next_of 46 (o.text ++ r)) ∙ sym (starts_same (λ b. b == 46) o.text v.1 r s) ∙ ap (begins (λ b. b == 46)) (sym o.parts) ∙ no_dot bytes t) in
            rw (none, o.on (length (o.text ++ r)) r (omega (arith, length-append o.text r)) s) refl;
      }

-- ---- blanks and comments

mutual
  solid : (bytes : List ℕ) → begins is_blank (skipped_from None bytes) ≡ false
  solid [] = refl
  solid (b ∷ bytes) = split (is_blank b) refl (solid bytes) (λ t. solid_behind (b ∷ bytes) bytes t) where
    other : (d : Bool) → (b == 35) ≡ d → is_blank b ≡ false → (begins is_blank (b ∷ bytes) ≡ false → begins is_blank (skipped_from (Some (b ∷ bytes)) bytes) ≡ false) → begins is_blank (skipped_from None (b ∷ bytes)) ≡ false
    other true u t more = ap (begins is_blank) (comment_step b bytes t u) ∙ more t
    other false u t more = ap (begins is_blank) (solid_step b bytes t u) ∙ t

    split : (d : Bool) → is_blank b ≡ d → begins is_blank (skipped_from None bytes) ≡ false → (begins is_blank (b ∷ bytes) ≡ false → begins is_blank (skipped_from (Some (b ∷ bytes)) bytes) ≡ false) → begins is_blank (skipped_from None (b ∷ bytes)) ≡ false
    split true t more within = ap (begins is_blank) (blank_step b bytes t) ∙ more
    split false t more within = other (b == 35) refl t within

  solid_behind : (c bytes : List ℕ) → begins is_blank c ≡ false → begins is_blank (skipped_from (Some c) bytes) ≡ false
  solid_behind c [] t = t
  solid_behind c (b ∷ bytes) t = split (b == 10) refl (solid bytes) (solid_behind c bytes t) where
    split : (d : Bool) → (b == 10) ≡ d → begins is_blank (skipped_from None bytes) ≡ false → begins is_blank (skipped_from (Some c) bytes) ≡ false → begins is_blank (skipped_from (Some c) (b ∷ bytes)) ≡ false
    split true u more within = ap (begins is_blank) (end_step c b bytes u) ∙ more
    split false u more within = ap (begins is_blank) (line_step c b bytes u) ∙ within

skipped_solid : (bytes : List ℕ) → begins is_blank (skipped bytes) ≡ false
unfolding skipped
skipped_solid bytes = solid bytes

no_gap_there : (y : List ℕ) → begins is_blank y ≡ false → is_end y ≡ false → begins opens_gap y ≡ false
no_gap_there [] e f = absurd cc
no_gap_there (b ∷ y) e f = rw (e, f) refl

end_same : (a c : List ℕ) → take 1 a ≡ take 1 c → is_end a ≡ is_end c
end_same [] [] e = refl
end_same [] (d ∷ c) e = absurd cc
end_same (b ∷ a) [] e = absurd cc
end_same (b ∷ a) (d ∷ c) e = let h : b ≡ d = cc in ap (λ k. k == 35) h

-- a comment that doesn't end is a token with all of its bytes
line_same : (s c : List ℕ) → list_all is_in_line s ≡ true → s ≡ take (suc (prefix_len is_in_line c)) c → c ≡ s
line_same s [] all e = sym e
line_same s (d ∷ c) all e = split (is_in_line d) refl s all e (λ s. line_same s c) where
  split : (t : Bool) → is_in_line d ≡ t → (s : List ℕ) → list_all is_in_line s ≡ true → s ≡ take (suc (prefix_len is_in_line (d ∷ c))) (d ∷ c)
      → ((s : List ℕ) → list_all is_in_line s ≡ true → s ≡ take (suc (prefix_len is_in_line c)) c → c ≡ s) → d ∷ c ≡ s
  split true t s all e again =
      let len : prefix_len is_in_line (d ∷ c) ≡ suc (prefix_len is_in_line c) = rw t (omega arith) in
      let whole : s ≡ d ∷ take (suc (prefix_len is_in_line c)) c = e ∙ ap (λ (k : ℕ). take (suc k) (d ∷ c)) len in
      let tail : list_all is_in_line (take (suc (prefix_len is_in_line c)) c) ≡ true = (both (is_in_line d) (list_all is_in_line (take (suc (prefix_len is_in_line c)) c)) (ap (list_all is_in_line) (sym whole) ∙ all)).1 in
      ap (λ (y : List ℕ). d ∷ y) (again (take (suc (prefix_len is_in_line c)) c) tail refl) ∙ sym whole
  split false t s all e again =
      let len : prefix_len is_in_line (d ∷ c) ≡ 0 = rw t refl in
      let whole : s ≡ d ∷ [] = e ∙ ap (λ (k : ℕ). take (suc k) (d ∷ c)) len in
      let clash : is_in_line d ≡ true = (both (is_in_line d) true (ap (list_all is_in_line) (sym whole) ∙ all)).0 in
      absurd cc

comment_same : (s c : List ℕ) → list_all is_in_line s ≡ true → token (35 ∷ s) ≡ token c → c ≡ 35 ∷ s
comment_same s c all e =
    let d = one_same 35 s c (first_token (35 ∷ s) c e) in
    let whole : token (35 ∷ s) ≡ token (35 ∷ d.0) = e ∙ ap token d.1 in
    let parts : 35 ∷ take (suc (prefix_len is_in_line s)) s ≡ 35 ∷ take (suc (prefix_len is_in_line d.0)) d.0 = whole in
    let lines : take (suc (prefix_len is_in_line s)) s ≡ take (suc (prefix_len is_in_line d.0)) d.0 = cc in
    d.1 ∙ ap (λ (y : List ℕ). 35 ∷ y) (line_same s d.0 all (sym (kept s all) ∙ lines)) where
      kept : (s : List ℕ) → list_all is_in_line s ≡ true → take (suc (prefix_len is_in_line s)) s ≡ s
      kept [] all = refl
      kept (b ∷ s) all =
          let h = both (is_in_line b) (list_all is_in_line s) all in
          let len : prefix_len is_in_line (b ∷ s) ≡ suc (prefix_len is_in_line s) = rw h.0 (omega arith) in
          ap (λ (k : ℕ). take (suc k) (b ∷ s)) len ∙ ap (λ (y : List ℕ). b ∷ y) (kept s h.1)

-- no step begins with a comment
and_none : (a b : Bool) → (a && (false && b)) ≡ false
and_none true b = refl
and_none false b = refl

hash_name : (s : List ℕ) → name_at (35 ∷ s) ≡ None
unfolding name_at
hash_name s = bare_none (35 ∷ s) (and_none (is_utf8 []) (not (has_special [])))

hash_step : (s : List ℕ) → step_at (35 ∷ s) ≡ None
unfolding step_at named_step_at
hash_step s = rw (hash_name s) refl

plain_nil : plain_len [] ≡ 0
plain_nil = omega (arith, plain_within [])

hash_stop : (s : List ℕ) → path_stop (35 ∷ s) ≡ here x.Name (35 ∷ s)
unfolding path_stop step_stop named_step_stop name_stop bare_stop
hash_stop s = rw (hash_step s, hash_name s, plain_nil) refl

-- ---- a whole text

abbrev WholeNone : List ℕ → Type 0
WholeNone y = whole_path_at y ≡ None

whole_stuck : (bytes : List ℕ) → whole_path_at bytes ≡ None → Stuck WholeNone bytes (whole_path_stop bytes)
unfolding whole_path_at whole_path_stop
whole_stuck bytes e = split (path_by (skipped bytes)) refl where
  gap : List ℕ
  gap = (skipped_takes bytes).text

  -- behind the blanks in front
  within : (y : List ℕ) → begins opens_gap y ≡ false → path_by y ≡ None → whole_path_at (gap ++ y) ≡ None
  within y none h = rw (skipped_again gap y (skipped_takes bytes).spelled none, h) refl

  front_stops : path_by (skipped bytes) ≡ None → begins opens_gap (skipped bytes) ≡ false → Stuck WholeNone bytes (path_stop (skipped bytes))
  front_stops t none =
      stuck_behind (λ y. (begins opens_gap y ≡ false) × PathNone y) WholeNone gap (skipped bytes) bytes (path_stop (skipped bytes)) (skipped_takes bytes).parts (λ y h. within y h.0 h.1)
      (stuck_where PathNone (λ y. (begins opens_gap y ≡ false) × PathNone y) opens_gap (skipped bytes) (path_stop (skipped bytes)) none (λ y f h. (f, h)) (path_stuck (skipped bytes) t))

  -- a comment that doesn't end, in place of a path
  unclosed : (s : List ℕ) → skipped bytes ≡ s → is_end s ≡ true → comment s → begins opens_gap s ≡ true → Stuck WholeNone bytes (path_stop s)
  unclosed [] is end h t = absurd cc
  unclosed (b ∷ s) is end h t =
      let is35 : b ≡ 35 = h.0 in
      let whole : bytes ≡ gap ++ (35 ∷ s) = (skipped_takes bytes).parts ∙ ap (λ (y : List ℕ). gap ++ y) (is ∙ ap (λ (k : ℕ). k ∷ s) is35) in
      subst (λ (k : ℕ). Stuck WholeNone bytes (path_stop (k ∷ s))) (sym is35) (subst (Stuck WholeNone bytes) (sym (hash_stop s)) (record {
        front = gap;
        rest = 35 ∷ s;
        all = whole;
        left = refl;
        stops = λ c same. ap (λ (y : List ℕ). whole_path_at (gap ++ y)) (comment_same s c h.1 same) ∙ ap whole_path_at (sym whole) ∙ e;
      }))

  at_front : (t : Bool) → begins opens_gap (skipped bytes) ≡ t → path_by (skipped bytes) ≡ None → Stuck WholeNone bytes (path_stop (skipped bytes))
  at_front false u t = front_stops t u
  at_front true u t = ended (is_end (skipped bytes)) refl where
    ended : (d : Bool) → is_end (skipped bytes) ≡ d → Stuck WholeNone bytes (path_stop (skipped bytes))
    ended true f = unclosed (skipped bytes) refl f (skipped_ends bytes f) u
    ended false f = let clash : true ≡ false = sym u ∙ no_gap_there (skipped bytes) (skipped_solid bytes) f in absurd cc

  -- behind a path
  behind : (v : List Field × List ℕ) → path_by (skipped bytes) ≡ Some v → is_end (skipped v.1) ≡ false → Stuck WholeNone bytes (here x.End (skipped v.1))
  behind v read open_ =
      let o = path_on (skipped bytes) v read in
      let g = skipped_takes v.1 in
      let r = skipped v.1 in
      let t = path_takes (skipped bytes) v read in
      let solid_front : begins opens_gap (skipped bytes) ≡ false = ap (begins opens_gap) t.0.parts ∙ path_begins v.0 t.0.text v.1 t.0.spelled in
      let whole : bytes ≡ (gap ++ (o.text ++ g.text)) ++ r =
      (skipped_takes bytes).parts ∙ ap (λ (y : List ℕ). gap ++ y) (o.parts ∙ ap (λ (y : List ℕ). o.text ++ y) g.parts ∙ sym (append_assoc o.text g.text r)) ∙ sym (append_assoc gap (o.text ++ g.text) r) in
      record {
        front = gap ++ (o.text ++ g.text);
        rest = r;
        all = whole;
        left = refl;
        stops = λ c same.
            let first : take 1 r ≡ take 1 c = first_token r c same in
            let next : take 1 v.1 ≡ take 1 (g.text ++ c) = ap (take 1) g.parts ∙ first_append g.text r c first in
            let front_none : begins opens_gap (o.text ++ (g.text ++ c)) ≡ false = sym (starts_same opens_gap o.text v.1 (g.text ++ c) next) ∙ ap (begins opens_gap) (sym o.parts) ∙ solid_front in
            let rest_none : begins opens_gap c ≡ false = sym (starts_same opens_gap [] r c first) ∙ no_gap_there r (skipped_solid v.1) open_ in
            let end_ : is_end c ≡ false = sym (end_same r c first) ∙ open_ in
            let assoc : (gap ++ (o.text ++ g.text)) ++ c ≡ gap ++ (o.text ++ (g.text ++ c)) = append_assoc gap (o.text ++ g.text) c ∙ ap (λ (y : List ℕ). gap ++ y) (append_assoc o.text g.text c) in
            rw (assoc, skipped_again gap (o.text ++ (g.text ++ c)) (skipped_takes bytes).spelled front_none, o.on (g.text ++ c) next, skipped_again g.text c g.spelled rest_none, end_) refl;
      }

  open_end : (v : List Field × List ℕ) → cond (is_end (skipped v.1)) (Some v.0) None ≡ None → is_end (skipped v.1) ≡ false
  open_end v e = pick (is_end (skipped v.1)) e where
    pick : (b : Bool) → cond b (Some v.0) None ≡ None → b ≡ false
    pick true e = absurd cc
    pick false e = refl

  split : (c : Option (List Field × List ℕ)) → path_by (skipped bytes) ≡ c → Stuck WholeNone bytes (whole_path_stop bytes)
  split None t = rw t (at_front (begins opens_gap (skipped bytes)) refl t)
  split (Some v) t = rw t (behind v t (open_end v (rw t at e)))

-- ---- the error

-- as much is in front of the same rest
same_front : (a b c d : List ℕ) → a ++ b ≡ c ++ d → length b ≡ length d → a ≡ c
same_front a b c d e l =
    let len : length a ≡ length c = omega (arith, l, ap (λ (y : List ℕ). length y) e, length-append a b, length-append c d) in
    sym (take_at a b (length a) refl) ∙ ap (take (length a)) e ∙ ap (λ (k : ℕ). take k (c ++ d)) len ∙ take_at c d (length c) refl

stops_there : (bytes text : List ℕ) (left position : ℕ) (expected : Expected) → text ≡ bytes → Stuck WholeNone bytes (left, expected) → Fronts (Goes IsPathText) bytes (left, expected)
    → position ≡ suc (length text - left) → StopsAt IsPathText position expected bytes
stops_there bytes text left position expected same s g is = record {
  front = s.front;
  rest = s.rest;
  all = s.all;
  place = omega (arith, is, ap (λ (y : List ℕ). length y) same, ap (λ (y : List ℕ). length y) s.all, length-append s.front s.rest, s.left);
  goes_on = subst (Goes IsPathText expected) (same_front g.front g.rest s.front s.rest (sym g.all ∙ s.all) (sym g.left ∙ s.left)) g.good;
  stops = λ c token_ stands. let clash : Some stands.0 ≡ None = sym (whole_path_again (s.front ++ c) stands.0 stands.1) ∙ s.stops c token_ in absurd cc;
}

pub path_stops : (bytes text : List ℕ) (f : Fault) (e : TextError) → text ≡ bytes → Fails f (whole_path_at bytes) → IsAt (whole_path_stop bytes) f → Tells text f e → IsStopOf IsPathText bytes e
path_stops bytes text fault.Memory e same failed at is = subst (IsStopOf IsPathText bytes) (sym is) tt
path_stops bytes text (fault.Refused v) e same failed at is = absurd failed
path_stops bytes text (fault.TooDeep l) e same failed at is = absurd failed
path_stops bytes text (fault.Misread l x) (error.Misread p y z) same failed at is =
    subst (λ w. StopsAt IsPathText p w bytes) (sym is.0) (stops_there bytes text l p x same (subst (Stuck WholeNone bytes) at (whole_stuck bytes failed)) (subst (Fronts (Goes IsPathText) bytes) at (whole_fronts bytes)) is.1)
path_stops bytes text (fault.Misread l x) error.OutOfMemory same failed at is = tt
path_stops bytes text (fault.Misread l x) (error.Refused v) same failed at is = tt
path_stops bytes text (fault.Misread l x) (error.TooDeep p) same failed at is = tt
