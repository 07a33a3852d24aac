-- SPDX-License-Identifier: Apache-2.0
-- SPDX-FileCopyrightText: Copyright the Vortex contributors

-- What is spelled of paths is read, and what is written of a path is spelled.
use Rattle.std.proofs.Common.{◌≡◌, ℕ, zero, suc, ◌+◌, ◌≤◌, Bool, true, false, cond, not, ◌||◌, ◌==◌, List, [], ◌∷◌, ◌++◌, length, Some, None, refl, sym, ap, subst, ◌∙◌, append_assoc, arith, inl, inr}
use Rattle.std.specs.Prelude.{codes}
use Rattle.std.specs.List.{AllByRecursion}
use Rattle.std.proofs.lemmas.Bool.{eq-eqb}
use Rattle.std.proofs.lemmas.List.{length-append, append-nil}
use Rattle.dtype_paths.specs.declared.field.Field.{Field}
use Rattle.dtype_paths.specs.declared.field.Field.TheVariants.{Name, ElementType}
use Rattle.dtype_text.specs.Read.{byte_at}
use Rattle.dtype_text.specs.Bare.{is_bare_byte}
use Rattle.dtype_text.specs.Leaves.{skipped, opens_gap}
use Rattle.dtype_text.specs.Grammar.{lit, ◌<>◌, blanks, comment, named, units}
use Rattle.dtype_text.specs.TypeParts.{is_end}
use Rattle.dtype_text.specs.Errors.{Tells}
use Rattle.dtype_text.specs.Read.{Fails}
use Rattle.dtype_text.specs.Source.{name_source}
use Rattle.dtype_text.specs.PathSource.{step_source, path_source, IsTextStep, HasTextSteps}
use Rattle.dtype_text.specs.declared.fault.Fault.{Fault}
use Rattle.dtype_text.specs.declared.fault.Fault.TheVariants as fault
use Rattle.dtype_text.specs.declared.text_error.TextError.{TextError}
use Rattle.dtype_text.specs.declared.text_error.TextError.TheVariants as error
use Rattle.dtype_text.specs.PathGrammar.{SpellsStep, SpellsSteps, SpellsPath, ends_bare, is_next, StandsForPath}
use Rattle.dtype_text.specs.Paths.{IsPathError, named_step_at, element_at, step_at, steps_at, path_by, whole_path_at}
use Rattle.dtype_text.proofs.Words.{bind_some, some_is, test_some, begins, skipped_takes, skipped_again, skipped_ends, comment_again}
use Rattle.dtype_text.proofs.LeavesAgain.{begins_blanks, byte_then, named_again, named_begins}
use Rattle.dtype_text.proofs.Written.{name_written}
use Rattle.dtype_text.proofs.PathSteps.{ends_later, bare_ends, bare_some, no_bracket, no_dollar, no_dot, no_gap, next_of, named_some, step_some, steps_some, path_takes}

pub or_true : (a : Bool) → (a || true) ≡ true
or_true true = refl
or_true false = refl

named_step_again : (n x rest : List ℕ) → named n x → begins is_bare_byte rest ≡ false → (ends_bare x ≡ true → is_next 35 rest ≡ false) → named_step_at (x ++ rest) ≡ Some (Name n, rest)
unfolding named_step_at
named_step_again n x rest h none apart =
    let r = named_again n x rest h none in
    let test : (is_next 34 (x ++ rest) || not (is_next 35 rest)) ≡ true = elim h.1 [
      | inl p ↦
          let s = bare_some n p.0 in
          rw (apart (ap ends_bare p.1 ∙ bare_ends n s.0 s.1)) (or_true (is_next 34 (x ++ rest)))
      | inr q ↦
          let e : is_next 34 (x ++ rest) ≡ true = ap (is_next 34) ((byte_then 34 (units n <> lit (codes "\"")) x q).2 rest).0 in
          rw e refl
    ] in
    rw (r, test) refl

pub step_name : (bytes : List ℕ) → is_next 91 bytes ≡ false → is_next 36 bytes ≡ false → step_at bytes ≡ named_step_at bytes
unfolding step_at
step_name [] e f = refl
step_name (b ∷ bytes) e f = rw (e, f) refl

pub step_dollar : (bytes : List ℕ) → step_at (36 ∷ bytes) ≡ named_step_at bytes
unfolding step_at
step_dollar bytes = refl

step_element : (rest : List ℕ) → step_at (91 ∷ 93 ∷ rest) ≡ Some (ElementType, rest)
unfolding step_at element_at
step_element rest = refl

-- a step is read again, whatever follows that doesn't go on with it
pub step_again : (f : Field) (x rest : List ℕ) → SpellsStep f x → begins is_bare_byte rest ≡ false → (ends_bare x ≡ true → is_next 35 rest ≡ false) → step_at (x ++ rest) ≡ Some (f, rest)
step_again ElementType x rest h none apart = ap (λ (a : List ℕ). step_at (a ++ rest)) h ∙ step_element rest
step_again (Name n) x rest h none apart = elim h.2 [
  | inl d ↦
      let e : x ≡ h.1 = h.4 ∙ ap (λ (a : List ℕ). a ++ h.1) d in
      let bracket : is_next 91 (h.1 ++ rest) ≡ false = sym (next_of 91 (h.1 ++ rest)) ∙ named_begins (λ b. b == 91) n h.1 rest refl no_bracket h.3 in
      let dollar_ : is_next 36 (h.1 ++ rest) ≡ false = sym (next_of 36 (h.1 ++ rest)) ∙ named_begins (λ b. b == 36) n h.1 rest refl no_dollar h.3 in
      ap (λ (a : List ℕ). step_at (a ++ rest)) e ∙ step_name (h.1 ++ rest) bracket dollar_ ∙ named_step_again n h.1 rest h.3 none (λ bare. apart (ap ends_bare e ∙ bare))
  | inr d ↦
      let e : x ≡ 36 ∷ h.1 = h.4 ∙ ap (λ (a : List ℕ). a ++ h.1) d in
      let later : ends_bare (36 ∷ h.1) ≡ ends_bare h.1 = ends_later (36 ∷ []) h.1 (named_some n h.1 h.3) in
      ap (λ (a : List ℕ). step_at (a ++ rest)) e ∙ step_dollar (h.1 ++ rest) ∙ named_step_again n h.1 rest h.3 none (λ bare. apart (ap ends_bare e ∙ later ∙ bare))
]

pub some_len : (x : List ℕ) → (x ≡ [] → ⊥) → 1 ≤ length x
some_len [] h = absurd (h refl)
some_len (b ∷ x) h = omega arith

pub no_byte : (k : ℕ) (bytes : List ℕ) → is_next k bytes ≡ false → byte_at k bytes ≡ None
no_byte k [] e = refl
no_byte k (b ∷ bytes) e = rw e refl

pub steps_again : (k : ℕ) (f : Field) (p : List Field) (x rest : List ℕ) → SpellsSteps f p x → length x ≤ k → begins is_bare_byte rest ≡ false → is_next 46 rest ≡ false → (ends_bare x ≡ true → is_next 35 rest ≡ false) → steps_at k (x ++ rest) ≡ Some (f ∷ p, rest)
steps_again zero f p x rest h le none dot apart = absurd (omega (arith, le, some_len x (steps_some f p x h)))
steps_again (suc k) f [] x rest h le none dot apart = rw (step_again f x rest h none apart, no_byte 46 rest dot) refl
steps_again (suc k) f (g ∷ p) x rest h le none dot apart =
    let y = h.3.1 in
    let d : h.1 ≡ 46 ∷ y = h.3.4 ∙ ap (λ (a : List ℕ). a ++ y) h.3.2 in
    let e : x ++ rest ≡ h.0 ++ (46 ∷ (y ++ rest)) = ap (λ (a : List ℕ). a ++ rest) h.4 ∙ append_assoc h.0 h.1 rest ∙ ap (λ (a : List ℕ). h.0 ++ (a ++ rest)) d in
    let len : length x ≡ length h.0 + (1 + length y) = ap length h.4 ∙ length-append h.0 h.1 ∙ ap (λ (a : List ℕ). length h.0 + length a) d ∙ omega arith in
    let later : ends_bare x ≡ ends_bare y = ap ends_bare h.4 ∙ ends_later h.0 h.1 (λ is. let clash : 46 ∷ y ≡ [] = sym d ∙ is in absurd cc) ∙ ap ends_bare d ∙ ends_later (46 ∷ []) y (steps_some g p y h.3.3) in
    let one = step_again f h.0 (46 ∷ (y ++ rest)) h.2 refl (λ bare. refl) in
    let more = steps_again k g p y rest h.3.3 (omega (arith, le, len, some_len h.0 (step_some f h.0 h.2))) none dot (λ bare. apart (later ∙ bare)) in
    rw (e, one, more) refl

-- steps begin with none of these bytes
step_begins : (p : ℕ → Bool) (f : Field) (x rest : List ℕ) → p 91 ≡ false → p 36 ≡ false → p 34 ≡ false → ((c : ℕ) → is_bare_byte c ≡ true → p c ≡ false) → SpellsStep f x → begins p (x ++ rest) ≡ false
step_begins p ElementType x rest bracket d quote bare h = ap (λ (a : List ℕ). begins p (a ++ rest)) h ∙ bracket
step_begins p (Name n) x rest bracket d quote bare h = elim h.2 [
  | inl is ↦
      let e : x ≡ h.1 = h.4 ∙ ap (λ (a : List ℕ). a ++ h.1) is in
      ap (λ (a : List ℕ). begins p (a ++ rest)) e ∙ named_begins p n h.1 rest quote bare h.3
  | inr is ↦
      let e : x ≡ 36 ∷ h.1 = h.4 ∙ ap (λ (a : List ℕ). a ++ h.1) is in
      ap (λ (a : List ℕ). begins p (a ++ rest)) e ∙ d
]

steps_begin : (p : ℕ → Bool) (f : Field) (fs : List Field) (x rest : List ℕ) → p 91 ≡ false → p 36 ≡ false → p 34 ≡ false → ((c : ℕ) → is_bare_byte c ≡ true → p c ≡ false) → SpellsSteps f fs x → begins p (x ++ rest) ≡ false
steps_begin p f [] x rest bracket d quote bare h = step_begins p f x rest bracket d quote bare h
steps_begin p f (g ∷ fs) x rest bracket d quote bare h =
    ap (λ (a : List ℕ). begins p (a ++ rest)) h.4 ∙ ap (begins p) (append_assoc h.0 h.1 rest) ∙ step_begins p f h.0 (h.1 ++ rest) bracket d quote bare h.2

pub path_begins : (fs : List Field) (x rest : List ℕ) → SpellsPath fs x → begins opens_gap (x ++ rest) ≡ false
path_begins [] x rest h = ap (λ (a : List ℕ). begins opens_gap (a ++ rest)) h
path_begins (f ∷ fs) x rest h = steps_begin opens_gap f fs x rest refl refl refl no_gap h

-- a path is read again, whatever follows that doesn't go on with it
pub path_again : (p : List Field) (x rest : List ℕ) → SpellsPath p x → begins is_bare_byte rest ≡ false → is_next 46 rest ≡ false → (ends_bare x ≡ true → is_next 35 rest ≡ false) → path_by (x ++ rest) ≡ Some (p, rest)
unfolding path_by
path_again [] x rest h none dot apart = rw h refl
path_again (f ∷ p) x rest h none dot apart =
    let first : byte_at 46 (x ++ rest) ≡ None = no_byte 46 (x ++ rest) (sym (next_of 46 (x ++ rest)) ∙ steps_begin (λ b. b == 46) f p x rest refl refl refl no_dot h) in
    let more = steps_again (length (x ++ rest)) f p x rest h (omega (arith, length-append x rest)) none dot apart in
    rw (first, more) refl

-- ---- a whole text

is_ended : (bytes : List ℕ) → comment bytes → (is_end bytes ≡ true) × (begins is_bare_byte bytes ≡ false) × (begins (λ b. b == 46) bytes ≡ false)
is_ended [] h = (refl, refl, refl)
is_ended (b ∷ bytes) h = (eq-eqb b 35 h.0, ap is_bare_byte h.0, ap (λ c. c == 46) h.0)

pub whole_path_sound : (bytes : List ℕ) (p : List Field) → whole_path_at bytes ≡ Some p → StandsForPath p bytes
unfolding whole_path_at
whole_path_sound bytes p e =
    let a = bind_some (path_by (skipped bytes)) (λ q. cond (is_end (skipped q.1)) (Some q.0) None) p e in
    let b = test_some (is_end (skipped a.0.1)) a.0.0 p a.2 in
    let front = skipped_takes bytes in
    let t = path_takes (skipped bytes) a.0 a.1 in
    let gap = skipped_takes a.0.1 in
    let rest = skipped a.0.1 in
    let ends : (blanks <> comment) a.0.1 = (gap.text, rest, gap.spelled, skipped_ends a.0.1 b.0, gap.parts) in
    let whole : bytes ≡ front.text ++ (t.0.text ++ a.0.1) = front.parts ∙ ap (λ (y : List ℕ). front.text ++ y) t.0.parts in
    subst (λ (q : List Field). StandsForPath q bytes) b.1
    (record { before = front.text; path = t.0.text; behind = a.0.1; whole = whole; begins = front.spelled; spelled = t.0.spelled; ends = ends; apart = t.1 })

pub whole_path_again : (bytes : List ℕ) (p : List Field) → StandsForPath p bytes → whole_path_at bytes ≡ Some p
unfolding whole_path_at
whole_path_again bytes p h =
    let y = h.ends in
    let c = is_ended y.1 y.3 in
    let none : begins is_bare_byte h.behind ≡ false = ap (begins is_bare_byte) y.4 ∙ begins_blanks is_bare_byte y.0 y.1 refl y.2 c.1 in
    let dot : is_next 46 h.behind ≡ false = sym (next_of 46 h.behind) ∙ ap (begins (λ b. b == 46)) y.4 ∙ begins_blanks (λ b. b == 46) y.0 y.1 refl y.2 c.2 in
    let first : skipped bytes ≡ h.path ++ h.behind = ap skipped h.whole ∙ skipped_again h.before (h.path ++ h.behind) h.begins (path_begins p h.path h.behind h.spelled) in
    let read : path_by (skipped bytes) ≡ Some (p, h.behind) = ap path_by first ∙ path_again p h.path h.behind h.spelled none dot h.apart in
    let skip : skipped h.behind ≡ y.1 = ap skipped y.4 ∙ comment_again y.0 y.1 y.2 y.3 in
    rw (read, skip, c.0) refl

pub one_path : (p q : List Field) (text : List ℕ) → StandsForPath p text → StandsForPath q text → p ≡ q
one_path p q text a b = some_is p q (sym (whole_path_again text p a) ∙ whole_path_again text q b)

-- ---- what a reader of a whole text returns

pub path_found : (bytes : List ℕ) (p : List Field) → whole_path_at bytes ≡ Some p → StandsForPath p bytes
path_found bytes p h = whole_path_sound bytes p h

pub path_is : (bytes : List ℕ) (p : List Field) → whole_path_at bytes ≡ Some p → (q : List Field) → StandsForPath q bytes → p ≡ q
path_is bytes p h q s = some_is p q (sym h ∙ whole_path_again bytes q s)

pub path_fails : (bytes text : List ℕ) (f : Fault) (e : TextError) → Fails f (whole_path_at bytes) → Tells text f e → (q : List Field) → StandsForPath q bytes → e ≡ error.OutOfMemory
path_fails bytes text fault.Memory e h is q s = is
path_fails bytes text (fault.Refused v) e h is q s = absurd h
path_fails bytes text (fault.TooDeep l) e h is q s = absurd h
path_fails bytes text (fault.Misread l x) e h is q s = let no_ : None ≡ Some q = sym h ∙ whole_path_again bytes q s in absurd cc

pub path_error : (bytes text : List ℕ) (f : Fault) (e : TextError) → Fails f (whole_path_at bytes) → Tells text f e → IsPathError e
path_error bytes text fault.Memory e h is = subst IsPathError (sym is) tt
path_error bytes text (fault.Refused v) e h is = absurd h
path_error bytes text (fault.TooDeep l) e h is = absurd h
path_error bytes text (fault.Misread l x) error.OutOfMemory h is = tt
path_error bytes text (fault.Misread l x) (error.Misread p y z) h is = tt
path_error bytes text (fault.Misread l x) (error.Refused v) h is = absurd is
path_error bytes text (fault.Misread l x) (error.TooDeep p) h is = absurd is

pub ruleset path_results = (path_found, path_is, path_fails, path_error)

-- ---- what is written

step_written : (f : Field) → IsTextStep f → SpellsStep f (step_source f)
step_written ElementType text = refl
step_written (Name n) text = ([], name_source n, inl refl, name_written n text, refl)

steps_written : (f : Field) (p : List Field) → IsTextStep f → AllByRecursion IsTextStep p → SpellsSteps f p (path_source (f ∷ p))
steps_written f [] text texts = subst (λ (x : List ℕ). SpellsStep f x) (sym (append-nil (step_source f))) (step_written f text)
steps_written f (g ∷ p) text texts =
    (step_source f, codes "." ++ path_source (g ∷ p), step_written f text, (codes ".", path_source (g ∷ p), refl, steps_written g p texts.0 texts.1, refl), refl)

pub path_written : (p : List Field) → HasTextSteps p → SpellsPath p (path_source p)
path_written [] texts = refl
path_written (f ∷ p) texts = steps_written f p texts.0 texts.1

pub written_path_stands : (p : List Field) → HasTextSteps p → StandsForPath p (path_source p)
written_path_stands p texts = record {
  before = [];
  path = path_source p;
  behind = [];
  whole = sym (append-nil (path_source p));
  begins = refl;
  spelled = path_written p texts;
  ends = ([], [], refl, tt, refl);
  apart = λ bare. refl;
}
