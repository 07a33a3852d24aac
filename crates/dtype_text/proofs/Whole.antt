-- SPDX-License-Identifier: Apache-2.0
-- SPDX-FileCopyrightText: Copyright the Vortex contributors

-- A whole text.
use Rattle.std.proofs.Common.{◌≡◌, ℕ, suc, ◌+◌, ◌-◌, length, Bool, true, false, cond, List, [], ◌∷◌, ◌++◌, append_assoc, refl, sym, ap, subst, ◌∙◌, arith, Ok, Err}
use Rattle.std.proofs.lemmas.Bool.{eq-eqb}
use Rattle.std.proofs.lemmas.List.{length-append}
use Rattle.dtype_base.specs.declared.vortex_error.VortexError.{VortexError}
use Rattle.dtype_types.specs.declared.dtype.DType.{DType}
use Rattle.dtype_types.specs.tree.Tree.{Tree}
use Rattle.dtype_types.specs.tree.TreeOf.{tree}
use Rattle.dtype_types.specs.tree.Valid.{Valid}
use Rattle.dtype_text.specs.declared.fault.Fault.{Fault}
use Rattle.dtype_text.specs.declared.fault.Fault.TheVariants as fault
use Rattle.dtype_text.specs.declared.text_error.TextError.{TextError}
use Rattle.dtype_text.specs.declared.text_error.TextError.TheVariants as error
use Rattle.dtype_text.specs.Errors.{Tells}
use Rattle.dtype_text.specs.Outcome.{Outcome, got, misspelled, refused, too_deep, Stops, Answers}
use Rattle.dtype_text.specs.Leaves.{skipped, opens_gap}
use Rattle.dtype_text.specs.TypeParts.{is_end}
use Rattle.dtype_text.specs.Types.{type_by, part_at, whole_at}
use Rattle.dtype_text.specs.Grammar.{comment, IsSpelled, Stands, IsReadAs, Refuses, levels}
use Rattle.dtype_text.specs.Within.{HasRefused, IsDeepAt, IsFaultOf}
use Rattle.dtype_text.proofs.Words.{begins, skipped_takes, skipped_ends, skipped_again, comment_again}
use Rattle.dtype_text.proofs.LeavesAgain.{begins_blanks}
use Rattle.dtype_text.proofs.Sound.{part_sound, type_takes, bind_got, got_is}
use Rattle.dtype_text.proofs.Again.{goes_on, part_complete, type_again, type_begins}
use Rattle.dtype_text.proofs.Answering.{through}
use Rattle.dtype_text.proofs.Positions.{a_position}
use Rattle.dtype_text.proofs.Ends.{Stop, Ends, then}
use Rattle.dtype_text.proofs.Within.{RefusedIn, DeepIn, StopsIn, type_ends, part_ends}

is_ended : (bytes : List ℕ) → comment bytes → (is_end bytes ≡ true) × (begins goes_on bytes ≡ false)
is_ended [] h = (refl, refl)
is_ended (b ∷ bytes) h = (eq-eqb b 35 h.0, ap goes_on h.0)

-- a test before what is read
ended : {A : Type 0} (b : Bool) (x y : A) → cond b (got x) misspelled ≡ got y → (b ≡ true) × (x ≡ y)
ended true x y e = (refl, got_is x y e)
ended false x y e = absurd cc

pub whole_sound : (bytes : List ℕ) (t : Tree) → whole_at bytes ≡ got t → Stands t bytes
unfolding whole_at
whole_sound bytes t e =
    let a = bind_got (type_by (part_at 128) (skipped bytes)) _ t e in
    let b = ended (is_end (skipped a.0.1)) a.0.0 t a.2 in
    let s = type_takes 128 (part_at 128) (part_sound 128) (skipped bytes) a.0 a.1 in
    let front = skipped_takes bytes in
    let gap = skipped_takes a.0.1 in
    let rest = skipped a.0.1 in
    let inner : skipped bytes ≡ s.0.text ++ (gap.text ++ rest) = s.0.parts ∙ ap (λ (y : List ℕ). s.0.text ++ y) gap.parts in
    let parts : bytes ≡ front.text ++ (s.0.text ++ (gap.text ++ rest)) = front.parts ∙ ap (λ (y : List ℕ). front.text ++ y) inner in
    let spelled : IsSpelled a.0.0 bytes = (front.text, s.0.text ++ (gap.text ++ rest), front.spelled, (s.0.text, gap.text ++ rest, s.0.spelled, (gap.text, rest, gap.spelled, skipped_ends a.0.1 b.0, refl), refl), parts) in
    subst (λ (u : Tree). Stands u bytes) b.1 (record { spelled = spelled; shallow = s.1; valid = s.2 })

-- a text that spells a type is read so
pub whole_again : (bytes : List ℕ) (t : Tree) → IsSpelled t bytes → Answers t (Valid t) (Refuses t) (levels t) 128 (whole_at bytes)
unfolding whole_at
whole_again bytes t h =
    let s = h.3 in
    let y = s.3 in
    let e : bytes ≡ h.0 ++ h.1 = h.4 in
    let f : h.1 ≡ s.0 ++ (y.0 ++ y.1) = s.4 ∙ ap (λ (z : List ℕ). s.0 ++ z) y.4 in
    let solid : begins opens_gap h.1 ≡ false = ap (begins opens_gap) f ∙ type_begins t s.0 (y.0 ++ y.1) s.2 in
    let skip : skipped bytes ≡ s.0 ++ (y.0 ++ y.1) = ap skipped e ∙ skipped_again h.0 h.1 h.2 solid ∙ f in
    let c = is_ended y.1 y.3 in
    let stop : begins goes_on (y.0 ++ y.1) ≡ false = begins_blanks goes_on y.0 y.1 refl y.2 c.1 in
    let read = type_again 128 (part_at 128) (part_complete 128) t s.0 (y.0 ++ y.1) s.2 stop in
    let last : skipped (y.0 ++ y.1) ≡ y.1 = comment_again y.0 y.1 y.2 y.3 in
    rw skip
    (through (t, y.0 ++ y.1) (Valid t) (Valid t) (Refuses t) (Refuses t) (levels t) 128 (levels t) 128 t (type_by (part_at 128) (s.0 ++ (y.0 ++ y.1))) _ read (λ v. v) (λ e h. h) (λ d. d)
    (λ v le. rw (last, c.0) (refl, v, le)))

-- what stands for a type is read
pub stands_again : (bytes : List ℕ) (t : Tree) → Stands t bytes → whole_at bytes ≡ got t
stands_again bytes t h = known (whole_at bytes) (whole_again bytes t h.spelled) where
  known : (r : Outcome Tree) → Answers t (Valid t) (Refuses t) (levels t) 128 r → r ≡ got t
  known (got u) a = ap (λ (v : Tree). got v) a.0
  known misspelled a = absurd a
  known (refused e) a = absurd (a.0 h.valid)
  known (too_deep l) a = absurd (omega (arith, a, h.shallow))

-- ---- what a reader of a whole text returns

pub found_of : (bytes : List ℕ) (d : DType) → whole_at bytes ≡ got (tree d) → Stands (tree d) bytes
found_of bytes d h = whole_sound bytes (tree d) h

pub read_of : (bytes : List ℕ) (d : DType) → whole_at bytes ≡ got (tree d) → (t : Tree) → Stands t bytes → tree d ≡ t
read_of bytes d h t s = got_is (tree d) t (sym h ∙ stands_again bytes t s)

pub fails_of : (bytes text : List ℕ) (f : Fault) (e : TextError) → Stops f (whole_at bytes) → Tells text f e → (t : Tree) → Stands t bytes → e ≡ error.OutOfMemory
fails_of bytes text fault.Memory e h is t s = is
fails_of bytes text (fault.Refused v) e h is t s = let no_ : refused v ≡ got t = sym h ∙ stands_again bytes t s in absurd cc
fails_of bytes text (fault.TooDeep l) e h is t s = let no_ : too_deep l ≡ got t = sym h ∙ stands_again bytes t s in absurd cc
fails_of bytes text (fault.Misread l x) e h is t s = let no_ : misspelled ≡ got t = sym h ∙ stands_again bytes t s in absurd cc

pub read_as : (bytes : List ℕ) (d : DType) → whole_at bytes ≡ got (tree d) → (t : Tree) → IsSpelled t bytes → IsReadAs t (Ok d)
read_as bytes d h t s = subst (λ (r : Outcome Tree). Answers t (Valid t) (Refuses t) (levels t) 128 r) h (whole_again bytes t s)

pub fails_as : (bytes text : List ℕ) (f : Fault) (e : TextError) → Stops f (whole_at bytes) → Tells text f e → (t : Tree) → IsSpelled t bytes → IsReadAs t (Err e)
fails_as bytes text fault.Memory e h is t s = subst (λ (x : TextError). IsReadAs t (Err x)) (sym is) tt
fails_as bytes text (fault.Refused v) e h is t s = subst (λ (x : TextError). IsReadAs t (Err x)) (sym is) (subst (λ (r : Outcome Tree). Answers t (Valid t) (Refuses t) (levels t) 128 r) h (whole_again bytes t s))
fails_as bytes text (fault.TooDeep l) (error.TooDeep p) h is t s = subst (λ (r : Outcome Tree). Answers t (Valid t) (Refuses t) (levels t) 128 r) h (whole_again bytes t s)
fails_as bytes text (fault.TooDeep l) error.OutOfMemory h is t s = absurd is
fails_as bytes text (fault.TooDeep l) (error.Refused v) h is t s = absurd is
fails_as bytes text (fault.TooDeep l) (error.Misread p x f) h is t s = absurd is
fails_as bytes text (fault.Misread l x) e h is t s = absurd (subst (λ (r : Outcome Tree). Answers t (Valid t) (Refuses t) (levels t) 128 r) h (whole_again bytes t s))

-- ---- where the fault of a text is

abbrev StopsWhole : List ℕ → Stop → Type 0
StopsWhole bytes s = StopsIn 129 (skipped bytes) s

whole_ends : (bytes : List ℕ) → Ends (StopsWhole bytes) (whole_at bytes)
unfolding whole_at
whole_ends bytes =
    then (StopsWhole bytes) (type_by (part_at 128) (skipped bytes)) _ (type_ends 128 (part_at 128) (part_sound 128) (part_ends 128) (skipped bytes)) (λ t is. end t (is_end (skipped t.1)) refl) where
      end : (t : Tree × List ℕ) (b : Bool) → is_end (skipped t.1) ≡ b → Ends (StopsWhole bytes) (cond (is_end (skipped t.1)) (got t.0) misspelled)
      end t true is = rw is tt
      end t false is = rw is tt

refused_in : (bytes : List ℕ) (e : VortexError) → RefusedIn e (skipped bytes) → HasRefused e bytes
refused_in bytes e h =
    let gap = skipped_takes bytes in
    let f = h.front in
    let s = h.spelled in
    let here : skipped bytes ≡ f.text ++ (s.text ++ h.rest) = f.parts ∙ ap (λ (y : List ℕ). f.text ++ y) s.parts in
    let all : bytes ≡ gap.text ++ (f.text ++ (s.text ++ h.rest)) = gap.parts ∙ ap (λ (y : List ℕ). gap.text ++ y) here in
    record {
      begun = h.begun;
      part = h.part;
      rest = h.rest;
      spelled = (gap.text, f.text ++ (s.text ++ h.rest), gap.spelled, (f.text, s.text ++ h.rest, f.spelled, (s.text, h.rest, s.spelled, refl, refl), refl), all);
      refuses = h.refuses;
    }

deep_in : (bytes text : List ℕ) (left position : ℕ) → length text ≡ length bytes → DeepIn 129 left (skipped bytes) → position ≡ suc (length text - left) → IsDeepAt position bytes
deep_in bytes text left position same h is =
    let gap = skipped_takes bytes in
    let f = h.front in
    let all : bytes ≡ (gap.text ++ f.text) ++ h.here = gap.parts ∙ ap (λ (y : List ℕ). gap.text ++ y) f.parts ∙ sym (append_assoc gap.text f.text h.here) in
    let count : length bytes ≡ length (gap.text ++ f.text) + length h.here = ap length all ∙ length-append (gap.text ++ f.text) h.here in
    record {
      begun = h.begun;
      front = gap.text ++ f.text;
      rest = h.here;
      all = all;
      spelled = (gap.text, f.text, gap.spelled, f.spelled, refl);
      many = h.many;
      place = omega (arith, same, count, is, h.place);
    }

pub faults_of : (bytes text : List ℕ) (f : Fault) (e : TextError) → text ≡ bytes → Stops f (whole_at bytes) → Tells text f e → IsFaultOf bytes e
faults_of bytes text fault.Memory e same h is = subst (IsFaultOf bytes) (sym is) tt
faults_of bytes text (fault.Refused v) e same h is = subst (IsFaultOf bytes) (sym is) (refused_in bytes v (subst (Ends (StopsWhole bytes)) h (whole_ends bytes)))
faults_of bytes text (fault.TooDeep l) (error.TooDeep p) same h is = deep_in bytes text l p (ap length same) (subst (Ends (StopsWhole bytes)) h (whole_ends bytes)) is
faults_of bytes text (fault.TooDeep l) error.OutOfMemory same h is = absurd is
faults_of bytes text (fault.TooDeep l) (error.Refused v) same h is = absurd is
faults_of bytes text (fault.TooDeep l) (error.Misread p x f) same h is = absurd is
faults_of bytes text (fault.Misread l x) (error.Misread p y z) same h is = a_position bytes text l p same is.1
faults_of bytes text (fault.Misread l x) error.OutOfMemory same h is = absurd is
faults_of bytes text (fault.Misread l x) (error.Refused v) same h is = absurd is
faults_of bytes text (fault.Misread l x) (error.TooDeep p) same h is = absurd is

pub one_type : (t u : Tree) (text : List ℕ) → Stands t text → Stands u text → t ≡ u
one_type t u text p q = got_is t u (sym (stands_again text t p) ∙ stands_again text u q)

pub ruleset whole_texts = (found_of, read_of, fails_of, read_as, fails_as, faults_of)
