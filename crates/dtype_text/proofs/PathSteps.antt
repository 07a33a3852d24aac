-- SPDX-License-Identifier: Apache-2.0
-- SPDX-FileCopyrightText: Copyright the Vortex contributors

-- What is read of paths is what is spelled.
use Rattle.std.proofs.Common.{◌≡◌, ℕ, zero, suc, Bool, true, false, cond, not, ◌||◌, ◌==◌, List, [], ◌∷◌, ◌++◌, length, Option, Some, None, refl, sym, ap, subst, ◌∙◌, append_assoc, arith, inl, inr}
use Rattle.std.specs.Prelude.{codes}
use Rattle.std.specs.List.{list_all}
use Rattle.std.proofs.lemmas.Bool.{eqb-true}
use Rattle.std.proofs.lemmas.Bool.Decides.{nat_tests}
use Rattle.std.proofs.lemmas.List.{length-append}
use Rattle.dtype_paths.specs.declared.field.Field.{Field}
use Rattle.dtype_paths.specs.declared.field.Field.TheVariants.{Name, ElementType}
use Rattle.dtype_text.specs.Read.{byte_at, closed_or}
use Rattle.dtype_text.specs.Bare.{is_bare_byte, is_bare_name, has_special}
use Rattle.dtype_text.specs.Leaves.{opens_gap, name_at}
use Rattle.dtype_text.specs.Grammar.{Lang, named, in_quotes}
use Rattle.dtype_text.specs.PathGrammar.{SpellsStep, SpellsSteps, SpellsPath, ends_bare, is_next}
use Rattle.dtype_text.specs.Paths.{named_step_at, element_at, step_at, and_steps, steps_at, path_by}
use Rattle.dtype_text.proofs.Words.{bind_some, some_is, test_some, both, begins, Takes, byte_takes}
use Rattle.dtype_text.proofs.LeavesSound.{name_takes, with_first_some}

-- ---- the last byte

pub ends_later : (x y : List ℕ) → (y ≡ [] → ⊥) → ends_bare (x ++ y) ≡ ends_bare y
ends_later [] y some = refl
ends_later (b ∷ []) [] some = absurd (some refl)
ends_later (b ∷ []) (c ∷ y) some = refl
ends_later (b ∷ d ∷ x) y some = ends_later (d ∷ x) y some

quotes_end : (n x : List ℕ) → in_quotes n x → ends_bare x ≡ false
quotes_end n x q =
    let u = q.3 in
    let some : u.0 ++ u.1 ≡ [] → ⊥ = λ e. let l : length (u.0 ++ u.1) ≡ 0 = ap length e in let k : length u.1 ≡ 1 = ap length u.3 in absurd (omega (arith, l, k, length-append u.0 u.1)) in
    let last : u.1 ≡ [] → ⊥ = λ e. let l : length u.1 ≡ 0 = ap length e in let k : length u.1 ≡ 1 = ap length u.3 in absurd (omega (arith, l, k)) in
    let rest : q.1 ≡ [] → ⊥ = λ e. some (sym u.4 ∙ e) in
    ap ends_bare q.4 ∙ ends_later q.0 q.1 rest ∙ ap ends_bare u.4 ∙ ends_later u.0 u.1 last ∙ ap ends_bare u.3

pub bare_ends : (n : List ℕ) → (n ≡ [] → ⊥) → list_all is_bare_byte n ≡ true → ends_bare n ≡ true
bare_ends [] some all = absurd (some refl)
bare_ends (b ∷ []) some all = (both (is_bare_byte b) true all).0
bare_ends (b ∷ c ∷ n) some all = bare_ends (c ∷ n) (λ e. cc) (both (is_bare_byte b) (list_all is_bare_byte (c ∷ n)) all).1

pub bare_some : (n : List ℕ) → is_bare_name n ≡ true → (n ≡ [] → ⊥) × (list_all is_bare_byte n ≡ true)
unfolding is_bare_name
bare_some [] h = absurd cc
bare_some (c ∷ n) h = (λ e. cc, (both (list_all is_bare_byte (c ∷ n)) (not (has_special (c ∷ n))) h).0)

pub no_bracket : (c : ℕ) → is_bare_byte c ≡ true → (c == 91) ≡ false
no_bracket c e = grind (arith, nat_tests)

pub no_dollar : (c : ℕ) → is_bare_byte c ≡ true → (c == 36) ≡ false
no_dollar c e = grind (arith, nat_tests)

pub no_dot : (c : ℕ) → is_bare_byte c ≡ true → (c == 46) ≡ false
no_dot c e = grind (arith, nat_tests)

pub no_quote : (c : ℕ) → is_bare_byte c ≡ true → (c == 34) ≡ false
no_quote c e = grind (arith, nat_tests)

pub no_gap : (c : ℕ) → is_bare_byte c ≡ true → opens_gap c ≡ false
no_gap c e = grind (arith, nat_tests)

bare_open : (n rest : List ℕ) → is_bare_name n ≡ true → is_next 34 (n ++ rest) ≡ false
bare_open [] rest h = absurd ((bare_some [] h).0 refl)
bare_open (c ∷ n) rest h = no_quote c (both (is_bare_byte c) (list_all is_bare_byte n) (bare_some (c ∷ n) h).1).0

-- the text of a name has a byte, and so do those of a step and of steps
pub named_some : (n x : List ℕ) → named n x → x ≡ [] → ⊥
named_some n x h is = elim h.1 [
  | inl p ↦ (bare_some n p.0).0 (sym p.1 ∙ is)
  | inr q ↦ let e : ends_bare x ≡ false = quotes_end n x q in quotes_some n x q is
] where
  quotes_some : (n x : List ℕ) → in_quotes n x → x ≡ [] → ⊥
  quotes_some n x q is =
      let l : length x ≡ 0 = ap length is in
      let k : length q.0 ≡ 1 = ap length q.2 in
      absurd (omega (arith, l, k, ap length q.4, length-append q.0 q.1))

pub step_some : (f : Field) (x : List ℕ) → SpellsStep f x → x ≡ [] → ⊥
step_some ElementType x h is = let e : codes "[]" ≡ [] = sym h ∙ is in absurd cc
step_some (Name n) x h is =
    let l : length x ≡ 0 = ap length is in
    let m : length h.1 ≡ 0 = omega (arith, l, ap length h.4, length-append h.0 h.1) in
    named_some n h.1 h.3 (none h.1 m) where
      none : (y : List ℕ) → length y ≡ 0 → y ≡ []
      none [] e = refl
      none (c ∷ y) e = absurd (omega (arith, e))

pub steps_some : (f : Field) (p : List Field) (x : List ℕ) → SpellsSteps f p x → x ≡ [] → ⊥
steps_some f [] x h is = step_some f x h is
steps_some f (g ∷ p) x h is =
    let l : length x ≡ 0 = ap length is in
    let m : length h.0 ≡ 0 = omega (arith, l, ap length h.4, length-append h.0 h.1) in
    step_some f h.0 h.2 (none h.0 m) where
      none : (y : List ℕ) → length y ≡ 0 → y ≡ []
      none [] e = refl
      none (c ∷ y) e = absurd (omega (arith, e))

-- ---- a step

-- a text of a language is taken from the front, and no comment follows the last byte of a bare name
abbrev pub TakesApart : Lang → List ℕ → List ℕ → Type 0
TakesApart L bytes rest = (t : Takes L bytes rest) × (ends_bare t.text ≡ true → is_next 35 rest ≡ false)

pub next_of : (k : ℕ) (bytes : List ℕ) → begins (λ b. b == k) bytes ≡ is_next k bytes
next_of k [] = refl
next_of k (b ∷ bytes) = refl

named_step_takes : (bytes : List ℕ) (x : Field × List ℕ) → named_step_at bytes ≡ Some x → (n : List ℕ) × (Name n ≡ x.0) × TakesApart (named n) bytes x.1
unfolding named_step_at
named_step_takes bytes x e =
    let a = bind_some (name_at bytes) (λ n. cond (is_next 34 bytes || not (is_next 35 n.1)) (Some (Name n.0, n.1)) None) x e in
    let b = test_some (is_next 34 bytes || not (is_next 35 a.0.1)) (Name a.0.0, a.0.1) x a.2 in
    let t = name_takes bytes a.0 a.1 in
    let apart : ends_bare t.text ≡ true → is_next 35 a.0.1 ≡ false = λ bare. elim t.spelled.1 [
      | inl p ↦
          let e : bytes ≡ a.0.0 ++ a.0.1 = t.parts ∙ ap (λ (y : List ℕ). y ++ a.0.1) p.1 in
          closed (is_next 34 bytes) (is_next 35 a.0.1) (ap (is_next 34) e ∙ bare_open a.0.0 a.0.1 p.0) b.0
      | inr q ↦ let clash : true ≡ false = sym bare ∙ quotes_end a.0.0 t.text q in absurd cc
    ] in
    (a.0.0, ap (λ y. y.0) b.1, subst (λ (r : List ℕ). TakesApart (named a.0.0) bytes r) (ap (λ y. y.1) b.1) (t, apart)) where
      closed : (q h : Bool) → q ≡ false → (q || not h) ≡ true → h ≡ false
      closed true h e f = absurd cc
      closed false true e f = absurd cc
      closed false false e f = refl

pub step_takes : (bytes : List ℕ) (x : Field × List ℕ) → step_at bytes ≡ Some x → TakesApart (SpellsStep x.0) bytes x.1
unfolding step_at element_at
step_takes [] x e =
    let a = named_step_takes [] x e in
    let t = a.2.0 in
    subst (λ (f : Field). TakesApart (SpellsStep f) [] x.1) a.1
    (record { text = t.text; spelled = ([], t.text, inl refl, t.spelled, refl); parts = t.parts }, a.2.1)
step_takes (b ∷ bytes) x e = split (b == 91) refl where
  name : (all : List ℕ) → named_step_at all ≡ Some x → TakesApart (SpellsStep x.0) all x.1
  name all e =
      let a = named_step_takes all x e in
      let t = a.2.0 in
      subst (λ (f : Field). TakesApart (SpellsStep f) all x.1) a.1
      (record { text = t.text; spelled = ([], t.text, inl refl, t.spelled, refl); parts = t.parts }, a.2.1)

  some : (n : List ℕ) (y : List ℕ) → named n y → y ≡ [] → ⊥
  some n y h is = named_some n y h is

  behind_dollar : (c : Bool) → (b == 36) ≡ c → cond (b == 36) (named_step_at bytes) (named_step_at (b ∷ bytes)) ≡ Some x → TakesApart (SpellsStep x.0) (b ∷ bytes) x.1
  behind_dollar true is e =
      let a = named_step_takes bytes x (rw is at e) in
      let t = a.2.0 in
      let h : b ≡ 36 = eqb-true b 36 is in
      subst (λ (f : Field). TakesApart (SpellsStep f) (b ∷ bytes) x.1) a.1 (
        record { text = 36 ∷ t.text; spelled = (36 ∷ [], t.text, inr refl, t.spelled, refl); parts = ap (λ (d : ℕ). d ∷ bytes) h ∙ ap (λ (y : List ℕ). 36 ∷ y) t.parts },
        λ bare. a.2.1 (sym (ends_later (36 ∷ []) t.text (some a.0 t.text t.spelled)) ∙ bare),
      )
  behind_dollar false is e = name (b ∷ bytes) (rw is at e)

  split : (c : Bool) → (b == 91) ≡ c → TakesApart (SpellsStep x.0) (b ∷ bytes) x.1
  split true is =
      let a = bind_some (byte_at 93 bytes) (λ rest. Some (ElementType, rest)) x (rw is at e) in
      let y = some_is (ElementType, a.0) x a.2 in
      let h : b ≡ 91 = eqb-true b 91 is in
      let t = byte_takes 93 bytes a.0 a.1 in
      let parts : b ∷ bytes ≡ codes "[]" ++ a.0 = ap (λ (d : ℕ). d ∷ bytes) h ∙ ap (λ (z : List ℕ). 91 ∷ z) (t.parts ∙ ap (λ (z : List ℕ). z ++ a.0) t.spelled) in
      subst (λ (z : Field × List ℕ). TakesApart (SpellsStep z.0) (b ∷ bytes) z.1) y (record { text = codes "[]"; spelled = refl; parts = parts }, λ bare. cc)
  split false is = behind_dollar (b == 36) refl (rw is at e)

-- the texts of steps that were taken, with a dot between them
steps_then : (f : Field) (g : Field) (p : List Field) (bytes a b rest : List ℕ) → TakesApart (SpellsStep f) bytes a → byte_at 46 a ≡ Some b → TakesApart (SpellsSteps g p) b rest → TakesApart (SpellsSteps f (g ∷ p)) bytes rest
steps_then f g p bytes a b rest s dot more =
    let m = more.0 in
    let d = byte_takes 46 a b dot in
    let x = s.0.text in
    let y = m.text in
    let dotted : d.text ++ (y ++ rest) ≡ (d.text ++ y) ++ rest = sym (append_assoc d.text y rest) in
    let parts : bytes ≡ (x ++ (d.text ++ y)) ++ rest = s.0.parts ∙ ap (λ (z : List ℕ). x ++ z) (d.parts ∙ ap (λ (z : List ℕ). d.text ++ z) m.parts ∙ dotted) ∙ sym (append_assoc x (d.text ++ y) rest) in
    let later : ends_bare (x ++ (d.text ++ y)) ≡ ends_bare y = sym (ap ends_bare (append_assoc x d.text y)) ∙ ends_later (x ++ d.text) y (steps_some g p y m.spelled) in (
      record { text = x ++ (d.text ++ y); spelled = (x, d.text ++ y, s.0.spelled, (d.text, y, d.spelled, m.spelled, refl), refl); parts = parts },
      λ bare. more.1 (sym later ∙ bare),
    )

pub steps_take : (k : ℕ) (bytes : List ℕ) (x : List Field × List ℕ) → steps_at k bytes ≡ Some x → (f : Field) × (p : List Field) × (x.0 ≡ f ∷ p) × TakesApart (SpellsSteps f p) bytes x.1
steps_take zero bytes x e = absurd cc
steps_take (suc k) bytes x e =
    let a = bind_some (step_at bytes) (λ f. and_steps (steps_at k) f.0 f.1 (byte_at 46 f.1)) x e in
    split a.0 (byte_at 46 a.0.1) refl (step_takes bytes a.0 a.1) a.2 (λ next r. steps_take k next r) where
      split : (s : Field × List ℕ) (c : Option (List ℕ)) → byte_at 46 s.1 ≡ c → TakesApart (SpellsStep s.0) bytes s.1 → and_steps (steps_at k) s.0 s.1 c ≡ Some x
          → ((next : List ℕ) (r : List Field × List ℕ) → steps_at k next ≡ Some r → (f : Field) × (p : List Field) × (r.0 ≡ f ∷ p) × TakesApart (SpellsSteps f p) next r.1)
          → (f : Field) × (p : List Field) × (x.0 ≡ f ∷ p) × TakesApart (SpellsSteps f p) bytes x.1
      split s (Some next) dot t e more =
          let w = with_first_some s.0 (steps_at k next) x e in
          let m = more next (w.0, x.1) w.1 in
          (s.0, m.0 ∷ m.1, w.2 ∙ ap (λ (q : List Field). s.0 ∷ q) m.2, steps_then s.0 m.0 m.1 bytes s.1 next x.1 t dot m.3)
      split s None dot t e more =
          let is = some_is (s.0 ∷ [], s.1) x e in
          (s.0, [], sym (ap (λ y. y.0) is), subst (λ (r : List ℕ). TakesApart (SpellsStep s.0) bytes r) (ap (λ y. y.1) is) t)

pub path_takes : (bytes : List ℕ) (x : List Field × List ℕ) → path_by bytes ≡ Some x → TakesApart (SpellsPath x.0) bytes x.1
unfolding path_by
path_takes bytes x e = split (byte_at 46 bytes) refl e where
  split : (c : Option (List ℕ)) → byte_at 46 bytes ≡ c → closed_or c (steps_at (length bytes) bytes) ≡ Some x → TakesApart (SpellsPath x.0) bytes x.1
  split (Some rest) dot e =
      let is = some_is ([], rest) x e in
      let t = byte_takes 46 bytes rest dot in
      subst (λ (y : List Field × List ℕ). TakesApart (SpellsPath y.0) bytes y.1) is
      (t, λ bare. let h : ends_bare t.text ≡ false = ap ends_bare t.spelled in let clash : true ≡ false = sym bare ∙ h in absurd cc)
  split None dot e =
      let s = steps_take (length bytes) bytes x e in
      subst (λ (p : List Field). TakesApart (SpellsPath p) bytes x.1) (sym s.2) s.3
