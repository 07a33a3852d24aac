-- SPDX-License-Identifier: Apache-2.0
-- SPDX-FileCopyrightText: Copyright the Vortex contributors

-- Where the readers of paths stop, some text goes on with what is expected there.
use Rattle.std.proofs.Common.{◌≡◌, ℕ, zero, suc, ◌+◌, ◌-◌, ◌≤◌, ◌<◌, Bool, true, false, cond, not, ◌&&◌, ◌||◌, ◌==◌, List, [], ◌∷◌, ◌++◌, append-nil, drop, length, take, Option, Some, None, refl, sym, ap, subst, ◌∙◌, append_assoc, arith, inl, inr}
use Rattle.std.specs.Prelude.{codes}
use Rattle.std.specs.List.{list_all, list_any}
use Rattle.std.specs.Str.{IsUtf8, all_scalars, chars, encode_utf8_all, is_utf8}
use Rattle.std.proofs.lemmas.Bool.{eqb-true}
use Rattle.std.proofs.lemmas.List.{drop_at, length-append}
use Rattle.std.proofs.lemmas.Str.{IsUtf8-append, IsUtf8-from_is_utf8, IsUtf8-nil, chars-append, chars_from_encodes, encodes-append, encodes-chars, is_utf8-from_IsUtf8, scalars-chars}
use Rattle.dtype_paths.specs.declared.field.Field.{Field}
use Rattle.dtype_paths.specs.declared.field.Field.TheVariants as field
use Rattle.dtype_text.specs.declared.text_error.Expected.{Expected}
use Rattle.dtype_text.specs.declared.text_error.Expected.TheVariants as x
use Rattle.dtype_text.specs.Bare.{has_special, is_bare_byte, is_bare_name, is_some_text, is_special}
use Rattle.dtype_text.specs.Fronts.{begins}
use Rattle.dtype_text.specs.Grammar.{Lang, blanks, named, units}
use Rattle.dtype_text.specs.Leaves.{front, name_at, past, quoted_at, skipped, unit_at}
use Rattle.dtype_text.specs.Paths.{path_by, step_at, steps_at}
use Rattle.dtype_text.specs.PathGrammar.{SpellsPath, SpellsStep, SpellsSteps, ends_bare, is_next}
use Rattle.dtype_text.specs.Places.{Place, bare_stop, escape_stop, from_special, here, name_stop, named_step_stop, path_stop, plain_len, quoted_stop, step_stop, steps_stop, unit_stop, units_stop, whole_path_stop}
use Rattle.dtype_text.specs.Read.{byte_at, until, with_first}
use Rattle.dtype_text.specs.Unreadable.{GoesOn, GoesOnAt, IsPathText, Meets, escape_front, is_in_quotes}
use Rattle.dtype_text.proofs.Words.{both, byte_takes, front_all, front_past, skipped_takes}
use Rattle.dtype_text.proofs.LeavesSound.{name_takes, unit_takes}
use Rattle.dtype_text.proofs.PathSteps.{path_takes, step_takes}
use Rattle.dtype_text.proofs.PathStops.{first_none}

-- the bytes in front of the place where reading stops
pub record Fronts (G : Expected → List ℕ → Type 0) (bytes : List ℕ) (p : Place) : Type 0 where
  pub front : List ℕ
  pub rest : List ℕ
  pub all : bytes ≡ front ++ rest
  pub left : p.0 ≡ length rest
  pub good : G p.1 front

fronts_here : (G : Expected → List ℕ → Type 0) (bytes : List ℕ) (e : Expected) → G e [] → Fronts G bytes (here e bytes)
fronts_here G bytes e g = record { front = []; rest = bytes; all = refl; left = refl; good = g }

fronts_behind : (G H : Expected → List ℕ → Type 0) (w bytes all : List ℕ) (p : Place) → all ≡ w ++ bytes → ((e : Expected) (f : List ℕ) → G e f → H e (w ++ f)) → Fronts G bytes p → Fronts H all p
fronts_behind G H w bytes all p is on s = record {
  front = w ++ s.front;
  rest = s.rest;
  all = is ∙ ap (λ (y : List ℕ). w ++ y) s.all ∙ sym (append_assoc w s.front s.rest);
  left = s.left;
  good = on p.1 s.front s.good;
}

-- ---- texts in quotes

-- what is in front within an escape or between two bytes
abbrev InUnit : Expected → List ℕ → Type 0
InUnit e f = (is_in_quotes e ≡ true) × (f ≡ escape_front e)

abbrev InEscape : Expected → List ℕ → Type 0
InEscape e f = InUnit e (92 ∷ f)

escape_fronts : (bytes : List ℕ) → Fronts InEscape bytes (escape_stop bytes)
escape_fronts [] = fronts_here InEscape [] x.Escape (refl, refl)
escape_fronts (b ∷ bytes) = split (b == 120) refl where
  split : (d : Bool) → (b == 120) ≡ d → Fronts InEscape (b ∷ bytes) (escape_stop (b ∷ bytes))
  split true t =
      let is : b ≡ 120 = eqb-true b 120 t in
      rw t (record { front = b ∷ []; rest = bytes; all = refl; left = refl; good = (refl, ap (λ (k : ℕ). 92 ∷ k ∷ []) is) })
  split false t = rw t (fronts_here InEscape (b ∷ bytes) x.Escape (refl, refl))

unit_fronts : (bytes : List ℕ) → Fronts InUnit bytes (unit_stop bytes)
unit_fronts [] = fronts_here InUnit [] x.ClosingQuote (refl, refl)
unit_fronts (b ∷ bytes) = split (b == 92) refl where
  split : (d : Bool) → (b == 92) ≡ d → Fronts InUnit (b ∷ bytes) (unit_stop (b ∷ bytes))
  split true t =
      let is : b ≡ 92 = eqb-true b 92 t in
      rw t (fronts_behind InEscape InUnit (b ∷ []) bytes (b ∷ bytes) (escape_stop bytes) refl (λ e f g. (g.0, ap (λ (k : ℕ). k ∷ f) is ∙ g.1)) (escape_fronts bytes))
  split false t = rw t (fronts_here InUnit (b ∷ bytes) x.ClosingQuote (refl, refl))

-- what is in front within quotes, behind the first of them
abbrev Inside : Expected → List ℕ → Type 0
Inside e f = (is_in_quotes e ≡ true) × (inside n : List ℕ) × (f ≡ inside ++ escape_front e) × units n inside

units_fronts : (k : ℕ) (bytes : List ℕ) → until (byte_at 34) unit_at k bytes ≡ None → Fronts Inside bytes (units_stop k bytes)
units_fronts zero bytes e = fronts_here Inside bytes x.ClosingQuote (refl, [], [], refl, refl)
units_fronts (suc k) bytes e = closed (byte_at 34 bytes) refl e (λ after e. units_fronts k after e) where
  Again : Type 0
  Again = (after : List ℕ) → until (byte_at 34) unit_at k after ≡ None → Fronts Inside after (units_stop k after)

  one_more : (u : ℕ × List ℕ) → unit_at bytes ≡ Some u → byte_at 34 bytes ≡ None → Fronts Inside u.1 (units_stop k u.1) → Fronts Inside bytes (units_stop k u.1)
  one_more u read open_ s =
      let t = unit_takes bytes u read in
      fronts_behind Inside Inside t.text u.1 bytes (units_stop k u.1) t.parts (λ e f g. (g.0, t.text ++ g.1, u.0 ∷ g.2, ap (λ (y : List ℕ). t.text ++ y) g.3 ∙ sym (append_assoc t.text g.1 (escape_front e)), (t.text, g.1, (t.spelled, quote t.text t.parts), g.4, refl))) s where
        quote : (w : List ℕ) → bytes ≡ w ++ u.1 → w ≡ 34 ∷ [] → ⊥
        quote w parts is =
            let whole : bytes ≡ 34 ∷ u.1 = parts ∙ ap (λ (z : List ℕ). z ++ u.1) is in
            let clash : byte_at 34 (34 ∷ u.1) ≡ None = rw whole at open_ in
            absurd cc

  more : (u : Option (ℕ × List ℕ)) → unit_at bytes ≡ u → byte_at 34 bytes ≡ None → until (byte_at 34) unit_at (suc k) bytes ≡ None → Again → Fronts Inside bytes (units_stop (suc k) bytes)
  more None read open_ e again =
      rw read (fronts_behind InUnit Inside [] bytes bytes (unit_stop bytes) refl (λ e f g. (g.0, [], [], g.1, refl)) (unit_fronts bytes))
  more (Some u) read open_ e again = rw read (one_more u read open_ (again u.1 (first_none u.0 (until (byte_at 34) unit_at k u.1) (rw (open_, read) at e))))

  closed : (c : Option (List ℕ)) → byte_at 34 bytes ≡ c → until (byte_at 34) unit_at (suc k) bytes ≡ None → Again → Fronts Inside bytes (units_stop (suc k) bytes)
  closed (Some rest) t e again = let clash : Some ([], rest) ≡ None = rw t at e in absurd cc
  closed None t e again = more (unit_at bytes) refl t e again

quoted_fronts : (bytes : List ℕ) → Fronts Inside bytes (quoted_stop bytes)
unfolding quoted_stop
quoted_fronts bytes = split (until (byte_at 34) unit_at (length bytes) bytes) refl where
  split : (r : Option (List ℕ × List ℕ)) → until (byte_at 34) unit_at (length bytes) bytes ≡ r → Fronts Inside bytes (quoted_stop bytes)
  split None t = rw t (units_fronts (length bytes) bytes t)
  split (Some us) t = rw t (fronts_here Inside bytes x.Utf8 (refl, [], [], refl, refl))

-- ---- names

-- some text of the language goes on
abbrev pub Goes : Lang → Expected → List ℕ → Type 0
Goes L e f = GoesOn L e f

-- the same in a language whose texts are those of this one with bytes in front
goes_behind : (L M : Lang) (w : List ℕ) → ((y : List ℕ) → L y → M (w ++ y)) → (e : Expected) (f : List ℕ) → Goes L e f → Goes M e (w ++ f)
goes_behind L M w on e f g = split (is_in_quotes e) g where
  split : (q : Bool) → GoesOnAt q L e f → GoesOnAt q M e (w ++ f)
  split true g =
      (w ++ g.0, g.1, g.2, ap (λ (y : List ℕ). w ++ y) g.3 ∙ sym (append_assoc w g.0 (34 ∷ (g.1 ++ escape_front e))), g.4, subst M (sym (append_assoc w g.0 (codes "\"\""))) (on (g.0 ++ codes "\"\"") g.5))
  split false g = (g.0, g.1, subst M (sym (append_assoc w f g.0)) (on (f ++ g.0) g.2))

abbrev IsNamed : Lang
IsNamed y = (n : List ℕ) × named n y

a_utf8 : is_utf8 (codes "a") ≡ true
unfolding is_utf8 chars lib.Utf8.encode
a_utf8 = refl

-- a name without quotes, or nothing
longer_name : (f : List ℕ) → IsUtf8 f → list_all is_bare_byte f ≡ true → list_any is_special (chars f) ≡ false → named (f ++ codes "a") (f ++ codes "a")
unfolding is_bare_name has_special chars
longer_name f utf8 bare plain =
    let a : IsUtf8 (codes "a") = IsUtf8-from_is_utf8 (codes "a") a_utf8 in
    let all : is_utf8 (f ++ codes "a") ≡ true = is_utf8-from_IsUtf8 (f ++ codes "a") (IsUtf8-append f (codes "a") utf8 a) in
    let special : list_any is_special (chars (f ++ codes "a")) ≡ false = ap (list_any is_special) (chars-append f (codes "a") utf8) ∙ any_append (chars f) plain in
    (all, inl (rw (some f, bare_append f bare, special) refl, refl)) where
      some : (f : List ℕ) → is_some_text (f ++ codes "a") ≡ true
      some [] = refl
      some (b ∷ f) = refl

      bare_append : (f : List ℕ) → list_all is_bare_byte f ≡ true → list_all is_bare_byte (f ++ codes "a") ≡ true
      bare_append [] h = refl
      bare_append (b ∷ f) h = let p = both (is_bare_byte b) (list_all is_bare_byte f) h in rw (p.0, bare_append f p.1) refl

      any_append : (cs : List ℕ) → list_any is_special cs ≡ false → list_any is_special (cs ++ chars (codes "a")) ≡ false
      any_append [] h = refl
      any_append (c ∷ cs) h = let p = neither (is_special c) (list_any is_special cs) h in rw (p.0, any_append cs p.1) refl where
        neither : (a b : Bool) → (a || b) ≡ false → (a ≡ false) × (b ≡ false)
        neither true b e = absurd cc
        neither false true e = absurd cc
        neither false false e = (refl, refl)

nothing_special : list_any is_special (chars []) ≡ false
unfolding chars
nothing_special = refl

short_name : named ([] ++ codes "a") ([] ++ codes "a")
short_name = longer_name [] IsUtf8-nil refl nothing_special

goes_on_name : (f : List ℕ) → named (f ++ codes "a") (f ++ codes "a") → Goes IsNamed x.Name f
goes_on_name f h = (codes "a", (codes "a", codes "a", [], short_name, refl), (f ++ codes "a", h))

name_first : Goes IsNamed x.Name []
name_first = goes_on_name [] short_name

abbrev run_of : List ℕ → List ℕ
run_of bytes = front is_bare_byte bytes

abbrev short_of : List ℕ → List ℕ
short_of bytes = encode_utf8_all (front (λ c. not (is_special c)) (chars (front is_bare_byte bytes)))

bare_fronts : (bytes : List ℕ) → Fronts (Goes IsNamed) bytes (bare_stop bytes)
unfolding bare_stop plain_len
bare_fronts bytes = split (is_utf8 (front is_bare_byte bytes) && has_special (front is_bare_byte bytes)) refl where
  scalars_taken : (k : ℕ) (cs : List ℕ) → all_scalars cs ≡ true → all_scalars (take k cs) ≡ true
  scalars_taken zero cs h = refl
  scalars_taken (suc k) [] h = refl
  scalars_taken (suc k) (c ∷ cs) h = let p = both _ (all_scalars cs) h in rw (p.0, scalars_taken k cs p.1) refl

  all_front : (p : ℕ → Bool) (a b : List ℕ) → list_all p (a ++ b) ≡ true → list_all p a ≡ true
  all_front p [] b h = refl
  all_front p (c ∷ a) b h = let r = both (p c) (list_all p (a ++ b)) h in rw (r.0, all_front p a b r.1) refl

  none_special : (cs : List ℕ) → list_all (λ c. not (is_special c)) cs ≡ true → list_any is_special cs ≡ false
  none_special [] h = refl
  none_special (c ∷ cs) h = let r = both (not (is_special c)) (list_all (λ c. not (is_special c)) cs) h in rw (is_false (is_special c) r.0, none_special cs r.1) refl where
    is_false : (a : Bool) → not a ≡ true → a ≡ false
    is_false true e = absurd cc
    is_false false e = refl

  plain : (is_utf8 (front is_bare_byte bytes) && has_special (front is_bare_byte bytes)) ≡ true → Fronts (Goes IsNamed) bytes (here x.Name (drop (length (short_of bytes)) bytes))
  plain t =
      let short = short_of bytes in
      let cs = chars (run_of bytes) in
      let behind = encode_utf8_all (past (λ c. not (is_special c)) (chars (run_of bytes))) in
      let utf8 : IsUtf8 (run_of bytes) = IsUtf8-from_is_utf8 (run_of bytes) (both (is_utf8 (run_of bytes)) (has_special (run_of bytes)) t).0 in
      let parts : run_of bytes ≡ short ++ behind =
      sym (encodes-chars (run_of bytes) utf8) ∙ ap encode_utf8_all (front_past (λ c. not (is_special c)) cs) ∙ encodes-append (front (λ c. not (is_special c)) cs) (past (λ c. not (is_special c)) cs) in
      let whole : bytes ≡ short ++ (behind ++ past is_bare_byte bytes) =
      front_past is_bare_byte bytes ∙ ap (λ (y : List ℕ). y ++ past is_bare_byte bytes) parts ∙ append_assoc short behind (past is_bare_byte bytes) in
      let short_utf8 : IsUtf8 short = (front (λ c. not (is_special c)) cs, (scalars_taken _ cs (scalars-chars (run_of bytes) utf8), refl)) in
      let bare : list_all is_bare_byte short ≡ true = all_front is_bare_byte short behind (ap (list_all is_bare_byte) (sym parts) ∙ front_all is_bare_byte bytes) in
      let same : chars short ≡ front (λ c. not (is_special c)) cs = sym (chars_from_encodes (front (λ c. not (is_special c)) cs) short short_utf8 refl) in
      let special : list_any is_special (chars short) ≡ false = ap (list_any is_special) same ∙ none_special (front (λ c. not (is_special c)) cs) (front_all (λ c. not (is_special c)) cs) in
      record {
        front = short;
        rest = behind ++ past is_bare_byte bytes;
        all = whole;
        left = ap (λ (y : List ℕ). length (drop (length short) y)) whole ∙ ap (λ (y : List ℕ). length y) (drop_at short (behind ++ past is_bare_byte bytes) (length short) refl);
        good = goes_on_name short (longer_name short short_utf8 bare special);
      }

  split : (c : Bool) → (is_utf8 (front is_bare_byte bytes) && has_special (front is_bare_byte bytes)) ≡ c → Fronts (Goes IsNamed) bytes (bare_stop bytes)
  split false t = rw t (fronts_here (Goes IsNamed) bytes x.Name name_first)
  split true t = rw t (plain t)

quotes_alone : IsNamed (codes "\"\"")
quotes_alone = ([], (is_utf8-from_IsUtf8 [] IsUtf8-nil, inr (codes "\"", codes "\"", refl, ([], codes "\"", refl, refl, refl), refl)))

in_name : (b : ℕ) → b ≡ 34 → (e : Expected) (f : List ℕ) → Inside e f → Goes IsNamed e (b ∷ f)
in_name b is e f g = subst (λ (q : Bool). GoesOnAt q IsNamed e (b ∷ f)) (sym g.0) ([], g.1, g.2, ap (λ (k : ℕ). k ∷ f) is ∙ ap (λ (y : List ℕ). 34 ∷ y) g.3, g.4, quotes_alone)

name_fronts : (bytes : List ℕ) → Fronts (Goes IsNamed) bytes (name_stop bytes)
unfolding name_stop
name_fronts [] = bare_fronts []
name_fronts (b ∷ bytes) = split (b == 34) refl where
  split : (d : Bool) → (b == 34) ≡ d → Fronts (Goes IsNamed) (b ∷ bytes) (name_stop (b ∷ bytes))
  split true t = rw t (fronts_behind Inside (Goes IsNamed) (b ∷ []) bytes (b ∷ bytes) (quoted_stop bytes) refl (in_name b (eqb-true b 34 t)) (quoted_fronts bytes))
  split false t = rw t (bare_fronts (b ∷ bytes))

-- ---- steps

named_step_fronts : (bytes : List ℕ) → Fronts (Goes IsNamed) bytes (named_step_stop bytes)
unfolding named_step_stop
named_step_fronts bytes = split (name_at bytes) refl where
  ended : (n : List ℕ × List ℕ) → name_at bytes ≡ Some n → Fronts (Goes IsNamed) bytes (here x.EndOfName n.1)
  ended n read =
      let t = name_takes bytes n read in
      record { front = t.text; rest = n.1; all = t.parts; left = refl; good = ([], refl, (n.0, subst (λ (y : List ℕ). named n.0 y) (sym (append-nil t.text)) t.spelled)) }

  split : (r : Option (List ℕ × List ℕ)) → name_at bytes ≡ r → Fronts (Goes IsNamed) bytes (named_step_stop bytes)
  split None t = rw t (name_fronts bytes)
  split (Some n) t = rw t (ended n t)

abbrev IsStep : Lang
IsStep y = (s : Field) × SpellsStep s y

named_step_is : (y : List ℕ) → IsNamed y → IsStep ([] ++ y)
named_step_is y h = (field.Name h.0, ([], y, inl refl, h.1, refl))

dollar_step_is : (b : ℕ) → b ≡ 36 → (y : List ℕ) → IsNamed y → IsStep ((b ∷ []) ++ y)
dollar_step_is b is y h = (field.Name h.0, (b ∷ [], y, inr (ap (λ (k : ℕ). k ∷ []) is), h.1, refl))

step_fronts : (bytes : List ℕ) → Fronts (Goes IsStep) bytes (step_stop bytes)
unfolding step_stop
step_fronts [] = fronts_behind (Goes IsNamed) (Goes IsStep) [] [] [] (named_step_stop []) refl (goes_behind IsNamed IsStep [] named_step_is) (named_step_fronts [])
step_fronts (b ∷ bytes) = bracket (b == 91) refl where
  dollar : (d : Bool) → (b == 36) ≡ d → Fronts (Goes IsStep) (b ∷ bytes) (cond (b == 36) (named_step_stop bytes) (named_step_stop (b ∷ bytes)))
  dollar true t =
      rw t (fronts_behind (Goes IsNamed) (Goes IsStep) (b ∷ []) bytes (b ∷ bytes) (named_step_stop bytes) refl (goes_behind IsNamed IsStep (b ∷ []) (dollar_step_is b (eqb-true b 36 t))) (named_step_fronts bytes))
  dollar false t =
      rw t (fronts_behind (Goes IsNamed) (Goes IsStep) [] (b ∷ bytes) (b ∷ bytes) (named_step_stop (b ∷ bytes)) refl (goes_behind IsNamed IsStep [] named_step_is) (named_step_fronts (b ∷ bytes)))

  bracket : (d : Bool) → (b == 91) ≡ d → Fronts (Goes IsStep) (b ∷ bytes) (step_stop (b ∷ bytes))
  bracket true t = rw t (fronts_here (Goes IsStep) (b ∷ bytes) x.Name (goes_behind IsNamed IsStep [] named_step_is x.Name [] name_first))
  bracket false t = rw t (dollar (b == 36) refl)

abbrev IsSteps : Lang
IsSteps y = (f : Field) × (p : List Field) × SpellsSteps f p y

one_step_is : (y : List ℕ) → IsStep y → IsSteps ([] ++ y)
one_step_is y h = (h.0, [], h.1)

steps_fronts : (k : ℕ) (bytes : List ℕ) → steps_at k bytes ≡ None → length bytes ≤ k → Fronts (Goes IsSteps) bytes (steps_stop k bytes)
steps_fronts zero [] e le =
    fronts_here (Goes IsSteps) [] x.Name (goes_behind IsStep IsSteps [] one_step_is x.Name [] (goes_behind IsNamed IsStep [] named_step_is x.Name [] name_first))
steps_fronts zero (b ∷ bytes) e le = absurd (omega (arith, le))
steps_fronts (suc k) bytes e le = split (step_at bytes) refl e (λ next e le. steps_fronts k next e le) where
  Again : Type 0
  Again = (next : List ℕ) → steps_at k next ≡ None → length next ≤ k → Fronts (Goes IsSteps) next (steps_stop k next)

  dotted : (s : Field) (w y : List ℕ) → SpellsStep s w → IsSteps y → IsSteps ((w ++ (46 ∷ [])) ++ y)
  dotted s w y spelled h = (s, h.0 ∷ h.1, (w, 46 ∷ y, spelled, (codes ".", y, refl, h.2, refl), append_assoc w (46 ∷ []) y))

  go_on : (s : Field × List ℕ) (next : List ℕ) → step_at bytes ≡ Some s → byte_at 46 s.1 ≡ Some next → steps_at k next ≡ None → Again → Fronts (Goes IsSteps) bytes (steps_stop k next)
  go_on s next read dot none again =
      let t = step_takes bytes s read in
      let d = byte_takes 46 s.1 next dot in
      let w = t.0.text in
      let behind : s.1 ≡ 46 ∷ next = d.parts ∙ ap (λ (z : List ℕ). z ++ next) d.spelled in
      let whole : bytes ≡ (w ++ (46 ∷ [])) ++ next = t.0.parts ∙ ap (λ (z : List ℕ). w ++ z) behind ∙ sym (append_assoc w (46 ∷ []) next) in
      let len : length next ≤ k = omega (arith, le, ap (λ (z : List ℕ). length z) t.0.parts, ap (λ (z : List ℕ). length z) behind, length-append w s.1) in
      fronts_behind (Goes IsSteps) (Goes IsSteps) (w ++ (46 ∷ [])) next bytes (steps_stop k next) whole
      (goes_behind IsSteps IsSteps (w ++ (46 ∷ [])) (λ y h. dotted s.0 w y t.0.spelled h)) (again next none len)

  behind : (s : Field × List ℕ) (c : Option (List ℕ)) → step_at bytes ≡ Some s → byte_at 46 s.1 ≡ c → steps_at (suc k) bytes ≡ None → Again → Fronts (Goes IsSteps) bytes (steps_stop (suc k) bytes)
  behind s None read dot e again = let clash : Some (s.0 ∷ [], s.1) ≡ None = rw (read, dot) at e in absurd cc
  behind s (Some next) read dot e again = rw (read, dot) (go_on s next read dot (first_none s.0 (steps_at k next) (rw (read, dot) at e)) again)

  split : (r : Option (Field × List ℕ)) → step_at bytes ≡ r → steps_at (suc k) bytes ≡ None → Again → Fronts (Goes IsSteps) bytes (steps_stop (suc k) bytes)
  split None t e again = rw t (fronts_behind (Goes IsStep) (Goes IsSteps) [] bytes bytes (step_stop bytes) refl (goes_behind IsStep IsSteps [] one_step_is) (step_fronts bytes))
  split (Some s) t e again = behind s (byte_at 46 s.1) t refl e again

-- ---- a whole text

front_next : (k : ℕ) (a b : List ℕ) → is_next k (a ++ b) ≡ false → is_next k a ≡ false
front_next k [] b e = refl
front_next k (c ∷ a) b e = e

steps_text : (gap : List ℕ) → blanks gap → (y : List ℕ) → IsSteps y → IsPathText (gap ++ y)
steps_text gap blank y h = (
  h.0 ∷ h.1,
  record {
    before = gap;
    path = y;
    behind = [];
    whole = ap (λ (z : List ℕ). gap ++ z) (sym (append-nil y));
    begins = blank;
    spelled = h.2;
    ends = ([], [], refl, tt, refl);
    apart = λ bare. refl;
  },
)

path_fronts : (bytes : List ℕ) → path_by bytes ≡ None → Fronts (Goes IsSteps) bytes (path_stop bytes)
unfolding path_by path_stop
path_fronts bytes e = split (byte_at 46 bytes) refl where
  split : (c : Option (List ℕ)) → byte_at 46 bytes ≡ c → Fronts (Goes IsSteps) bytes (steps_stop (length bytes) bytes)
  split None t = steps_fronts (length bytes) bytes (rw t at e) (omega arith)
  split (Some rest) t = let clash : Some ([], rest) ≡ None = rw t at e in absurd cc

pub whole_fronts : (bytes : List ℕ) → Fronts (Goes IsPathText) bytes (whole_path_stop bytes)
unfolding whole_path_stop
whole_fronts bytes = split (path_by (skipped bytes)) refl where
  gap : List ℕ
  gap = (skipped_takes bytes).text

  steps : path_by (skipped bytes) ≡ None → Fronts (Goes IsPathText) bytes (path_stop (skipped bytes))
  steps t =
      fronts_behind (Goes IsSteps) (Goes IsPathText) gap (skipped bytes) bytes (path_stop (skipped bytes)) (skipped_takes bytes).parts
      (goes_behind IsSteps IsPathText gap (steps_text gap (skipped_takes bytes).spelled)) (path_fronts (skipped bytes) t)

  ended : (v : List Field × List ℕ) → path_by (skipped bytes) ≡ Some v → Fronts (Goes IsPathText) bytes (here x.End (skipped v.1))
  ended v read =
      let t = path_takes (skipped bytes) v read in
      let g = skipped_takes v.1 in
      let whole : bytes ≡ (gap ++ (t.0.text ++ g.text)) ++ skipped v.1 =
      (skipped_takes bytes).parts ∙ ap (λ (y : List ℕ). gap ++ y) (t.0.parts ∙ ap (λ (y : List ℕ). t.0.text ++ y) g.parts ∙ sym (append_assoc t.0.text g.text (skipped v.1))) ∙ sym (append_assoc gap (t.0.text ++ g.text) (skipped v.1)) in
      let stands : IsPathText ((gap ++ (t.0.text ++ g.text)) ++ []) = (
        v.0,
        record {
          before = gap;
          path = t.0.text;
          behind = g.text;
          whole = append-nil (gap ++ (t.0.text ++ g.text));
          begins = (skipped_takes bytes).spelled;
          spelled = t.0.spelled;
          ends = (g.text, [], g.spelled, tt, sym (append-nil g.text));
          apart = λ bare. front_next 35 g.text (skipped v.1) (ap (is_next 35) (sym g.parts) ∙ t.1 bare);
        },
      ) in
      record { front = gap ++ (t.0.text ++ g.text); rest = skipped v.1; all = whole; left = refl; good = ([], refl, stands) }

  split : (c : Option (List Field × List ℕ)) → path_by (skipped bytes) ≡ c → Fronts (Goes IsPathText) bytes (whole_path_stop bytes)
  split None t = rw t (steps t)
  split (Some v) t = rw t (ended v t)
