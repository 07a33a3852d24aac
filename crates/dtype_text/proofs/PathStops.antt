-- SPDX-License-Identifier: Apache-2.0
-- SPDX-FileCopyrightText: Copyright the Vortex contributors

-- Where the readers of paths stop, no text goes on: with the same token there they read nothing, whatever is behind it.
use Rattle.std.proofs.Common.{◌≡◌, ℕ, zero, suc, ◌+◌, ◌*◌, ◌≤◌, ◌<◌, Bool, true, false, cond, not, ◌&&◌, ◌||◌, ◌==◌, List, [], ◌∷◌, ◌++◌, drop, length, take, Option, Some, None, refl, sym, ap, subst, ◌∙◌, append_assoc, arith, inl, inr}
use Rattle.std.specs.Prelude.{codes}
use Rattle.std.specs.List.{list_all, prefix_len}
use Rattle.std.specs.Str.{chars, encode_utf8_all, is_utf8}
use Rattle.std.proofs.lemmas.Bool.{eqb-true, eq-eqb}
use Rattle.std.proofs.lemmas.Bool.Decides.{nat_tests}
use Rattle.std.proofs.lemmas.List.{length-append, take-append-drop}
use Rattle.std.proofs.lemmas.List.Sums.{take_while-cons}
use Rattle.std.proofs.lemmas.Str.{IsUtf8-from_is_utf8, encodes-append, encodes-chars}
use Rattle.dtype_paths.specs.declared.field.Field.{Field}
use Rattle.dtype_paths.specs.declared.field.Field.TheVariants.{ElementType}
use Rattle.dtype_text.specs.declared.text_error.Expected.{Expected}
use Rattle.dtype_text.specs.declared.text_error.Expected.TheVariants as x
use Rattle.dtype_text.specs.Bare.{has_special, is_bare_byte, is_some_text, is_special}
use Rattle.dtype_text.specs.Fronts.{begins}
use Rattle.dtype_text.specs.Leaves.{bare_at, escape_at, front, hex_at, hex_byte_at, is_in_line, meaning, name_at, past, quoted_at, unit_at}
use Rattle.dtype_text.specs.Paths.{element_at, named_step_at, path_by, step_at, steps_at}
use Rattle.dtype_text.specs.PathGrammar.{SpellsStep, is_next}
use Rattle.dtype_text.specs.Places.{Place, bare_stop, escape_stop, from_special, here, name_stop, named_step_stop, path_stop, plain_len, quoted_stop, step_stop, steps_stop, unit_stop, units_stop}
use Rattle.dtype_text.specs.Read.{◌>>=◌, byte_at, until, with_first}
use Rattle.dtype_text.specs.Unreadable.{SameQuoted, SameToken, token, token_behind}
use Rattle.dtype_text.proofs.Words.{both, byte_takes, front_all, front_past, some_is}
use Rattle.dtype_text.proofs.LeavesSound.{name_takes, unit_takes}
use Rattle.dtype_text.proofs.LeavesAgain.{named_again, unit_len, unit_more, unit_open, units_again}
use Rattle.dtype_text.proofs.PathSteps.{next_of, no_bracket, step_takes}
use Rattle.dtype_text.proofs.PathAgain.{no_byte, some_len, step_again, step_dollar, step_name}

-- Where reading stops, no bytes are read that have the same bytes in front and the same token there.
pub record Stuck (none : List ℕ → Type 0) (bytes : List ℕ) (p : Place) : Type 0 where
  pub front : List ℕ
  pub rest : List ℕ
  pub all : bytes ≡ front ++ rest
  pub left : p.0 ≡ length rest
  pub stops : (c : List ℕ) → SameToken p.1 rest c → none (front ++ c)

-- ---- the same token

pub first_token : (a c : List ℕ) → token a ≡ token c → take 1 a ≡ take 1 c
first_token [] [] e = refl
first_token [] (d ∷ c) e = absurd cc
first_token (b ∷ a) [] e = absurd cc
first_token (b ∷ a) (d ∷ c) e = let whole : b ∷ token_behind b a ≡ d ∷ token_behind d c = e in let h : b ≡ d = cc in ap (λ (k : ℕ). k ∷ []) h

first_pair : (a c : List ℕ) → take 2 a ≡ take 2 c → take 1 a ≡ take 1 c
first_pair [] [] e = refl
first_pair [] (d ∷ c) e = absurd cc
first_pair (b ∷ a) [] e = absurd cc
first_pair (b ∷ a) (d ∷ c) e = let h : b ≡ d = cc in ap (λ (k : ℕ). k ∷ []) h

first_quoted : (a c : List ℕ) → SameQuoted a c → take 1 a ≡ take 1 c
first_quoted a c h = ap (take 1) h.5 ∙ same h.1 h.2 h.3 ∙ sym (ap (take 1) h.6) where
  same : (x y z : List ℕ) → take 1 (x ++ (34 ∷ y)) ≡ take 1 (x ++ (34 ∷ z))
  same [] y z = refl
  same (b ∷ x) y z = refl

pub first_same : (e : Expected) (a c : List ℕ) → SameToken e a c → take 1 a ≡ take 1 c
first_same x.HexDigits a c h = first_pair a c h
first_same x.EndOfName a c h = h
first_same x.Utf8 a c h = first_quoted a c h
first_same _ a c h = first_token a c h

pub starts_same : (t : ℕ → Bool) (f a c : List ℕ) → take 1 a ≡ take 1 c → begins t (f ++ a) ≡ begins t (f ++ c)
starts_same t [] [] [] e = refl
starts_same t [] [] (d ∷ c) e = absurd cc
starts_same t [] (b ∷ a) [] e = absurd cc
starts_same t [] (b ∷ a) (d ∷ c) e = let h : b ≡ d = cc in ap t h
starts_same t (b ∷ f) a c e = refl

none_same : (c : List ℕ) → take 1 [] ≡ take 1 c → c ≡ []
none_same [] e = refl
none_same (d ∷ c) e = absurd cc

pub one_same : (b : ℕ) (a c : List ℕ) → take 1 (b ∷ a) ≡ take 1 c → (d : List ℕ) × (c ≡ b ∷ d)
one_same b a [] e = absurd cc
one_same b a (d ∷ c) e = let h : b ≡ d = cc in (c, ap (λ (k : ℕ). k ∷ c) (sym h))

-- ---- stops of parts

pub stuck_here : (none : List ℕ → Type 0) (bytes : List ℕ) (e : Expected) → ((c : List ℕ) → SameToken e bytes c → none c) → Stuck none bytes (here e bytes)
stuck_here none bytes e f = record { front = []; rest = bytes; all = refl; left = refl; stops = f }

stuck_as : (P Q : List ℕ → Type 0) (bytes : List ℕ) (p : Place) → ((y : List ℕ) → P y → Q y) → Stuck P bytes p → Stuck Q bytes p
stuck_as P Q bytes p f s = record { front = s.front; rest = s.rest; all = s.all; left = s.left; stops = λ c h. f (s.front ++ c) (s.stops c h) }

-- behind other bytes
pub stuck_behind : (P Q : List ℕ → Type 0) (w bytes all : List ℕ) (p : Place) → all ≡ w ++ bytes → ((y : List ℕ) → P y → Q (w ++ y)) → Stuck P bytes p → Stuck Q all p
stuck_behind P Q w bytes all p e f s = record {
  front = w ++ s.front;
  rest = s.rest;
  all = e ∙ ap (λ (y : List ℕ). w ++ y) s.all ∙ sym (append_assoc w s.front s.rest);
  left = s.left;
  stops = λ c h. subst Q (sym (append_assoc w s.front c)) (f (s.front ++ c) (s.stops c h));
}

-- where the first byte doesn't pass a test
pub stuck_where : (P Q : List ℕ → Type 0) (t : ℕ → Bool) (bytes : List ℕ) (p : Place) → begins t bytes ≡ false → ((y : List ℕ) → begins t y ≡ false → P y → Q y) → Stuck P bytes p → Stuck Q bytes p
stuck_where P Q t bytes p e f s = record {
  front = s.front;
  rest = s.rest;
  all = s.all;
  left = s.left;
  stops = λ c h. f (s.front ++ c) (sym (starts_same t s.front s.rest c (first_same p.1 s.rest c h)) ∙ sym (ap (begins t) s.all) ∙ e) (s.stops c h);
}

-- ---- texts in quotes

-- a byte and the bytes after it
abbrev read_byte : ℕ → List ℕ → Option (ℕ × List ℕ)
read_byte b bytes = Some (b, bytes)

hex_none : (r s : Option ℕ) (a c : List ℕ) → (r >>= λ high. s >>= λ low. read_byte (16 * high + low) a) ≡ None → (r >>= λ high. s >>= λ low. read_byte (16 * high + low) c) ≡ None
hex_none None s a c e = refl
hex_none (Some high) None a c e = refl
hex_none (Some high) (Some low) a c e = absurd cc

hex_same : (a c : List ℕ) → hex_byte_at a ≡ None → take 2 a ≡ take 2 c → hex_byte_at c ≡ None
unfolding hex_byte_at
hex_same a [] e s = refl
hex_same a (h ∷ []) e s = refl
hex_same [] (h ∷ l ∷ c) e s = absurd cc
hex_same (i ∷ []) (h ∷ l ∷ c) e s = absurd cc
hex_same (i ∷ m ∷ a) (h ∷ l ∷ c) e s =
    let first : i ≡ h = cc in
    let second : m ≡ l = cc in
    rw (sym first, sym second) (hex_none (hex_at i) (hex_at m) a c e)

abbrev EscapeNone : List ℕ → Type 0
EscapeNone y = escape_at y ≡ None

escape_stuck : (bytes : List ℕ) → escape_at bytes ≡ None → Stuck EscapeNone bytes (escape_stop bytes)
unfolding escape_at
escape_stuck [] e = stuck_here EscapeNone [] x.Escape (λ c h. subst EscapeNone (sym (none_same c (first_token [] c h))) refl)
escape_stuck (b ∷ bytes) e = split (b == 120) refl where
  hex : (b == 120) ≡ true → (y : List ℕ) → hex_byte_at y ≡ None → escape_at (b ∷ y) ≡ None
  hex t y h = rw t h

  other : (b == 120) ≡ false → (y : List ℕ) → (meaning b >>= λ m. read_byte m bytes) ≡ None → escape_at (b ∷ y) ≡ None
  other t y h = rw t (lost (meaning b) h) where
    lost : (m : Option ℕ) → (m >>= λ m. read_byte m bytes) ≡ None → (m >>= λ m. read_byte m y) ≡ None
    lost None h = refl
    lost (Some m) h = absurd cc

  split : (d : Bool) → (b == 120) ≡ d → Stuck EscapeNone (b ∷ bytes) (escape_stop (b ∷ bytes))
  split true t =
      let none : hex_byte_at bytes ≡ None = rw t at e in
      rw t (stuck_behind (λ y. hex_byte_at y ≡ None) EscapeNone (b ∷ []) bytes (b ∷ bytes) (here x.HexDigits bytes) refl (hex t)
      (stuck_here (λ y. hex_byte_at y ≡ None) bytes x.HexDigits (λ c h. hex_same bytes c none h)))
  split false t =
      let none : (meaning b >>= λ m. read_byte m bytes) ≡ None = rw t at e in
      rw t (stuck_here EscapeNone (b ∷ bytes) x.Escape (λ c h. let d = one_same b bytes c (first_token (b ∷ bytes) c h) in subst EscapeNone (sym d.1) (other t d.0 none)))

abbrev UnitNone : List ℕ → Type 0
UnitNone y = unit_at y ≡ None

unit_stuck : (bytes : List ℕ) → unit_at bytes ≡ None → Stuck UnitNone bytes (unit_stop bytes)
unfolding unit_at
unit_stuck [] e = stuck_here UnitNone [] x.ClosingQuote (λ c h. subst UnitNone (sym (none_same c (first_token [] c h))) refl)
unit_stuck (b ∷ bytes) e = split (b == 92) refl where
  behind : (b == 92) ≡ true → (y : List ℕ) → escape_at y ≡ None → unit_at (b ∷ y) ≡ None
  behind t y h = rw t h

  split : (d : Bool) → (b == 92) ≡ d → Stuck UnitNone (b ∷ bytes) (unit_stop (b ∷ bytes))
  split true t = rw t (stuck_behind EscapeNone UnitNone (b ∷ []) bytes (b ∷ bytes) (escape_stop bytes) refl (behind t) (escape_stuck bytes (rw t at e)))
  split false t = let clash : Some (b, bytes) ≡ None = rw t at e in absurd cc

-- whatever the number of units may be, none are read
abbrev UnitsNone : List ℕ → Type 0
UnitsNone y = (k : ℕ) → until (byte_at 34) unit_at k y ≡ None

no_closing : (y : List ℕ) → unit_at y ≡ None → byte_at 34 y ≡ None
unfolding unit_at
no_closing [] e = refl
no_closing (b ∷ y) e = split (b == 34) refl where
  split : (d : Bool) → (b == 34) ≡ d → byte_at 34 (b ∷ y) ≡ None
  split true t =
      let is : b ≡ 34 = eqb-true b 34 t in
      let clash : unit_at (34 ∷ y) ≡ None = rw is at e in
      absurd cc
  split false t = rw t refl

no_units : (y : List ℕ) → unit_at y ≡ None → UnitsNone y
no_units y e zero = refl
no_units y e (suc k) = rw (no_closing y e, e) refl

no_unit : unit_at [] ≡ None
unfolding unit_at
no_unit = refl

pub first_none : {A : Type 0} (a : A) (r : Option (List A × List ℕ)) → with_first a r ≡ None → r ≡ None
first_none a None e = refl
first_none a (Some r) e = absurd cc

units_stuck : (k : ℕ) (bytes : List ℕ) → length bytes ≤ k → until (byte_at 34) unit_at k bytes ≡ None → Stuck UnitsNone bytes (units_stop k bytes)
units_stuck zero [] le e = stuck_here UnitsNone [] x.ClosingQuote (λ c h. subst UnitsNone (sym (none_same c (first_token [] c h))) (no_units [] no_unit))
units_stuck zero (b ∷ bytes) le e = absurd (omega (arith, le))
units_stuck (suc k) bytes le e = closed (byte_at 34 bytes) refl e (λ after le e. units_stuck k after le e) where
  more : byte_at 34 bytes ≡ None → (u : Option (ℕ × List ℕ)) → unit_at bytes ≡ u → (u >>= λ v. with_first v.0 (until (byte_at 34) unit_at k v.1)) ≡ None
      → ((after : List ℕ) → length after ≤ k → until (byte_at 34) unit_at k after ≡ None → Stuck UnitsNone after (units_stop k after))
      → Stuck UnitsNone bytes (units_stop (suc k) bytes)
  more open_ None read e again = rw read (stuck_as UnitNone UnitsNone bytes (unit_stop bytes) no_units (unit_stuck bytes read))
  more open_ (Some u) read e again =
      let t = unit_takes bytes u read in
      let len : length u.1 ≤ k = omega (arith, le, unit_len t.text u.0 t.spelled, ap (λ (y : List ℕ). length y) t.parts, length-append t.text u.1) in
      rw read (stuck_behind UnitsNone UnitsNone t.text u.1 bytes (units_stop k u.1) t.parts on (again u.1 len (first_none u.0 (until (byte_at 34) unit_at k u.1) e))) where
        on : (y : List ℕ) → UnitsNone y → UnitsNone ((unit_takes bytes u read).text ++ y)
        on y h zero = refl
        on y h (suc j) =
            let t = unit_takes bytes u read in
            let quote : t.text ≡ 34 ∷ [] → ⊥ = λ is.
            let whole : bytes ≡ 34 ∷ u.1 = t.parts ∙ ap (λ (z : List ℕ). z ++ u.1) is in
            let clash : byte_at 34 (34 ∷ u.1) ≡ None = rw whole at open_ in
            absurd cc
            in
            rw (unit_open t.text u.0 y t.spelled quote, unit_more t.text u.0 y t.spelled, h j) refl

  closed : (c : Option (List ℕ)) → byte_at 34 bytes ≡ c → until (byte_at 34) unit_at (suc k) bytes ≡ None
      → ((after : List ℕ) → length after ≤ k → until (byte_at 34) unit_at k after ≡ None → Stuck UnitsNone after (units_stop k after))
      → Stuck UnitsNone bytes (units_stop (suc k) bytes)
  closed (Some rest) t e again = let clash : Some ([], rest) ≡ None = rw t at e in absurd cc
  closed None t e again = more t (unit_at bytes) refl (rw t at e) again

abbrev QuotedNone : List ℕ → Type 0
QuotedNone y = quoted_at y ≡ None

quoted_stuck : (bytes : List ℕ) → quoted_at bytes ≡ None → Stuck QuotedNone bytes (quoted_stop bytes)
unfolding quoted_at quoted_stop
quoted_stuck bytes e = split (until (byte_at 34) unit_at (length bytes) bytes) refl where
  none : (y : List ℕ) → UnitsNone y → quoted_at y ≡ None
  none y h = rw (h (length y)) refl

  test : (us : List ℕ × List ℕ) → cond (is_utf8 us.0) (Some us) None ≡ None → is_utf8 us.0 ≡ false
  test us e = pick (is_utf8 us.0) e where
    pick : (b : Bool) → cond b (Some us) None ≡ None → b ≡ false
    pick true e = absurd cc
    pick false e = refl

  again : (us : List ℕ × List ℕ) → until (byte_at 34) unit_at (length bytes) bytes ≡ Some us → is_utf8 us.0 ≡ false → (c : List ℕ) → SameQuoted bytes c → quoted_at c ≡ None
  again us read no_ c h =
      let long : length h.1 < length bytes = omega (arith, ap (λ (y : List ℕ). length y) h.5, length-append h.1 (34 ∷ h.2)) in
      let here_ : until (byte_at 34) unit_at (length bytes) bytes ≡ Some (h.0, h.2) = ap (until (byte_at 34) unit_at (length bytes)) h.5 ∙ units_again (length bytes) h.0 h.1 h.2 h.4 long in
      let same : us ≡ (h.0, h.2) = some_is us (h.0, h.2) (sym read ∙ here_) in
      let utf8 : is_utf8 h.0 ≡ false = ap (λ (v : List ℕ × List ℕ). is_utf8 v.0) (sym same) ∙ no_ in
      let longer : length h.1 < length c = omega (arith, ap (λ (y : List ℕ). length y) h.6, length-append h.1 (34 ∷ h.3)) in
      let there : until (byte_at 34) unit_at (length c) c ≡ Some (h.0, h.3) = ap (until (byte_at 34) unit_at (length c)) h.6 ∙ units_again (length c) h.0 h.1 h.3 h.4 longer in
      rw (there, utf8) refl

  split : (r : Option (List ℕ × List ℕ)) → until (byte_at 34) unit_at (length bytes) bytes ≡ r → Stuck QuotedNone bytes (quoted_stop bytes)
  split None t = rw t (stuck_as UnitsNone QuotedNone bytes (units_stop (length bytes) bytes) none (units_stuck (length bytes) bytes (omega arith) t))
  split (Some us) t = rw t (stuck_here QuotedNone bytes x.Utf8 (again us t (test us (rw t at e))))

-- ---- names without quotes

front_more : (p : ℕ → Bool) (b : ℕ) (bytes : List ℕ) → p b ≡ true → front p (b ∷ bytes) ≡ b ∷ front p bytes
front_more p b bytes e = rw (take_while-cons p b bytes, e) refl

front_stop : (p : ℕ → Bool) (b : ℕ) (bytes : List ℕ) → p b ≡ false → front p (b ∷ bytes) ≡ []
front_stop p b bytes e = rw (take_while-cons p b bytes, e) refl

front_append : (p : ℕ → Bool) (w c : List ℕ) → list_all p w ≡ true → front p (w ++ c) ≡ w ++ front p c
front_append p [] c all = refl
front_append p (b ∷ w) c all =
    let h = both (p b) (list_all p w) all in
    front_more p b (w ++ c) h.0 ∙ ap (λ (y : List ℕ). b ∷ y) (front_append p w c h.1)

no_hash : (c : ℕ) → is_bare_byte c ≡ true → (c == 35) ≡ false
no_hash c e = grind (arith, nat_tests)

-- the bytes of a name in a token
run_same : (a c : List ℕ) → token a ≡ token c → front is_bare_byte a ≡ front is_bare_byte c
run_same [] [] e = refl
run_same [] (d ∷ c) e = absurd cc
run_same (b ∷ a) [] e = absurd cc
run_same (b ∷ a) (d ∷ c) e =
    let whole : b ∷ token_behind b a ≡ d ∷ token_behind d c = e in
    let first : b ≡ d = cc in
    let behind : token_behind b a ≡ token_behind d c = cc in
    subst (λ (k : ℕ). front is_bare_byte (b ∷ a) ≡ front is_bare_byte (k ∷ c)) first (split (is_bare_byte b) refl (behind ∙ ap (λ (k : ℕ). token_behind k c) (sym first))) where
      run : (y : List ℕ) → is_bare_byte b ≡ true → token_behind b y ≡ front is_bare_byte y
      run y t = rw (no_hash b t, no_bracket b t, t) refl

      split : (t : Bool) → is_bare_byte b ≡ t → token_behind b a ≡ token_behind b c → front is_bare_byte (b ∷ a) ≡ front is_bare_byte (b ∷ c)
      split true t e =
          front_more is_bare_byte b a t ∙ ap (λ (y : List ℕ). b ∷ y) (sym (run a t) ∙ e ∙ run c t) ∙ sym (front_more is_bare_byte b c t)
      split false t e = front_stop is_bare_byte b a t ∙ sym (front_stop is_bare_byte b c t)

take_within : (m : ℕ) (n y : List ℕ) → m ≤ length n → take m (n ++ y) ≡ take m n
take_within zero n y le = refl
take_within (suc m) [] y le = absurd (omega (arith, le))
take_within (suc m) (b ∷ n) y le = ap (λ (z : List ℕ). b ∷ z) (take_within m n y (omega (arith, le)))

all_taken : (p : ℕ → Bool) (m : ℕ) (n : List ℕ) → list_all p n ≡ true → list_all p (take m n) ≡ true
all_taken p zero n all = refl
all_taken p (suc m) [] all = refl
all_taken p (suc m) (b ∷ n) all = let h = both (p b) (list_all p n) all in rw (h.0, all_taken p m n h.1) refl

pub plain_within : (w : List ℕ) → plain_len w ≤ length w
unfolding plain_len
plain_within w = split (is_utf8 w && has_special w) refl where
  q : ℕ → Bool
  q c = not (is_special c)

  split : (t : Bool) → (is_utf8 w && has_special w) ≡ t → plain_len w ≤ length w
  split false t = rw t (omega arith)
  split true t =
      let utf8 = IsUtf8-from_is_utf8 w (both (is_utf8 w) (has_special w) t).0 in
      let parts : chars w ≡ front (λ c. not (is_special c)) (chars w) ++ past (λ c. not (is_special c)) (chars w) = front_past (λ c. not (is_special c)) (chars w) in
      let bytes : w ≡ encode_utf8_all (front (λ c. not (is_special c)) (chars w)) ++ encode_utf8_all (past (λ c. not (is_special c)) (chars w)) =
      sym (encodes-chars w utf8) ∙ ap encode_utf8_all parts ∙ encodes-append (front (λ c. not (is_special c)) (chars w)) (past (λ c. not (is_special c)) (chars w)) in
      let len : length w ≡ length (encode_utf8_all (front (λ c. not (is_special c)) (chars w))) + length (encode_utf8_all (past (λ c. not (is_special c)) (chars w))) =
      ap (λ (y : List ℕ). length y) bytes ∙ length-append (encode_utf8_all (front (λ c. not (is_special c)) (chars w))) (encode_utf8_all (past (λ c. not (is_special c)) (chars w))) in
      rw t (omega (arith, len))

abbrev is_a_name : List ℕ → Bool
is_a_name n = is_utf8 n && (is_some_text n && not (has_special n))

abbrev BareNone : List ℕ → Type 0
BareNone y = bare_at y ≡ None

pub bare_none : (y : List ℕ) → is_a_name (front is_bare_byte y) ≡ false → bare_at y ≡ None
unfolding bare_at
bare_none y t = rw t refl

bare_test : (y : List ℕ) → bare_at y ≡ None → is_a_name (front is_bare_byte y) ≡ false
unfolding bare_at
bare_test y e = pick (is_a_name (front is_bare_byte y)) e where
  read : Option (List ℕ × List ℕ)
  read = Some (front is_bare_byte y, past is_bare_byte y)

  pick : (b : Bool) → cond b read None ≡ None → b ≡ false
  pick true e = absurd cc
  pick false e = refl

bare_stuck : (bytes : List ℕ) → bare_at bytes ≡ None → Stuck BareNone bytes (bare_stop bytes)
unfolding bare_stop
bare_stuck bytes e = record {
  front = take m bytes;
  rest = drop m bytes;
  all = sym (take-append-drop m bytes);
  left = refl;
  stops = λ c h. bare_none (take m bytes ++ c) (ap is_a_name (same c h) ∙ bare_test bytes e);
} where
  n : List ℕ
  n = front is_bare_byte bytes

  m : ℕ
  m = plain_len n

  short : take m bytes ≡ take m n
  short = ap (take m) (front_past is_bare_byte bytes) ∙ take_within m n (past is_bare_byte bytes) (plain_within n)

  bare : list_all is_bare_byte (take m bytes) ≡ true
  bare = ap (list_all is_bare_byte) short ∙ all_taken is_bare_byte m n (front_all is_bare_byte bytes)

  same : (c : List ℕ) → token (drop m bytes) ≡ token c → front is_bare_byte (take m bytes ++ c) ≡ n
  same c h =
      front_append is_bare_byte (take m bytes) c bare ∙ ap (λ (y : List ℕ). take m bytes ++ y) (sym (run_same (drop m bytes) c h))
      ∙ sym (front_append is_bare_byte (take m bytes) (drop m bytes) bare) ∙ ap (front is_bare_byte) (take-append-drop m bytes)

-- ---- names

abbrev NameNone : List ℕ → Type 0
NameNone y = name_at y ≡ None

name_none : (y : List ℕ) → begins (λ b. b == 34) y ≡ false → bare_at y ≡ None → name_at y ≡ None
unfolding name_at
name_none [] e h = h
name_none (b ∷ y) e h = rw e h

name_stuck : (bytes : List ℕ) → name_at bytes ≡ None → Stuck NameNone bytes (name_stop bytes)
unfolding name_at name_stop
name_stuck [] e = stuck_where BareNone NameNone (λ b. b == 34) [] (bare_stop []) refl name_none (bare_stuck [] e)
name_stuck (b ∷ bytes) e = split (b == 34) refl where
  behind : (b == 34) ≡ true → (y : List ℕ) → quoted_at y ≡ None → name_at (b ∷ y) ≡ None
  behind t y h = rw t h

  split : (d : Bool) → (b == 34) ≡ d → Stuck NameNone (b ∷ bytes) (name_stop (b ∷ bytes))
  split true t = rw t (stuck_behind QuotedNone NameNone (b ∷ []) bytes (b ∷ bytes) (quoted_stop bytes) refl (behind t) (quoted_stuck bytes (rw t at e)))
  split false t = rw t (stuck_where BareNone NameNone (λ k. k == 34) (b ∷ bytes) (bare_stop (b ∷ bytes)) t name_none (bare_stuck (b ∷ bytes) (rw t at e)))

-- ---- steps

abbrev NamedNone : List ℕ → Type 0
NamedNone y = named_step_at y ≡ None

named_step_stuck : (bytes : List ℕ) → named_step_at bytes ≡ None → Stuck NamedNone bytes (named_step_stop bytes)
unfolding named_step_at named_step_stop
named_step_stuck bytes e = split (name_at bytes) refl where
  none : (y : List ℕ) → name_at y ≡ None → named_step_at y ≡ None
  none y h = rw h refl

  test : (q h : Bool) (y : Field × List ℕ) → cond (q || not h) (Some y) None ≡ None → (q ≡ false) × (h ≡ true)
  test true h y e = absurd cc
  test false false y e = absurd cc
  test false true y e = (refl, refl)

  hash : (c : List ℕ) → is_next 35 c ≡ true → begins is_bare_byte c ≡ false
  hash [] e = absurd cc
  hash (b ∷ c) e = ap is_bare_byte (eqb-true b 35 e)

  apart : (n : List ℕ × List ℕ) → name_at bytes ≡ Some n → (is_next 34 bytes ≡ false) × (is_next 35 n.1 ≡ true) → Stuck NamedNone bytes (here x.EndOfName n.1)
  apart n read h =
      let t = name_takes bytes n read in
      record {
        front = t.text;
        rest = n.1;
        all = t.parts;
        left = refl;
        stops = λ c s.
            let next : is_next 35 c ≡ true = sym (next_of 35 c) ∙ sym (starts_same (λ b. b == 35) [] n.1 c s) ∙ next_of 35 n.1 ∙ h.1 in
            let quote : is_next 34 (t.text ++ c) ≡ false =
            sym (next_of 34 (t.text ++ c)) ∙ sym (starts_same (λ b. b == 34) t.text n.1 c s) ∙ sym (ap (begins (λ b. b == 34)) t.parts) ∙ next_of 34 bytes ∙ h.0 in
            let name = named_again n.0 t.text c t.spelled (hash c next) in
            rw (name, quote, next) refl;
      }

  split : (r : Option (List ℕ × List ℕ)) → name_at bytes ≡ r → Stuck NamedNone bytes (named_step_stop bytes)
  split None t = rw t (stuck_as NameNone NamedNone bytes (name_stop bytes) none (name_stuck bytes t))
  split (Some n) t = rw t (apart n t (test (is_next 34 bytes) (is_next 35 n.1) _ (rw t at e)))

abbrev StepNone : List ℕ → Type 0
StepNone y = step_at y ≡ None

abbrev read_element : List ℕ → Option (Field × List ℕ)
read_element rest = Some (ElementType, rest)

-- a step with neither a bracket nor a dollar in front
plain_stuck : (bytes : List ℕ) → begins (λ k. (k == 91) || (k == 36)) bytes ≡ false → named_step_at bytes ≡ None → Stuck StepNone bytes (named_step_stop bytes)
plain_stuck bytes none e =
    stuck_where NamedNone StepNone (λ k. (k == 91) || (k == 36)) bytes (named_step_stop bytes) none (λ y other h. step_name y (neither y other).0 (neither y other).1 ∙ h) (named_step_stuck bytes e) where
      neither : (y : List ℕ) → begins (λ k. (k == 91) || (k == 36)) y ≡ false → (is_next 91 y ≡ false) × (is_next 36 y ≡ false)
      neither [] e = (refl, refl)
      neither (k ∷ y) e = pick (k == 91) (k == 36) e where
        pick : (r s : Bool) → (r || s) ≡ false → (r ≡ false) × (s ≡ false)
        pick true s e = absurd cc
        pick false true e = absurd cc
        pick false false e = (refl, refl)

step_stuck : (bytes : List ℕ) → step_at bytes ≡ None → Stuck StepNone bytes (step_stop bytes)
unfolding step_at element_at step_stop
step_stuck [] e = plain_stuck [] refl e
step_stuck (b ∷ bytes) e = bracket (b == 91) refl where
  none : (y : List ℕ) → byte_at 93 y ≡ None → step_at (91 ∷ y) ≡ None
  none y h = rw h refl

  unclosed : (y : List ℕ) → element_at y ≡ None → byte_at 93 y ≡ None
  unclosed y h = lost (byte_at 93 y) h where
    lost : (r : Option (List ℕ)) → (r >>= λ rest. read_element rest) ≡ None → r ≡ None
    lost None h = refl
    lost (Some r) h = absurd cc

  again : (y c : List ℕ) → byte_at 93 y ≡ None → take 1 y ≡ take 1 c → byte_at 93 c ≡ None
  again y [] h s = refl
  again [] (d ∷ c) h s = absurd cc
  again (b ∷ y) (d ∷ c) h s = let same : b ≡ d = cc in pick (b == 93) refl where
    pick : (t : Bool) → (b == 93) ≡ t → byte_at 93 (d ∷ c) ≡ None
    pick true t = let clash : Some y ≡ None = rw t at h in absurd cc
    pick false t = let u : (d == 93) ≡ false = let same : b ≡ d = cc in ap (λ k. k == 93) (sym same) ∙ t in rw u refl

  dollar : (d : Bool) → (b == 36) ≡ d → (b == 91) ≡ false → Stuck StepNone (b ∷ bytes) (cond (b == 36) (named_step_stop bytes) (named_step_stop (b ∷ bytes)))
  dollar true t u =
      let is : b ≡ 36 = eqb-true b 36 t in
      rw t (stuck_behind NamedNone StepNone (b ∷ []) bytes (b ∷ bytes) (named_step_stop bytes) refl (λ y h. ap (λ (k : ℕ). step_at (k ∷ y)) is ∙ step_dollar y ∙ h) (named_step_stuck bytes (sym (ap (λ (k : ℕ). step_at (k ∷ bytes)) is ∙ step_dollar bytes) ∙ e)))
  dollar false t u = rw t (plain_stuck (b ∷ bytes) (rw (u, t) refl) (sym (step_name (b ∷ bytes) u t) ∙ e))

  bracket : (d : Bool) → (b == 91) ≡ d → Stuck StepNone (b ∷ bytes) (step_stop (b ∷ bytes))
  bracket true t =
      let is : b ≡ 91 = eqb-true b 91 t in
      let open_ : byte_at 93 bytes ≡ None = unclosed bytes (rw t at e) in
      rw t (stuck_here StepNone (b ∷ bytes) x.Name (λ c h.
      let d = one_same b bytes c (first_token (b ∷ bytes) c h) in
      let whole : token (91 ∷ bytes) ≡ token (91 ∷ d.0) = ap (λ (k : ℕ). token (k ∷ bytes)) (sym is) ∙ h ∙ ap token d.1 ∙ ap (λ (k : ℕ). token (k ∷ d.0)) is in
      let parts : 91 ∷ take 1 bytes ≡ 91 ∷ take 1 d.0 = whole in
      let pair : take 1 bytes ≡ take 1 d.0 = cc in
      ap step_at d.1 ∙ ap (λ (k : ℕ). step_at (k ∷ d.0)) is ∙ none d.0 (again bytes d.0 open_ pair)))
  bracket false t = rw t (dollar (b == 36) refl t)

-- however many steps there may be, none are read
abbrev pub StepsNone : List ℕ → Type 0
StepsNone y = (k : ℕ) → steps_at k y ≡ None

no_steps : (y : List ℕ) → step_at y ≡ None → StepsNone y
no_steps y e zero = refl
no_steps y e (suc k) = rw e refl

no_step : step_at [] ≡ None
unfolding step_at named_step_at name_at
no_step = rw (bare_none [] (and_false (is_utf8 []) (not (has_special [])))) refl where
  and_false : (a b : Bool) → (a && (false && b)) ≡ false
  and_false true b = refl
  and_false false b = refl

steps_stuck : (k : ℕ) (bytes : List ℕ) → length bytes ≤ k → steps_at k bytes ≡ None → Stuck StepsNone bytes (steps_stop k bytes)
steps_stuck zero [] le e = stuck_here StepsNone [] x.Name (λ c h. subst StepsNone (sym (none_same c (first_token [] c h))) (no_steps [] no_step))
steps_stuck zero (b ∷ bytes) le e = absurd (omega (arith, le))
steps_stuck (suc k) bytes le e = split (step_at bytes) refl e (λ next le e. steps_stuck k next le e) where
  Again : Type 0
  Again = (next : List ℕ) → length next ≤ k → steps_at k next ≡ None → Stuck StepsNone next (steps_stop k next)

  go_on : (s : Field × List ℕ) (next : List ℕ) → step_at bytes ≡ Some s → byte_at 46 s.1 ≡ Some next → steps_at k next ≡ None → Again → Stuck StepsNone bytes (steps_stop k next)
  go_on s next read dot none again =
      let t = step_takes bytes s read in
      let d = byte_takes 46 s.1 next dot in
      let w = t.0.text in
      let behind : s.1 ≡ 46 ∷ next = d.parts ∙ ap (λ (z : List ℕ). z ++ next) d.spelled in
      let whole : bytes ≡ (w ++ (46 ∷ [])) ++ next = t.0.parts ∙ ap (λ (z : List ℕ). w ++ z) behind ∙ sym (append_assoc w (46 ∷ []) next) in
      let len : length next ≤ k = omega (arith, le, ap (λ (z : List ℕ). length z) t.0.parts, ap (λ (z : List ℕ). length z) behind, length-append w s.1) in
      stuck_behind StepsNone StepsNone (w ++ (46 ∷ [])) next bytes (steps_stop k next) whole (on s w t.0.spelled) (again next len none) where
        on : (s : Field × List ℕ) (w : List ℕ) → SpellsStep s.0 w → (y : List ℕ) → StepsNone y → StepsNone ((w ++ (46 ∷ [])) ++ y)
        on s w spelled y h zero = refl
        on s w spelled y h (suc j) =
            let one = step_again s.0 w (46 ∷ y) spelled refl (λ bare. refl) in
            rw (append_assoc w (46 ∷ []) y, one, h j) refl

  behind : (s : Field × List ℕ) (c : Option (List ℕ)) → step_at bytes ≡ Some s → byte_at 46 s.1 ≡ c → steps_at (suc k) bytes ≡ None → Again → Stuck StepsNone bytes (steps_stop (suc k) bytes)
  behind s None read dot e again = let clash : Some (s.0 ∷ [], s.1) ≡ None = rw (read, dot) at e in absurd cc
  behind s (Some next) read dot e again = rw (read, dot) (go_on s next read dot (first_none s.0 (steps_at k next) (rw (read, dot) at e)) again)

  split : (r : Option (Field × List ℕ)) → step_at bytes ≡ r → steps_at (suc k) bytes ≡ None → Again → Stuck StepsNone bytes (steps_stop (suc k) bytes)
  split None t e again = rw t (stuck_as StepNone StepsNone bytes (step_stop bytes) no_steps (step_stuck bytes t))
  split (Some s) t e again = behind s (byte_at 46 s.1) t refl e again

abbrev pub PathNone : List ℕ → Type 0
PathNone y = path_by y ≡ None

pub path_stuck : (bytes : List ℕ) → path_by bytes ≡ None → Stuck PathNone bytes (path_stop bytes)
unfolding path_by path_stop
path_stuck bytes e = split (byte_at 46 bytes) refl where
  none : (y : List ℕ) → begins (λ b. b == 46) y ≡ false → StepsNone y → path_by y ≡ None
  none y f h = rw (no_byte 46 y (sym (next_of 46 y) ∙ f), h (length y)) refl

  no_dot : (y : List ℕ) → byte_at 46 y ≡ None → begins (λ b. b == 46) y ≡ false
  no_dot [] h = refl
  no_dot (b ∷ y) h = pick (b == 46) refl where
    pick : (t : Bool) → (b == 46) ≡ t → (b == 46) ≡ false
    pick true t = let clash : Some y ≡ None = rw t at h in absurd cc
    pick false t = t

  split : (r : Option (List ℕ)) → byte_at 46 bytes ≡ r → Stuck PathNone bytes (steps_stop (length bytes) bytes)
  split None t = stuck_where StepsNone PathNone (λ b. b == 46) bytes (steps_stop (length bytes) bytes) (no_dot bytes t) none (steps_stuck (length bytes) bytes (omega arith) (rw t at e))
  split (Some rest) t = let clash : Some ([], rest) ≡ None = rw t at e in absurd cc
