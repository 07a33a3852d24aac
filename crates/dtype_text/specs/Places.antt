-- SPDX-License-Identifier: Apache-2.0
-- SPDX-FileCopyrightText: Copyright the Vortex contributors

-- Where the readers of paths stop if they read nothing, and what is expected there.
use Rattle.std.specs.Prelude.{◌≡◌, ℕ, zero, suc, List, [], ◌∷◌, ◌==◌, ◌&&◌, not, Option, Some, None, if◌then◌else◌, drop, length}
use Rattle.std.specs.Str.{chars, encode_utf8_all, is_utf8}
use Rattle.dtype_text.specs.Bare.{has_special, is_bare_byte, is_special}
use Rattle.dtype_text.specs.Leaves.{front, name_at, skipped, unit_at}
use Rattle.dtype_text.specs.Paths.{path_by, step_at}
use Rattle.dtype_text.specs.Read.{byte_at, until}
use Rattle.dtype_text.specs.declared.fault.Fault.{Fault}
use Rattle.dtype_text.specs.declared.fault.Fault.TheVariants.{Memory, Refused, TooDeep, Misread}
use Rattle.dtype_text.specs.declared.text_error.Expected.{Expected}
use Rattle.dtype_text.specs.declared.text_error.Expected.TheVariants as expecting

-- how many bytes are left where a reader stops, and what is expected there
abbrev pub Place : Type 0
Place = ℕ × Expected

abbrev pub here : Expected → List ℕ → Place
here x bytes = (length bytes, x)

-- where a reader of two parts stops
abbrev pub in_turn : {A : Type 0} → Option A → Place → (A → Place) → Place
in_turn None first second = first
in_turn (Some x) first second = second x

-- the fault is at this place, if it has one
abbrev pub IsAt : Place → Fault → Type 0
IsAt p (Misread left expected) = p ≡ (left, expected)
IsAt p Memory = Unit {0}
IsAt p (Refused e) = Unit {0}
IsAt p (TooDeep left) = Unit {0}

-- the characters of a word up to the first one that no bare name has, as bytes; none if it has no such character
unfoldable pub plain_len : List ℕ → ℕ
plain_len word =
    if is_utf8 word && has_special word then length (encode_utf8_all (front (λ c. not (is_special c)) (chars word))) else 0

abbrev pub from_special : List ℕ → List ℕ → List ℕ
from_special word bytes = drop (plain_len word) bytes

abbrev pub escape_stop : List ℕ → Place
escape_stop [] = here expecting.Escape []
escape_stop (b ∷ bytes) = if b == 120 then here expecting.HexDigits bytes else here expecting.Escape (b ∷ bytes)

abbrev pub unit_stop : List ℕ → Place
unit_stop [] = here expecting.ClosingQuote []
unit_stop (b ∷ bytes) = if b == 92 then escape_stop bytes else here expecting.ClosingQuote (b ∷ bytes)

-- in bytes of a text in quotes, fewer than so many
abbrev pub units_stop : ℕ → List ℕ → Place
units_stop zero bytes = here expecting.ClosingQuote bytes
units_stop (suc k) bytes = in_turn (unit_at bytes) (unit_stop bytes) (λ u. units_stop k u.1)

unfoldable pub quoted_stop : List ℕ → Place
quoted_stop bytes =
    in_turn (until (byte_at 34) unit_at (length bytes) bytes) (units_stop (length bytes) bytes) (λ us. here expecting.Utf8 bytes)

unfoldable pub bare_stop : List ℕ → Place
bare_stop bytes = here expecting.Name (from_special (front is_bare_byte bytes) bytes)

unfoldable pub name_stop : List ℕ → Place
name_stop [] = bare_stop []
name_stop (b ∷ bytes) = if b == 34 then quoted_stop bytes else bare_stop (b ∷ bytes)

unfoldable pub named_step_stop : List ℕ → Place
named_step_stop bytes = in_turn (name_at bytes) (name_stop bytes) (λ n. here expecting.EndOfName n.1)

unfoldable pub step_stop : List ℕ → Place
step_stop [] = named_step_stop []
step_stop (b ∷ bytes) =
    if b == 91 then here expecting.Name (b ∷ bytes)
    else if b == 36 then named_step_stop bytes
    else named_step_stop (b ∷ bytes)

-- behind a step: in the steps after a dot
abbrev pub behind_step : (List ℕ → Place) → List ℕ → Option (List ℕ) → Place
behind_step more rest (Some next) = more next
behind_step more rest None = here expecting.End rest

-- in steps joined by dots, at most so many
abbrev pub steps_stop : ℕ → List ℕ → Place
steps_stop zero bytes = here expecting.Name bytes
steps_stop (suc k) bytes =
    in_turn (step_at bytes) (step_stop bytes) (λ f. behind_step (steps_stop k) f.1 (byte_at 46 f.1))

unfoldable pub path_stop : List ℕ → Place
path_stop bytes = steps_stop (length bytes) bytes

unfoldable pub whole_path_stop : List ℕ → Place
whole_path_stop bytes =
    in_turn (path_by (skipped bytes)) (path_stop (skipped bytes)) (λ p. here expecting.End (skipped p.1))
