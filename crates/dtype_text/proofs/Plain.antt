-- SPDX-License-Identifier: Apache-2.0
-- SPDX-FileCopyrightText: Copyright the Vortex contributors

-- A name of plain bytes alone is bare: no plain byte is a special character, and ASCII texts are their characters.
use Rattle.std.proofs.Common.{◌≡◌, ℕ, ◌<◌, Bool, true, false, List, [], ◌∷◌, refl, ap, ◌∙◌, arith, not, ◌&&◌, ◌||◌}
use Rattle.std.specs.List.{list_any, list_all}
use Rattle.std.specs.Str.{IsAscii}
use Rattle.std.proofs.lemmas.Str.{chars-IsAscii}
use Rattle.std.proofs.lemmas.Str.Ascii.{IsAscii-nil, IsAscii-cons}
use Rattle.std.proofs.lemmas.Bool.Decides.{nat_tests}
use Rattle.dtype_text.proofs.Words.{both}
use Rattle.dtype_text.specs.Bare.{is_plain, is_special, is_bare_byte, has_special, is_bare_name, is_some_text}

plain_byte : (b : ℕ) → is_plain b ≡ true → (b < 128) × (is_bare_byte b ≡ true) × (is_special b ≡ false)
plain_byte b h = grind (arith, nat_tests)

plain_ascii : (bs : List ℕ) → list_all is_plain bs ≡ true → IsAscii bs
plain_ascii [] h = IsAscii-nil
plain_ascii (b ∷ bs) h =
    let t = both (is_plain b) (list_all is_plain bs) h in
    IsAscii-cons b bs (plain_byte b t.0).0 (plain_ascii bs t.1)

plain_bare : (bs : List ℕ) → list_all is_plain bs ≡ true → list_all is_bare_byte bs ≡ true
plain_bare [] h = refl
plain_bare (b ∷ bs) h =
    let t = both (is_plain b) (list_all is_plain bs) h in
    rw ((plain_byte b t.0).1, plain_bare bs t.1) refl

none_special : (bs : List ℕ) → list_all is_plain bs ≡ true → list_any is_special bs ≡ false
none_special [] h = refl
none_special (b ∷ bs) h =
    let t = both (is_plain b) (list_all is_plain bs) h in
    rw ((plain_byte b t.0).2, none_special bs t.1) refl

plain_not_special : (bs : List ℕ) → list_all is_plain bs ≡ true → has_special bs ≡ false
unfolding has_special
plain_not_special bs h = ap (list_any is_special) (chars-IsAscii bs (plain_ascii bs h)) ∙ none_special bs h

-- how a name is tested
pub tested : (bs : List ℕ) → is_bare_name bs ≡ (is_some_text bs && (list_all is_plain bs || (list_all is_bare_byte bs && not (has_special bs))))
unfolding is_bare_name
tested bs = split (list_all is_plain bs) refl where
  split : (c : Bool) → list_all is_plain bs ≡ c → (is_some_text bs && (list_all is_bare_byte bs && not (has_special bs))) ≡ (is_some_text bs && (list_all is_plain bs || (list_all is_bare_byte bs && not (has_special bs))))
  split true h = rw (h, plain_bare bs h, plain_not_special bs h) refl
  split false h = rw (h) refl

pub ruleset tests = (tested)
