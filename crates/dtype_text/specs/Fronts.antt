-- SPDX-License-Identifier: Apache-2.0
-- SPDX-FileCopyrightText: Copyright the Vortex contributors

-- What is behind a text at the front of bytes.
use Rattle.std.specs.Prelude.{ℕ, List, [], ◌∷◌, ◌==◌, Bool, false, ◌||◌}
use Rattle.dtype_text.specs.Bare.{is_id_byte}
use Rattle.dtype_text.specs.Grammar.{Lang, lit, ◌<>◌}

-- bytes that begin with a text of the language, with these bytes behind it
abbrev pub before : Lang → List ℕ → Lang
before L rest = L <> lit rest

-- the first byte passes a test
abbrev pub begins : (ℕ → Bool) → List ℕ → Bool
begins p [] = false
begins p (b ∷ bytes) = p b

-- the bytes with which a type may go on: a byte of an id, `?`, and the bracket of an extension
abbrev pub goes_on : ℕ → Bool
goes_on b = is_id_byte b || (b == 63 || b == 91)
