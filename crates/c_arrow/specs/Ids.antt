-- SPDX-License-Identifier: Apache-2.0
-- SPDX-FileCopyrightText: Copyright the Vortex contributors

-- The type ids of a union: numbers from 0 to 127 with commas between them.
use Rattle.std.specs.Prelude.{ℕ, ◌+◌, ◌-◌, ◌*◌, List, [], ◌∷◌, ◌==◌, nat_le, ◌&&◌, Option, Some, None, if◌then◌else◌}
use Rattle.std.specs.Char.{is_ascii_digit}
use Rattle.dtype_text.specs.Read.{◌>>=◌}

-- the number before one more digit, if it has digits
abbrev pub digits_value : Option ℕ → ℕ
digits_value None = 0
digits_value (Some n) = n

-- an id and one more digit, if it is at most 127
abbrev pub id_with : Option ℕ → ℕ → Option ℕ
id_with id c = if is_ascii_digit c && nat_le (10 * digits_value id + (c - 48)) 127 then Some (10 * digits_value id + (c - 48)) else None

-- the id that ends at a comma or at the end, if it has digits, before other ids
abbrev pub ended : Option ℕ → Option (List ℕ) → Option (List ℕ)
ended None ids = None
ended (Some id) ids = ids >>= λ is. Some (id ∷ is)

-- the ids of what is left, of which the first has begun with the digits of this number, if there were digits
abbrev pub ids_after : Option ℕ → List ℕ → Option (List ℕ)
ids_after id [] = ended id (Some [])
ids_after id (c ∷ bytes) = if c == 44 then ended id (ids_after None bytes) else (id_with id c >>= λ n. ids_after (Some n) bytes)

-- The type ids. For example, they are 0 and 5 of `0,5`. No bytes are no ids; `0,` and `128` aren't ids.
unfoldable pub ids_of : List ℕ → Option (List ℕ)
ids_of [] = Some []
ids_of (c ∷ bytes) = ids_after None (c ∷ bytes)
