-- SPDX-License-Identifier: Apache-2.0
-- SPDX-FileCopyrightText: Copyright the Vortex contributors

-- Numbers of messages that must fit 8 bits.
use Rattle.std.specs.Prelude.{ℕ, ℤ, pos, negsuc, Option, Some, None, if◌then◌else◌, nat_lt}

-- the number, if it is a byte
abbrev pub natural_byte : ℕ → Option ℕ
natural_byte n = if nat_lt n 256 then Some n else None

-- the same of a number with a sign
abbrev pub integer_byte : ℤ → Option ℕ
integer_byte (pos n) = natural_byte n
integer_byte (negsuc n) = None

-- the number, if it fits a signed byte
abbrev pub signed_byte : ℤ → Option ℤ
signed_byte (pos n) = if nat_lt n 128 then Some (pos n) else None
signed_byte (negsuc n) = if nat_lt n 128 then Some (negsuc n) else None
