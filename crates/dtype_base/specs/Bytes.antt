-- SPDX-License-Identifier: Apache-2.0
-- SPDX-FileCopyrightText: Copyright the Vortex contributors

-- Bytes: the model of a slice of bytes is a list of numbers, each below 256. From the definition of `u8`.
use Rattle.std.specs.Prelude.{ℕ, ◌<◌, List}
use Rattle.std.specs.List.{All}

-- the numbers of a list are bytes
abbrev pub Bytes : List ℕ → Type 0
Bytes bs = All (λ b. b < 256) bs
