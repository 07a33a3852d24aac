-- SPDX-License-Identifier: Apache-2.0
-- SPDX-FileCopyrightText: Copyright the Vortex contributors

-- How much the program reads: at most 2^20 bytes, the program's own limit, and one that shows that there are more.
-- From the documentation of `run`.
use Rattle.std.specs.Prelude.{ℕ, ◌≤◌, List, length, Option}
use Rattle.std.specs.Io.KnownBytes.{Consumes}

-- the greatest number of bytes of input
abbrev pub input_limit : ℕ
input_limit = 1048576

-- at most n bytes are taken from the front of a reader whose bytes are known
abbrev pub TakesAtMost : ℕ → Option (List ℕ) → Option (List ℕ) → Type 0
TakesAtMost n old new = (taken : List ℕ) × Consumes old new taken × (length taken ≤ n)
