-- SPDX-License-Identifier: Apache-2.0
-- SPDX-FileCopyrightText: Copyright the Vortex contributors

-- The differences of two parts, with the steps that lead to the parts.
use Rattle.std.specs.Prelude.{List, ◌++◌, map}
use Rattle.dtype_paths.specs.declared.field.Field.{Field}
use Rattle.dtype_edits.specs.Differences.{Difference}

-- the differences, each with these steps before its path
abbrev pub behind : List Field → List Difference → List Difference
behind above ds = map (λ d. (above ++ d.0, d.1)) ds
