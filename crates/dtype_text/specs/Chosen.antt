-- SPDX-License-Identifier: Apache-2.0
-- SPDX-FileCopyrightText: Copyright the Vortex contributors

-- What union names, types and the tags that are written make.
use Rattle.std.specs.Prelude.{ℕ, List, ◌==◌, if◌then◌else◌, length}
use Rattle.std.specs.List.{range_with_len, zip}
use Rattle.dtype_types.specs.tree.Tree.{Tree, Variants}
use Rattle.dtype_text.specs.Outcome.{Outcome, misspelled}
use Rattle.dtype_text.specs.Unions.{is_empty, made_union}

unfoldable pub chosen : List (List ℕ) → List Tree → List ℕ → Outcome Variants
chosen names types tags =
    if is_empty tags then made_union (zip names (zip types (range_with_len 0 (length names))))
    else if length tags == length names then made_union (zip names (zip types tags))
    else misspelled
