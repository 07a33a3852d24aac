-- SPDX-License-Identifier: Apache-2.0
-- SPDX-FileCopyrightText: Copyright the Vortex contributors

-- The differences that a call lends, with the trees of their types.
use Rattle.std.specs.Prelude.{List, map}
use Rattle.dtype_types.specs.tree.TreeOf.{shown, tree}
use Rattle.dtype_edits.specs.Differences.{Difference}
use Rattle.dtype_edits.specs.declared.difference.Difference as lent

-- in order
abbrev pub all_shown : List lent.Difference → List Difference
all_shown ds = map (λ d. (d.path, (shown tree d.before, shown tree d.after))) ds
