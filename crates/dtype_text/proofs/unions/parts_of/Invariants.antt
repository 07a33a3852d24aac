-- SPDX-License-Identifier: Apache-2.0
-- SPDX-FileCopyrightText: Copyright the Vortex contributors

use Rattle.std.proofs.Common.{◌≡◌, map}
use Rattle.dtype_types.specs.tree.TreeOf.{tree}
use Rattle.dtype_text.specs.Unions.{written_tags}
use Rattle.dtype_text.specs.Views.{read_variants}
use Rattle.dtype_text.proofs.unions.parts_of.Given as goal

-- the parts of the variants so far
abbrev pub invariant-loop-variant : goal.invariant-loop-variant
invariant-loop-variant l = record {
  names : l.names.items ≡ map (λ v. v.0) (read_variants l.yielded);
  dtypes : map tree l.dtypes.items ≡ map (λ v. v.1.0) (read_variants l.yielded);
  tags : l.tags.items ≡ written_tags (read_variants l.yielded);
}
