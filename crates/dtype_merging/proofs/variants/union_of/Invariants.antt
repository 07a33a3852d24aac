-- SPDX-License-Identifier: Apache-2.0
-- SPDX-FileCopyrightText: Copyright the Vortex contributors

use Rattle.std.proofs.Common.{◌≡◌, map}
use Rattle.dtype_types.specs.tree.TreeOf.{tree}
use Rattle.dtype_merging.proofs.Tagging.{names_in, tags_in, types_in}
use Rattle.dtype_merging.proofs.variants.union_of.Given as goal

-- the parts of the variants so far
abbrev pub invariant-loop-name : goal.invariant-loop-name
invariant-loop-name l = record {
  names : l.names.items ≡ names_in l.yielded;
  dtypes : map tree l.dtypes.items ≡ types_in l.yielded;
  tags : l.type_ids.items ≡ tags_in l.yielded;
}
