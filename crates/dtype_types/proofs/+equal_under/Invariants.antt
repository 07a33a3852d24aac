-- SPDX-License-Identifier: Apache-2.0
-- SPDX-FileCopyrightText: Copyright the Vortex contributors

use Rattle.std.proofs.Common.{◌≡◌, ◌≤◌, length, map}
use Rattle.std.specs.Cmp.Lexicographic.{pointwise}
use Rattle.std.specs.Iterator.Adapters.{zip_first, zip_second}
use Rattle.std.specs.Slice.Iter.{iter_rest}
use denote.Param.Weighed.{most}
use Rattle.dtype_types.specs.equality.Equality.{equal_under}
use Rattle.dtype_types.specs.tree.TreeOf.{tree}
use Rattle.dtype_types.specs.declared.dtype.DType.{size-DType}
use Rattle.dtype_types.proofs.+equal_under.Given as goal

-- the rests are equal under the rule exactly where the wholes are, are equally long, and are no deeper
abbrev pub invariant-dtype::equality::equal_dtypes-loop-dtype : goal.invariant-dtype::equality::equal_dtypes-loop-dtype
invariant-dtype::equality::equal_dtypes-loop-dtype l = record {
  agrees : pointwise (equal_under l.rule) (map tree (iter_rest (zip_first l.dtype-iterator))) (map tree (iter_rest (zip_second l.dtype-iterator))) ≡ pointwise (equal_under l.rule) (map tree l.a) (map tree l.b);
  even : length (iter_rest (zip_first l.dtype-iterator)) ≡ length (iter_rest (zip_second l.dtype-iterator));
  within : most size-DType (iter_rest (zip_first l.dtype-iterator)) ≤ most size-DType l.a;
}
