-- SPDX-License-Identifier: Apache-2.0
-- SPDX-FileCopyrightText: Copyright the Vortex contributors

use Rattle.std.proofs.Common.{◌≡◌, ◌≤◌, ◌++◌, map}
use Rattle.std.specs.Iterator.Adapters.{zip_first, zip_second}
use Rattle.std.specs.Slice.Iter.{iter_rest}
use denote.Param.Weighed.{most}
use Rattle.dtype_types.specs.nullability.Merged.{merge_types, rule_of}
use Rattle.dtype_types.specs.tree.Erase.{erase}
use Rattle.dtype_types.specs.tree.TreeOf.{tree}
use Rattle.dtype_types.specs.declared.dtype.DType.{size-DType}
use Rattle.dtype_types.proofs.+merge_under.Given as goal

-- what is merged, with what is left, is all; what is left is equal but for nullabilities, and no deeper
abbrev pub invariant-dtype::nullability_bounds::merge_dtypes-loop-dtype : goal.invariant-dtype::nullability_bounds::merge_dtypes-loop-dtype
invariant-dtype::nullability_bounds::merge_dtypes-loop-dtype l = record {
  whole : map tree l.dtypes.items ++ merge_types (rule_of l.rule) (map tree (iter_rest (zip_first l.dtype-iterator))) (map tree (iter_rest (zip_second l.dtype-iterator)))
      ≡ merge_types (rule_of l.rule) (map tree l.a) (map tree l.b);
  alike : map erase (map tree (iter_rest (zip_first l.dtype-iterator))) ≡ map erase (map tree (iter_rest (zip_second l.dtype-iterator)));
  within : most size-DType (iter_rest (zip_first l.dtype-iterator)) ≤ most size-DType l.a;
}
