-- SPDX-License-Identifier: Apache-2.0
-- SPDX-FileCopyrightText: Copyright the Vortex contributors

use Rattle.std.proofs.Common.{◌↔◌, map}
use Rattle.std.specs.Iterator.Adapters.{zip_first, zip_second}
use Rattle.std.specs.List.{AllByRecursion, zip}
use Rattle.dtype_types.specs.nullability.Nullable.{IsNullable}
use Rattle.dtype_types.specs.parts.Lookups.{field_types}
use Rattle.dtype_types.specs.tree.TreeOf.{children, tree}
use Rattle.uses.proofs.over_fields.are_nullable_alike.Given as goal

-- the pairs that are left are alike exactly where all are
abbrev pub invariant-loop-a : goal.invariant-loop-a
invariant-loop-a l = record {
  all : AllByRecursion (λ p. IsNullable p.0 ↔ IsNullable p.1) (zip (map tree (zip_first l.a-iterator)) (map tree (zip_second l.a-iterator)))
      ↔ AllByRecursion (λ p. IsNullable p.0 ↔ IsNullable p.1) (zip (field_types (children l.left)) (field_types (children l.right)));
}
