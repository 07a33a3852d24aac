-- SPDX-License-Identifier: Apache-2.0
-- SPDX-FileCopyrightText: Copyright the Vortex contributors

use Rattle.std.proofs.Common.{◌≡◌, ◌++◌, Some, map}
use Rattle.dtype_types.specs.nullability.Nullable.{set_null}
use Rattle.dtype_types.specs.parts.FieldTypes.{field_tree}
use Rattle.dtype_types.specs.parts.Lookups.{field_names, field_types}
use Rattle.dtype_types.specs.tree.TreeOf.{children, with_trees}
use Rattle.vortex_dtype.specs.Types.Nullability.TheVariants.{Nullable}
use Rattle.uses.proofs.loops.nullable_columns.Given as goal

-- the names so far and those that are left are all names; and the types so far, and those that are left made nullable,
-- are all types made nullable
abbrev pub invariant-loop-name : goal.invariant-loop-name
invariant-loop-name l = record {
  names : field_names (map (λ p. (p.0, field_tree p.1)) l.fields.items) ++ field_names (with_trees l.name-iterator) ≡ field_names (children l.table);
  types : map (λ t. Some t) (field_types (map (λ p. (p.0, field_tree p.1)) l.fields.items)) ++ map (λ t. set_null t Nullable) (field_types (with_trees l.name-iterator))
      ≡ map (λ t. set_null t Nullable) (field_types (children l.table));
}
