-- SPDX-License-Identifier: Apache-2.0
-- SPDX-FileCopyrightText: Copyright the Vortex contributors

use Rattle.std.proofs.Common.{◌≡◌, map}
use Rattle.dtype_types.specs.parts.FieldTypes.{field_tree}
use Rattle.dtype_types.specs.tree.TreeOf.{with_trees}
use Rattle.dtype_types.proofs.struct_fields.StructFields.from_iter.Given as goal

-- the fields that were given so far
abbrev pub invariant-loop-name : goal.invariant-loop-name
invariant-loop-name g l = record {
  can_next : (goal.iterator-loop-name g).can_next l.name-iterator;
  is_finite : (goal.iterator-loop-name g).is_finite l.name-iterator;
  collected : with_trees l.collected ≡ map (λ p. (p.0, field_tree p.1)) l.yielded;
}
