-- SPDX-License-Identifier: Apache-2.0
-- SPDX-FileCopyrightText: Copyright the Vortex contributors

use Rattle.std.proofs.Common.{◌≡◌, ◌+◌, ◌*◌, ◌++◌, ◌≤◌, map, vec_len}
use Rattle.std.specs.Vec.{vec_capacity}
use Rattle.std.specs.List.{filter_map, zip}
use Rattle.std.specs.Vec.Iter.{into_iter_items, into_iter_len}
use Rattle.dtype_types.specs.tree.Tree.{pairs}
use Rattle.dtype_types.specs.tree.TreeOf.{tree, children, fields_of}
use Rattle.dtype_paths.specs.Cursors.{contains_below}
use Rattle.dtype_projection.specs.Projected.{projected_fields}
use Rattle.dtype_projection.proofs.KeptFields.{kept_at}
use Rattle.dtype_types.proofs.lemmas.TypesBelow.{weight, weight_items}
use Rattle.dtype_projection.proofs.project.+projecting.Given as goal

abbrev pub decreases-project : goal.decreases-project
decreases-project l = 4 * weight (tree l.dtype.now) + 1

abbrev pub decreases-project_parts : goal.decreases-project_parts
decreases-project_parts l = 4 * weight (tree l.dtype.now)

abbrev pub decreases-project_element : goal.decreases-project_element
decreases-project_element l = 4 * weight (tree l.element.now) + 2

abbrev pub decreases-project_struct : goal.decreases-project_struct
decreases-project_struct l = 4 * weight_items (fields_of l.fields.now) + 3

abbrev pub decreases-project_field : goal.decreases-project_field
decreases-project_field l = 4 * weight_items (fields_of l.fields.now) + 2

-- what is kept so far, followed by what is kept of the fields at the positions that are left, is what is kept of all
abbrev pub invariant-project_struct-loop-position : goal.invariant-project_struct-loop-position
invariant-project_struct-loop-position l = record {
  kept : zip l.names.items (map tree l.dtypes.items) ++ filter_map (kept_at (children l.fields)) (into_iter_items l.position-iterator) ≡ pairs (projected_fields (fields_of l.fields) (contains_below l.cursor));
  even : vec_len l.names ≡ vec_len l.dtypes;
  names_fit : vec_len l.names + into_iter_len l.position-iterator ≤ vec_capacity l.names;
  dtypes_fit : vec_len l.dtypes + into_iter_len l.position-iterator ≤ vec_capacity l.dtypes;
}
