-- SPDX-License-Identifier: Apache-2.0
-- SPDX-FileCopyrightText: Copyright the Vortex contributors

use Rattle.std.proofs.Common.{◌≡◌, ◌+◌, ◌*◌}
use Rattle.dtype_types.specs.tree.Tree.{fields, variants}
use Rattle.dtype_types.specs.tree.TreeOf.{fields_of, variants_of, with_trees, with_tagged_trees}
use Rattle.c_arrow.specs.Added.{out, with_fields}
use Rattle.c_arrow.specs.Write.{children_of}
use Rattle.c_arrow.proofs.writer.Flat.+writing.Given as goal

abbrev pub decreases-named : goal.decreases-named
decreases-named l = l.levels * 8 + 7

abbrev pub decreases-field : goal.decreases-field
decreases-field l = l.levels * 8 + 6

abbrev pub decreases-extension : goal.decreases-extension
decreases-extension l = l.levels * 8 + 5

abbrev pub decreases-outer_extension : goal.decreases-outer_extension
decreases-outer_extension l = l.levels * 8 + 4

abbrev pub decreases-fixed : goal.decreases-fixed
decreases-fixed l = l.levels * 8 + 5

abbrev pub decreases-map : goal.decreases-map
decreases-map l = l.levels * 8 + 5

abbrev pub decreases-entries : goal.decreases-entries
decreases-entries l = l.levels * 8 + 4

abbrev pub decreases-structure : goal.decreases-structure
decreases-structure l = l.levels * 8 + 5

abbrev pub decreases-fields : goal.decreases-fields
decreases-fields l = l.levels * 8 + 4

abbrev pub decreases-union : goal.decreases-union
decreases-union l = l.levels * 8 + 5

abbrev pub decreases-variants : goal.decreases-variants
decreases-variants l = l.levels * 8 + 4

abbrev pub decreases-child : goal.decreases-child
decreases-child l = l.levels * 8

-- the fields that are left, behind what is written, are all fields behind what was written before
abbrev pub invariant-fields-loop-name : goal.invariant-fields-loop-name
invariant-fields-loop-name l = with_fields (children_of l.levels (fields (with_trees l.name-iterator))) (out l.self) ≡ with_fields (children_of l.levels (fields_of l.fields)) (out l.fn.self)

abbrev pub invariant-variants-loop-name : goal.invariant-variants-loop-name
invariant-variants-loop-name l = with_fields (children_of l.levels (variants (with_tagged_trees l.name-iterator))) (out l.self) ≡ with_fields (children_of l.levels (variants_of l.variants)) (out l.fn.self)
