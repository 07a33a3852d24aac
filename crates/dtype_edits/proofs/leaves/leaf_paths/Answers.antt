-- SPDX-License-Identifier: Apache-2.0
-- SPDX-FileCopyrightText: Copyright the Vortex contributors

use Rattle.std.proofs.Common.{rules, ◌≡◌}
use Rattle.dtype_types.specs.tree.TreeOf.{tree}
use Rattle.dtype_paths.specs.PathOrder.{set_of}
use Rattle.dtype_edits.specs.Leaves.{leaves}
use Rattle.dtype_edits.proofs.lemmas.Leaves.{set_of_leaves}
use Rattle.dtype_edits.proofs.leaves.leaf_paths.Goals as goal

pub returns-clause-each : goal.returns-clause-each
returns-clause-each c =
    let t = tree c.args.dtype.now in
    let is : c.in_ok-from_iter.field-0 ≡ set_of (leaves t) = search (rules, c.in_ok-from_iter.ensures, c.in_ok-found.ensures) in
    set_of_leaves t c.in_ok-from_iter.field-0 is
