-- SPDX-License-Identifier: Apache-2.0
-- SPDX-FileCopyrightText: Copyright the Vortex contributors

use Rattle.std.proofs.Common.{◌≡◌, ◌++◌, List, map, ap, ◌∙◌}
use Rattle.dtype_types.specs.tree.TreeOf.{tree}
use Rattle.dtype_paths.specs.declared.field.Field.{Field}
use Rattle.dtype_edits.specs.Leaves.{leaves}
use Rattle.dtype_edits.proofs.LeafSteps.{behind_root}
use Rattle.dtype_edits.proofs.leaves.listed_leaves.Goals as goal

pub returns : goal.returns
returns c =
    let ls = leaves (tree c.args.dtype.now) in
    c.in_ok-push_leaves.ensures.found
    ∙ ap (λ (before : List (List Field)). before ++ map (λ p. c.new-above.result.items ++ p) ls) c.new-found.ensures.items
    ∙ behind_root c.new-above.result.items ls c.new-above.ensures.items
