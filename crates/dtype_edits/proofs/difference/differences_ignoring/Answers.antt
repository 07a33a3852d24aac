-- SPDX-License-Identifier: Apache-2.0
-- SPDX-FileCopyrightText: Copyright the Vortex contributors

use Rattle.std.proofs.Common.{◌++◌, ◌∙◌, ap}
use Rattle.dtype_types.specs.tree.TreeOf.{tree}
use Rattle.dtype_edits.specs.Differences.{differences}
use Rattle.dtype_edits.specs.ShownDifferences.{all_shown}
use Rattle.dtype_edits.specs.private.Behind.{behind}
use Rattle.dtype_edits.proofs.DifferenceSteps.{behind_root}
use Rattle.dtype_edits.proofs.difference.differences_ignoring.Goals as goal

pub returns : goal.returns
returns c =
    let ds = differences c.args.ignoring (tree c.args.before.now) (tree c.args.after.now) in
    record {
      ok = c.in_ok-push_differences.ensures.found
          ∙ ap (λ before. all_shown before ++ behind c.new-above.result.items ds) c.new-found.ensures.items
          ∙ behind_root c.new-above.result.items ds c.new-above.ensures.items;
    }
