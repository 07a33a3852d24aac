-- SPDX-License-Identifier: Apache-2.0
-- SPDX-FileCopyrightText: Copyright the Vortex contributors

use Rattle.std.proofs.Common.{map}
use Rattle.dtype_types.specs.tree.TreeOf.{tree}
use Rattle.dtype_merging.proofs.lemmas.AllMerged.{all_values}
use Rattle.dtype_merging.proofs.all.merge_all.Goals as goal

pub returns-clause-values : goal.returns-clause-values
returns-clause-values c = all_values c.args.widening (tree c.args.first.now) (map tree c.args.others.now) c.in_ok-merge_each.field-0 c.in_ok-merge_each.ensures
