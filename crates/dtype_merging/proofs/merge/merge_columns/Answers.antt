-- SPDX-License-Identifier: Apache-2.0
-- SPDX-FileCopyrightText: Copyright the Vortex contributors

use Rattle.dtype_types.specs.tree.TreeOf.{tree}
use Rattle.dtype_merging.proofs.lemmas.MergeLaws.{returned_least, returned_values}
use Rattle.dtype_merging.proofs.merge.merge_columns.Goals as goal

pub returns-clause-least : goal.returns-clause-least
returns-clause-least c = returned_least c.args.widening (tree c.args.a.now) (tree c.args.b.now) c.in_ok-merge.field-0 c.in_ok-merge.ensures

pub returns-clause-values : goal.returns-clause-values
returns-clause-values c = returned_values c.args.widening (tree c.args.a.now) (tree c.args.b.now) c.in_ok-merge.field-0 c.in_ok-merge.ensures
