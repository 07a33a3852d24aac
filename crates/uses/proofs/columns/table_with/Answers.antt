-- SPDX-License-Identifier: Apache-2.0
-- SPDX-FileCopyrightText: Copyright the Vortex contributors

use Rattle.dtype_types.specs.tree.TreeOf.{tree}
use Rattle.vortex_dtype.proofs.rulesets.{reads_copy}
use Rattle.uses.proofs.columns.table_with.Goals as goal

pub returns-then-reads_as-clause-older : goal.returns-then-reads_as-clause-older
returns-then-reads_as-clause-older c = reads_copy c.args.widening (tree c.args.table.now) (tree c.in_ok-try_clone.field-0) c.in_ok-try_clone.ensures
