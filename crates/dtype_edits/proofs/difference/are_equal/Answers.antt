-- SPDX-License-Identifier: Apache-2.0
-- SPDX-FileCopyrightText: Copyright the Vortex contributors

use Rattle.dtype_edits.proofs.DifferenceTests.{equal_if_ignored}
use Rattle.dtype_edits.proofs.difference.are_equal.Goals as goal

pub returns-then-ignoring : goal.returns-then-ignoring
returns-then-ignoring c = equal_if_ignored c.args.ignoring c.args.before.now c.args.after.now c.eq_ignore_nullability.result c.if-ignoring.true c.eq_ignore_nullability.ensures
