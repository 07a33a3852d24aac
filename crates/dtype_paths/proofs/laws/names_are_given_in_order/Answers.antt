-- SPDX-License-Identifier: Apache-2.0
-- SPDX-FileCopyrightText: Copyright the Vortex contributors

use Rattle.std.proofs.Common.{rules}
use Rattle.std.proofs.iter.Rest.{run_of_first_by}
use Rattle.dtype_paths.specs.Cursors.{borrowed_below, names_left}
use Rattle.dtype_paths.proofs.laws.names_are_given_in_order.Goals as goal

pub returns : goal.returns
returns c = record { in_order = λ run seen. (run_of_first_by borrowed_below names_left run).1; ends = λ left. search rules }
