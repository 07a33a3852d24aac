-- SPDX-License-Identifier: Apache-2.0
-- SPDX-FileCopyrightText: Copyright the Vortex contributors

use Rattle.c_arrow.proofs.TemporalAgain.{dates_again}
use Rattle.c_arrow.proofs.laws.dates_and_times_that_are_written_are_read.Goals as goal

pub returns : goal.returns
returns c = dates_again
