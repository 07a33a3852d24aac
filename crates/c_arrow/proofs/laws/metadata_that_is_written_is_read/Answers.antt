-- SPDX-License-Identifier: Apache-2.0
-- SPDX-FileCopyrightText: Copyright the Vortex contributors

use Rattle.c_arrow.proofs.KeysAgain.{keys_again}
use Rattle.c_arrow.proofs.laws.metadata_that_is_written_is_read.Goals as goal

pub returns : goal.returns
returns c = keys_again
