-- SPDX-License-Identifier: Apache-2.0
-- SPDX-FileCopyrightText: Copyright the Vortex contributors

use Rattle.dtype_text.proofs.PathAgain.{written_path_stands}
use Rattle.dtype_text.proofs.path_laws.what_is_written_stands_for_the_path.Goals as goal

pub returns : goal.returns
returns c = written_path_stands
