-- SPDX-License-Identifier: Apache-2.0
-- SPDX-FileCopyrightText: Copyright the Vortex contributors

use Rattle.dtype_text.proofs.PathAgain.{one_path}
use Rattle.dtype_text.proofs.path_laws.a_text_stands_for_one_path.Goals as goal

pub returns : goal.returns
returns c = one_path
