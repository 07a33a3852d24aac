-- SPDX-License-Identifier: Apache-2.0
-- SPDX-FileCopyrightText: Copyright the Vortex contributors

use Rattle.dtype_edits.proofs.lemmas.Unlisted.{unlisted_alike}
use Rattle.dtype_edits.proofs.laws.what_is_not_listed_is_alike.Goals as goal

pub returns : goal.returns
returns c = unlisted_alike
