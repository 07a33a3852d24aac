-- SPDX-License-Identifier: Apache-2.0
-- SPDX-FileCopyrightText: Copyright the Vortex contributors

use Rattle.c_arrow.proofs.Law.{read_is_made}
use Rattle.c_arrow.proofs.laws.flat_schemas_are_read.Goals as goal

pub returns : goal.returns
returns c = read_is_made
