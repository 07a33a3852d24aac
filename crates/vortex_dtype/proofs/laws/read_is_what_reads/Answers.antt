-- SPDX-License-Identifier: Apache-2.0
-- SPDX-FileCopyrightText: Copyright the Vortex contributors

use Rattle.vortex_dtype.proofs.lemmas.Reads.{refused_faulty}
use Rattle.vortex_dtype.proofs.laws.read_is_what_reads.Goals as goal

pub returns-clause-refused : goal.returns-clause-refused
returns-clause-refused c = refused_faulty
