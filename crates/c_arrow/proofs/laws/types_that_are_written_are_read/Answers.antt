-- SPDX-License-Identifier: Apache-2.0
-- SPDX-FileCopyrightText: Copyright the Vortex contributors

use Rattle.c_arrow.proofs.NodesAgain.{schema_again, nodes_again}
use Rattle.c_arrow.proofs.laws.types_that_are_written_are_read.Goals as goal

pub returns-clause-schema : goal.returns-clause-schema
returns-clause-schema c = schema_again

pub returns-clause-nodes : goal.returns-clause-nodes
returns-clause-nodes c = nodes_again
