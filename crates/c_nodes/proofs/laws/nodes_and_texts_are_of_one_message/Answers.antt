-- SPDX-License-Identifier: Apache-2.0
-- SPDX-FileCopyrightText: Copyright the Vortex contributors

use Rattle.c_nodes.proofs.Whole.{one_message}
use Rattle.c_nodes.proofs.laws.nodes_and_texts_are_of_one_message.Goals as goal

pub returns : goal.returns
returns c = one_message
