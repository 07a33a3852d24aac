-- SPDX-License-Identifier: Apache-2.0
-- SPDX-FileCopyrightText: Copyright the Vortex contributors

use Rattle.c_nodes.proofs.Deep.{too_deep_has_many}
use Rattle.c_nodes.proofs.laws.only_many_nodes_are_too_deep.Goals as goal

pub returns : goal.returns
returns c = too_deep_has_many
