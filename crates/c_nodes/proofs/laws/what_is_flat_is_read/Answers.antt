-- SPDX-License-Identifier: Apache-2.0
-- SPDX-FileCopyrightText: Copyright the Vortex contributors

use Rattle.c_nodes.proofs.Complete.{flat_read}
use Rattle.c_nodes.proofs.Sound.{read_is_flat}
use Rattle.c_nodes.proofs.laws.what_is_flat_is_read.Goals as goal

pub returns-clause-read : goal.returns-clause-read
returns-clause-read c = read_is_flat

pub returns-clause-flat : goal.returns-clause-flat
returns-clause-flat c = flat_read
