-- SPDX-License-Identifier: Apache-2.0
-- SPDX-FileCopyrightText: Copyright the Vortex contributors

use Rattle.c_nodes.proofs.Whole.{flat_of, only_of, deep_of}
use Rattle.c_nodes.proofs.reader.message_of.Goals as goal

pub returns-clause-flat : goal.returns-clause-flat
returns-clause-flat c = flat_of c.args.nodes.now c.args.texts.now c.whole.result c.whole.ensures

pub returns-clause-only : goal.returns-clause-only
returns-clause-only c = only_of c.args.nodes.now c.args.texts.now c.whole.result c.whole.ensures

pub returns-clause-too_deep : goal.returns-clause-too_deep
returns-clause-too_deep c = deep_of c.args.nodes.now c.args.texts.now c.whole.result c.whole.ensures
