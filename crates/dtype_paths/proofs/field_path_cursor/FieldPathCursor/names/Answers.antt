-- SPDX-License-Identifier: Apache-2.0
-- SPDX-FileCopyrightText: Copyright the Vortex contributors

use Rattle.dtype_paths.specs.Cursors.{contains_below}
use Rattle.dtype_paths.proofs.lemmas.NameRuns.{names_all, names_each}
use Rattle.dtype_paths.proofs.field_path_cursor.FieldPathCursor.names.Goals as goal

pub returns-clause-each : goal.returns-clause-each
unfolding contains_below
returns-clause-each c = names_each (contains_below c.args.self.now) c.new.result c.new.ensures.names

pub returns-clause-all : goal.returns-clause-all
unfolding contains_below
returns-clause-all c = names_all (contains_below c.args.self.now) c.new.result c.new.ensures.names
