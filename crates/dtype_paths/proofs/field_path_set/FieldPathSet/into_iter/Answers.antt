-- SPDX-License-Identifier: Apache-2.0
-- SPDX-FileCopyrightText: Copyright the Vortex contributors

use Rattle.std.specs.Vec.Iter.{into_iter_items}
use Rattle.dtype_paths.proofs.lemmas.SetCovers.{cover_within}
use Rattle.dtype_paths.proofs.field_path_set.FieldPathSet.into_iter.Goals as goal

pub returns-clause-within : goal.returns-clause-within
returns-clause-within c = λ ps alike. cover_within (into_iter_items c.in_ok-paths.paths) ps c.args.self c.in_ok-paths.ensures.ok alike
