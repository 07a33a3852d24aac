-- SPDX-License-Identifier: Apache-2.0
-- SPDX-FileCopyrightText: Copyright the Vortex contributors

use Rattle.std.proofs.Common.{◌∙◌, ap}
use Rattle.std.specs.FinSet as set
use Rattle.dtype_paths.specs.PathOrder.{set_of}
use Rattle.dtype_paths.specs.private.Trie.{terminals}
use Rattle.dtype_paths.proofs.lemmas.SetCovers.{inserted_covers}
use Rattle.dtype_paths.proofs.field_path_set.FieldPathSet.insert.Goals as goal

pub returns-clause-covers : goal.returns-clause-covers
returns-clause-covers c = λ q.
    inserted_covers c.args.self.now (set_of (terminals c.insert.new.self)) c.args.path q (c.in_ok-insert.ensures.inserted ∙ ap (λ s. set.insert s c.args.path) c.self.view_is)
