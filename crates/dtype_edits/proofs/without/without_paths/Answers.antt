-- SPDX-License-Identifier: Apache-2.0
-- SPDX-FileCopyrightText: Copyright the Vortex contributors

use Rattle.std.proofs.Common.{rules, ◌≡◌, MatchResult}
use Rattle.std.specs.FinSet as set
use Rattle.std.specs.Option.{option_map}
use Rattle.dtype_base.specs.declared.vortex_error.VortexError.TheVariants.{OutOfMemory}
use Rattle.dtype_types.specs.tree.TreeOf.{tree}
use Rattle.dtype_edits.specs.Without.{without}
use Rattle.dtype_edits.proofs.lemmas.Leaving.{clauses}
use Rattle.dtype_edits.proofs.without.without_paths.Goals as goal

pub returns : goal.returns
returns c =
    let t = tree c.args.dtype.now in
    let s = c.args.paths.now in
    let part : MatchResult c.remove.result (λ r. option_map tree r ≡ without t (set.contains s)) (λ e. e ≡ OutOfMemory) = rw c.cursor.ensures.paths at c.remove.ensures in
    search (rules, part, clauses t s)
