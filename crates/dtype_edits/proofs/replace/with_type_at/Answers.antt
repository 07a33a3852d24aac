-- SPDX-License-Identifier: Apache-2.0
-- SPDX-FileCopyrightText: Copyright the Vortex contributors

use Rattle.std.proofs.Common.{rules, ◌≡◌, MatchResult}
use Rattle.std.specs.Option.{option_map}
use Rattle.dtype_base.specs.declared.vortex_error.VortexError.TheVariants.{OutOfMemory}
use Rattle.dtype_types.specs.tree.TreeOf.{tree}
use Rattle.dtype_edits.specs.Replaced.{replaced}
use Rattle.dtype_edits.proofs.lemmas.Replacing.{clauses}
use Rattle.dtype_edits.proofs.replace.with_type_at.Goals as goal

pub returns : goal.returns
returns c =
    let t = tree c.args.dtype.now in
    let u = tree c.args.new.now in
    let p = c.args.path.now in
    let part : MatchResult c.replace.result (λ r. option_map tree r ≡ replaced t p u) (λ e. e ≡ OutOfMemory) = rw c.parts.ensures at c.replace.ensures in
    search (rules, part, clauses t u p)
