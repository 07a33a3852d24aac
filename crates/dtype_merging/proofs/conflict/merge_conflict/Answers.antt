-- SPDX-License-Identifier: Apache-2.0
-- SPDX-FileCopyrightText: Copyright the Vortex contributors

use Rattle.std.proofs.Common.{◌≡◌, Some, rules}
use Rattle.dtype_types.specs.tree.TreeOf.{tree}
use Rattle.dtype_merging.specs.Conflicts.{first_conflict}
use Rattle.dtype_merging.proofs.lemmas.Conflicting.{has_conflict, placed}
use Rattle.dtype_merging.proofs.conflict.merge_conflict.Goals as goal

pub returns-clause-some : goal.returns-clause-some
returns-clause-some c =
    let there : Some c.from_vec-path.result ≡ first_conflict c.args.widening (tree c.args.a.now) (tree c.args.b.now) = search (rules, c.in_ok-steps.ensures, c.in-Some.is, c.reverse.ensures.items, c.from_vec-path.ensures) in
    has_conflict c.args.widening (tree c.args.a.now) (tree c.args.b.now) c.from_vec-path.result there

pub returns-clause-at : goal.returns-clause-at
returns-clause-at c =
    let there : Some c.from_vec-path.result ≡ first_conflict c.args.widening (tree c.args.a.now) (tree c.args.b.now) = search (rules, c.in_ok-steps.ensures, c.in-Some.is, c.reverse.ensures.items, c.from_vec-path.ensures) in
    placed c.args.widening (tree c.args.a.now) (tree c.args.b.now) c.from_vec-path.result there (tree c.resolved-left.result.now) (tree c.resolved-right.result.now) c.resolved-left.ensures c.resolved-right.ensures
