-- SPDX-License-Identifier: Apache-2.0
-- SPDX-FileCopyrightText: Copyright the Vortex contributors

use Rattle.std.proofs.Common.{◌∙◌, ap, sym}
use Rattle.dtype_paths.specs.Cursors.{contains_below, contains_below_if}
use Rattle.dtype_paths.specs.PathPredicates.{PathPredicate}
use Rattle.dtype_paths.proofs.Reaching.{ends_stepped, ends_nowhere}
use Rattle.dtype_paths.proofs.field_path_cursor.FieldPathCursor.step.Goals as goal

pub returns-in_err-node_index-clause-paths : goal.returns-in_err-node_index-clause-paths
unfolding contains_below
returns-in_err-node_index-clause-paths c =
    ap contains_below_if c.from_residual.ensures ∙ ends_nowhere c.args.self.now.trie.now c.args.self.now.node_index c.args.step.now c.in_err-node_index.ensures.node

pub returns-clause-paths : goal.returns-clause-paths
unfolding contains_below
returns-clause-paths c = ends_stepped c.args.self.now.trie.now c.args.self.now.node_index c.in_ok-node_index.node_index c.args.step.now c.in_ok-node_index.ensures.node

pub returns-clause-some : goal.returns-clause-some
unfolding contains_below
returns-clause-some c =
    let on = ends_stepped c.args.self.now.trie.now c.args.self.now.node_index c.in_ok-node_index.node_index c.args.step.now c.in_ok-node_index.ensures.node in
    let q = c.in_ok-node_index.ensures.some in
    (q.0, ap (λ (w : PathPredicate). w q.0) (sym on) ∙ q.1)
