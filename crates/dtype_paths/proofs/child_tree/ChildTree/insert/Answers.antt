-- SPDX-License-Identifier: Apache-2.0
-- SPDX-FileCopyrightText: Copyright the Vortex contributors

use Rattle.dtype_paths.proofs.ChildTrees.{more_by_key, more_by_step}
use Rattle.dtype_paths.proofs.child_tree.ChildTree.insert.Goals as goal

pub invariant_of-self : goal.invariant_of-self
invariant_of-self c =
    let t = c.self.inside in
    more_by_step t.by_key.entries t.by_step.entries c.self.invariant c.args.step c.args.node_index c.insert.new.self.entries (c.is_taken.ensures.taken c.if-is_taken.true) c.insert.ensures.ordered c.in_ok-insert.ensures.updates.0

pub invariant_of-self-in-Continue-branch-2 : goal.invariant_of-self-in-Continue-branch-2
invariant_of-self-in-Continue-branch-2 c =
    let t = c.self.inside in
    more_by_key t.by_key.entries t.by_step.entries c.self.invariant c.args.step c.args.node_index c.put_at_key.new.by_key.entries c.step_key_of-key.result c.step_key_of-key.ensures.key
    (c.is_taken.ensures.free c.if-is_taken.false) c.put_at_key.ensures.ordered c.in_ok-put_at_key.ensures.added
