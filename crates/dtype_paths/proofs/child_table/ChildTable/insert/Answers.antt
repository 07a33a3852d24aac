-- SPDX-License-Identifier: Apache-2.0
-- SPDX-FileCopyrightText: Copyright the Vortex contributors

use Rattle.std.proofs.Common.{◌≡◌, ◌∙◌, ap, arith, length, vec_len}
use Rattle.dtype_paths.specs.private.ChildTables.{tree_of}
use Rattle.dtype_paths.proofs.ChildTables.{fewer, leads_with, table_with}
use Rattle.dtype_paths.proofs.child_table.ChildTable.insert.Goals as goal

pub overflow_sub-self : goal.overflow_sub-self
overflow_sub-self c =
    let t = c.self.inside in
    let position = c.tree_of-position in
    let few = fewer t.trees.items t.count position.result c.index.result.now c.self.invariant (omega (arith, position.ensures.within, c.len.ensures)) c.index.ensures in
    omega (arith, few, c.len-before.ensures.count)

pub invariant_of-self-2 : goal.invariant_of-self-2
invariant_of-self-2 c =
    let t = c.self.inside in
    let position = c.tree_of-position in
    let long : vec_len t.trees ≡ length t.trees.items = omega (arith, t.trees.ok) in
    table_with t.trees.items t.count c.self.invariant c.args.step c.args.node_index position.result (position.ensures.is ∙ ap (λ n. tree_of n c.args.step) (c.len.ensures ∙ long)) (omega (arith, position.ensures.within, c.len.ensures, long))
    c.index_mut.result.now c.insert.new.self c.index-2.result.now c.index_mut.ensures.value c.index-2.ensures c.len-2.ensures.once c.in_ok-insert.ensures.added
    c.index.result.now c.len-before.result c.len-2.result c.index.ensures c.len-before.ensures.count c.len-2.ensures.count

pub returns-clause-added : goal.returns-clause-added
returns-clause-added c =
    let t = c.self.inside in
    let position = c.tree_of-position in
    let long : vec_len t.trees ≡ length t.trees.items = omega (arith, t.trees.ok) in
    leads_with t.trees.items t.count c.self.invariant c.args.step c.args.node_index position.result (position.ensures.is ∙ ap (λ n. tree_of n c.args.step) (c.len.ensures ∙ long)) (omega (arith, position.ensures.within, c.len.ensures, long))
    c.index_mut.result.now c.insert.new.self c.index-2.result.now c.index_mut.ensures.value c.index-2.ensures c.len-2.ensures.once c.in_ok-insert.ensures.added
    c.args.self.now c.self.view_is
