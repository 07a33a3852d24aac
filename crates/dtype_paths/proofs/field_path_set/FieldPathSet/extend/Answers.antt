-- SPDX-License-Identifier: Apache-2.0
-- SPDX-FileCopyrightText: Copyright the Vortex contributors

use Rattle.std.proofs.Common.{ap, sym, ◌∙◌}
use Rattle.std.proofs.iter.runs.Made.{run_of_exit}
use Rattle.std.specs.FinSet as set
use Rattle.dtype_paths.proofs.lemmas.SetMembers.{of_push, union_insert, union_none}
use Rattle.dtype_paths.specs.PathOrder.{path_cmp}
use Rattle.dtype_paths.proofs.field_path_set.FieldPathSet.extend.Goals as goal

pub loop-path-init : goal.loop-path-init
loop-path-init g c = sym (union_none c.args.self.now)

pub loop-path-preserved : goal.loop-path-preserved
loop-path-preserved g c =
    c.in_ok-insert.ensures.inserted
    ∙ ap (λ s. set.insert s c.in-Some.path) c.loop-path.invariant
    ∙ sym (ap (set.union c.args.self.now) (of_push c.loop-path.yielded c.in-Some.path) ∙ union_insert c.args.self.now (set.from_list c.loop-path.yielded) c.in-Some.path)

-- the list that was taken, as a run
pub returns-clause-extended : goal.returns-clause-extended
returns-clause-extended g c =
    let whole = run_of_exit g.I.IntoIter.Iterator.next_gives _ c.loop-path.yielded _ c.loop-path.yielded_by _ (rw c.in-None.is at c.next.ensures.steps) in
    let all = c.loop-path.invariant ∙ ap (λ ps. set.union c.args.self.now (set.from_list {R = path_cmp} ps)) (sym whole.3.0) in
    (c.into_iter-path-iterator.result, c.into_iter-path-iterator.ensures.into_iter_gives, (whole.0, whole.1, whole.2, all))
