-- SPDX-License-Identifier: Apache-2.0
-- SPDX-FileCopyrightText: Copyright the Vortex contributors

use Rattle.std.proofs.Common.{◌≡◌, List, ap, ◌∙◌, subst, sym}
use Rattle.std.specs.FinSet as set
use Rattle.dtype_paths.proofs.lemmas.SetMembers.{union_with_none}
use Rattle.dtype_paths.specs.PathOrder.{PathSet, path_cmp}
use Rattle.dtype_paths.specs.declared.field.Field.{Field}
use Rattle.dtype_paths.proofs.field_path_set.FieldPathSet.from_iter.Goals as goal

begun_empty : (ps : List (List Field)) (s t : PathSet) → t ≡ set.union s (set.from_list ps) → s ≡ set.empty → t ≡ set.from_list ps
begun_empty ps s t e none = e ∙ ap (λ (x : PathSet). set.union x (set.from_list {R = path_cmp} ps)) none ∙ union_with_none (set.from_list ps)

-- what `extend` made of the empty set
pub returns : goal.returns
returns g c =
    let ran = c.in_ok-extend.ensures.extended in
    let given = subst (g.I.IntoIterator.into_iter_gives c.args.paths) (sym ran.1) c.into_iter-paths.ensures.into_iter_gives in
    let run = ran.2 in
    (ran.0, given, (run.0, run.1, run.2, begun_empty run.0.items _ c.extend.new.self run.3 (ap (set.from_list {R = path_cmp}) c.in_ok-trie.ensures)))
