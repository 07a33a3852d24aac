-- SPDX-License-Identifier: Apache-2.0
-- SPDX-FileCopyrightText: Copyright the Vortex contributors

use Rattle.std.proofs.Common.{◌≡◌, ◌∙◌, ◌<◌, ◌≤◌, Some, ap, length, refl, sym}
use Rattle.std.specs.List.{slice_get}
use Rattle.std.specs.Map.{lookup}
use Rattle.std.proofs.lemmas.Option.{slice_get_past, slice_get_read}
use Rattle.dtype_paths.specs.Equality.{same_field}
use Rattle.dtype_paths.proofs.ChildLists.{leads-by_key, leads-nowhere}
use Rattle.dtype_paths.proofs.child_list.ChildList.child.Goals as goal

pub returns-in-Some : goal.returns-in-Some
returns-in-Some c =
    let cs = c.self.inside.children.items in let f = c.args.step.now in let key = c.step_key_of-key.result in let i = c.position_of_key.result in let x = c.in-Some.child.now in
    let g = c.in-Some.ensures in
    let lt : i < length cs = rw c.deref.ensures.value at g.lookup.3.0 in
    let there : slice_get cs i ≡ Some x = slice_get_read cs (length cs) i x refl lt (rw c.deref.ensures.value at g.lookup.1) in
    let same : x.key ≡ key = rw (c.deref-2.ensures.value, there) at c.position_of_key.ensures.found in
    sym (leads-by_key cs f key c.self.invariant.0 c.step_key_of-key.ensures c.self.invariant.1 (c.key_is_exact.ensures.0 c.if-not-key_is_exact.false) i x there same)
    ∙ ap (lookup (same_field f)) c.self.view_is

pub returns-in-None : goal.returns-in-None
returns-in-None c =
    let cs = c.self.inside.children.items in let f = c.args.step.now in let i = c.position_of_key.result in
    let past : length cs ≤ i = rw c.deref.ensures.value at c.in-None.ensures.lookup.3 in
    let none = rw c.deref-2.ensures.value at c.position_of_key.ensures.none in
    sym (leads-nowhere cs f c.step_key_of-key.result c.self.invariant.0 c.step_key_of-key.ensures (none (slice_get_past cs i past))) ∙ ap (lookup (same_field f)) c.self.view_is
