-- SPDX-License-Identifier: Apache-2.0
-- SPDX-FileCopyrightText: Copyright the Vortex contributors

use Rattle.std.proofs.Common.{◌≡◌, ◌∙◌, Some, None, ap, refl, subst, sym}
use Rattle.dtype_base.specs.FieldNames.{first_place}
use Rattle.dtype_types.specs.parts.Lookups.{field_names}
use Rattle.dtype_types.specs.tree.TreeOf.{children}
use Rattle.dtype_paths.specs.Cursors.{contains_below, names_left}
use Rattle.dtype_paths.specs.PathPredicates.{AreNames}
use Rattle.dtype_paths.specs.declared.cursor_names.CursorNames.{CursorNames}
use Rattle.dtype_projection.proofs.EnteredFields.{looked_up-absent, looked_up-more, looked_up-none}
use Rattle.dtype_projection.proofs.entered.looked_up.Goals as goal

pub loop-name-init : goal.loop-name-init
loop-name-init c =
    let w = contains_below c.args.cursor.now in
    let it = c.into_iter-name-iterator.result in
    looked_up-none w (field_names (children c.args.fields.now)) (names_left it) c.in_ok-entered.entered.items c.in_ok-entered.ensures.items
    (subst (λ (n : CursorNames). AreNames w (names_left n)) (sym c.into_iter-name-iterator.ensures.into_iter_gives) c.names-names.ensures.names)

pub loop-name-preserved-in-Continue-branch-2 : goal.loop-name-preserved-in-Continue-branch-2
loop-name-preserved-in-Continue-branch-2 c =
    let ns = field_names (children c.args.fields.now) in
    let at : Some c.in-Some-find.position ≡ first_place ns c.in-Some.name.now = c.in-Some-find.ensures ∙ ap (first_place ns) c.as_str.ensures in
    looked_up-more (contains_below c.args.cursor.now) ns (names_left c.loop-name.name-iterator) (names_left c.next.new.self) c.in-Some.name.now (contains_below c.in-Some.below) c.in-Some.ensures.steps
    c.loop-name.entered.items c.loop-name.invariant c.in-Some-find.position c.in-Some.below c.push.new.self.items at refl c.in_ok-push.ensures.items

pub loop-name-preserved : goal.loop-name-preserved
loop-name-preserved c =
    let ns = field_names (children c.args.fields.now) in
    let none : None ≡ first_place ns c.in-Some.name.now = c.in_default.ensures ∙ ap (first_place ns) c.as_str.ensures in
    looked_up-absent (contains_below c.args.cursor.now) ns (names_left c.loop-name.name-iterator) (names_left c.next.new.self) c.in-Some.name.now (contains_below c.in-Some.below) c.in-Some.ensures.steps
    c.loop-name.entered.items c.loop-name.invariant none
