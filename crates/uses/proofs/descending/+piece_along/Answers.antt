-- SPDX-License-Identifier: Apache-2.0
-- SPDX-FileCopyrightText: Copyright the Vortex contributors

use Rattle.std.proofs.Common.{◌≡◌, ◌∷◌, ◌∙◌, [], Some, None, false, option_and_then, rules, sym}
use Rattle.vortex_dtype.specs.At.{step}
use Rattle.vortex_dtype.specs.Cursors.{contains_below}
use Rattle.vortex_dtype.specs.TreeOf.{tree}
use Rattle.dtype_projection.proofs.lemmas.Descending.{opened_after, opened_nowhere, opened_uncontained}
use Rattle.uses.specs.Descending.{piece_type}
use Rattle.uses.proofs.descending.+piece_along.Goals as goal

-- after a step into both
pub returns-in-Some-step : goal.returns-in-Some-step
returns-in-Some-step t c =
    let field = c.in-Some-split_first.field.now in
    let rest = c.in-Some-split_first.rest.now in
    let root : contains_below c.args.here.now [] ≡ false = sym c.is_end.ensures ∙ c.if-is_end.false in
    let is : c.args.path.now ≡ field ∷ rest = search rules in
    let at : Some (tree c.in-Some-type_after.dtype.now) ≡ step (tree c.args.stored.now) field = search rules in
    opened_after (tree c.args.stored.now) (tree c.in-Some-type_after.dtype.now) (contains_below c.args.here.now) (contains_below c.in-Some-step.below) field rest c.args.path.now
    (option_and_then piece_type c.piece_along.result) root is at c.in-Some-step.ensures.paths c.piece_along.ensures

-- where the table has no such part
pub returns-in_default-type_after : goal.returns-in_default-type_after
returns-in_default-type_after t c =
    let field = c.in-Some-split_first.field.now in
    let root : contains_below c.args.here.now [] ≡ false = sym c.is_end.ensures ∙ c.if-is_end.false in
    let is : c.args.path.now ≡ field ∷ c.in-Some-split_first.rest.now = search rules in
    let none : None ≡ step (tree c.args.stored.now) field = search rules in
    opened_nowhere (tree c.args.stored.now) (contains_below c.args.here.now) field c.in-Some-split_first.rest.now c.args.path.now root is none

-- where nothing of it is asked for
pub returns-in-None-step : goal.returns-in-None-step
returns-in-None-step t c =
    let field = c.in-Some-split_first.field.now in
    let root : contains_below c.args.here.now [] ≡ false = sym c.is_end.ensures ∙ c.if-is_end.false in
    let is : c.args.path.now ≡ field ∷ c.in-Some-split_first.rest.now = search rules in
    let at : Some (tree c.in-Some-type_after.dtype.now) ≡ step (tree c.args.stored.now) field = search rules in
    opened_uncontained (tree c.args.stored.now) (tree c.in-Some-type_after.dtype.now) (contains_below c.args.here.now) field c.in-Some-split_first.rest.now c.args.path.now root is at c.in-None-step.ensures.paths
