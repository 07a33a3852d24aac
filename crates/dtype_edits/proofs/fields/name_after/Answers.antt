-- SPDX-License-Identifier: Apache-2.0
-- SPDX-FileCopyrightText: Copyright the Vortex contributors

use Rattle.std.proofs.Common.{◌≡◌, ◌∙◌, Some, map, sym, ap}
use Rattle.dtype_base.specs.FieldNames.{first_place}
use Rattle.dtype_edits.proofs.lemmas.EditingFields.{name_read}
use Rattle.dtype_edits.proofs.fields.name_after.Goals as goal

pub returns-in_ok-try_clone-in-Some : goal.returns-in_ok-try_clone-in-Some
returns-in_ok-try_clone-in-Some c =
    let rs = c.args.renames.now in
    let i = c.in-Some.position in
    let at : Some i ≡ first_place (map (λ q. q.0) rs) c.args.name.now =
    sym c.in-Some.is ∙ c.find_counted.ensures.first ∙ ap (first_place c.args.old.now) c.as_str.ensures ∙ ap (λ ns. first_place ns c.args.name.now) c.requires in
    c.in_ok-try_clone-in-Some.ensures ∙ ap (λ q. q.1) (sym c.index-renames-position.is) ∙ name_read rs c.args.name.now i c.index-renames-position.result at c.index-renames-position.is
