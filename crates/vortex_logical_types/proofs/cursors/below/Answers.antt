-- SPDX-License-Identifier: Apache-2.0
-- SPDX-FileCopyrightText: Copyright the Vortex contributors

use Rattle.std.proofs.Common.{◌∙◌, [], ap, inl, refl, subst, sym, rules}
use Rattle.std.proofs.lemmas.Bool.{false≢true}
use Rattle.std.specs.FinSet as set
use Rattle.dtype_paths.specs.Cursors.{contains_below, names_left}
use Rattle.dtype_paths.specs.PathPredicates.{AreNames, after_steps}
use Rattle.vortex_logical_types.proofs.Below.{element_tells}
use Rattle.vortex_logical_types.proofs.cursors.below.Goals as goal

pub returns : goal.returns
returns c =
    let w = after_steps c.args.path.now (set.contains c.args.paths.now) in
    let v = contains_below c.in-Some.cursor in
    inl (
      λ e. false≢true (sym c.if-is_empty.false ∙ c.is_empty.ensures.nothing.1 (c.in-Some.ensures ∙ e)),
      (
        refl,
        (
          c.is_end.ensures ∙ ap (λ u. u []) c.in-Some.ensures,
          element_tells w v c.element.result c.is_some.result c.in-Some.ensures c.element.ensures.paths c.element.ensures.some (search rules),
          (names_left c.names.result, subst (λ u. AreNames u (names_left c.names.result)) c.in-Some.ensures c.names.ensures.names, search rules),
        ),
      ),
    )
