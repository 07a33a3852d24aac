-- SPDX-License-Identifier: Apache-2.0
-- SPDX-FileCopyrightText: Copyright the Vortex contributors

use Rattle.std.proofs.Common.{◌∷◌, ◌++◌, [], ap, map, subst, sym, rules}
use Rattle.dtype_paths.specs.Cursors.{contains_below, names_left}
use Rattle.dtype_paths.specs.PathPredicates.{AreNames}
use Rattle.dtype_paths.specs.declared.cursor_names.CursorNames.{CursorNames}
use Rattle.dtype_paths.specs.declared.field.Field.TheVariants.{Name}
use Rattle.vortex_logical_types.proofs.Below.{name_step}
use Rattle.vortex_logical_types.proofs.cursors.names_at.Goals as goal

pub loop-name-init : goal.loop-name-init
loop-name-init c =
    let it = c.into_iter-name-iterator.result in (
      names_left it,
      subst (λ (n : CursorNames). AreNames (contains_below c.args.cursor) (names_left n)) (sym c.into_iter-name-iterator.ensures.into_iter_gives) c.names-names.ensures.names,
      ap (λ ps. ps ++ map (λ e. Name e.0 ∷ []) (names_left it)) c.in_ok-paths.ensures.items,
    )

pub loop-name-preserved : goal.loop-name-preserved
loop-name-preserved c =
    let inv = c.loop-name.invariant in
    (inv.0, inv.1, name_step c.loop-name.paths.items _ (names_left c.loop-name.name-iterator) (names_left c.next.new.self) inv.0 _ c.in-Some.ensures.steps (search rules) inv.2)
