-- SPDX-License-Identifier: Apache-2.0
-- SPDX-FileCopyrightText: Copyright the Vortex contributors

-- What a reader of layouts opens (`descending`): all of a type, or what a cursor asks of it.
use Rattle.std.specs.Prelude.{Option, Some}
use Rattle.vortex_dtype.specs.Cursors.{contains_below}
use Rattle.vortex_dtype.specs.Projected.{projected}
use Rattle.vortex_dtype.specs.Tree.{Tree}
use Rattle.vortex_dtype.specs.TreeOf.{tree}
use Rattle.uses.specs.declared.descending.Piece.{Piece}
use Rattle.uses.specs.declared.descending.Piece.TheVariants.{Whole, Part}

-- the type that is opened
abbrev pub piece_type : Piece → Option Tree
piece_type (Whole d) = Some (tree d.now)
piece_type (Part d c) = projected (tree d.now) (contains_below c)
