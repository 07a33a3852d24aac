-- SPDX-License-Identifier: Apache-2.0
-- SPDX-FileCopyrightText: Copyright the Vortex contributors

use Rattle.std.proofs.Common.{◌≡◌, ◌++◌, map}
use Rattle.std.specs.String.{string_bytes}
use Rattle.std.specs.Vec.Iter.{into_iter_items}
use Rattle.vortex_dtype.specs.PathTexts.{path_text}
use Rattle.dtype_demo.proofs.cover.cover_texts.Given as goal

-- the texts so far, and those of the paths that are left
abbrev pub invariant-loop-path : goal.invariant-loop-path
invariant-loop-path l =
    map (λ s. string_bytes s) l.texts.items ++ map path_text (into_iter_items l.path-iterator) ≡ map path_text (into_iter_items l.initial.path-iterator)
