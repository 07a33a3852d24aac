-- SPDX-License-Identifier: Apache-2.0
-- SPDX-FileCopyrightText: Copyright the Vortex contributors

use Rattle.std.proofs.Common.{◌≡◌, ◌++◌, ℕ, drop, option_map}
use Rattle.std.specs.List.{AllByRecursion}
use Rattle.std.specs.Str.{IsUtf8}
use Rattle.vortex_logical_types.specs.Several.{NamesFault, names_cut, whole}
use Rattle.vortex_logical_types.proofs.names.names_of.Given as goal

-- the names so far, before those of what is left, are all names; the first fault of what is left is the first of all
abbrev pub invariant-loop-length : goal.invariant-loop-length
invariant-loop-length l = record {
  cut : names_cut l.fn.names l.lengths ≡ option_map (λ r. l.all.items ++ r) (names_cut l.rest (drop l.length-index l.lengths));
  texts : AllByRecursion IsUtf8 l.all.items;
  fault : (code : ℕ) → NamesFault whole l.rest (drop l.length-index l.lengths) code → NamesFault whole l.fn.names l.lengths code;
}
