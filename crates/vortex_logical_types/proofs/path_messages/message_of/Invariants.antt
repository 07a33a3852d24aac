-- SPDX-License-Identifier: Apache-2.0
-- SPDX-FileCopyrightText: Copyright the Vortex contributors

use Rattle.std.proofs.Common.{◌≡◌, ◌++◌, ℕ, drop, map}
use Rattle.dtype_messages.specs.PathNames.{part_name}
use Rattle.vortex_logical_types.specs.Several.{NamesFault}
use Rattle.vortex_logical_types.specs.Steps.{parts_cut, step_size}
use Rattle.vortex_logical_types.proofs.path_messages.message_of.Given as goal

-- the parts so far, before those of what is left, are all parts; the first fault of what is left is the first of all
abbrev pub invariant-loop-length : goal.invariant-loop-length
invariant-loop-length l = record {
  parts : map part_name l.path.items ++ parts_cut l.names.rest.now (drop l.length-index l.lengths) ≡ parts_cut l.fn.names l.lengths;
  first : (code : ℕ) → NamesFault step_size l.names.rest.now (drop l.length-index l.lengths) code → NamesFault step_size l.fn.names l.lengths code;
  left : (code : ℕ) → NamesFault step_size l.fn.names l.lengths code → NamesFault step_size l.names.rest.now (drop l.length-index l.lengths) code;
}
