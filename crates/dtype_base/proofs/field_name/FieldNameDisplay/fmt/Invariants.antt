-- SPDX-License-Identifier: Apache-2.0
-- SPDX-FileCopyrightText: Copyright the Vortex contributors

use Rattle.std.proofs.Common.{◌≤◌, take}
use Rattle.std.specs.Fmt.{HasWritten, IsPlainFormatter}
use Rattle.std.specs.Str.{IsCharBoundary}
use Rattle.dtype_base.specs.Escapes.{escaped}
use Rattle.dtype_base.proofs.EscapedChars.{IsRun}
use Rattle.dtype_base.proofs.field_name.FieldNameDisplay.fmt.Given as goal

-- the text before `start` is written, escaped; the bytes from `start` to `i` are printed unchanged
abbrev pub invariant-loop-i : goal.invariant-loop-i
invariant-loop-i g l = record {
  behind : l.start ≤ l.i;
  boundary : IsCharBoundary l.text l.start;
  plain : IsRun l.text l.start l.i;
  written : IsPlainFormatter l.initial.f → HasWritten g.W.Write.write_str_gives l.initial.f (escaped (take l.start l.text)) l.f;
}
