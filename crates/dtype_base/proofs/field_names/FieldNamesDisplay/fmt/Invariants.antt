-- SPDX-License-Identifier: Apache-2.0
-- SPDX-FileCopyrightText: Copyright the Vortex contributors

use Rattle.std.proofs.Common.{codes, take}
use Rattle.std.specs.Fmt.{HasWritten, IsPlainFormatter}
use Rattle.std.specs.List.{join_by}
use Rattle.dtype_base.specs.FieldNames.{quoted}
use Rattle.dtype_base.proofs.field_names.FieldNamesDisplay.fmt.Given as goal

-- the names so far are written, joined
abbrev pub invariant-loop-i : goal.invariant-loop-i
invariant-loop-i g l =
    IsPlainFormatter l.initial.f → HasWritten g.W.Write.write_str_gives l.initial.f (join_by quoted (codes ", ") (take l.i l.name-items)) l.f
