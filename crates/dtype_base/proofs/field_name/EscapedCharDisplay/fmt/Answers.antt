-- SPDX-License-Identifier: Apache-2.0
-- SPDX-FileCopyrightText: Copyright the Vortex contributors

use Rattle.std.proofs.Common.{arith, sym}
use Rattle.std.proofs.Output.{displays_on_ok_of_eq}
use Rattle.dtype_base.proofs.EscapedChars.{escaped_control, escaped_plain}
use Rattle.dtype_base.proofs.field_name.EscapedCharDisplay.fmt.Goals as goal

pub returns-in_default-clause-writes : goal.returns-in_default-clause-writes
returns-in_default-clause-writes g c =
    displays_on_ok_of_eq _ _ _ _ _ _ (escaped_control c.in_radix.result c.laid_out.result c.args.self.now.0 (omega arith) (omega arith) (omega arith) (sym c.if-is_ascii_control.ensures.value) (rw c.from.ensures at c.in_radix.ensures) c.laid_out.ensures) c.write.ensures.writes

pub returns-in_default-2-clause-writes : goal.returns-in_default-2-clause-writes
returns-in_default-2-clause-writes g c = rw (← escaped_plain c.args.self.now.0 (omega arith) (omega arith) (sym c.if-is_ascii_control.ensures.value)) c.write_char.ensures.writes
