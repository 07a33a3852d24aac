-- SPDX-License-Identifier: Apache-2.0
-- SPDX-FileCopyrightText: Copyright the Vortex contributors

use Rattle.std.proofs.Common.{lit<, refl}
use Rattle.dtype_demo.proofs.FirstLines.{first_line_is}
use Rattle.dtype_demo.proofs.lines.first_line.Goals as goal

pub returns-clause-lines : goal.returns-clause-lines
returns-clause-lines c = rw c.unwrap_or.ensures (first_line_is c.args.text.now c.split_once.result _ c.requires refl refl (c.split_once.ensures.byte (lit< tt) (λ w o h. h)))
