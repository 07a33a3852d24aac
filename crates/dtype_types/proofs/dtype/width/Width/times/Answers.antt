-- SPDX-License-Identifier: Apache-2.0
-- SPDX-FileCopyrightText: Copyright the Vortex contributors

use Rattle.dtype_types.proofs.Widths.{wide_list}
use Rattle.dtype_types.proofs.dtype.width.Width.times.Goals as goal

pub returns-in-None : goal.returns-in-None
returns-in-None c t n m =
    let h = rw c.in-Bytes.is at m in
    (h.0, wide_list t c.args.size c.in-Bytes.bytes n h.2 c.in-None.ensures)
