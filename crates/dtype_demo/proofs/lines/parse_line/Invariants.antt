-- SPDX-License-Identifier: Apache-2.0
-- SPDX-FileCopyrightText: Copyright the Vortex contributors

use Rattle.std.proofs.Common.{◌≡◌, map}
use Rattle.dtype_demo.specs.Lines.{part_of}
use Rattle.dtype_demo.proofs.lines.parse_line.Given as goal

-- the parts so far, as steps
abbrev pub invariant-loop-part : goal.invariant-loop-part
invariant-loop-part l = l.parts.items ≡ map part_of (map (λ part. part.now) l.yielded)
