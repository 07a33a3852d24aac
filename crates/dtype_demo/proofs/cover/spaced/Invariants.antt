-- SPDX-License-Identifier: Apache-2.0
-- SPDX-FileCopyrightText: Copyright the Vortex contributors

use Rattle.std.proofs.Common.{◌≡◌, map, take}
use Rattle.std.specs.String.{string_bytes}
use Rattle.dtype_demo.specs.Output.{cover_text}
use Rattle.dtype_demo.proofs.cover.spaced.Given as goal

-- the texts so far
abbrev pub invariant-loop-text : goal.invariant-loop-text
invariant-loop-text l = string_bytes l.line ≡ cover_text (map (λ t. string_bytes t) (take l.text-index l.texts))
