-- SPDX-License-Identifier: Apache-2.0
-- SPDX-FileCopyrightText: Copyright the Vortex contributors

use Rattle.std.proofs.Common.{◌≡◌, drop, None}
use Rattle.c_arrow.specs.Ids.{ids_after}
use Rattle.c_arrow.proofs.IdLists.{with_front}
use Rattle.c_arrow.proofs.ids.ids_in.Given as goal

-- the ids so far, and those that are still read, are all that is read
abbrev pub invariant-loop-byte : goal.invariant-loop-byte
invariant-loop-byte l = with_front l.ids.items (ids_after l.id (drop l.byte-index l.bytes)) ≡ ids_after None l.bytes
