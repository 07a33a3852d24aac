-- SPDX-License-Identifier: Apache-2.0
-- SPDX-FileCopyrightText: Copyright the Vortex contributors

use Rattle.std.proofs.Common.{length}
use Rattle.dtype_base.proofs.NameHashes.{AreHashed}
use Rattle.dtype_base.proofs.name_key.hash_of.Given as goal

-- the words before those that are left are hashed
abbrev pub invariant-loop-rest : goal.invariant-loop-rest
invariant-loop-rest l = AreHashed l.hash l.rest l.text

abbrev pub decreases-loop-rest : goal.decreases-loop-rest
decreases-loop-rest l = length l.rest
