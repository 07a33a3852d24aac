-- SPDX-License-Identifier: Apache-2.0
-- SPDX-FileCopyrightText: Copyright the Vortex contributors

use Rattle.std.proofs.Common.{◌≡◌, map, take}
use Rattle.dtype_edits.proofs.fields.old_names.Given as goal

-- the old names so far
abbrev pub invariant-loop-rename : goal.invariant-loop-rename
invariant-loop-rename l = l.names.items ≡ map (λ r. r.0) (take l.rename-index l.renames)
