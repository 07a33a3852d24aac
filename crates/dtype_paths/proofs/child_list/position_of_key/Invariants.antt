-- SPDX-License-Identifier: Apache-2.0
-- SPDX-FileCopyrightText: Copyright the Vortex contributors

use Rattle.std.proofs.Common.{◌≡◌, ◌≢◌, None, IfSome, take}
use Rattle.std.specs.List.{slice_get, All}
use Rattle.dtype_paths.proofs.child_list.position_of_key.Given as goal

abbrev pub invariant-loop-i : goal.invariant-loop-i
invariant-loop-i l = record {
  found : IfSome (slice_get l.children l.position) (λ c. c.key ≡ l.key);
  none : slice_get l.children l.position ≡ None → All (λ c. c.key ≢ l.key) (take l.i l.children);
}
