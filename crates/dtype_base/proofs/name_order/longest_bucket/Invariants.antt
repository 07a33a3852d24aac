-- SPDX-License-Identifier: Apache-2.0
-- SPDX-FileCopyrightText: Copyright the Vortex contributors

use Rattle.std.proofs.Common.{ℕ, ◌≡◌, ◌+◌, ◌<◌, ◌≤◌, slice_index}
use Rattle.dtype_base.proofs.name_order.longest_bucket.Given as goal

-- the greatest number of entries between the starts so far
abbrev pub invariant-loop-bucket : goal.invariant-loop-bucket
invariant-loop-bucket l = record {
  most : (b : ℕ) → b + 1 < l.bucket → slice_index l.starts (b + 1) ≤ slice_index l.starts b + l.longest;
  reached : 0 < l.longest → (b : ℕ) × (b + 1 < l.bucket) × (slice_index l.starts (b + 1) ≡ slice_index l.starts b + l.longest);
}
