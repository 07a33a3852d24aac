-- SPDX-License-Identifier: Apache-2.0
-- SPDX-FileCopyrightText: Copyright the Vortex contributors

use Rattle.dtype_base.proofs.Buckets.{Starting}
use Rattle.dtype_base.proofs.name_order.bucket_starts.Given as goal

abbrev pub invariant-loop-index : goal.invariant-loop-index
invariant-loop-index l = Starting l.count l.bits l.entries l.index l.starts.items
