-- SPDX-License-Identifier: Apache-2.0
-- SPDX-FileCopyrightText: Copyright the Vortex contributors

use Rattle.std.proofs.Common.{◌≡◌}
use Rattle.dtype_types.specs.tree.TreeOf.{children, with_trees}
use Rattle.dtype_merging.specs.private.Readable.{further_nullable}
use Rattle.dtype_merging.proofs.reading.are_further_nullable.Given as goal

-- those that are left are nullable exactly if all are
abbrev pub invariant-loop-name : goal.invariant-loop-name
invariant-loop-name l = further_nullable (children l.a) (with_trees l.name-iterator) ≡ further_nullable (children l.a) (children l.b)
