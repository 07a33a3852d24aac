-- SPDX-License-Identifier: Apache-2.0
-- SPDX-FileCopyrightText: Copyright the Vortex contributors

use Rattle.std.proofs.Common.{◌≡◌, ◌++◌}
use Rattle.dtype_types.specs.tree.TreeOf.{children, with_trees}
use Rattle.dtype_merging.specs.MergedColumns.{further}
use Rattle.dtype_merging.specs.private.Collected.{collected}
use Rattle.dtype_merging.proofs.merge.with_further.Given as goal

-- the columns so far, followed by the further fields of those that are left, are all
abbrev pub invariant-loop-name : goal.invariant-loop-name
invariant-loop-name l = collected l.columns.items ++ further (children l.a) (with_trees l.name-iterator) ≡ collected l.fn.columns.items ++ further (children l.a) (children l.b)
