-- SPDX-License-Identifier: Apache-2.0
-- SPDX-FileCopyrightText: Copyright the Vortex contributors

-- Which paths of a set don't exist in a type, for example the columns that a query needs and a file doesn't have. A
-- choice of this port, by the documentation of `FieldPath::exists_in`. The law `what_unresolved_says` states the test
-- as a relation.
use Rattle.std.specs.Prelude.{is_some, not}
use Rattle.std.specs.FinSet as set
use Rattle.dtype_types.specs.tree.Tree.{Tree}
use Rattle.dtype_paths.specs.Along.{along}
use Rattle.dtype_paths.specs.PathOrder.{PathSet}

-- the paths of the set at which there is no type in `t`
unfoldable pub unresolved : PathSet → Tree → PathSet
unresolved s t = set.retain s (λ p. not (is_some (along t p)))
