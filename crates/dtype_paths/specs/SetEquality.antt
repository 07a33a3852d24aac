-- SPDX-License-Identifier: Apache-2.0
-- SPDX-FileCopyrightText: Copyright the Vortex contributors

-- A test whether two sets of paths are equal. Equal sets are one value, which `SetEqualityLaws` proves.
use Rattle.std.specs.Prelude.{Bool, ◌&&◌}
use Rattle.std.specs.FinSet as set
use Rattle.dtype_paths.specs.PathOrder.{PathSet}

-- each path of one set is in the other, and the reverse
abbrev pub same_paths : PathSet → PathSet → Bool
same_paths s t = set.is_subset s t && set.is_subset t s
