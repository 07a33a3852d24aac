-- SPDX-License-Identifier: Apache-2.0
-- SPDX-FileCopyrightText: Copyright the Vortex contributors

-- A type that is merged with itself made nullable.
use Rattle.std.proofs.Common.{◌≡◌, Some}
use Rattle.dtype_types.specs.nullability.Merged.{merged}
use Rattle.dtype_types.specs.nullability.Nullable.{SetNull}
use Rattle.dtype_types.specs.tree.Tree.{Tree}
use Rattle.vortex_dtype.specs.Types.Nullability.TheVariants.{Nullable}
use Rattle.dtype_types.proofs.lemmas.Merging.{merged_above}
use Rattle.dtype_types.proofs.lemmas.Order.{below_nullable}

pub merged_nullable : (t u : Tree) → SetNull t Nullable u → merged t u ≡ Some u
merged_nullable t u e = merged_above t u (below_nullable t u e)
