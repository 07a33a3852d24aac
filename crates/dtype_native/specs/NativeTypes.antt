-- SPDX-License-Identifier: Apache-2.0
-- SPDX-FileCopyrightText: Copyright the Vortex contributors

-- The logical type of a native type. From the documentation of `NativeDType`.
use Rattle.std.specs.Prelude.{unwrap_or}
use Rattle.dtype_base.specs.declared.nullability.Nullability.TheVariants.{Nullable}
use Rattle.dtype_types.specs.nullability.Nullable.{set_null}
use Rattle.dtype_types.specs.tree.Tree.{Tree}

-- the type made nullable
abbrev pub nullable_form : Tree → Tree
nullable_form t = unwrap_or (set_null t Nullable) t
