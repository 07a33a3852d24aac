-- SPDX-License-Identifier: Apache-2.0
-- SPDX-FileCopyrightText: Copyright the Vortex contributors

-- Nullability: whether a type's values may be null. From the documentation of `Nullability`.
use Rattle.std.specs.Prelude.{ℕ, List, [], codes, Bool, true, false}
use Rattle.dtype_base.specs.declared.nullability.Nullability.{Nullability}
use Rattle.dtype_base.specs.declared.nullability.Nullability.TheVariants.{NonNullable, Nullable}

-- the nullability that a Bool means: true is nullable
abbrev pub nullability_of : Bool → Nullability
nullability_of true = Nullable
nullability_of false = NonNullable

-- the nullability of `a | b`: non-nullable only if both are
abbrev pub either : Nullability → Nullability → Nullability
either NonNullable NonNullable = NonNullable
either NonNullable Nullable = Nullable
either Nullable NonNullable = Nullable
either Nullable Nullable = Nullable

-- the text of a nullability, as `Display` prints it
abbrev pub nullability_text : Nullability → List ℕ
nullability_text NonNullable = []
nullability_text Nullable = codes "?"

-- the variant's name
abbrev pub long_text : Nullability → List ℕ
long_text NonNullable = codes "NonNullable"
long_text Nullable = codes "Nullable"
