-- SPDX-License-Identifier: Apache-2.0
-- SPDX-FileCopyrightText: Copyright the Vortex contributors

-- Through a fixed size 0 all values of one type may be values of another that it isn't below.
use Rattle.std.proofs.Common.{◌≡◌, refl, lit<}
use Rattle.dtype_base.specs.declared.nullability.Nullability.TheVariants.{NonNullable, Nullable}
use Rattle.dtype_types.specs.tree.Erase.{erase}
use Rattle.dtype_types.specs.nullability.Sub.{Sub}
use Rattle.dtype_types.specs.tree.Tree.{Tree, bool, fixed_size_list}
use Rattle.dtype_types.specs.tree.Valid.{Valid}
use Rattle.dtype_types.specs.values.Value.{IncludedIn, Value, Values, Of, Each, value_count, no_values, value, null_value, fixed_items}

abbrev wide : Tree
wide = fixed_size_list (bool Nullable) 0 NonNullable

abbrev narrow : Tree
narrow = fixed_size_list (bool NonNullable) 0 NonNullable

empty : (vs : Values) → value_count vs ≡ 0 → Each (λ v. Of v (bool NonNullable)) vs
empty no_values e = tt
empty (value v vs) e = absurd (cc e)

all_shared : (v : Value) → Of v wide → Of v narrow
all_shared null_value o = o
all_shared (fixed_items vs) o = (o.0, empty vs o.0)
all_shared _ o = o

not_below : Sub wide narrow → ⊥
not_below h = let never = h.nullable.1 refl in cc

pub size_zero_hides_nullability : (a : Tree) × (b : Tree) × Valid a × Valid b × (erase a ≡ erase b) × IncludedIn a b × ¬ (Sub a b)
size_zero_hides_nullability = (wide, narrow, (lit< tt, tt), (lit< tt, tt), refl, all_shared, not_below)
