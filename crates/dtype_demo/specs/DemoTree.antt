-- SPDX-License-Identifier: Apache-2.0
-- SPDX-FileCopyrightText: Copyright the Vortex contributors

-- The type in which the program looks paths up, its own choice: {a=list({b=u32})?, f=fixed_size_list(u8)[2]}.
use Rattle.std.specs.Prelude.{codes}
use Rattle.vortex_dtype.specs.Types.Nullability.TheVariants.{NonNullable, Nullable}
use Rattle.vortex_dtype.specs.Types.PType.TheVariants.{U8, U32}
use Rattle.vortex_dtype.specs.Tree.{Tree, primitive, list, fixed_size_list, struct, field, no_items}

-- the type of the field a
abbrev pub list_tree : Tree
list_tree = list (struct (field (codes "b") (primitive U32 NonNullable) no_items) NonNullable) Nullable

-- the type of the field f
abbrev pub pair_tree : Tree
pair_tree = fixed_size_list (primitive U8 NonNullable) 2 NonNullable

abbrev pub demo_tree : Tree
demo_tree = struct (field (codes "a") list_tree (field (codes "f") pair_tree no_items)) NonNullable
