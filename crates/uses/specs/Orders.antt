-- SPDX-License-Identifier: Apache-2.0
-- SPDX-FileCopyrightText: Copyright the Vortex contributors

-- The type of a table of orders, the shop's own choice: {id=u64, customer={name=utf8, city=utf8?}}.
use Rattle.std.specs.Prelude.{codes}
use Rattle.vortex_dtype.specs.Types.Nullability.TheVariants.{NonNullable, Nullable}
use Rattle.vortex_dtype.specs.Types.PType.TheVariants.{U64}
use Rattle.vortex_dtype.specs.Tree.{Tree, primitive, utf8, struct, field, no_items}

abbrev pub customer_tree : Tree
customer_tree = struct (field (codes "name") (utf8 NonNullable) (field (codes "city") (utf8 Nullable) no_items)) NonNullable

abbrev pub orders_tree : Tree
orders_tree = struct (field (codes "id") (primitive U64 NonNullable) (field (codes "customer") customer_tree no_items)) NonNullable
