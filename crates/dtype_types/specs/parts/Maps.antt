-- SPDX-License-Identifier: Apache-2.0
-- SPDX-FileCopyrightText: Copyright the Vortex contributors

-- The key type and the value type of a map, and the type of its entries. From the documentation of `MapDType`.
use Rattle.std.specs.Prelude.{codes}
use Rattle.dtype_base.specs.declared.nullability.Nullability.TheVariants.{NonNullable}
use Rattle.dtype_types.specs.declared.map.MapDType.{MapDType}
use Rattle.dtype_types.specs.tree.Tree.{Tree, struct, field, no_items}
use Rattle.dtype_types.specs.tree.TreeOf.{map_shown}

-- the tree of the key type of a map
abbrev pub key_tree : MapDType → Tree
key_tree m = (map_shown m).0

-- the tree of the value type of a map
abbrev pub value_tree : MapDType → Tree
value_tree m = (map_shown m).1

-- the type of the entries: the non-nullable struct of a key and a value
abbrev pub entries_of : Tree → Tree → Tree
entries_of key value = struct (field (codes "key") key (field (codes "value") value no_items)) NonNullable
