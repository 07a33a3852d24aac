-- SPDX-License-Identifier: Apache-2.0
-- SPDX-FileCopyrightText: Copyright the Vortex contributors

use Rattle.std.proofs.Common.{◌≡◌, inl, length, map, refl, rules}
use Rattle.dtype_types.specs.tree.TreeOf.{tree}
use Rattle.vortex_logical_types.proofs.AtOnce.{types_put}
use Rattle.vortex_logical_types.proofs.at_once.put_types.Goals as goal

pub returns-in-Ok : goal.returns-in-Ok
returns-in-Ok c =
    let counted : c.len.result ≡ length c.in-Ok.copies.items = search rules in
    inl (
      map tree c.args.dtypes,
      refl,
      types_put (map tree c.args.dtypes) c.in-Ok.copies.items c.put_each.result c.args.count.now c.len.result c.args.types.now c.put_each.new.slots c.in-Ok.ensures counted c.put_each.ensures,
    )
