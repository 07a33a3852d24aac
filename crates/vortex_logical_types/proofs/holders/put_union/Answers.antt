-- SPDX-License-Identifier: Apache-2.0
-- SPDX-FileCopyrightText: Copyright the Vortex contributors

use Rattle.std.proofs.Common.{map, subst}
use Rattle.dtype_types.specs.tree.TreeOf.{tree}
use Rattle.vortex_logical_types.specs.Slots.{type_in}
use Rattle.vortex_logical_types.specs.Types.{makes_union}
use Rattle.vortex_logical_types.specs.Vocabulary.{PutsOr, unless_memory}
use Rattle.vortex_logical_types.proofs.holders.put_union.Goals as goal

pub returns-in-Ok : goal.returns-in-Ok
returns-in-Ok c =
    subst
    (λ tags. PutsOr type_in (unless_memory (makes_union tags c.args.n c.args.names (map tree c.args.dtypes.items))) c.put_variants.result c.args.out.now.value c.put_variants.new.out.value c.args.error.now.value
    c.put_variants.new.error.value)
    c.in-Ok.ensures.items c.put_variants.ensures
