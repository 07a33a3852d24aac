-- SPDX-License-Identifier: Apache-2.0
-- SPDX-FileCopyrightText: Copyright the Vortex contributors

use Rattle.dtype_types.proofs.lemmas.Tags.{position_of_tag, tag_read}
use Rattle.dtype_types.specs.tree.TreeOf.{variant_list}
use Rattle.dtype_types.proofs.union_variants.UnionVariants.child_index_to_tag.Goals as goal
use Rattle.dtype_types.specs.parts.Lookups.{variant_tags}

pub returns-clause-back : goal.returns-clause-back
returns-clause-back c = λ h.
    let u = c.args.self.now in
    position_of_tag u h c.args.index _ (tag_read (variant_tags (variant_list u)) _ c.args.index c.type_ids.ensures c.requires)
