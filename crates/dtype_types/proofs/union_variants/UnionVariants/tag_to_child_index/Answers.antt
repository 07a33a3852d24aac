-- SPDX-License-Identifier: Apache-2.0
-- SPDX-FileCopyrightText: Copyright the Vortex contributors

use Rattle.dtype_types.specs.parts.Lookups.{variant_tags}
use Rattle.dtype_types.specs.tree.TreeOf.{variant_list}
use Rattle.dtype_types.proofs.lemmas.Tags.{tag_is_there}
use Rattle.dtype_types.proofs.union_variants.UnionVariants.tag_to_child_index.Goals as goal

pub returns-clause-there : goal.returns-clause-there
returns-clause-there c = tag_is_there (variant_tags (variant_list c.args.self.now)) c.args.tag c.position_of_tag.result c.position_of_tag.ensures
