-- SPDX-License-Identifier: Apache-2.0
-- SPDX-FileCopyrightText: Copyright the Vortex contributors

use Rattle.std.proofs.Common.{◌∙◌, ap, sym, nat_le}
use Rattle.dtype_types.specs.tree.TreeOf.{children, tree, variant_list}
use Rattle.dtype_types.proofs.lemmas.TreeLaws.{tree_struct, tree_union}
use Rattle.vortex_logical_types.specs.Levels.{levels, levels_over}
use Rattle.vortex_logical_types.proofs.Deep.{of_fields, of_variants}
use Rattle.vortex_logical_types.proofs.levels.+levels.Goals as goal

pub fits-returns-in-Struct : goal.fits-returns-in-Struct
fits-returns-in-Struct t c =
    c.parts_fit.ensures
    ∙ ap (λ ts. nat_le (levels_over ts) c.args.levels) c.fields.ensures.all
    ∙ ap (λ n. nat_le n c.args.levels) (sym (of_fields (children c.in-Struct.fields)))
    ∙ ap (λ u. nat_le (levels u) c.args.levels) (sym (tree_struct c.in-Struct.fields c.in-Struct.field-1) ∙ ap tree (sym c.in-Struct.is))

pub fits-returns-in-Union : goal.fits-returns-in-Union
fits-returns-in-Union t c =
    c.parts_fit-in-Union.ensures
    ∙ ap (λ ts. nat_le (levels_over ts) c.args.levels) c.variants.ensures.all
    ∙ ap (λ n. nat_le n c.args.levels) (sym (of_variants (variant_list c.in-Union.variants)))
    ∙ ap (λ u. nat_le (levels u) c.args.levels) (sym (tree_union c.in-Union.variants c.in-Union.field-1) ∙ ap tree (sym c.in-Union.is))
