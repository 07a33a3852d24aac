-- SPDX-License-Identifier: Apache-2.0
-- SPDX-FileCopyrightText: Copyright the Vortex contributors

use Rattle.std.proofs.Common.{◌≡◌, arith, ap, sym, map, length, subst, ◌∙◌}
use Rattle.std.proofs.lemmas.List.{length-map}
use Rattle.std.proofs.lemmas.List.Elements.{All-map}
use Rattle.dtype_base.specs.Bytes.{Bytes}
use Rattle.dtype_base.specs.declared.nullability.Nullability.TheVariants.{NonNullable}
use Rattle.dtype_types.specs.parts.Unions.{MakesUnion}
use Rattle.dtype_types.specs.tree.Tree.{variants, union}
use Rattle.dtype_types.specs.tree.TreeOf.{tree, with_tagged_trees}
use Rattle.dtype_types.specs.tree.Valid.{Valid}
use Rattle.dtype_types.proofs.lemmas.ValidLists.{zipped_variants, valid_zipped}
use Rattle.dtype_types.proofs.Parts.{trees_three}
use Rattle.dtype_types.proofs.union_variants.UnionVariants.try_new.Goals as goal

pub returns-clause-variants : goal.returns-clause-variants
returns-clause-variants c =
    ap with_tagged_trees (c.in_ok-shared.ensures.ok ∙ c.new.ensures) ∙ trees_three c.args.names c.args.dtypes.items c.args.type_ids.items

pub returns-clause-valid : goal.returns-clause-valid
returns-clause-valid c = λ h.
    let ns = c.args.names in
    let ts = map tree c.args.dtypes.items in
    let gs = c.args.type_ids.items in
    let shape = c.in_ok-validate_shape.ensures in
    let types : length ns ≡ length ts = omega (arith, c.len.ensures, c.args.dtypes.ok.0, shape.accepted.0.0, length-map c.args.dtypes.items tree) in
    let made = subst (MakesUnion ns (length ts)) c.deref.ensures.value ((types, shape.accepted.0.1, shape.accepted.0.2), shape.accepted.1, shape.accepted.2) in
    subst (λ vs. Valid (union (variants vs) NonNullable)) (sym (returns-clause-variants c))
    (zipped_variants ns ts gs made (subst Bytes c.deref.ensures.value shape.bytes), valid_zipped ns ts gs made (All-map Valid tree c.args.dtypes.items h))
