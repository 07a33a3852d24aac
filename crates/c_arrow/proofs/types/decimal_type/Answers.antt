-- SPDX-License-Identifier: Apache-2.0
-- SPDX-FileCopyrightText: Copyright the Vortex contributors

use Rattle.std.proofs.Common.{◌≡◌, ◌∙◌, ℤ, Ok, ap, refl, rules, subst, sym, w8}
use Rattle.std.proofs.lemmas.Int.{to_z-of_z}
use Rattle.dtype_base.specs.Decimals.{Decimal, IsDecimalWithin}
use Rattle.dtype_base.specs.declared.nullability.Nullability.{Nullability}
use Rattle.dtype_types.specs.declared.dtype.DType.{Decimal as TypeOfDecimals, fold_out-DType, fold-roll-DType, the_lemmas}
use Rattle.dtype_types.specs.tree.Tree.{Tree, decimal}
use Rattle.dtype_types.specs.tree.TreeOf.{tree}
use Rattle.c_arrow.proofs.Made.{decimal_made}
use Rattle.c_arrow.proofs.types.decimal_type.Goals as goal

tree_decimal : (d : Decimal) (n : Nullability) → tree (TypeOfDecimals d n) ≡ decimal d n
tree_decimal d n = search (rules, the_lemmas, fold_out-DType, fold-roll-DType)

pub returns-clause-read : goal.returns-clause-read
returns-clause-read c =
    let same = to_z-of_z w8 c.args.scale c.ranges.scale in
    let within = subst (λ (s : ℤ). IsDecimalWithin 76 c.args.precision s) same (c.in_ok-try_new.ensures.accepted.0 refl) in
    decimal_made c.in_ok-try_new.field-0 c.args.precision c.args.scale c.args.n c.in_ok-try_new.ensures.ok.0 (c.in_ok-try_new.ensures.ok.1 ∙ same) within
    ∙ ap (λ (t : Tree). Ok t) (sym (tree_decimal c.in_ok-try_new.field-0 c.args.n))
