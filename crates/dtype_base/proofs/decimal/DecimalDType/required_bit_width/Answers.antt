-- SPDX-License-Identifier: Apache-2.0
-- SPDX-FileCopyrightText: Copyright the Vortex contributors

-- The table of bit widths has what is computed, as one test of all its entries shows.
use Rattle.std.proofs.Common.{◌≡◌, ◌+◌, ◌-◌, true, nat_eq, get_or, refl, ◌∙◌, arith}
use Rattle.std.proofs.lemmas.Bool.{agree_below_at, eqb-true}
use Rattle.dtype_base.specs.declared.decimal.TheConstants.{BIT_WIDTHS}
use Rattle.dtype_base.specs.Decimals.{bit_width}
use Rattle.dtype_base.proofs.lemmas.Decimals.{bit_width_is_least}
use Rattle.dtype_base.proofs.decimal.DecimalDType.required_bit_width.Goals as goal

pub returns : goal.returns
returns c =
    let p = c.self.inside.precision in
    let i = c.from.result - 1 in
    let place : i + 1 ≡ p = omega arith in
    let computed = agree_below_at (λ k. nat_eq (get_or BIT_WIDTHS k 0) (bit_width (k + 1))) (λ _. true) 76 i refl (omega arith) in
    rw (← c.self.view_is, c.from-2.ensures ∙ eqb-true _ _ computed, place) (bit_width_is_least p (omega arith) (omega arith))
