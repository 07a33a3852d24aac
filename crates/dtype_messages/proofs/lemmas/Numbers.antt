-- SPDX-License-Identifier: Apache-2.0
-- SPDX-FileCopyrightText: Copyright the Vortex contributors

-- A primitive type that a number names has that number: `numbers` names it in one line,
--     #![tactic(auto, using(dtype_messages::proofs::lemmas::Numbers::numbers))]
use Rattle.std.proofs.Common.{◌≡◌, ℤ, Option, Some, None, IfSome, option_map, sym, arith}
use Rattle.std.specs.Prelude.{pos, negsuc}
use Rattle.std.proofs.lemmas.Bool.Decides.{nat_tests}
use Rattle.dtype_base.specs.Primitives.{ptype_row}
use Rattle.dtype_base.specs.declared.ptype.PType.{PType}
use Rattle.dtype_messages.specs.PTypeNumbers.{plain, ptype_at}
use Rattle.dtype_messages.specs.declared.pb.PType.{PType as Named}

pub number_at : (k : ℤ) (p : PType) → ptype_at k ≡ Some p → k ≡ pos (ptype_row p).number
number_at (pos n) p e = grind (arith, nat_tests)
number_at (negsuc n) p e = cc

-- the same of an answer
pub named_number : (k : ℤ) (r : Option Named) → option_map plain r ≡ ptype_at k → IfSome r (λ p. k ≡ pos (ptype_row (plain p)).number)
named_number k None e = tt
named_number k (Some p) e = number_at k (plain p) (sym e)

pub ruleset numbers = (number_at, named_number)
