-- SPDX-License-Identifier: Apache-2.0
-- SPDX-FileCopyrightText: Copyright the Vortex contributors

-- What a call leaves if it stops at one of the items of an iterator. `MadeFrom` of dtype_base states the same for a
-- call that takes all items.
use Rattle.std.specs.Prelude.{List, Option, Some}
use Rattle.std.specs.Iterator.{YieldsThen}

-- `P` is true of the list of the items that the iterator yields before one of its items. `becomes` specifies which
-- iterator the argument becomes, and `steps` what its `next` does.
abbrev pub MadeBefore : {I A : Type 0} → (I → Type 0) → (I → Option A → I → Type 0) → (List A → Type 0) → Type 0
MadeBefore {I} {A} becomes steps P = (it : I) × becomes it × (given : List A) × (next : A) × (rest : I) × YieldsThen steps it given (Some next) rest × P given
