-- SPDX-License-Identifier: Apache-2.0
-- SPDX-FileCopyrightText: Copyright the Vortex contributors

-- What a call ensures that makes a value of all the items that an iterator yields. From the documentation of the
-- `from_iter` of names, paths, sets of paths and structs.
use Rattle.std.specs.Prelude.{List, Option}
use Rattle.std.specs.Iterator.Runs.{WholeRun}

-- P is true of the list of the items that the iterator yields. `becomes` specifies into which iterator the argument is
-- turned, and `steps` specifies what `next` of that iterator returns. For example, the list n contains exactly the
-- yielded items if `MadeFrom becomes steps (λ given. n ≡ given)`.
abbrev pub MadeFrom : {I A : Type 0} → (I → Type 0) → (I → Option A → I → Type 0) → (List A → Type 0) → Type 0
MadeFrom {I = I} becomes steps P = (it : I) × becomes it × WholeRun steps it (λ run. P run.items)
