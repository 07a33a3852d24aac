-- SPDX-License-Identifier: Apache-2.0
-- SPDX-FileCopyrightText: Copyright the Vortex contributors

-- How reading ends before a value was read, other than by a misspelled text.
use Rattle.std.proofs.Common.{◌≡◌, ℕ, Option, Some, None, refl}
use Rattle.dtype_base.specs.declared.vortex_error.VortexError.{VortexError}
use Rattle.dtype_text.specs.Outcome.{Outcome, got, misspelled, refused, too_deep, said, ◌>>=◌}

-- the library refuses a part with this error, or a part with too many levels begins where so many bytes are left
pub data Stop : Type 0 where
  refusal : VortexError → Stop
  depth : ℕ → Stop

-- if reading ends so, then in this way
abbrev pub Ends : {A : Type 0} → (Stop → Type 0) → Outcome A → Type 0
Ends P (got x) = Unit {0}
Ends P misspelled = Unit {0}
Ends P (refused e) = P (refusal e)
Ends P (too_deep left) = P (depth left)

pub then : {A B : Type 0} (P : Stop → Type 0) (r : Outcome A) (f : A → Outcome B) → Ends P r → ((x : A) → r ≡ got x → Ends P (f x)) → Ends P (r >>= f)
then P (got x) f h more = more x refl
then P misspelled f h more = tt
then P (refused e) f h more = h
then P (too_deep left) f h more = h

pub then_said : {A B : Type 0} (P : Stop → Type 0) (r : Option A) (f : A → Outcome B) → ((x : A) → r ≡ Some x → Ends P (f x)) → Ends P (said r >>= f)
then_said P (Some x) f more = more x refl
then_said P None f more = tt

pub ends_as : {A : Type 0} (P Q : Stop → Type 0) (r : Outcome A) → ((s : Stop) → P s → Q s) → Ends P r → Ends Q r
ends_as P Q (got x) f h = tt
ends_as P Q misspelled f h = tt
ends_as P Q (refused e) f h = f (refusal e) h
ends_as P Q (too_deep left) f h = f (depth left) h
