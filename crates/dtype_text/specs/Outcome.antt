-- SPDX-License-Identifier: Apache-2.0
-- SPDX-FileCopyrightText: Copyright the Vortex contributors

-- What is read of a text where a type may begin: a value, or why there is none.
use Rattle.std.specs.Prelude.{◌≡◌, ℕ, ◌≤◌, ◌<◌, Option, Some, None, Result, Ok, Err}
use Rattle.dtype_base.specs.declared.vortex_error.VortexError.{VortexError}
use Rattle.dtype_text.specs.declared.fault.Fault.{Fault}
use Rattle.dtype_text.specs.declared.fault.Fault.TheVariants.{Memory, Refused, TooDeep, Misread}

pub data Outcome (A : Type 0) : Type 0 where
  got : A → Outcome A
  -- no text of the grammar begins so
  misspelled : Outcome A
  -- the library refuses a part, with this error
  refused : VortexError → Outcome A
  -- a part has too many levels; so many bytes are left where it begins
  too_deep : ℕ → Outcome A

-- what follows a value that was read
infixl 10 ◌>>=◌
abbrev pub ◌>>=◌ : {A B : Type 0} → Outcome A → (A → Outcome B) → Outcome B
(got x) >>= f = f x
misspelled >>= f = misspelled
(refused e) >>= f = refused e
(too_deep left) >>= f = too_deep left

-- what is read of a part that the library can't refuse
abbrev pub said : {A : Type 0} → Option A → Outcome A
said None = misspelled
said (Some x) = got x

-- nothing is read for the reason of the fault, unless memory ran out
abbrev pub Stops : {Y : Type 0} → Fault → Outcome Y → Type 0
Stops Memory read = Unit {0}
Stops (Refused e) read = read ≡ refused e
Stops (TooDeep left) read = read ≡ too_deep left
Stops (Misread left expected) read = read ≡ misspelled

-- what a function returned, seen by view, is what is read, unless memory ran out
abbrev pub Gives : {X Y : Type 0} → (X → Y) → Result X Fault → Outcome Y → Type 0
Gives view (Ok x) read = read ≡ got (view x)
Gives view (Err e) read = Stops e read

-- what is read of a text that spells x: x if it is valid and has at most so many levels. Only what isn't valid is
-- refused, with an error that it has, and only what has more levels is too deep.
abbrev pub Answers : {A : Type 0} → A → (valid : Type 0) → (has : VortexError → Type 0) → (levels most : ℕ) → Outcome A → Type 0
Answers x valid has levels most (got y) = (y ≡ x) × valid × (levels ≤ most)
Answers x valid has levels most misspelled = ⊥
Answers x valid has levels most (refused e) = (valid → ⊥) × has e
Answers x valid has levels most (too_deep left) = most < levels
