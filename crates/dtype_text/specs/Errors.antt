-- SPDX-License-Identifier: Apache-2.0
-- SPDX-FileCopyrightText: Copyright the Vortex contributors

-- Which error of a text tells which fault of a reader.
use Rattle.std.specs.Prelude.{◌≡◌, ℕ, suc, ◌-◌, ◌≤◌, List, length}
use Rattle.dtype_text.specs.declared.fault.Fault.{Fault}
use Rattle.dtype_text.specs.declared.fault.Fault.TheVariants as fault
use Rattle.dtype_text.specs.declared.text_error.TextError.{TextError}
use Rattle.dtype_text.specs.declared.text_error.TextError.TheVariants as error

-- the position of a byte of the text, from 1, or one more than its length
abbrev pub IsPositionIn : List ℕ → ℕ → Type 0
IsPositionIn text position = (1 ≤ position) × (position ≤ suc (length text))

-- the error has a position of the text, if it has one
abbrev pub IsPlacedIn : List ℕ → TextError → Type 0
IsPlacedIn text (error.TooDeep position) = IsPositionIn text position
IsPlacedIn text (error.Misread position expected found) = IsPositionIn text position
IsPlacedIn text _ = Unit {0}

-- the error is of the same variant as the fault, and its position is where so many bytes of the text are left
abbrev pub Tells : List ℕ → Fault → TextError → Type 0
Tells text fault.Memory e = e ≡ error.OutOfMemory
Tells text (fault.Refused v) e = e ≡ error.Refused v
Tells text (fault.TooDeep left) (error.TooDeep position) = position ≡ suc (length text - left)
Tells text (fault.Misread left expected) (error.Misread position x found) = (x ≡ expected) × (position ≡ suc (length text - left))
Tells text _ _ = ⊥
