-- SPDX-License-Identifier: Apache-2.0
-- SPDX-FileCopyrightText: Copyright the Vortex contributors

-- What a reader returns, by what is read: a value and the bytes after it, or nothing.
use Rattle.std.specs.Prelude.{◌≡◌, ℕ, zero, suc, List, [], ◌∷◌, ◌==◌, if◌then◌else◌, Option, Some, None, Result, Ok, Err}
use Rattle.dtype_base.specs.declared.vortex_error.VortexError.{VortexError}
use Rattle.dtype_base.specs.declared.vortex_error.VortexError.TheVariants.{OutOfMemory}
use Rattle.dtype_text.specs.declared.fault.Fault.{Fault}
use Rattle.dtype_text.specs.declared.fault.Fault.TheVariants.{Memory, Refused, TooDeep, Misread}

-- the error of the library, as a reader returns it
abbrev pub IsMemory : VortexError → Fault → Type 0
IsMemory OutOfMemory e = e ≡ Memory
IsMemory v e = e ≡ Refused v

abbrev pub IsMisread : Fault → Type 0
IsMisread Memory = ⊥
IsMisread (Refused e) = ⊥
IsMisread (TooDeep left) = ⊥
IsMisread (Misread left expected) = Unit {0}

-- what follows a value that was read
infixl 10 ◌>>=◌
abbrev pub ◌>>=◌ : {A B : Type 0} → Option A → (A → Option B) → Option B
None >>= f = None
(Some x) >>= f = f x

-- nothing is read, unless memory ran out
abbrev pub Fails : {Y : Type 0} → Fault → Option Y → Type 0
Fails Memory read = Unit {0}
Fails (Refused e) read = ⊥
Fails (TooDeep left) read = ⊥
Fails (Misread left expected) read = read ≡ None

-- what a function returned, seen by view, is what is read, unless memory ran out
abbrev pub Reads : {X Y : Type 0} → (X → Y) → Result X Fault → Option Y → Type 0
Reads view (Ok x) read = read ≡ Some (view x)
Reads view (Err e) read = Fails e read

-- what an option contains, seen by view
abbrev pub shown : {X Y : Type 0} → (X → Y) → Option X → Option Y
shown view None = None
shown view (Some x) = Some (view x)

-- a byte
abbrev pub byte_at : ℕ → List ℕ → Option (List ℕ)
byte_at k [] = None
byte_at k (b ∷ bytes) = if b == k then Some bytes else None

-- one item before others
abbrev pub with_first : {A : Type 0} → A → Option (List A × List ℕ) → Option (List A × List ℕ)
with_first x None = None
with_first x (Some xs) = Some (x ∷ xs.0, xs.1)

-- no item, if the closing byte was there, or else what is read
abbrev pub closed_or : {A : Type 0} → Option (List ℕ) → Option (List A × List ℕ) → Option (List A × List ℕ)
closed_or (Some rest) read = Some ([], rest)
closed_or None read = read

-- items up to what closes them, fewer than so many
abbrev pub until : {A : Type 0} → (List ℕ → Option (List ℕ)) → (List ℕ → Option (A × List ℕ)) → ℕ → List ℕ → Option (List A × List ℕ)
until close item zero bytes = None
until close item (suc k) bytes = closed_or (close bytes) (item bytes >>= λ x. with_first x.0 (until close item k x.1))
