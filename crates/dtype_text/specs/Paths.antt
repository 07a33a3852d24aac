-- SPDX-License-Identifier: Apache-2.0
-- SPDX-FileCopyrightText: Copyright the Vortex contributors

-- What is read of paths.
use Rattle.std.specs.Prelude.{ℕ, zero, suc, List, [], ◌∷◌, ◌==◌, ◌||◌, not, Option, Some, None, if◌then◌else◌, length}
use Rattle.dtype_paths.specs.declared.field.Field.{Field}
use Rattle.dtype_paths.specs.declared.field.Field.TheVariants.{Name, ElementType}
use Rattle.dtype_text.specs.Read.{◌>>=◌, byte_at, with_first, closed_or}
use Rattle.dtype_text.specs.Leaves.{skipped, name_at}
use Rattle.dtype_text.specs.TypeParts.{is_end}
use Rattle.dtype_text.specs.declared.text_error.TextError.{TextError}
use Rattle.dtype_text.specs.declared.text_error.TextError.TheVariants.{OutOfMemory, Refused, TooDeep, Misread}
use Rattle.dtype_text.specs.PathGrammar.{is_next}

-- what reads a part of a path at the front of bytes: a value and the bytes after it, or nothing
abbrev pub PathReader : Type 0 → Type 0
PathReader A = List ℕ → Option (A × List ℕ)

-- a step to a name, which no comment follows unless it is in quotes
unfoldable pub named_step_at : PathReader Field
named_step_at bytes = do
  n ← name_at bytes
  if is_next 34 bytes || not (is_next 35 n.1) then Some (Name n.0, n.1) else None

-- the step to the element, after its opening bracket
unfoldable pub element_at : PathReader Field
element_at bytes = do
  rest ← byte_at 93 bytes
  Some (ElementType, rest)

-- a step
unfoldable pub step_at : PathReader Field
step_at [] = named_step_at []
step_at (b ∷ bytes) =
    if b == 91 then element_at bytes
    else if b == 36 then named_step_at bytes
    else named_step_at (b ∷ bytes)

-- one step, and the steps after it if a dot is next
abbrev pub and_steps : PathReader (List Field) → Field → List ℕ → Option (List ℕ) → Option (List Field × List ℕ)
and_steps more f rest (Some next) = with_first f (more next)
and_steps more f rest None = Some (f ∷ [], rest)

-- steps joined by dots, at least one and at most so many
abbrev pub steps_at : ℕ → PathReader (List Field)
steps_at zero bytes = None
steps_at (suc n) bytes = step_at bytes >>= λ f. and_steps (steps_at n) f.0 f.1 (byte_at 46 f.1)

-- a path
unfoldable pub path_by : PathReader (List Field)
path_by bytes = closed_or (byte_at 46 bytes) (steps_at (length bytes) bytes)

-- a whole text
unfoldable pub whole_path_at : List ℕ → Option (List Field)
whole_path_at bytes = do
  p ← path_by (skipped bytes)
  if is_end (skipped p.1) then Some p.0 else None

-- an error that a text of a path may have: an allocation failed, or the text isn't spelled like a path
abbrev pub IsPathError : TextError → Type 0
IsPathError OutOfMemory = Unit {0}
IsPathError (Misread position expected found) = Unit {0}
IsPathError (Refused e) = ⊥
IsPathError (TooDeep position) = ⊥
