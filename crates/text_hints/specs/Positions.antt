-- SPDX-License-Identifier: Apache-2.0
-- SPDX-FileCopyrightText: Copyright the Vortex contributors

-- At which position of a text an error is.
use Rattle.std.specs.Prelude.{ℕ, Option, Some, None}
use Rattle.dtype_text.specs.declared.text_error.TextError.{TextError}
use Rattle.dtype_text.specs.declared.text_error.TextError.TheVariants.{OutOfMemory, Refused, TooDeep, Misread}

-- the position of an error, if it has one
abbrev pub position_of : TextError → Option ℕ
position_of OutOfMemory = None
position_of (Refused e) = None
position_of (TooDeep position) = Some position
position_of (Misread position expected found) = Some position
