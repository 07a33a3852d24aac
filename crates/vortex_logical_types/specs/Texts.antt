-- SPDX-License-Identifier: Apache-2.0
-- SPDX-FileCopyrightText: Copyright the Vortex contributors

-- What is read of a text: a type or a path for which it stands, or the reason why there is none.
use Rattle.std.specs.Prelude.{◌≡◌, ◌⊎◌, ◌-◌, ◌<◌, ℕ, List, Option, Result, Ok, Err, IfSome, slice_get, string_bytes}
use Rattle.c_objects.specs.declared.failure.Failure.{Failure}
use Rattle.c_objects.specs.declared.failure.Failure.TheVariants.{Library, Text, Deep, Arrow}
use Rattle.c_objects.specs.declared.object.Object.{Object}
use Rattle.dtype_paths.specs.declared.field.Field.{Field}
use Rattle.dtype_text.specs.Errors.{IsPositionIn}
use Rattle.dtype_text.specs.Grammar.{IsSpelled, Refuses, Stands, levels}
use Rattle.dtype_text.specs.PathGrammar.{StandsForPath}
use Rattle.dtype_text.specs.Within.{HasRefused, IsDeepAt}
use Rattle.dtype_text.specs.declared.text_error.TextError.{TextError}
use Rattle.dtype_text.specs.declared.text_error.TextError.TheVariants as of
use Rattle.dtype_types.specs.tree.Tree.{Tree}
use Rattle.dtype_types.specs.tree.Valid.{Valid}
use Rattle.text_hints.specs.PathHelp.{EndsWith, path_help}
use Rattle.text_hints.specs.declared.hint.TextHint.{TextHint}
use Rattle.vortex_logical_types.specs.Vocabulary.{Failed, Outcome}

-- Why a text isn't read as a type: no type is spelled so; or a type stands in it that the library refuses with this error; or one
-- begins at this position that is inside more than 128 others. If the text spells a type, then that is refused with the error, or
-- has more than 128 levels. For example, of `{a=decimal(0,0)}` the reason is `Library (PrecisionZero 76)`, with which the library
-- refuses the decimal type.
abbrev pub IsUnreadType : List ℕ → Failure → Type 0
IsUnreadType text (Text at message) = IsPositionIn text at × ((t : Tree) → IsSpelled t text → ⊥)
IsUnreadType text (Library e) = HasRefused e text × ((t : Tree) → IsSpelled t text → (Valid t → ⊥) × Refuses t e)
IsUnreadType text (Deep at) = IsDeepAt at text × ((t : Tree) → IsSpelled t text → 128 < levels t)
IsUnreadType text (Arrow reason message) = ⊥

-- The type for which a text stands, or why there is none. For example, of `i32?` it is the nullable primitive type i32.
abbrev pub reads_type : List ℕ → Outcome Tree
reads_type text No Why Yes = Yes (λ t. Stands t text) ⊎ Why (IsUnreadType text)

-- Why a text isn't read as a path: it stands for none. The message ends with what helps at the byte of this position. For example,
-- of `a[0]` it ends with `; [] is a step of its own, for example in a.[].b`.
abbrev pub IsUnreadPath : List ℕ → Failure → Type 0
IsUnreadPath text (Text at message) =
    IsPositionIn text at × ((p : List Field) → StandsForPath p text → ⊥) × EndsWith (path_help (slice_get text (at - 1))) (string_bytes message)
IsUnreadPath text (Library e) = ⊥
IsUnreadPath text (Deep at) = ⊥
IsUnreadPath text (Arrow reason message) = ⊥

-- The path for which a text stands, or why there is none. For example, of `.` it is the root.
abbrev pub reads_path : List ℕ → Outcome (List Field)
reads_path text No Why Yes = Yes (λ p. StandsForPath p text) ⊎ Why (IsUnreadPath text)

-- the reason that is stored for an error of the reader, with the message of its hint, if it has one
abbrev pub IsReasonOf : TextError → Option TextHint → Failure → Type 0
IsReasonOf (of.Refused e) hint (Library f) = f ≡ e
IsReasonOf (of.TooDeep position) hint (Deep at) = at ≡ position
IsReasonOf (of.Misread position expected found) hint (Text at message) = (at ≡ position) × IfSome hint (λ h. message ≡ h.message)
IsReasonOf _ _ _ = ⊥

-- The reason for an error of the reader is stored, unless memory is short, which may be so for the hint. For example, of `TooDeep`
-- with the position 200 it is `Deep 200`.
abbrev pub StoresUnread : {E : Type 0} → TextError → Result (Option TextHint) E → ℕ → Option Object → Option Object → Type 0
StoresUnread why (Ok hint) code was is = Failed (IsReasonOf why hint) code is ⊎ ((code ≡ 100) × (is ≡ was))
StoresUnread why (Err e) code was is = (code ≡ 100) × (is ≡ was)
