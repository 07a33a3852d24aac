-- SPDX-License-Identifier: Apache-2.0
-- SPDX-FileCopyrightText: Copyright the Vortex contributors

-- An error of the reader of a text is the reason that is stored, in the words of the export.
use Rattle.std.proofs.Common.{◌≡◌, ◌-◌, ℕ, List, length, Option, Some, None, Result, Ok, Err, IfOk, IfSome, inl, inr, slice_get, string_bytes, subst, sym}
use Rattle.std.specs.declared.alloc.Global.{Global}
use Rattle.std.specs.declared.string.String.{String}
use Rattle.c_objects.specs.declared.failure.Failure.{Failure}
use Rattle.c_objects.specs.declared.failure.Failure.TheVariants.{Library, Text, Deep, Arrow}
use Rattle.c_objects.specs.declared.object.Object.{Object}
use Rattle.dtype_paths.specs.declared.field.Field.{Field}
use Rattle.dtype_text.specs.Errors.{IsPlacedIn, IsPositionIn}
use Rattle.dtype_text.specs.Grammar.{IsReadAs, IsSpelled, Refuses}
use Rattle.dtype_text.specs.PathGrammar.{StandsForPath}
use Rattle.dtype_text.specs.Paths.{IsPathError}
use Rattle.dtype_text.specs.Read.{shown}
use Rattle.dtype_text.specs.Within.{HasRefused, IsDeepAt, IsFaultOf}
use Rattle.dtype_text.specs.declared.text_error.TextError.{TextError}
use Rattle.dtype_text.specs.declared.text_error.TextError.TheVariants.{OutOfMemory, Refused, TooDeep, Misread}
use Rattle.dtype_base.specs.declared.vortex_error.VortexError.{VortexError}
use Rattle.dtype_types.specs.tree.Tree.{Tree}
use Rattle.dtype_types.specs.tree.Valid.{Valid}
use Rattle.text_hints.specs.PathHelp.{EndsWith, path_help}
use Rattle.text_hints.specs.Positions.{position_of}
use Rattle.text_hints.specs.declared.hint.TextHint.{TextHint}
use Rattle.vortex_logical_types.specs.Slots.{error_in, path_in, type_in}
use Rattle.vortex_logical_types.specs.Texts.{IsReasonOf, IsUnreadPath, IsUnreadType, StoresUnread, reads_path, reads_type}
use Rattle.vortex_logical_types.specs.Vocabulary.{OfThe, PutsOr, failure_code, unless_memory}

-- what is true of every reason of one kind is true of the reason in a slot
changed : (P Q : Failure → Type 0) → ((f : Failure) → P f → Q f) → (code : ℕ) (e : Option Failure) → OfThe e (λ f. (code ≡ failure_code f) × P f) → OfThe e (λ f. (code ≡ failure_code f) × Q f)
changed P Q to code None h = h
changed P Q to code (Some f) h = (h.0, to f h.1)

type_reason : (text : List ℕ) (why : TextError) (hint : Option TextHint) → ((t : Tree) → IsSpelled t text → IsReadAs t (Err why)) → IsFaultOf text why
    → (f : Failure) → IsReasonOf why hint f → IsUnreadType text f
type_reason text OutOfMemory hint read fault f h = absurd h
type_reason text (Refused e) hint read fault (Library g) h =
    (subst (λ (v : VortexError). HasRefused v text) (sym h) fault, λ t spelled. subst (λ (v : VortexError). (Valid t → ⊥) × Refuses t v) (sym h) (read t spelled))
type_reason text (Refused e) hint read fault (Text at message) h = absurd h
type_reason text (Refused e) hint read fault (Deep at) h = absurd h
type_reason text (Refused e) hint read fault (Arrow reason message) h = absurd h
type_reason text (TooDeep position) hint read fault (Deep at) h = (subst (λ (k : ℕ). IsDeepAt k text) (sym h) fault, read)
type_reason text (TooDeep position) hint read fault (Library g) h = absurd h
type_reason text (TooDeep position) hint read fault (Text at message) h = absurd h
type_reason text (TooDeep position) hint read fault (Arrow reason message) h = absurd h
type_reason text (Misread position expected found) hint read fault (Text at message) h = (subst (λ (k : ℕ). IsPositionIn text k) (sym h.0) fault, read)
type_reason text (Misread position expected found) hint read fault (Library g) h = absurd h
type_reason text (Misread position expected found) hint read fault (Deep at) h = absurd h
type_reason text (Misread position expected found) hint read fault (Arrow reason message) h = absurd h

-- a text that isn't read as a type
pub type_unread : {E : Type 0} (text : List ℕ) (why : TextError) (hint : Result (Option TextHint) E) (code : ℕ) (old new was is : Option Object)
    → ((t : Tree) → IsSpelled t text → IsReadAs t (Err why)) → IsFaultOf text why
    → StoresUnread why hint code was is → new ≡ old → PutsOr type_in (unless_memory (reads_type text)) code old new was is
type_unread text why (Ok hint) code old new was is read fault (inl stored) same =
    inl (inr (changed (IsReasonOf why hint) (IsUnreadType text) (type_reason text why hint read fault) code (error_in is) stored, same))
type_unread text why (Ok hint) code old new was is read fault (inr full) same = inr (full.0, same, full.1)
type_unread text why (Err e) code old new was is read fault full same = inr (full.0, same, full.1)

-- the help that a hint has is that of the message
helped : (text : List ℕ) (position at : ℕ) (hint : TextHint) → Some hint.position ≡ Some position → at ≡ position
    → EndsWith (path_help (slice_get text (hint.position - 1))) (string_bytes hint.message) → EndsWith (path_help (slice_get text (at - 1))) (string_bytes hint.message)
helped text position at hint there same ends =
    let equal : hint.position ≡ at = cc in subst (λ (k : ℕ). EndsWith (path_help (slice_get text (k - 1))) (string_bytes hint.message)) equal ends

path_reason : (text : List ℕ) (why : TextError) (hint : Option TextHint) → IsPathError why → ((p : List Field) → StandsForPath p text → why ≡ OutOfMemory) → IsPlacedIn text why
    → shown (λ (h : TextHint). h.position) hint ≡ position_of why
    → IfSome hint (λ h. EndsWith (path_help (slice_get text (h.position - 1))) (string_bytes h.message))
    → (f : Failure) → IsReasonOf why hint f → IsUnreadPath text f
path_reason text OutOfMemory hint error only placed there ends f h = absurd h
path_reason text (Refused e) hint error only placed there ends f h = absurd error
path_reason text (TooDeep position) hint error only placed there ends f h = absurd error
path_reason text (Misread position expected found) None error only placed there ends (Text at message) h = absurd (cc)
path_reason text (Misread position expected found) (Some hint) error only placed there ends (Text at message) h = (
  subst (λ (k : ℕ). IsPositionIn text k) (sym h.0) placed,
  (λ p stands. let is_memory = only p stands in absurd cc),
  subst (λ (m : String Global). EndsWith (path_help (slice_get text (at - 1))) (string_bytes m)) (sym h.1) (helped text position at hint there h.0 ends),
)
path_reason text (Misread position expected found) hint error only placed there ends (Library g) h = absurd h
path_reason text (Misread position expected found) hint error only placed there ends (Deep at) h = absurd h
path_reason text (Misread position expected found) hint error only placed there ends (Arrow reason message) h = absurd h

-- a text that isn't read as a path
pub path_unread : {E : Type 0} (text : List ℕ) (why : TextError) (hint : Result (Option TextHint) E) (code : ℕ) (old new was is : Option Object)
    → IsPathError why → ((p : List Field) → StandsForPath p text → why ≡ OutOfMemory) → IsPlacedIn text why
    → IfOk hint (λ o. shown (λ (h : TextHint). h.position) o ≡ position_of why)
    → IfOk hint (λ o. IfSome o (λ h. EndsWith (path_help (slice_get text (h.position - 1))) (string_bytes h.message)))
    → StoresUnread why hint code was is → new ≡ old → PutsOr path_in (unless_memory (reads_path text)) code old new was is
path_unread text why (Ok hint) code old new was is error only placed there ends (inl stored) same =
    inl (inr (changed (IsReasonOf why hint) (IsUnreadPath text) (path_reason text why hint error only placed there ends) code (error_in is) stored, same))
path_unread text why (Ok hint) code old new was is error only placed there ends (inr full) same = inr (full.0, same, full.1)
path_unread text why (Err e) code old new was is error only placed there ends full same = inr (full.0, same, full.1)
