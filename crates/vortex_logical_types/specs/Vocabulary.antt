-- SPDX-License-Identifier: Apache-2.0
-- SPDX-FileCopyrightText: Copyright the Vortex contributors

-- The words of the exports' contracts. A contract has two parts. An outcome says what an export does: it refuses with a
-- number, it fails for a reason that it stores in the slot `error`, or it gives a result and returns 0. One of the words at
-- the end says where the result goes, and that nothing else changes. For example, `Puts type_in (on (type_in
-- dtype.old.value) (λ t. found (any_size_list_element t) gives)) result out.old.value out.new.value` reads: the export
-- returns 2 if the slot `dtype` contains no type, 1 if the type is no list, and otherwise 0, and then the slot `out`
-- contains the element type; unless it returns 0, `out` is unchanged.
use Rattle.std.specs.Prelude.{◌≡◌, ◌≢◌, ◌⊎◌, ◌+◌, ◌++◌, ◌<◌, ◌≤◌, ℕ, List, IsUtf8, drop, length, Option, Some, None, Result, Ok, Err}
use Rattle.c_objects.specs.declared.failure.ArrowReason.{ArrowReason}
use Rattle.c_objects.specs.declared.failure.ArrowReason.TheVariants as arrow
use Rattle.c_objects.specs.declared.failure.Failure.{Failure}
use Rattle.c_objects.specs.declared.failure.Failure.TheVariants.{Library, Text, Deep, Arrow}
use Rattle.c_objects.specs.declared.object.Object.{Object}
use Rattle.dtype_base.specs.Errors.{number_of}
use Rattle.dtype_base.specs.declared.vortex_error.VortexError.{VortexError}
use Rattle.dtype_base.specs.declared.vortex_error.VortexError.TheVariants.{OutOfMemory}
use Rattle.vortex_logical_types.specs.Slots.{error_in}

-- An outcome, as what it says of three things of which it makes one: a number that is returned (`No`), a reason that is
-- stored (`Why`), and a result (`Yes`). Each is given what is true of that number, of that reason or of that result.
abbrev pub Outcome : Type 0 → Type 1
Outcome X = ((ℕ → Type 0) → Type 0) → ((Failure → Type 0) → Type 0) → ((X → Type 0) → Type 0) → Type 0

-- The number is returned. For example, `refuses 9` is the outcome if there are more names than types.
abbrev pub refuses : {X : Type 0} → ℕ → Outcome X
refuses n No Why Yes = No (λ c. c ≡ n)

-- the reason is an error of the library of which P is true
abbrev pub IsError : (VortexError → Type 0) → Failure → Type 0
IsError P (Library e) = P e
IsError P (Text at message) = ⊥
IsError P (Deep at) = ⊥
IsError P (Arrow reason message) = ⊥

-- An error of the library is stored, of which P is true. For example, `fails (SelectionError names asked)` is `FieldNotFound`
-- with the position of the first of the names `asked` that isn't one of `names`.
abbrev pub fails : {X : Type 0} → (VortexError → Type 0) → Outcome X
fails P No Why Yes = Why (IsError P)

-- This error is stored. For example, `fails_with MapKeyNullable` of a call that makes a map type.
abbrev pub fails_with : {X : Type 0} → VortexError → Outcome X
fails_with e = fails (λ f. f ≡ e)

-- There is this result. For example, `gives (list t n)` of a call that makes a list type.
abbrev pub gives : {X : Type 0} → X → Outcome X
gives x No Why Yes = Yes (λ y. y ≡ x)

-- There is some result of which P is true. For example, `gives_some (λ ps. set_of ps ≡ s)` of a call that lists the paths of
-- the set s in no particular order.
abbrev pub gives_some : {X : Type 0} → (X → Type 0) → Outcome X
gives_some P No Why Yes = Yes P

-- One of two outcomes. For example, `either_of (gives_some P) (refuses 1)` of a call for which it isn't specified when there is no
-- result.
abbrev pub either_of : {X : Type 0} → Outcome X → Outcome X → Outcome X
either_of one other No Why Yes = one No Why Yes ⊎ other No Why Yes

-- P is true and there is the first outcome, or P is false and there is the second. For example,
-- `decided (Distinct names) (gives t) (fails_with DuplicateNames)` gives t exactly if no name occurs twice.
abbrev pub decided : {X : Type 0} → Type 0 → Outcome X → Outcome X → Outcome X
decided P one other No Why Yes = (one No Why Yes × P) ⊎ (other No Why Yes × (P → ⊥))

-- P is true and there is the outcome, or an error of the library is stored of which Q is true. For example,
-- `checked (IsDecimalWithin 76 p s) (DecimalError 76 p s) (gives (decimal ..))` of a call that makes a decimal type.
abbrev pub checked : {X : Type 0} → Type 0 → (VortexError → Type 0) → Outcome X → Outcome X
checked P Q o No Why Yes = (P × o No Why Yes) ⊎ fails Q No Why Yes

-- The answer is yes if P is true, and no otherwise, which is 1. For example, `tells (t ≡ u)` of a call that compares two
-- types.
abbrev pub tells : Type 0 → Outcome Unit
tells P = decided P (gives tt) (refuses 1)

-- What is done with what was found, or 1 if nothing was. For example, `found (slice_get names 3) gives` is the fourth name, or
-- 1 if there are fewer.
abbrev pub found : {X Y : Type 0} → Option X → (X → Outcome Y) → Outcome Y
found None f = refuses 1
found (Some x) f = f x

-- What is done with an object in a slot, or with two objects in two slots; 2 if one isn't there. For example,
-- `on (path_in path.old.value) (λ p. gives (length p))` of a call that counts the steps of a path.
abbrev pub on : {X Y : Type 0} → Option X → (X → Outcome Y) → Outcome Y
on None f = refuses 2
on (Some x) f = f x

abbrev pub on_both : {X Y Z : Type 0} → Option X → Option Y → (X → Y → Outcome Z) → Outcome Z
on_both None y f = refuses 2
on_both (Some x) None f = refuses 2
on_both (Some x) (Some y) f = f x y

-- What is done with a part of an object; 5 if it has no such part. For example, `within (struct_fields t) (λ fs. ..)` of a
-- call that takes structs alone.
abbrev pub within : {X Y : Type 0} → Option X → (X → Outcome Y) → Outcome Y
within None f = refuses 5
within (Some x) f = f x

-- What is done with what a number stands for; 9 if it stands for nothing. For example,
-- `in_range (ptype_numbered 6) (λ p. ..)` of the primitive type i32.
abbrev pub in_range : {X Y : Type 0} → Option X → (X → Outcome Y) → Outcome Y
in_range None f = refuses 9
in_range (Some x) f = f x

-- The result, or the error is stored. For example, `if_ok (type_of_message false m)` stores `Message TypeMissing` for a message
-- without a kind.
abbrev pub if_ok : {X : Type 0} → Result X VortexError → Outcome X
if_ok (Ok x) = gives x
if_ok (Err e) = fails_with e

-- The outcome if the bytes are UTF-8, and 3 otherwise. For example, `if_utf8 name.now (on ..)` of a call that looks for a name.
abbrev pub if_utf8 : {X : Type 0} → List ℕ → Outcome X → Outcome X
if_utf8 text o = decided (IsUtf8 text) o (refuses 3)

-- The outcome if there are at most 128 levels, and 6 otherwise. For example, `unless_deep (1 + levels e) (gives (list e n))`.
abbrev pub unless_deep : {X : Type 0} → ℕ → Outcome X → Outcome X
unless_deep size o No Why Yes = ((size ≤ 128) × o No Why Yes) ⊎ ((128 < size) × refuses 6 No Why Yes)

-- The outcome, or 100 because an allocation fails. For example, `unless_memory (gives t)` of a call that copies t.
abbrev pub unless_memory : {X : Type 0} → Outcome X → Outcome X
unless_memory o No Why Yes = o No Why Yes ⊎ refuses 100 No Why Yes

-- a statement about a value, which has to be there
abbrev pub OfThe : {X : Type 0} → Option X → (X → Type 0) → Type 0
OfThe None P = ⊥
OfThe (Some x) P = P x

-- In what follows `code` is the number that is returned; `old` and `new` are what a slot, a number or a buffer contains before
-- and after the call; and `was` and `is` are what the slot `error` contains before and after it. A word without `error` is
-- of an export that never fails for a reason.

-- the number that is returned for a reason for which a schema of Arrow has no type here, or a type no schema
abbrev pub reason_code : ArrowReason → ℕ
reason_code arrow.Refused = 10
reason_code arrow.TooDeep = 6
reason_code (arrow.Library e) = 100 + number_of e

-- The number that is returned for a reason: 100 more than the number of the library's error, 4 if a text can't be read, 6 if
-- it is nested too deeply, and for a schema of Arrow that has no type here, or a type that has no schema, the number of the reason:
-- 10, or 6 if a type is nested too deeply, or that of the library's error. For example, `failure_code (Library MapKeyNullable)` is
-- 109.
abbrev pub failure_code : Failure → ℕ
failure_code (Library e) = 100 + number_of e
failure_code (Text at message) = 4
failure_code (Deep at) = 6
failure_code (Arrow reason message) = reason_code reason

-- a reason of which P is true is in the slot `error`, and its number is returned
abbrev pub Failed : (Failure → Type 0) → ℕ → Option Object → Type 0
Failed P code is = OfThe (error_in is) (λ e. (code ≡ failure_code e) × P e)

-- A question is answered, and 0 is yes. For example, `Answers (on_both (type_in ..) (type_in ..) (λ t u. tells (t ≡ u))) result`.
abbrev pub Answers : Outcome Unit → ℕ → Type 0
Answers o code = o (λ P. P code) (λ P. ⊥) (λ P. code ≡ 0)

-- The result is stored in a slot, where `see` finds it. For example, `Puts type_in (unless_memory (gives null)) result
-- out.old.value out.new.value` of a call that makes the null type.
abbrev pub Puts : {X : Type 0} → (Option Object → Option X) → Outcome X → ℕ → Option Object → Option Object → Type 0
Puts see o code old new = o (λ P. P code × (new ≡ old)) (λ P. ⊥) (λ P. (code ≡ 0) × OfThe (see new) P)

-- The same, and a reason is stored in the slot `error`. For example, `PutsOr type_in (unless_memory (removes_field fs n 3))
-- result out.old.value out.new.value error.old.value error.new.value` of a call that removes the fourth field.
abbrev pub PutsOr : {X : Type 0} → (Option Object → Option X) → Outcome X → ℕ → Option Object → Option Object → Option Object → Option Object → Type 0
PutsOr see o code old new was is =
    o (λ P. P code × (new ≡ old) × (is ≡ was)) (λ P. Failed P code is × (new ≡ old)) (λ P. (code ≡ 0) × OfThe (see new) P × (is ≡ was))

-- The result is written in place of a number, or of several. For example, `Writes (on (path_in ..) (λ p. gives (length p)))
-- result count.old count.new`.
abbrev pub Writes : {X : Type 0} → Outcome X → ℕ → X → X → Type 0
Writes o code old new = o (λ P. P code × (new ≡ old)) (λ P. ⊥) (λ P. (code ≡ 0) × P new)

-- The same, and a reason is stored in the slot `error`. For example, `WritesOr (on (type_in ..) width_of) result size.old
-- size.new error.old.value error.new.value`.
abbrev pub WritesOr : {X : Type 0} → Outcome X → ℕ → X → X → Option Object → Option Object → Type 0
WritesOr o code old new was is =
    o (λ P. P code × (new ≡ old) × (is ≡ was)) (λ P. Failed P code is × (new ≡ old)) (λ P. (code ≡ 0) × P new × (is ≡ was))

-- what a buffer and the length beside it contain
abbrev pub Buffer : Type 0
Buffer = List ℕ × ℕ

-- Bytes are written to the front of a buffer, and their number beside it. If the buffer is shorter than that, only their
-- number is written, and 7 is returned.
abbrev pub FillsWith : List ℕ → ℕ → Buffer → Buffer → Type 0
FillsWith bytes code old new =
    ((code ≡ 0) × ((new.0 ≡ bytes ++ drop (length bytes) old.0) × (new.1 ≡ length bytes))) ⊎ ((code ≡ 7) × ((length old.0 < length bytes) × ((new.0 ≡ old.0) × (new.1 ≡ length bytes))))

-- The result is written to a buffer. For example, `Fills (on (path_in ..) (λ p. unless_memory (gives (path_text p)))) result
-- (buffer.old, length.old) (buffer.new, length.new)`.
abbrev pub Fills : Outcome (List ℕ) → ℕ → Buffer → Buffer → Type 0
Fills o code old new =
    o (λ P. P code × ((new.0 ≡ old.0) × (new.1 ≡ old.1))) (λ P. ⊥) (λ P. (bytes : List ℕ) × P bytes × FillsWith bytes code old new)

-- A slot contains the same object as before, or another with the same contents. (A list may have got room for more items.) For
-- example, `Remains fields_in old new` of a slot with fields to which none could be added.
abbrev pub Remains : {X : Type 0} → (Option Object → Option X) → Option Object → Option Object → Type 0
Remains see old new = (new ≡ old) ⊎ OfThe (see old) (λ x. see new ≡ Some x)

-- The object in a slot becomes the result. For example, `Changes set_in (on_both (set_in ..) (path_in ..) (λ s p. unless_memory
-- (gives (set.insert s p)))) result paths.old.value paths.new.value` of a call that inserts a path.
abbrev pub Changes : {X : Type 0} → (Option Object → Option X) → Outcome X → ℕ → Option Object → Option Object → Type 0
Changes see o code old new = o (λ P. P code × Remains see old new) (λ P. ⊥) (λ P. (code ≡ 0) × OfThe (see new) P)

-- What a call of the library returned is stored as an object, or the number of its error is returned, whose only one is
-- `OutOfMemory`. For example, `PutsReturned (λ d. DType d) copied result out.old.value out.new.value`.
abbrev pub PutsReturned : {X : Type 0} → (X → Object) → Result X VortexError → ℕ → Option Object → Option Object → Type 0
PutsReturned object (Ok x) code old new = ((code ≡ 0) × (new ≡ Some (object x))) ⊎ ((code ≡ 100) × (new ≡ old))
PutsReturned object (Err e) code old new = (code ≡ 100 + number_of e) × (new ≡ old)

-- A reason is stored in the slot `error` and its number returned. If an allocation fails, which may be the reason itself, the
-- slot is unchanged, and 100 is returned. For example, `Stores (Library MapKeyNullable) 109 was is`.
abbrev pub Stores : Failure → ℕ → Option Object → Option Object → Type 0
Stores e code was is = ((code ≡ failure_code e) × (error_in is ≡ Some e) × (e ≢ Library OutOfMemory)) ⊎ ((code ≡ 100) × (is ≡ was))
