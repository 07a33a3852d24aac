-- SPDX-License-Identifier: Apache-2.0
-- SPDX-FileCopyrightText: Copyright the Vortex contributors

-- What can be read from an error object, and the texts of the results of exports.
use Rattle.std.specs.Prelude.{◌-◌, ◌==◌, if◌then◌else◌, ⊤, ℕ, List, Option, Some, None, codes, nat_le, string_bytes}
use Rattle.c_objects.specs.declared.failure.ArrowReason.{ArrowReason}
use Rattle.c_objects.specs.declared.failure.ArrowReason.TheVariants as arrow
use Rattle.c_objects.specs.declared.failure.Failure.{Failure}
use Rattle.c_objects.specs.declared.failure.Failure.TheVariants.{Library, Text, Deep, Arrow}
use Rattle.dtype_base.specs.Errors.{number_of}
use Rattle.vortex_logical_types.specs.Vocabulary.{Outcome, gives, gives_some}

-- the number of the error with which the library refuses the type of a field of Arrow
abbrev pub reason_number : ArrowReason → Option ℕ
reason_number arrow.Refused = None
reason_number arrow.TooDeep = None
reason_number (arrow.Library e) = Some (number_of e)

-- The number of the library's error, from 0 to 36. For example, `failure_number (Library MapKeyNullable)` is `Some 9`, and
-- `failure_number (Deep 7)` is `None`.
abbrev pub failure_number : Failure → Option ℕ
failure_number (Library e) = Some (number_of e)
failure_number (Text at message) = None
failure_number (Deep at) = None
failure_number (Arrow reason message) = reason_number reason

-- The position in a text, from 1. For example, `failure_position (Deep 7)` is `Some 7`.
abbrev pub failure_position : Failure → Option ℕ
failure_position (Library e) = None
failure_position (Text at message) = Some at
failure_position (Deep at) = Some at
failure_position (Arrow reason message) = None

-- The message. That of an error of the library is what its `Display` prints, which isn't specified.
abbrev pub message_of : Failure → Outcome (List ℕ)
message_of (Library e) = gives_some (λ text. ⊤)
message_of (Text at message) = gives (string_bytes message)
message_of (Deep at) = gives (codes "expected at most 128 levels")
message_of (Arrow reason message) = gives (string_bytes message)

-- what a result below 100 means, in a few words
abbrev pub wording : ℕ → Option (List ℕ)
wording n =
    if n == 0 then Some (codes "done, or yes") else (
    if n == 1 then Some (codes "there is none, or no") else (
    if n == 2 then Some (codes "a slot is empty, or has an object of another kind") else (
    if n == 3 then Some (codes "a text is not UTF-8") else (
    if n == 4 then Some (codes "a text cannot be read") else (
    if n == 5 then Some (codes "a condition of the call is not met") else (
    if n == 6 then Some (codes "a type would be nested more than 128 levels deep") else (
    if n == 7 then Some (codes "a buffer is too small") else (
    if n == 8 then Some (codes "two slots of one call are the same") else (
    if n == 9 then Some (codes "an argument is out of its range") else (
    if n == 10 then Some (codes "an Arrow schema has no type here, or a type has no Arrow schema") else None))))))))))

-- the name of the library's error with a number from 0 to 23
abbrev pub error_name : ℕ → Option (List ℕ)
error_name n =
    if n == 0 then Some (codes "OutOfMemory") else (
    if n == 1 then Some (codes "PrecisionZero") else (
    if n == 2 then Some (codes "PrecisionTooLarge") else (
    if n == 3 then Some (codes "ScaleTooLarge") else (
    if n == 4 then Some (codes "ScaleAbovePrecision") else (
    if n == 5 then Some (codes "NotDecimal") else (
    if n == 6 then Some (codes "NotPrimitive") else (
    if n == 7 then Some (codes "NotDecimalPType") else (
    if n == 8 then Some (codes "BytesLength") else (
    if n == 9 then Some (codes "MapKeyNullable") else (
    if n == 10 then Some (codes "UnionTypesLength") else (
    if n == 11 then Some (codes "UnionTagsLength") else (
    if n == 12 then Some (codes "UnionEmpty") else (
    if n == 13 then Some (codes "UnionTagsRepeat") else (
    if n == 14 then Some (codes "UnionTooMany") else (
    if n == 15 then Some (codes "UnionNamesRepeat") else (
    if n == 16 then Some (codes "FieldNotFound") else (
    if n == 17 then Some (codes "IndexOutOfBounds") else (
    if n == 18 then Some (codes "DuplicateNames") else (
    if n == 19 then Some (codes "WidthOverflow") else (
    if n == 20 then Some (codes "ExactRoot") else (
    if n == 21 then Some (codes "AllMask") else (
    if n == 22 then Some (codes "MetadataRefused") else (
    if n == 23 then Some (codes "ExtensionIdDiffers") else None)))))))))))))))))))))))

-- the name of the fault of a message with a number from 24 to 36
abbrev pub fault_name : ℕ → Option (List ℕ)
fault_name n =
    if n == 24 then Some (codes "TypeMissing") else (
    if n == 25 then Some (codes "PrimitiveNumber") else (
    if n == 26 then Some (codes "PrecisionRange") else (
    if n == 27 then Some (codes "ScaleRange") else (
    if n == 28 then Some (codes "ListElementMissing") else (
    if n == 29 then Some (codes "FixedElementMissing") else (
    if n == 30 then Some (codes "MapKeyMissing") else (
    if n == 31 then Some (codes "MapValueMissing") else (
    if n == 32 then Some (codes "StructLengths") else (
    if n == 33 then Some (codes "TypeIdRange") else (
    if n == 34 then Some (codes "StorageMissing") else (
    if n == 35 then Some (codes "ExtensionUnregistered") else (
    if n == 36 then Some (codes "PathPartMissing") else None))))))))))))

-- The text of a result: what it means if it is below 100, and otherwise the name of the library's error. For example, of 3 it is
-- `a text is not UTF-8`, and of 116 `FieldNotFound`. 42 is no result.
abbrev pub result_text : ℕ → Option (List ℕ)
result_text n = if nat_le 124 n then fault_name (n - 100) else (if nat_le 100 n then error_name (n - 100) else wording n)
