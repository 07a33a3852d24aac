-- SPDX-License-Identifier: Apache-2.0
-- SPDX-FileCopyrightText: Copyright the Vortex contributors

-- The numbers of the errors, which the documentation and the tests cite, and what a call ensures whose only error is
-- `OutOfMemory`.
use Rattle.std.specs.Prelude.{◌≡◌, ℕ, Result, MatchResult}
use Rattle.dtype_base.specs.declared.vortex_error.VortexError.{VortexError}
use Rattle.dtype_base.specs.declared.vortex_error.VortexError.TheVariants.{OutOfMemory, PrecisionZero, PrecisionTooLarge, ScaleTooLarge, ScaleAbovePrecision, NotDecimal, NotPrimitive, NotDecimalPType, BytesLength, MapKeyNullable, UnionTypesLength, UnionTagsLength, UnionEmpty, UnionTagsRepeat, UnionTooMany, UnionNamesRepeat, FieldNotFound, IndexOutOfBounds, DuplicateNames, WidthOverflow, ExactRoot, AllMask, MetadataRefused, ExtensionIdDiffers, Message}
use Rattle.dtype_base.specs.declared.vortex_error.MessageFault.{MessageFault}
use Rattle.dtype_base.specs.declared.vortex_error.MessageFault.TheVariants.{TypeMissing, PrimitiveNumber, PrecisionRange, ScaleRange, ListElementMissing, FixedElementMissing, MapKeyMissing, MapValueMissing, StructLengths, TypeIdRange, StorageMissing, ExtensionUnregistered, PathPartMissing}

-- the number of a fault of a message
abbrev pub fault_number : MessageFault → ℕ
fault_number TypeMissing = 24
fault_number PrimitiveNumber = 25
fault_number PrecisionRange = 26
fault_number ScaleRange = 27
fault_number ListElementMissing = 28
fault_number FixedElementMissing = 29
fault_number MapKeyMissing = 30
fault_number MapValueMissing = 31
fault_number StructLengths = 32
fault_number TypeIdRange = 33
fault_number StorageMissing = 34
fault_number ExtensionUnregistered = 35
fault_number PathPartMissing = 36

-- the number of an error
abbrev pub number_of : VortexError → ℕ
number_of OutOfMemory = 0
number_of (PrecisionZero max) = 1
number_of (PrecisionTooLarge precision max) = 2
number_of (ScaleTooLarge scale max) = 3
number_of (ScaleAbovePrecision scale precision) = 4
number_of NotDecimal = 5
number_of NotPrimitive = 6
number_of (NotDecimalPType ptype) = 7
number_of BytesLength = 8
number_of MapKeyNullable = 9
number_of UnionTypesLength = 10
number_of UnionTagsLength = 11
number_of UnionEmpty = 12
number_of UnionTagsRepeat = 13
number_of UnionTooMany = 14
number_of UnionNamesRepeat = 15
number_of (FieldNotFound position) = 16
number_of (IndexOutOfBounds index fields) = 17
number_of DuplicateNames = 18
number_of WidthOverflow = 19
number_of ExactRoot = 20
number_of AllMask = 21
number_of MetadataRefused = 22
number_of ExtensionIdDiffers = 23
number_of (Message fault) = fault_number fault

-- the result is either `Ok` with a value of which P is true, or the error `OutOfMemory`
abbrev pub Makes : {T : Type 0} → Result T VortexError → (T → Type 0) → Type 0
Makes result P = MatchResult result P (λ e. e ≡ OutOfMemory)
