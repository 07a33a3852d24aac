-- SPDX-License-Identifier: Apache-2.0
-- SPDX-FileCopyrightText: Copyright the Vortex contributors

pub mod Bytes
pub mod Distinct
pub mod BinaryDigits
pub mod Errors
pub mod MadeFrom
pub mod Nullability
pub mod Primitives
pub mod FieldNames
pub mod Escapes
pub mod Decimals
pub mod NameHashes
pub mod Comparisons
pub mod private
