-- SPDX-License-Identifier: Apache-2.0
-- SPDX-FileCopyrightText: Copyright the Vortex contributors

-- What structs, unions and maps hold: lists of fields and of variants, and how they are looked up and made.
pub mod Lists
pub mod Lookups
pub mod Unions
pub mod Maps
pub mod Extensions
pub mod FieldTypes
