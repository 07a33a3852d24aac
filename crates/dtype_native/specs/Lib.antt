-- SPDX-License-Identifier: Apache-2.0
-- SPDX-FileCopyrightText: Copyright the Vortex contributors

pub mod LittleEndian
pub mod NumberLaws
pub mod Offsets
pub mod Digits
pub mod NativeTypes
