-- SPDX-License-Identifier: Apache-2.0
-- SPDX-FileCopyrightText: Copyright the Vortex contributors

pub mod Added
pub mod Again
pub mod Faults
pub mod Flags
pub mod Formats
pub mod FormatsWritten
pub mod FromArrow
pub mod Ids
pub mod Kept
pub mod Keys
pub mod Messages
pub mod Numbers
pub mod Read
pub mod Rests
pub mod Schema
pub mod Temporal
pub mod Views
pub mod Write
