-- SPDX-License-Identifier: Apache-2.0
-- SPDX-FileCopyrightText: Copyright the Vortex contributors

pub mod Arrow
pub mod AtOnce
pub mod Failures
pub mod Levels
pub mod Merging
pub mod Messages
pub mod PathLists
pub mod Paths
pub mod Several
pub mod Slots
pub mod Steps
pub mod Texts
pub mod Types
pub mod Vocabulary
