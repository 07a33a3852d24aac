-- SPDX-License-Identifier: Apache-2.0
-- SPDX-FileCopyrightText: Copyright the Vortex contributors

pub mod Bare
pub mod Source
pub mod Read
pub mod Leaves
pub mod Outcome
pub mod TypeParts
pub mod Unions
pub mod Chosen
pub mod Types
pub mod Views
pub mod Grammar
pub mod Fronts
pub mod Errors
pub mod Within
pub mod PathGrammar
pub mod PathSource
pub mod Paths
pub mod Places
pub mod Unreadable
