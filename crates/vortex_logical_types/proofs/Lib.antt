-- SPDX-License-Identifier: Apache-2.0
-- SPDX-FileCopyrightText: Copyright the Vortex contributors

pub mod AtOnce
pub mod Below
pub mod Deep
pub mod Extended
pub mod FieldPairs
pub mod FirstSteps
pub mod PathParts
pub mod Several
pub mod Unread
