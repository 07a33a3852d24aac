-- SPDX-License-Identifier: Apache-2.0
-- SPDX-FileCopyrightText: Copyright the Vortex contributors

pub mod lemmas
mod PlacedFields
mod LeftFields
mod LeafSteps
mod DifferenceSteps
mod DifferenceTests
