-- SPDX-License-Identifier: Apache-2.0
-- SPDX-FileCopyrightText: Copyright the Vortex contributors

pub mod Replaced
pub mod Without
pub mod Leaves
pub mod EditedFields
pub mod Differences
pub mod ShownDifferences
pub mod Alike
pub mod private
