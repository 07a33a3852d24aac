-- SPDX-License-Identifier: Apache-2.0
-- SPDX-FileCopyrightText: Copyright the Vortex contributors

pub mod Widens
pub mod ReadsAs
pub mod MergedColumns
pub mod Conflicts
pub mod Filled
pub mod AllMerged
pub mod private
