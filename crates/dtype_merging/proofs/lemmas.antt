-- SPDX-License-Identifier: Apache-2.0
-- SPDX-FileCopyrightText: Copyright the Vortex contributors

-- Lemmas about the definitions, which a caller's proof may cite.
pub mod Finding
pub mod Repeats
pub mod Variants
pub mod Beside
pub mod Order
pub mod Numbers
pub mod Reading
pub mod Columns
pub mod Merging
pub mod MergeLaws
pub mod Filling
pub mod Conflicting
pub mod AllMerged
pub mod Paths
pub mod Deciding
pub mod MergedColumns
