-- SPDX-License-Identifier: Apache-2.0
-- SPDX-FileCopyrightText: Copyright the Vortex contributors

-- Lemmas on the definitions, which callers' proofs may cite too.
pub mod Cases
pub mod ListMembers
pub mod DistinctLists
pub mod Beginnings
pub mod Walks
pub mod MaskSteps
pub mod Stepping
pub mod PathLists
pub mod SetMembers
pub mod SetRelations
pub mod SetCovers
pub mod CoverPaths
pub mod Counts
pub mod Covering
pub mod PathsBelow
pub mod NameRuns
pub mod MaskLists
pub mod LentPaths
pub mod Unresolved
pub mod Steps
