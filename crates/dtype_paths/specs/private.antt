-- SPDX-License-Identifier: Apache-2.0
-- SPDX-FileCopyrightText: Copyright the Vortex contributors

-- How a set of paths is stored. Only private contracts cite these definitions, and no other crate does.
pub mod StepKeys
pub mod ChildLists
pub mod ChildIters
pub mod ChildTrees
pub mod ChildTables
pub mod Children
pub mod Trie
pub mod Lending
pub mod Reached
