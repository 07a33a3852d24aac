-- SPDX-License-Identifier: Apache-2.0
-- SPDX-FileCopyrightText: Copyright the Vortex contributors

pub mod FaultFacts
pub mod Flags
pub mod FormatsAgain
pub mod IdLists
pub mod KeysAgain
pub mod Law
pub mod Leaves
pub mod Made
pub mod NodesAgain
pub mod Pairs
pub mod Reading
pub mod Sound
pub mod Tags
pub mod TemporalAgain
pub mod TypesAgain
pub mod Writing
pub mod WritingCalls
