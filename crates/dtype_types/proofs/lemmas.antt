-- SPDX-License-Identifier: Apache-2.0
-- SPDX-FileCopyrightText: Copyright the Vortex contributors

-- Lemmas for callers, a file a topic, each with its ruleset.
pub mod TreeLaws
pub mod ValidParts
pub mod ValidLists
pub mod Validity
pub mod Nullabilities
pub mod Lookups
pub mod Presence
pub mod Equality
pub mod JoinedFields
pub mod DistinctFields
pub mod Tags
pub mod NullValues
pub mod SubValues
pub mod SizeZero
pub mod Bounds
pub mod BoundValues
pub mod Merging
pub mod Order
pub mod MadeOf
pub mod Structs
pub mod SampleLaws
pub mod TypesBelow
