-- SPDX-License-Identifier: Apache-2.0
-- SPDX-FileCopyrightText: Copyright the Vortex contributors

pub mod Along
pub mod At
pub mod Beginning
pub mod Equality
pub mod EqualityLaws
pub mod Texts
pub mod Found
pub mod Around
pub mod Hashes
pub mod Fields
pub mod PathOrder
pub mod Covering
pub mod MadeBefore
pub mod Unresolved
pub mod PathPredicates
pub mod Cursors
pub mod In
pub mod Overlaps
pub mod Crosses
pub mod private
pub mod PathOrderLaws
pub mod SetEquality
pub mod SetEqualityLaws
