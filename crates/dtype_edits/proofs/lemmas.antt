-- SPDX-License-Identifier: Apache-2.0
-- SPDX-FileCopyrightText: Copyright the Vortex contributors

-- Lemmas about the definitions, which a caller's proof may cite.
pub mod Replacing
pub mod Leaving
pub mod Leaves
pub mod LeafProjection
pub mod EditingFields
pub mod Differing
pub mod Unlisted
