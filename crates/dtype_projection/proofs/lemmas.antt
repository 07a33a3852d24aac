-- SPDX-License-Identifier: Apache-2.0
-- SPDX-FileCopyrightText: Copyright the Vortex contributors

-- Lemmas about the definitions, which a caller's proof may cite.
pub mod Projections
pub mod Parts
pub mod Restrictions
pub mod Above
pub mod Projecting
pub mod Descending
