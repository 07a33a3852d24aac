-- SPDX-License-Identifier: Apache-2.0
-- SPDX-FileCopyrightText: Copyright the Vortex contributors

-- Lemmas for callers, a file a topic, each with its ruleset.
pub mod BinaryDigits
pub mod Lookups
pub mod Primitives
pub mod Decimals
