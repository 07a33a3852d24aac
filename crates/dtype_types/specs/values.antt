-- SPDX-License-Identifier: Apache-2.0
-- SPDX-FileCopyrightText: Copyright the Vortex contributors

-- Which values a type has.
pub mod Value
pub mod Sample
pub mod Tell
