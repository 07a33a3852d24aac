-- SPDX-License-Identifier: Apache-2.0
-- SPDX-FileCopyrightText: Copyright the Vortex contributors

-- The texts of types and of their parts.
pub mod Text
pub mod TextOf
pub mod IndentedText
