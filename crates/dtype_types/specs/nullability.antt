-- SPDX-License-Identifier: Apache-2.0
-- SPDX-FileCopyrightText: Copyright the Vortex contributors

-- The outer nullability of a type, the order of types by nullability, and the bounds of two types in that order.
pub mod Nullable
pub mod Sub
pub mod Merged
